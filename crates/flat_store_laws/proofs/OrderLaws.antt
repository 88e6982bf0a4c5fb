-- What a crash leaves of an open store, and of an image, is a store in order with its committed lines.
use Rattle.std.proofs.Common.{◌≡◌, ℕ, ◌<◌, ◌≤◌, sym, ap, ◌∙◌, subst, arith, false, refl, Some, None}
use Rattle.nvm_model.specs.Word.{IsSingle}
use Rattle.devices.specs.State.{State, Image, Leaves, current, fresh}
use Rattle.devices.proofs.FreshLaws.{fresh_only}
use Rattle.line_pages.specs.Lines.{Lines}
use Rattle.flat_store_meaning.specs.Layout.{Sizes, pages, nvm_lines, ssd_blocks}
use Rattle.flat_store_meaning.specs.Format.Format.{whole_lines}
use Rattle.flat_store_meaning.specs.Log.{is_logged}
use Rattle.flat_store_meaning.specs.Recovered.{super_of, super_check, image_log_check, log_of, recovered_pages}
use Rattle.flat_store_meaning.specs.InOrder.{Stands, IsNamed, HomeStands}
use Rattle.flat_store_meaning.specs.StoreFacts.{Changing, Gate, NamedIsDurable}
use Rattle.flat_store_meaning.proofs.CheckLaws.{checks_none}
use Rattle.flat_store_meaning.proofs.FactsLaws.{current_leaves}
use Rattle.flat_store_meaning.proofs.FreshLaws.{fresh_stands}
use Rattle.flat_store_laws.specs.OpenFacts.{OpenFacts, keeping}
use Rattle.flat_store_laws.specs.Order.{Fits, IsOrdered, IsOrderedWith}
use Rattle.flat_store_laws.specs.ShownPages.{committed_in}
use Rattle.flat_store_laws.specs.Steps.{IsStoreOf}
use Rattle.flat_store_laws.proofs.OpenLaws.{open_pages, open_store, same_store}

-- what is in order fits its devices
pub ordered_fits : (g : Sizes) (n k : ℕ) (s : State) → IsOrdered g n k s → Fits g n k
ordered_fits g n k s it = record {
  nvm = subst (λ (x : Sizes). nvm_lines x ≤ n) it.sizes it.stands.gates.nvm_fits;
  ssd = subst (λ (x : Sizes). ssd_blocks x ≤ k) it.sizes it.stands.gates.ssd_fits;
}

-- An image that recovers to some lines is in order with them.
pub image_ordered : (g : Sizes) (n k : ℕ) (lines : Lines) (i : Image) → Fits g n k → IsStoreOf g lines i → IsOrderedWith g lines n k (fresh i)
image_ordered g n k lines i fits it = record {
  order = record {
    stands = fresh_stands whole_lines n k i it.is_sized.store (subst (λ (x : Sizes). nvm_lines x ≤ n) (sym it.is_sized.sizes) fits.nvm) (subst (λ (x : Sizes). ssd_blocks x ≤ k) (sym it.is_sized.sizes) fits.ssd);
    sizes = it.is_sized.sizes;
  };
  only = λ j left. subst (λ (x : Image). recovered_pages whole_lines x ≡ lines) (sym (fresh_only i j left)) it.pages;
}

-- What a crash leaves of an open store recovers to the committed lines.
pub open_image : (g : Sizes) (start tail : ℕ) (s : State) → OpenFacts g start tail s → (i : Image) → Leaves s i → IsStoreOf g (committed_in s) i
open_image g start tail s it i left = same_store g _ (committed_in s) i (open_store g start tail s it i left) (sym (open_pages g start tail s it (current s) (current_leaves s)))

-- The facts of an open store, whatever a crash leaves.
module _ (g : Sizes) (start tail n k : ℕ) (s : State) (it : OpenFacts g start tail s) where
  abbrev seen : Image
  seen = current s

  is_store : IsStoreOf g (committed_in s) seen
  is_store = open_image g start tail s it seen (current_leaves s)

  checks : (super_check (super_of seen) ≡ None) × (image_log_check whole_lines seen ≡ None)
  checks = checks_none whole_lines seen is_store.is_sized.store.checks

  none : {P : Type 0} (change : Changing) → (keeping g it.words it.kept).changing ≡ Some change → P
  none change e = absurd (cc)

  single : (l w : ℕ) → IsNamed l w → IsSingle (s.nvm l w)
  single _ _ IsNamed.magic_word = (it.facts.gates).others Gate.magic (λ change e. none change e)
  single _ _ IsNamed.tables = (it.facts.gates).sizes 1 (omega arith) (omega arith)
  single _ _ IsNamed.rows = (it.facts.gates).sizes 2 (omega arith) (omega arith)
  single _ _ IsNamed.writes = (it.facts.gates).sizes 3 (omega arith) (omega arith)
  single _ _ IsNamed.frames = (it.facts.gates).sizes 4 (omega arith) (omega arith)
  single _ _ IsNamed.log_blocks = (it.facts.gates).sizes 5 (omega arith) (omega arith)
  single _ _ IsNamed.start = (it.facts.gates).others Gate.start (λ change e. none change e)
  single _ _ IsNamed.drained = (it.facts.gates).others Gate.drained (λ change e. none change e)
  single _ _ IsNamed.tail = (it.facts.gates).others Gate.tail (λ change e. none change e)

  durable : NamedIsDurable (keeping g it.words it.kept) s seen
  durable = (it.facts).durable seen (current_leaves s)

  home_stands : (p l w : ℕ) → p < pages (super_of seen).sizes → l < 64 → w < 8 → is_logged (log_of whole_lines seen) p l w ≡ false → HomeStands (super_of seen).sizes s p l w
  home_stands p l w hp hl hw free =
      subst (λ (x : Sizes). HomeStands x s p l w) (sym is_store.is_sized.sizes)
      (durable.homes p l w (record { page = subst (λ (x : Sizes). p < pages x) is_store.is_sized.sizes hp; line = hl; word = hw }) free)

  stands : Fits g n k → Stands whole_lines n k s
  stands fits = record {
    gates = record {
      superblock = single;
      magic = is_store.is_sized.store.magic_word;
      super_checks = checks.0;
      nvm_fits = subst (λ (x : Sizes). nvm_lines x ≤ n) (sym is_store.is_sized.sizes) fits.nvm;
      ssd_fits = subst (λ (x : Sizes). ssd_blocks x ≤ k) (sym is_store.is_sized.sizes) fits.ssd;
    };
    log = record { lines = durable.log; checks = checks.1 };
    homes = home_stands;
  }

  pub open_ordered : Fits g n k → IsOrderedWith g (committed_in s) n k s
  open_ordered fits = record {
    order = record { stands = stands fits; sizes = is_store.is_sized.sizes };
    only = λ i left. (open_image g start tail s it i left).pages;
  }
