-- What recovery finds and gives, by the words that the layers above use.
use Rattle.std.proofs.Common.{◌≡◌, ℕ, ◌^◌, ◌≤◌, IsTrue, true, sym, ap, ◌∙◌, subst, refl}
use Rattle.devices.specs.State.{State, Image, Leaves, current, fresh}
use Rattle.devices.specs.World.{Standing, Moments, now}
use Rattle.line_pages.specs.LineSets.{pages_of}
use Rattle.line_pages.specs.Lines.{Lines}
use Rattle.flat_nvm_layout.specs.Sizes.{sizes_of}
use Rattle.flat_nvm_layout.specs.declared.geometry.Geometry.{Geometry}
use Rattle.flat_store_meaning.specs.Layout.{Sizes, is_allowed, pages, nvm_lines, ssd_blocks}
use Rattle.flat_store_meaning.specs.Format.Format.{whole_lines}
use Rattle.flat_store_meaning.specs.Recovered.{Super, super_of, recovered}
use Rattle.flat_store_meaning.specs.StoreFacts.{StoreFacts}
use Rattle.flat_store_meaning.proofs.FactsLaws.{current_leaves}
use Rattle.flat_store_laws.specs.OpenFacts.{OpenFacts, keeping}
use Rattle.flat_store_laws.specs.Order.{recovered_lines, Fits, IsOrdered}
use Rattle.flat_store_laws.specs.ShownPages.{pages_in, committed_in}
use Rattle.flat_store_laws.specs.Steps.{IsStoreOf}
use Rattle.flat_recovery.specs.Empty.{IsEmptyStore}
use Rattle.flat_recovery.specs.Opening.{Recovered, AreParts, KeepsStore, HoldsStore, stored_tail, parts_sizes, log_sizes}
use Rattle.flat_recovery.specs.declared.opening.Parts.{Parts}
use Rattle.flat_recovery.proofs.StandsLaws.{stands_facts, same_super}

-- ---- what a crash leaves of devices in order

pub order_left : (g : Sizes) (n k : ℕ) (s : State) → IsOrdered g n k s → (i : Image) → Leaves s i → IsStoreOf g (recovered_lines i) i
order_left g n k s order i left =
    let facts : StoreFacts (keeping (super_of (current s)).sizes (recovered whole_lines (current s)) (recovered whole_lines (current s))) s = stands_facts n k s order.stands in
    record { is_sized = record { store = facts.stores i left; sizes = facts.sizes i left ∙ order.sizes }; pages = refl }

-- an empty store is in order
pub empty_ordered : (g : Sizes) (first n k : ℕ) (s : State) → IsEmptyStore g first n k s → IsOrdered g n k s
empty_ordered g first n k s it = record { stands = it.stands; sizes = ap (λ (x : Super). x.sizes) it.super_words }

-- told devices in order hold a store that can be opened, if its offsets go on
pub order_store : (g : Sizes) (d : Standing) → IsTrue d.told → IsOrdered g d.lines d.blocks (now d) → stored_tail (now d) ≤ 2 ^ 61 → HoldsStore d
order_store g d told order low = record {
  told = told;
  store = (order_left g d.lines d.blocks (now d) order (current (now d)) (current_leaves (now d))).is_sized.store;
  nvm = order.stands.gates.nvm_fits;
  ssd = order.stands.gates.ssd_fits;
  tail = low;
}

-- what a crash leaves of them has the same log
pub left_tail : (g : Sizes) (n k : ℕ) (s : State) → IsOrdered g n k s → (i : Image) → Leaves s i → stored_tail (fresh i) ≡ stored_tail s
left_tail g n k s order i left = ap (λ (x : Super). x.tail) (same_super n k s order.stands i left)

-- ---- an opening

-- over devices in order, what a crash leaves at each of its moments is a store with the lines that recovery gives
pub order_kept : (g : Sizes) (a b : Standing) → KeepsStore a b → IsOrdered g a.lines a.blocks (now a)
    → Moments a b (λ s. (i : Image) → Leaves s i → IsStoreOf g (committed_in (now a)) i)
order_kept g a b keeps order = record {
  each = λ m low high i left.
      let is : IsStoreOf (super_of (current (now a))).sizes (committed_in (now a)) i = (keeps.during order.stands).each m low high i left in
      record { is_sized = record { store = is.is_sized.store; sizes = is.is_sized.sizes ∙ order.sizes }; pages = is.pages };
}

-- ---- what was recovered

module _ (parts : Parts) (n k : ℕ) (are : AreParts parts n k) where
  pub same_sizes : log_sizes parts ≡ parts_sizes parts
  same_sizes = ap (λ (x : Geometry). sizes_of x) are.geometry

  -- a log of allowed sizes that fit the devices, and a set that has each page
  pub log_fits : Fits (log_sizes parts) n k
  log_fits = record {
    nvm = subst (λ (x : Sizes). nvm_lines x ≤ n) (sym same_sizes) are.nvm;
    ssd = subst (λ (x : Sizes). ssd_blocks x ≤ k) (sym same_sizes) are.ssd;
  }

  pub log_allowed : is_allowed (log_sizes parts) ≡ true
  log_allowed = subst (λ (x : Sizes). is_allowed x ≡ true) (sym same_sizes) are.allowed

  pub log_paged : pages_of parts.loose ≡ pages (log_sizes parts)
  log_paged = are.pages_are ∙ ap pages (sym same_sizes)

  module _ (a b : Standing) (recovered : Recovered parts a b) where
    pub log_read : OpenFacts (log_sizes parts) parts.log.start parts.log.tail (fresh (current (now b)))
    log_read = subst (λ (x : Sizes). OpenFacts x parts.log.start parts.log.tail (fresh (current (now b)))) (sym same_sizes) recovered.read

    pub log_steady : OpenFacts (log_sizes parts) parts.log.start parts.log.tail (now b)
    log_steady = subst (λ (x : Sizes). OpenFacts x parts.log.start parts.log.tail (now b)) (sym same_sizes) recovered.steady

    -- its current lines are those that recovery gave
    pub log_lines : pages_in (log_sizes parts) (now b) ≡ committed_in (now a)
    log_lines = ap (λ (x : Sizes). pages_in x (now b)) same_sizes ∙ recovered.current

-- the sizes are those of the store that was found
pub found_sizes : (parts : Parts) (a b : Standing) → Recovered parts a b → (g : Sizes) (lines : Lines) → IsStoreOf g lines (current (now a)) → parts_sizes parts ≡ g
found_sizes parts a b recovered g lines found = recovered.sizes ∙ found.is_sized.sizes
