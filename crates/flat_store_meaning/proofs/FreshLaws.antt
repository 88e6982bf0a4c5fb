-- Devices that were made of an image are in order where the image came from devices in order, or from those of an open store.
use Rattle.std.proofs.Common.{◌≡◌, ◌⊎◌, ℕ, ◌-◌, ◌%◌, ◌≤◌, List, refl, sym, ap, ◌∙◌, subst, inl, inr, arith, ltb, Option, Some, None}
use Rattle.std.proofs.lemmas.Bool.{cases_Bool, ltb-true, ltb-false, cond-true, cond-false}
use Rattle.nvm_model.specs.declared.line.Line.{Line}
use Rattle.devices.specs.State.{State, Image, Leaves, current, fresh}
use Rattle.flat_store_meaning.specs.Layout.{Sizes, pages, ring_line, ring_block, nvm_lines, ssd_blocks}
use Rattle.flat_store_meaning.specs.Format.{Format, log_check}
use Rattle.flat_store_meaning.specs.Recovered.{Super, super_of, log_line, log_lines, from, image_log_check, super_check, recovered_pages, block_line, IsStore, lines_of, recovered}
use Rattle.flat_store_meaning.specs.InOrder.{LineStands, Stands, IsInOrder}
use Rattle.flat_store_meaning.specs.StoreFacts.{Bookkeeping, StoreFacts}
use Rattle.flat_store_meaning.proofs.CheckLaws.{checks_none}
use Rattle.flat_store_meaning.proofs.FactsLaws.{facts_recover}
use Rattle.flat_store_meaning.proofs.RecoveredLaws.{lines_of-same}
use Rattle.devices.proofs.FreshLaws.{fresh_only}
use Rattle.nvm_model.proofs.WordLaws.{single_version}
use Rattle.flat_store_meaning.proofs.RecoveredLaws.{line_of-same, from-same}
use Rattle.flat_store_meaning.proofs.PutLaws.{super_same}

-- a durable line is the same in each image
pub log_line-durable : (sup : Super) (s : State) (i : Image) (o : ℕ) → Leaves s i → LineStands sup s o → log_line sup.sizes sup.drained i o ≡ log_line sup.sizes sup.drained (current s) o
log_line-durable sup s i o leaves stands = elim (cases_Bool (ltb o sup.drained)) [
  | inl below ↦ cond-true (ltb o sup.drained) _ _ below
      ∙ ap (λ bytes. block_line bytes (o % 64)) (leaves.blocks (ring_block sup.sizes o) (stands.in_ssd (ltb-true o sup.drained below)))
      ∙ sym (cond-true (ltb o sup.drained) _ _ below)
  | inr above ↦ cond-false (ltb o sup.drained) _ _ above
      ∙ line_of-same _ _ (λ w hw. single_version (s.nvm (ring_line sup.sizes o) w) (i.nvm (ring_line sup.sizes o) w) (stands.in_nvm (ltb-false o sup.drained above) w hw) (leaves.words (ring_line sup.sizes o) w))
      ∙ sym (cond-false (ltb o sup.drained) _ _ above)
]

module _ {Tables : Type 0} (tables : (ℕ → ℕ → Line) → Option Tables) (format : Format) (lines blocks : ℕ) (s : State) (T : Tables)
    (in_order : IsInOrder tables format lines blocks s T) (i : Image) (leaves : Leaves s i) where
  same_super : super_of i ≡ super_of (current s)
  same_super = super_same i (current s) (λ l w named. single_version (s.nvm l w) (i.nvm l w) (in_order.stands.gates.superblock l w named) (leaves.words l w))

  same_log : log_lines i ≡ log_lines (current s)
  same_log = ap (λ (x : Super). from (log_line x.sizes x.drained i) x.start (x.tail - x.start)) same_super
      ∙ from-same _ _ _ _ (λ o above below. log_line-durable (super_of (current s)) s i o leaves (in_order.stands.log.lines o above (omega arith)))

  same_log_check : image_log_check format i ≡ image_log_check format (current s)
  same_log_check = ap (λ (x : Super). log_check format x.sizes x.start 0 (log_lines i)) same_super
      ∙ ap (λ (xs : List Line). log_check format (super_of (current s)).sizes (super_of (current s)).start 0 xs) same_log

  -- Devices that were made of an image of devices in order are in order, with the same tables.
  pub fresh_in_order : IsInOrder tables format lines blocks (fresh i) T
  fresh_in_order = record {
    stands = record {
      gates = record {
        superblock = λ l w named. refl;
        magic = ap (λ (x : Super). x.magic_word) same_super ∙ in_order.stands.gates.magic;
        super_checks = ap super_check same_super ∙ in_order.stands.gates.super_checks;
        nvm_fits = subst (λ (x : Super). nvm_lines x.sizes ≤ lines) (sym same_super) in_order.stands.gates.nvm_fits;
        ssd_fits = subst (λ (x : Super). ssd_blocks x.sizes ≤ blocks) (sym same_super) in_order.stands.gates.ssd_fits;
      };
      log = record {
        lines = λ o above below. record { in_nvm = λ drained w hw. refl; in_ssd = λ under. refl };
        checks = same_log_check ∙ in_order.stands.log.checks;
      };
      homes = λ p l w hp hl hw h v version. one v version;
    };
    recovers = λ j left. ap (λ (x : Image). tables (recovered_pages format x)) (fresh_only i j left) ∙ in_order.recovers i leaves;
  }
    where
      one : {x : ℕ} (v : ℕ) → (v ≡ x) ⊎ ⊥ → v ≡ x
      one v (inl e) = e
      one v (inr none) = absurd none

-- The devices that are made of an image that is a store stand for it.
pub fresh_stands : (format : Format) (lines blocks : ℕ) (i : Image) → IsStore format i → nvm_lines (super_of i).sizes ≤ lines → ssd_blocks (super_of i).sizes ≤ blocks
    → Stands format lines blocks (fresh i)
fresh_stands format lines blocks i store nvm ssd =
    let checks : (super_check (super_of i) ≡ None) × (image_log_check format i ≡ None) = checks_none format i store.checks in
    record {
      gates = record { superblock = λ l w named. refl; magic = store.magic_word; super_checks = checks.0; nvm_fits = nvm; ssd_fits = ssd };
      log = record { lines = λ o above below. record { in_nvm = λ drained w hw. refl; in_ssd = λ under. refl }; checks = checks.1 };
      homes = λ p l w hp hl hw h v version. one v version;
    }
  where
    one : {x : ℕ} (v : ℕ) → (v ≡ x) ⊎ ⊥ → v ≡ x
    one v (inl e) = e
    one v (inr none) = absurd none

-- By the facts the devices made of an image are in order with the tables of the committed pages.
pub facts_in_order : {Tables : Type 0} (tables : (ℕ → ℕ → Line) → Option Tables) (T : Tables) (b : Bookkeeping) (s : State) (lines blocks : ℕ) → StoreFacts b s
    → nvm_lines b.sizes ≤ lines → ssd_blocks b.sizes ≤ blocks → (i : Image) → Leaves s i
    → tables (lines_of (pages b.sizes) (b.committed (super_of i).tail)) ≡ Some T → IsInOrder tables b.format lines blocks (fresh i) T
facts_in_order tables T b s lines blocks facts nvm ssd i leaves gives =
    let store : IsStore b.format i = facts.stores i leaves in
    let same : (super_of i).sizes ≡ b.sizes = facts.sizes i leaves in
    let same_pages : recovered_pages b.format i ≡ lines_of (pages b.sizes) (b.committed (super_of i).tail) =
    ap (λ (g : Sizes). lines_of (pages g) (recovered b.format i)) same
    ∙ lines_of-same (pages b.sizes) (recovered b.format i) (b.committed (super_of i).tail)
    (λ p l w hp hl hw. facts_recover b s facts i leaves p l w (record { page = hp; line = hl; word = hw })) in
    record {
      stands = fresh_stands b.format lines blocks i store (subst (λ (g : Sizes). nvm_lines g ≤ lines) (sym same) nvm) (subst (λ (g : Sizes). ssd_blocks g ≤ blocks) (sym same) ssd);
      recovers = λ j left. ap (λ (x : Image). tables (recovered_pages b.format x)) (fresh_only i j left) ∙ ap tables same_pages ∙ gives;
    }
