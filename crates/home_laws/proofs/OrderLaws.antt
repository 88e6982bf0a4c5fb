-- By the facts, devices that are made of an image are in order.
use Rattle.std.proofs.Common.{◌≡◌, ℕ, ◌≤◌, sym, ap, ◌∙◌, subst, Option, Some}
use Rattle.nvm_model.specs.declared.line.Line.{Line}
use Rattle.devices.specs.State.{State, Image, Leaves, fresh}
use Rattle.store_model.specs.Layout.{Sizes, pages, nvm_lines, ssd_blocks}
use Rattle.store_model.specs.Recovered.{super_of, IsStore, recovered_pages, lines_of, recovered}
use Rattle.store_model.specs.InOrder.{IsInOrder}
use Rattle.store_model.specs.StoreFacts.{Bookkeeping, StoreFacts}
use Rattle.home_laws.proofs.RecoveredLaws.{lines_of-same}
use Rattle.devices.proofs.FreshLaws.{fresh_only}
use Rattle.home_laws.proofs.CheckLaws.{fresh_stands}
use Rattle.home_laws.proofs.FactsLaws.{facts_recover}

-- By the facts, where each image is a store, the devices made of it are in order with the tables of the committed pages.
pub facts_in_order : {Tables : Type 0} (tables : (ℕ → ℕ → Line) → Option Tables) (T : Tables) (b : Bookkeeping) (s : State) (lines blocks : ℕ) → StoreFacts b s
    → nvm_lines b.sizes ≤ lines → ssd_blocks b.sizes ≤ blocks → (i : Image) → Leaves s i → IsStore b.format i
    → tables (lines_of (pages b.sizes) (b.committed (super_of i).tail)) ≡ Some T → IsInOrder tables b.format lines blocks (fresh i) T
facts_in_order tables T b s lines blocks facts nvm ssd i leaves store gives =
    let same : (super_of i).sizes ≡ b.sizes = facts.sizes i leaves in
    let same_pages : recovered_pages b.format i ≡ lines_of (pages b.sizes) (b.committed (super_of i).tail) =
    ap (λ (g : Sizes). lines_of (pages g) (recovered b.format i)) same
    ∙ lines_of-same (pages b.sizes) (recovered b.format i) (b.committed (super_of i).tail)
    (λ p l w hp hl hw. facts_recover b s facts i leaves p l w (record { page = hp; line = hl; word = hw })) in
    record {
      stands = fresh_stands b.format lines blocks i store (subst (λ (g : Sizes). nvm_lines g ≤ lines) (sym same) nvm) (subst (λ (g : Sizes). ssd_blocks g ≤ blocks) (sym same) ssd);
      recovers = λ j left. ap (λ (x : Image). tables (recovered_pages b.format x)) (fresh_only i j left) ∙ ap tables same_pages ∙ gives;
    }
