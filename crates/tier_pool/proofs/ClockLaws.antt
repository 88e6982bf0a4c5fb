-- A clock without an empty place has a victim.
use Rattle.std.proofs.Common.{◌≡◌, ℕ, ◌≤◌, [], ◌∷◌, length, refl, arith, IsTrue}
use Rattle.std.specs.Prelude.{Option, Some, None}
use Rattle.clock_sweep.specs.declared.clock.Slot.{Slot}
use Rattle.clock_sweep.specs.declared.clock.Slot.TheVariants.{Empty, Clear, Set}
use Rattle.clock_sweep.specs.Clock.{Circle, any_stands, lowest_empty, lower}

lower_some : {A : Type 0} (k : ℕ) (o : Option ℕ) → lower k o ≡ None → A
lower_some k None h = absurd (cc)
lower_some k (Some j) h = absurd (cc)

first_stands : (k : ℕ) (slot : Slot) (circle : Circle) → lowest_empty ((k, slot) ∷ circle) ≡ None → IsTrue (any_stands ((k, slot) ∷ circle))
unfolding lowest_empty
first_stands k Empty circle h = lower_some k (lowest_empty circle) h
first_stands k Clear circle h = refl
first_stands k Set circle h = refl

pub all_stand : (circle : Circle) (n : ℕ) → lowest_empty circle ≡ None → length circle ≡ n → 1 ≤ n → IsTrue (any_stands circle)
all_stand [] n h is some = absurd (omega arith)
all_stand (e ∷ circle) n h is some = first_stands e.0 e.1 circle h
