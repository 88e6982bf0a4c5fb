use Rattle.std.proofs.Common.{◌≡◌, sym, ap, ◌∙◌, refl, [], ◌∷◌}
use Rattle.std.specs.Prelude.{Option, Some, None}
use Rattle.clock_sweep.specs.Clock.{Circle, Swept, inserted, first_cut, victim}
use Rattle.clock_sweep.specs.declared.clock.Slot.TheVariants.{Empty, Clear}
use Rattle.tier_tests.proofs.tests.a_clock_of_three.Goals as goal

clock_of : Option Swept → Circle
clock_of None = []
clock_of (Some v) = v.clock

pub victim-requires-2-clause-stands : goal.victim-requires-2-clause-stands
unfolding clock_of victim first_cut
victim-requires-2-clause-stands g c =
    let before = c.insert-3.ensures ∙ ap (inserted 2) (c.insert-2.ensures ∙ ap (inserted 1) (c.insert.ensures ∙ ap (inserted 0) c.in_ok-clock.ensures)) in
    let after : c.victim.new.self ≡ (1, Clear) ∷ (2, Clear) ∷ (0, Empty) ∷ [] = sym (ap clock_of (ap victim (sym before) ∙ c.victim.ensures.victim)) in
    rw (c.touch.ensures, after) refl
