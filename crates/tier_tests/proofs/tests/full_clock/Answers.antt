use Rattle.std.proofs.Common.{◌≡◌, ◌-◌, length, ap, ◌∙◌, arith}
use Rattle.clock_sweep.proofs.ClockLaws.{length-new, length-with_slot, stands-last, stands-touched}
use Rattle.tier_tests.proofs.tests.full_clock.Goals as goal

pub insert-requires : goal.insert-requires
insert-requires c =
    let size : length c.in_ok-clock.clock ≡ c.args.places = ap length c.in_ok-clock.ensures ∙ length-new 0 c.args.places in
    omega (arith, c.requires)

pub loop-place-init : goal.loop-place-init
loop-place-init c = (
  ap length c.insert.ensures ∙ length-with_slot _ _ _ ∙ ap length c.in_ok-clock.ensures ∙ length-new 0 c.args.places,
  rw (c.insert.ensures, c.in_ok-clock.ensures) (stands-last c.args.places (c.args.places - 1) (omega (arith, c.requires))),
)

pub loop-place-preserved : goal.loop-place-preserved
loop-place-preserved c = (
  ap length c.insert-in-loop-place.ensures ∙ length-with_slot _ _ _ ∙ c.loop-place.invariant.0,
  rw c.insert-in-loop-place.ensures (stands-touched c.loop-place.place c.loop-place.clock c.loop-place.invariant.1),
)
