use Rattle.std.proofs.Common.{length, ap, ◌∙◌}
use Rattle.clock_sweep.proofs.ClockLaws.{length-with_slot, stands-touched}
use Rattle.tier_measure.proofs.clocks.touch_all.Goals as goal

pub loop-place-preserved : goal.loop-place-preserved
loop-place-preserved c = (
  ap length c.touch.ensures ∙ length-with_slot _ _ _ ∙ c.loop-place.invariant.0,
  rw c.touch.ensures (stands-touched c.loop-place.place c.loop-place.clock c.loop-place.invariant.1),
)
