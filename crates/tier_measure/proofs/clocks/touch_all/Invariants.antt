use Rattle.std.proofs.Common.{◌≡◌, length, true}
use Rattle.clock_sweep.specs.Clock.{any_stands}
use Rattle.tier_measure.proofs.clocks.touch_all.Given as goal

abbrev pub invariant-loop-place : goal.invariant-loop-place
invariant-loop-place l = (length l.clock ≡ 65536) × (any_stands l.clock ≡ true)
