use Rattle.std.proofs.Common.{◌≡◌, length}
use Rattle.tier_measure.proofs.clocks.touches.Given as goal

abbrev pub invariant-loop-i : goal.invariant-loop-i
invariant-loop-i l = length l.clock ≡ 65536
