use Rattle.std.proofs.Common.{◌≡◌, length, true}
use Rattle.clock_sweep.specs.Clock.{any_stands}
use Rattle.tier_measure.proofs.clocks.rounds.Given as goal

abbrev pub invariant-loop : goal.invariant-loop
invariant-loop l = (length l.clock ≡ 65536) × (any_stands l.clock ≡ true)
