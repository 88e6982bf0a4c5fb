use Rattle.std.proofs.Common.{◌≡◌, length, true}
use Rattle.clock_sweep.specs.Clock.{any_stands}
use Rattle.tier_tests.proofs.tests.full_clock.Given as goal

abbrev pub invariant-loop-place : goal.invariant-loop-place
invariant-loop-place l = (length l.clock ≡ l.places) × (any_stands l.clock ≡ true)
