use Rattle.std.proofs.Common.{◌≡◌}
use Rattle.tier_tests.proofs.tests.a_queue_of_two.Given as goal

abbrev pub invariant-loop-i : goal.invariant-loop-i
invariant-loop-i g l = l.queue.len ≡ 2
