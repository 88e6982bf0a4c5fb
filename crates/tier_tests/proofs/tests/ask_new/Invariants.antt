use Rattle.std.proofs.Common.{◌≡◌}
use Rattle.tier_tests.proofs.tests.ask_new.Given as goal

abbrev pub invariant-loop-page : goal.invariant-loop-page
invariant-loop-page l = l.queue.len ≡ l.fn.queue.len
