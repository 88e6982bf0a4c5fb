use Rattle.std.proofs.Common.{◌≡◌}
use Rattle.tier_measure.proofs.policies.asks.Given as goal

abbrev pub invariant-loop-page : goal.invariant-loop-page
invariant-loop-page l = l.queue.len ≡ 65536
