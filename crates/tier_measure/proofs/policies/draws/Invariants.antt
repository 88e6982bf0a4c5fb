-- The count is any number.
use Rattle.tier_measure.proofs.policies.draws.Given as goal

abbrev pub invariant-loop : goal.invariant-loop
invariant-loop l = Unit {0}
