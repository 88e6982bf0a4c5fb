-- The counts are any numbers.
use Rattle.tree_bench.proofs.main.Given as goal

abbrev pub invariant-loop : goal.invariant-loop
invariant-loop l = Unit {0}
