-- The count is any number.
use Rattle.tree_bench.proofs.grown.Grown.delete_all.Given as goal

abbrev pub invariant-loop-i : goal.invariant-loop-i
invariant-loop-i l = Unit {0}
