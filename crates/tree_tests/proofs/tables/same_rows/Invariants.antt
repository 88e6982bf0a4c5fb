-- The rows up to here are the same.
use Rattle.tree_tests.proofs.tables.same_rows.Given as goal

abbrev pub invariant-loop-at : goal.invariant-loop-at
invariant-loop-at g l = record { ready : g.P.Pages.is_ready l.pages }
