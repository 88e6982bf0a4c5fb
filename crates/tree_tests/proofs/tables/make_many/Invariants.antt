-- So many tables were made.
use Rattle.std.proofs.Common.{◌+◌, ◌*◌, ◌≤◌}
use Rattle.tree_tests.proofs.tables.make_many.Given as goal

abbrev pub invariant-loop-number : goal.invariant-loop-number
invariant-loop-number g l = record {
  ready : g.P.Pages.is_ready l.pages;
  room : 1999 ≤ (g.P.Pages.standing l.pages).room + 4 * l.number;
}
