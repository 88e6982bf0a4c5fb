-- So many steps were made.
use Rattle.std.proofs.Common.{◌+◌, ◌*◌, ◌≤◌}
use Rattle.tree_tests.proofs.tables.run_mixed.Given as goal

abbrev pub invariant-loop-step : goal.invariant-loop-step
invariant-loop-step g l = record {
  ready : g.P.Pages.is_ready l.pages;
  room : 1280000 ≤ (g.P.Pages.standing l.pages).room + 640 * l._step;
}
