-- So many lines were written.
use Rattle.std.proofs.Common.{◌≡◌, ◌+◌}
use Rattle.page_tests.proofs.searching.store.Given as goal

abbrev pub invariant-loop-line : goal.invariant-loop-line
invariant-loop-line g l = record {
  ready : g.P.Pages.is_ready l.pages;
  count : (g.P.Pages.standing l.pages).count ≡ (g.P.Pages.standing l.fn.pages).count;
  room : (g.P.Pages.standing l.pages).room + l.line ≡ (g.P.Pages.standing l.fn.pages).room;
}
