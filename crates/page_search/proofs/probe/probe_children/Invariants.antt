-- The key is below the children from `low` up to `high`, whose bounds are `least` and `most`.
use Rattle.std.proofs.Common.{◌≡◌, ◌-◌, ◌≤◌, IsTrue}
use Rattle.line_pages.specs.PagesCall.{PagesCalls}
use Rattle.line_pages.specs.Bytes.{bytes_of}
use Rattle.line_pages.specs.Cost.{AddsLines}
use Rattle.line_pages.specs.Standing.{ReadsPage}
use Rattle.page_format.specs.Node.{IsWellFormed, children}
use Rattle.page_format.proofs.ChildLaws.{Narrow, Bounds}
use Rattle.page_search.specs.Cost.{child_probe}
use Rattle.page_search.proofs.ProbeLaws.{Halves}
use Rattle.page_search.proofs.BoundLaws.{Turns}
use Rattle.page_search.proofs.probe.probe_children.Given as goal

abbrev pub invariant-loop-low : goal.invariant-loop-low
invariant-loop-low g l = record {
  call : PagesCalls g.P.Pages l.fn.pages l.pages;
  reads : ReadsPage l.page (g.P.Pages.standing l.fn.pages) (g.P.Pages.standing l.pages);
  lines : AddsLines (Halves child_probe l.count (l.count - 1) (l.high - l.low - 1)) (g.P.Pages.standing l.fn.pages) (g.P.Pages.standing l.pages);
  bound : AddsLines (Turns 1 8 (l.high - l.low - 1)) (g.P.Pages.standing l.fn.pages) (g.P.Pages.standing l.pages);
  again : (g.P.Pages.standing l.pages).visits ≤ (g.P.Pages.standing l.fn.pages).visits;
  nvm_kept : (g.P.Pages.standing l.pages).nvm_faults ≡ (g.P.Pages.standing l.fn.pages).nvm_faults;
  ssd_kept : (g.P.Pages.standing l.pages).ssd_faults ≡ (g.P.Pages.standing l.fn.pages).ssd_faults;
  narrow : Narrow l.expect l.key l.count l.low l.high l.least l.most;
  bounds : IsTrue (g.P.Pages.standing l.fn.pages).told → IsWellFormed (bytes_of (g.P.Pages.standing l.fn.pages).current l.page) l.expect
      → Bounds (children (bytes_of (g.P.Pages.standing l.fn.pages).current l.page)) l.expect.high l.low l.high l.least l.most;
}

abbrev pub decreases-loop-low : goal.decreases-loop-low
decreases-loop-low g l = l.high - l.low
