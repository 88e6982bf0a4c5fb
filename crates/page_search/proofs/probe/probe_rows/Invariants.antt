-- The key is in none of the rows below `low`, and in none from `high` on.
use Rattle.std.proofs.Common.{◌≡◌, ◌-◌, ◌≤◌, IsTrue}
use Rattle.line_pages.specs.PagesCall.{PagesCalls}
use Rattle.line_pages.specs.Bytes.{bytes_of}
use Rattle.line_pages.specs.Cost.{AddsLines}
use Rattle.line_pages.specs.Standing.{ReadsPage}
use Rattle.page_format.specs.Node.{IsWellFormed}
use Rattle.page_format.proofs.KeyLaws.{Between}
use Rattle.page_search.specs.Cost.{row_probe}
use Rattle.page_search.proofs.ProbeLaws.{Halves}
use Rattle.page_search.proofs.BoundLaws.{Turns}
use Rattle.page_search.proofs.probe.probe_rows.Given as goal

abbrev pub invariant-loop-low : goal.invariant-loop-low
invariant-loop-low g l = record {
  call : PagesCalls g.P.Pages l.fn.pages l.pages;
  reads : ReadsPage l.page (g.P.Pages.standing l.fn.pages) (g.P.Pages.standing l.pages);
  lines : IsTrue (g.P.Pages.standing l.fn.pages).told
      → AddsLines (Halves (row_probe (bytes_of (g.P.Pages.standing l.fn.pages).current l.page)) l.count l.count (l.high - l.low)) (g.P.Pages.standing l.fn.pages) (g.P.Pages.standing l.pages);
  bound : AddsLines (Turns 3 10 (l.high - l.low)) (g.P.Pages.standing l.fn.pages) (g.P.Pages.standing l.pages);
  again : (g.P.Pages.standing l.pages).visits ≤ (g.P.Pages.standing l.fn.pages).visits;
  nvm_kept : (g.P.Pages.standing l.pages).nvm_faults ≡ (g.P.Pages.standing l.fn.pages).nvm_faults;
  ssd_kept : (g.P.Pages.standing l.pages).ssd_faults ≡ (g.P.Pages.standing l.fn.pages).ssd_faults;
  ordered : l.low ≤ l.high;
  within : l.high ≤ l.count;
  between : IsTrue (g.P.Pages.standing l.fn.pages).told → IsWellFormed (bytes_of (g.P.Pages.standing l.fn.pages).current l.page) l.expect
      → Between (bytes_of (g.P.Pages.standing l.fn.pages).current l.page) l.key l.low l.high;
}

abbrev pub decreases-loop-low : goal.decreases-loop-low
decreases-loop-low g l = l.high - l.low
