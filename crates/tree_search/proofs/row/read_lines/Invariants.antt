-- So far the lines below are in their place, by reads of this page alone.
use Rattle.std.proofs.Common.{◌≡◌, ◌-◌, ◌*◌, ◌≤◌, length, IsTrue}
use Rattle.ssd_model.specs.Page.{Same}
use Rattle.line_pages.specs.PagesCall.{PagesCalls}
use Rattle.line_pages.specs.Bytes.{bytes_of}
use Rattle.line_pages.specs.Cost.{lines_from, AddsLines}
use Rattle.line_pages.specs.Standing.{ReadsPage}
use Rattle.tree_search.proofs.row.read_lines.Given as goal

abbrev pub invariant-loop-line : goal.invariant-loop-line
invariant-loop-line g l = record {
  call : PagesCalls g.P.Pages l.fn.pages l.pages;
  reads : ReadsPage l.page (g.P.Pages.standing l.fn.pages) (g.P.Pages.standing l.pages);
  lines : AddsLines (λ lines. lines ≡ lines_from l.first (l.line - l.first)) (g.P.Pages.standing l.fn.pages) (g.P.Pages.standing l.pages);
  from : l.first ≤ l.line;
  within : l.first ≤ l.end → l.line ≤ l.end;
  again : (g.P.Pages.standing l.pages).visits ≤ (g.P.Pages.standing l.fn.pages).visits;
  nvm_kept : (g.P.Pages.standing l.pages).nvm_faults ≡ (g.P.Pages.standing l.fn.pages).nvm_faults;
  ssd_kept : (g.P.Pages.standing l.pages).ssd_faults ≡ (g.P.Pages.standing l.fn.pages).ssd_faults;
  size : length l.into ≡ 4096;
  same : IsTrue (g.P.Pages.standing l.fn.pages).told → Same (64 * l.first) (64 * l.line) (bytes_of (g.P.Pages.standing l.fn.pages).current l.page) l.into;
}
