-- So far the lines below are in their place, by reads of this page alone.
use Rattle.std.proofs.Common.{◌≡◌, ◌-◌, ◌*◌, ◌≤◌, length, IsTrue}
use Rattle.ssd_model.specs.Page.{Same}
use Rattle.line_pages.specs.PagesCall.{PagesCalls}
use Rattle.line_pages.specs.Bytes.{bytes_of}
use Rattle.line_pages.specs.Cost.{Costs}
use Rattle.line_pages.specs.Standing.{ReadsPage}
use Rattle.leaf_lines.proofs.lines.read_lines.Given as goal

abbrev pub invariant-loop-line : goal.invariant-loop-line
invariant-loop-line g l = record {
  call : PagesCalls g.P.Pages l.fn.pages l.pages;
  reads : ReadsPage l.page (g.P.Pages.standing l.fn.pages) (g.P.Pages.standing l.pages);
  again : (g.P.Pages.standing l.pages).visits ≤ (g.P.Pages.standing l.fn.pages).visits;
  costs : Costs (l.line - l.from) (g.P.Pages.standing l.fn.pages) (g.P.Pages.standing l.pages);
  nvm_kept : (g.P.Pages.standing l.pages).nvm_faults ≡ (g.P.Pages.standing l.fn.pages).nvm_faults;
  ssd_kept : (g.P.Pages.standing l.pages).ssd_faults ≡ (g.P.Pages.standing l.fn.pages).ssd_faults;
  size : length l.into ≡ 4096;
  known : IsTrue (g.P.Pages.standing l.fn.pages).told → Same (64 * l.from) (64 * l.line) (bytes_of (g.P.Pages.standing l.fn.pages).current l.page) l.into;
  before : Same 0 (64 * l.from) l.fn.into l.into;
  after : Same (64 * l.line) 4096 l.fn.into l.into;
}
