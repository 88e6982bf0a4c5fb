-- So far the lines below are as they are to be, and the others as they were.
use Rattle.std.proofs.Common.{◌≡◌, ◌+◌, ◌-◌, ◌*◌, ◌≤◌, true, false, length, IsTrue}
use Rattle.ssd_model.specs.Page.{Same}
use Rattle.line_pages.specs.PagesCall.{PagesCalls}
use Rattle.line_pages.specs.Bytes.{bytes_of}
use Rattle.line_pages.specs.Touch.{begins}
use Rattle.line_pages.specs.Cost.{Costs}
use Rattle.page_alloc.specs.Written.{Visited, Differs, WritesOnly, changed_in}
use Rattle.page_alloc.proofs.LineLaws.{Putting}
use Rattle.page_alloc.proofs.write.write_lines.Given as goal

abbrev pub invariant-loop-line : goal.invariant-loop-line
invariant-loop-line g l = record {
  call : PagesCalls g.P.Pages l.fn.pages l.pages;
  visited : Visited l.page (g.P.Pages.standing l.fn.pages) (g.P.Pages.standing l.pages);
  again : begins (g.P.Pages.standing l.fn.pages).access l.page true ≡ false → (g.P.Pages.standing l.pages).visits ≤ (g.P.Pages.standing l.fn.pages).visits;
  touched : WritesOnly l.page (Differs l.old l.new) (g.P.Pages.standing l.fn.pages) (g.P.Pages.standing l.pages);
  costs : Costs (l.line - l.from) (g.P.Pages.standing l.fn.pages) (g.P.Pages.standing l.pages);
  nvm_kept : (g.P.Pages.standing l.pages).nvm_faults ≡ (g.P.Pages.standing l.fn.pages).nvm_faults;
  ssd_kept : (g.P.Pages.standing l.pages).ssd_faults ≡ (g.P.Pages.standing l.fn.pages).ssd_faults;
  room : (g.P.Pages.standing l.pages).room + changed_in l.old l.new l.from (l.end - l.from) ≡ (g.P.Pages.standing l.fn.pages).room + changed_in l.old l.new l.line (l.end - l.line);
  size_old : length l.old ≡ 4096;
  size : length l.new ≡ 4096;
  putting : IsTrue (g.P.Pages.standing l.fn.pages).told → Same (64 * l.from) (64 * l.end) (bytes_of (g.P.Pages.standing l.fn.pages).current l.page) l.old
      → Putting l.page l.from l.line l.new (g.P.Pages.standing l.fn.pages).current (g.P.Pages.standing l.pages).current;
}
