-- So far the path leads to this place, by reads alone.
use Rattle.std.proofs.Common.{◌≡◌, ◌*◌, length, IsTrue}
use Rattle.line_pages.specs.PagesCall.{PagesCalls}
use Rattle.line_pages.specs.Cost.{Costs}
use Rattle.page_alloc.specs.Written.{WritesNothing}
use Rattle.tree_search.specs.Tree.{IsTree}
use Rattle.bplus_tree.proofs.PathLaws.{Descended}
use Rattle.bplus_tree.proofs.path.descend.Given as goal

abbrev pub invariant-loop-place : goal.invariant-loop-place
invariant-loop-place g l = record {
  call : PagesCalls g.P.Pages l.fn.pages l.pages;
  nvm_kept : (g.P.Pages.standing l.pages).nvm_faults ≡ (g.P.Pages.standing l.fn.pages).nvm_faults;
  ssd_kept : (g.P.Pages.standing l.pages).ssd_faults ≡ (g.P.Pages.standing l.fn.pages).ssd_faults;
  costs : IsTrue (g.P.Pages.standing l.fn.pages).told
      → IsTree l.fn.top.expect.pages (g.P.Pages.standing l.fn.pages).current l.fn.top.expect.level l.fn.top.page l.fn.top.expect.low l.fn.top.expect.high l.fn.top.expect.root
      → Costs (10 * length l.path.items) (g.P.Pages.standing l.fn.pages) (g.P.Pages.standing l.pages);
  nothing : WritesNothing (g.P.Pages.standing l.fn.pages) (g.P.Pages.standing l.pages);
  descended : Descended (g.P.Pages.standing l.fn.pages).count l.key l.fn.top l.place l.path.items (g.P.Pages.standing l.fn.pages) (g.P.Pages.standing l.pages);
}

abbrev pub decreases-loop-place : goal.decreases-loop-place
decreases-loop-place g l = l.place.expect.level
