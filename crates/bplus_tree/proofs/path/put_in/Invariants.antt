-- So far the tree under the bottom of the path is changed.
use Rattle.std.proofs.Common.{◌≡◌, length}
use Rattle.line_pages.specs.PagesCall.{PagesCalls}
use Rattle.rows.specs.Rows.{row_put}
use Rattle.bplus_tree.specs.Record.{PutsAgain}
use Rattle.bplus_tree.specs.LineChanges.{PutsChange}
use Rattle.leaf_lines.specs.Put.{fits_beside}
use Rattle.bplus_tree.specs.LineCosts.{GoesByLines, put_lines}
use Rattle.bplus_tree.proofs.PathLaws.{Climbing}
use Rattle.bplus_tree.proofs.FullWayLaws.{Filling}
use Rattle.bplus_tree.proofs.path.put_in.Given as goal

abbrev pub invariant-loop-passed : goal.invariant-loop-passed
invariant-loop-passed g l = record {
  call : PagesCalls g.P.Pages l.fn.pages l.pages;
  nvm_kept : (g.P.Pages.standing l.pages).nvm_faults ≡ (g.P.Pages.standing l.fn.pages).nvm_faults;
  ssd_kept : (g.P.Pages.standing l.pages).ssd_faults ≡ (g.P.Pages.standing l.fn.pages).ssd_faults;
  again : PutsAgain l.fn.top l.fn.key (length l.fn.value) (g.P.Pages.standing l.fn.pages) (g.P.Pages.standing l.pages) l.outcome;
  lines : PutsChange l.fn.top l.fn.key l.fn.value (g.P.Pages.standing l.fn.pages) (g.P.Pages.standing l.pages) l.outcome;
  by_lines : GoesByLines l.fn.top l.fn.key (λ root. fits_beside root l.fn.key (length l.fn.value)) (put_lines l.fn.key (length l.fn.value)) (g.P.Pages.standing l.fn.pages) (g.P.Pages.standing l.pages) l.outcome;
  climbing : Climbing (g.P.Pages.standing l.fn.pages).told (g.P.Pages.standing l.fn.pages).count l.fn.key (g.P.Pages.standing l.fn.pages).current (g.P.Pages.standing l.pages).current l.fn.top l.path.items l.outcome (row_put l.fn.key l.fn.value)
      (g.P.Pages.standing l.fn.pages).room (g.P.Pages.standing l.pages).room (g.P.Pages.standing l.fn.pages).visits (g.P.Pages.standing l.pages).visits;
  filling : Filling (g.P.Pages.standing l.fn.pages).told (g.P.Pages.standing l.fn.pages).count l.fn.key l.fn.value (g.P.Pages.standing l.fn.pages).current l.fn.top l.path.items l.outcome;
}

abbrev pub decreases-loop-passed : goal.decreases-loop-passed
decreases-loop-passed g l = length l.path.items
