-- So far the tree under the bottom of the path is changed.
use Rattle.std.proofs.Common.{◌≡◌, ◌≢◌, ℕ, length}
use Rattle.line_pages.specs.PagesCall.{PagesCalls}
use Rattle.rows.specs.Rows.{row_delete}
use Rattle.bplus_tree.specs.declared.outcome.Outcome.TheVariants.{Cut}
use Rattle.bplus_tree.specs.LineCosts.{GoesByLines, keeps_without, delete_lines}
use Rattle.bplus_tree.proofs.PathLaws.{Climbing}
use Rattle.bplus_tree.proofs.path.delete_in.Given as goal

abbrev pub invariant-loop-passed : goal.invariant-loop-passed
invariant-loop-passed g l = record {
  call : PagesCalls g.P.Pages l.fn.pages l.pages;
  nvm_kept : (g.P.Pages.standing l.pages).nvm_faults ≡ (g.P.Pages.standing l.fn.pages).nvm_faults;
  ssd_kept : (g.P.Pages.standing l.pages).ssd_faults ≡ (g.P.Pages.standing l.fn.pages).ssd_faults;
  by_lines : GoesByLines l.fn.top l.fn.key (keeps_without l.fn.key) delete_lines (g.P.Pages.standing l.fn.pages) (g.P.Pages.standing l.pages) l.outcome;
  climbing : Climbing (g.P.Pages.standing l.fn.pages).told (g.P.Pages.standing l.fn.pages).count l.fn.key (g.P.Pages.standing l.fn.pages).current (g.P.Pages.standing l.pages).current l.fn.top l.path.items l.outcome (row_delete l.fn.key)
      (g.P.Pages.standing l.fn.pages).room (g.P.Pages.standing l.pages).room (g.P.Pages.standing l.fn.pages).visits (g.P.Pages.standing l.pages).visits;
  uncut : (k r : ℕ) → l.outcome ≢ Cut k r;
}

abbrev pub decreases-loop-passed : goal.decreases-loop-passed
decreases-loop-passed g l = length l.path.items
