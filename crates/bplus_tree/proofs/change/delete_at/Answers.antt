use Rattle.std.proofs.Common.{◌≡◌, ◌+◌, ◌<◌, ◌∙◌, true, false, IsTrue, arith, refl, ap, sym, subst}
use Rattle.std.specs.List.{remove}
use Rattle.line_pages.specs.Lines.{Lines}
use Rattle.line_pages.specs.Bytes.{bytes_of}
use Rattle.line_pages.specs.Cost.{Costs}
use Rattle.line_pages.proofs.CostLaws.{Costs-weaker}
use Rattle.line_pages.proofs.StandingLaws.{KeepsPages-trans}
use Rattle.page_format.specs.Node.{IsWellFormed, entry_count, leaf_rows}
use Rattle.page_format.specs.Search.{IsSpot}
use Rattle.page_format.specs.declared.spot.Spot.TheVariants as spots
use Rattle.leaf_lines.specs.Removal.{RemovedByLines, keeps_floor, removal_cost}
use Rattle.leaf_lines.proofs.FitLaws.{at_row}
use Rattle.tree_search.proofs.CostLaws.{leaf_lines}
use Rattle.bplus_tree.specs.LineCosts.{delete_lines}
use Rattle.bplus_tree.proofs.LineCostLaws.{after_search, deleted_is, removed_of, removed_edits, absent_edits, removed_by, absent_by}
use Rattle.bplus_tree.proofs.change.delete_at.Given as given
use Rattle.bplus_tree.proofs.change.delete_at.Goals.{In-Row, Then-done}
use Rattle.bplus_tree.proofs.change.delete_at.Goals as goal

found : (g : given.Over) (c : In-Row g) → IsTrue (g.P.Pages.standing c.args.pages.now).told → IsWellFormed (bytes_of (g.P.Pages.standing c.args.pages.now).current c.args.page) c.args.expect.now
    → IsSpot (bytes_of (g.P.Pages.standing c.args.pages.now).current c.args.page) c.args.expect.now c.args.key (spots.Row c.in-Row.at)
found g c told well = rw c.in-Row.is at (c.in_ok-at.ensures.spot told well)

removed : (g : given.Over) (c : Then-done g) → IsTrue (g.P.Pages.standing c.args.pages.now).told → RemovedByLines c.args.page c.args.expect.now c.in-Row.at (g.P.Pages.standing c.look.new.pages) (g.P.Pages.standing c.remove_by_lines.new.pages)
removed g c told =
    removed_of c.args.page c.args.expect.now c.in-Row.at (g.P.Pages.standing c.look.new.pages) (g.P.Pages.standing c.remove_by_lines.new.pages) c.in_ok-done-in-Row.done c.if-done.true
    (c.in_ok-done-in-Row.ensures.removed (subst IsTrue (sym c.in_ok-at.ensures.call.continues.told) told))

pub remove_by_lines-requires-clause-at : goal.remove_by_lines-requires-clause-at
remove_by_lines-requires-clause-at g c = λ told1 well1.
    let e = c.args.expect.now in
    let look = c.in_ok-at.ensures in
    let told = subst IsTrue look.call.continues.told told1 in
    let same = look.reads.current told in
    let well = subst (λ (lines : Lines). IsWellFormed (bytes_of lines c.args.page) e) same well1 in
    let row = at_row e c.args.key c.in-Row.at (bytes_of (g.P.Pages.standing c.args.pages.now).current c.args.page) c.requires.level well (found g (goal.at.remove_by_lines-requires-clause-at g c).In-Row told well) in
    subst (λ (lines : Lines). c.in-Row.at < entry_count (bytes_of lines c.args.page)) (sym same) row.within

pub returns-then-done-clause-edits : goal.returns-then-done-clause-edits
returns-then-done-clause-edits g c = λ told.
    let at = goal.at.returns-then-done-clause-edits g c in
    removed_edits c.args.page c.args.expect.now c.args.key c.in-Row.at (g.P.Pages.standing c.args.pages.now) (g.P.Pages.standing c.look.new.pages) (g.P.Pages.standing c.remove_by_lines.new.pages) c.requires.level c.requires.pages
    (c.in_ok-at.ensures.reads.current told) (found g at.In-Row told) (removed g at.Then-done told)

pub returns-then-done-clause-by_lines : goal.returns-then-done-clause-by_lines
returns-then-done-clause-by_lines g c = λ told well ok.
    let old = g.P.Pages.standing c.args.pages.now in
    let mid = g.P.Pages.standing c.look.new.pages in
    let new = g.P.Pages.standing c.remove_by_lines.new.pages in
    let e = c.args.expect.now in
    let look = c.in_ok-at.ensures in
    let most = removal_cost (entry_count (bytes_of old.current c.args.page)) in
    let costs : Costs most mid new = subst (λ (lines : Lines). Costs (removal_cost (entry_count (bytes_of lines c.args.page))) mid new) (look.reads.current told) (c.in_ok-done-in-Row.ensures.costs (subst IsTrue (sym look.call.continues.told) told)) in (
      refl,
      removed_by c.args.page e c.in-Row.at (28 + most) old mid new look.reads told (removed g (goal.at.returns-then-done-clause-by_lines g c).Then-done told) (after_search e.level most old mid new c.requires.level (look.cost told well) costs),
    )

pub returns-else-done-clause-by_lines : goal.returns-else-done-clause-by_lines
returns-else-done-clause-by_lines g c = λ told well ok.
    let e = c.args.expect.now in
    let look = c.in_ok-at.ensures in
    let w = bytes_of (g.P.Pages.standing c.args.pages.now).current c.args.page in
    let told1 = subst IsTrue (sym look.call.continues.told) told in
    let is =
    subst (λ (lines : Lines). IsWellFormed (bytes_of lines c.args.page) e → c.in_ok-done-in-Row.done ≡ keeps_floor e.root (remove (leaf_rows (bytes_of lines c.args.page)) c.in-Row.at)) (look.reads.current told)
    (c.in_ok-done-in-Row.ensures.when told1) well in
    let gone = deleted_is e c.args.key c.in-Row.at w c.requires.level well (found g (goal.at.returns-else-done-clause-by_lines g c).In-Row told well) in
    let never : false ≡ true = sym c.if-done.false ∙ is ∙ sym (ap (keeps_floor e.root) gone) ∙ ok in absurd (cc)

pub returns-else-done-clause-call : goal.returns-else-done-clause-call
returns-else-done-clause-call g c =
    let a = c.in_ok-at.ensures in
    let b = c.in_ok-done-in-Row.ensures in
    KeepsPages-trans (KeepsPages-trans a.call b.call) c.delete_leaf.ensures.call

pub returns-in-Gap-clause-edits : goal.returns-in-Gap-clause-edits
returns-in-Gap-clause-edits g c = λ told.
    absent_edits c.args.page c.args.expect.now c.args.key c.in-Gap.field-0 (g.P.Pages.standing c.args.pages.now) (g.P.Pages.standing c.look.new.pages) c.requires.level c.requires.pages (c.in_ok-at.ensures.reads.current told)
    (λ well. rw c.in-Gap.is at (c.in_ok-at.ensures.spot told well))

pub returns-in-Gap-clause-by_lines : goal.returns-in-Gap-clause-by_lines
returns-in-Gap-clause-by_lines g c = λ told well ok.
    let old = g.P.Pages.standing c.args.pages.now in
    let new = g.P.Pages.standing c.look.new.pages in
    let look = c.in_ok-at.ensures in
    let e = c.args.expect.now in (
      refl,
      absent_by c.args.page (28 + delete_lines (bytes_of old.current c.args.page)) old new look.reads (Costs-weaker (omega (arith, leaf_lines e.level c.requires.level)) (look.cost told well)),
    )
