use Rattle.std.proofs.Common.{rules, arith, ◌+◌, ◌*◌, ℕ, IfErr, IsTrue, sym, subst}
use Rattle.line_pages.specs.Lines.{Lines}
use Rattle.rows.specs.Rows.{row_delete}
use Rattle.bplus_tree.specs.PageChanges.{ChangesPages}
use Rattle.page_alloc.specs.Stops.{IsFault}
use Rattle.bplus_tree.proofs.RootLaws.{stands_on}
use Rattle.bplus_tree.specs.LineCosts.{keeps_without, delete_lines}
use Rattle.bplus_tree.proofs.LineCostLaws.{goes_later}
use Rattle.bplus_tree.proofs.tree.delete.Goals as goal

pub returns-in_err-delete_row-clause-sound : goal.returns-in_err-delete_row-clause-sound
returns-in_err-delete_row-clause-sound g c = λ told rows used free stands.
    let old = g.P.Pages.standing c.args.pages.now in
    let mid = g.P.Pages.standing c.has_key.new.pages in
    let first = c.in_ok-found.ensures in
    let h : IfErr c.delete_row.result IsFault =
    c.delete_row.ensures.sound (subst IsTrue (sym first.call.continues.told) told) rows used free
    (stands_on old.count mid.count old.current mid.current c.args.root.now rows used free first.call.continues.count (first.keeps.current told) stands) in
    let k = subst (λ r. IfErr r IsFault) c.in_err-delete_row.was h in
    search (rules, k)

pub returns-clause-by_lines : goal.returns-clause-by_lines
returns-clause-by_lines g c = λ told.
    let mid = g.P.Pages.standing c.has_key.new.pages in
    let new = g.P.Pages.standing c.delete_row.new.pages in
    let first = c.in_ok-found.ensures in
    let root = c.args.root.now in
    goes_later root c.args.key (keeps_without c.args.key) delete_lines (10 * root.levels + 29) (10 * root.levels + 18) (20 * root.levels + 47) (g.P.Pages.standing c.args.pages.now) mid new
    (first.keeps.current told) first.call.continues.count first.keeps.room first.nothing (first.cost told) (omega arith) (c.in_ok-delete_row.ensures.by_lines (subst IsTrue (sym first.call.continues.told) told))

pub returns-clause-pages : goal.returns-clause-pages
returns-clause-pages g c = λ told.
    let mid = g.P.Pages.standing c.has_key.new.pages in
    let new = g.P.Pages.standing c.delete_row.new.pages in
    let first = c.in_ok-found.ensures in
    let step = row_delete c.args.key in
    subst (λ (n : ℕ). ChangesPages n c.args.key (g.P.Pages.standing c.args.pages.now).current new.current c.args.root.now c.delete_row.new.root step) first.call.continues.count
    (subst (λ (lines : Lines). ChangesPages mid.count c.args.key lines new.current c.args.root.now c.delete_row.new.root step) (first.keeps.current told) (c.in_ok-delete_row.ensures.pages (subst IsTrue (sym first.call.continues.told) told)))
