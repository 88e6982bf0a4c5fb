use Rattle.std.proofs.Common.{◌≡◌, ℕ, List, arith, subst, ap, sym, ◌∙◌, true}
use Rattle.rows.specs.Rows.{Row, keys, row_delete, Ascends}
use Rattle.page_format.specs.Node.{leaf_rows}
use Rattle.node_edit.specs.Edit.{Fits, has_key, place_of}
use Rattle.std.specs.List.{remove}
use Rattle.rows.proofs.RowLaws.{Ascends-delete}
use Rattle.node_edit.proofs.KeyPlaceLaws.{delete_there, delete_none, rows_few}
use Rattle.node_edit.proofs.LeafLaws.{none_changed, slots_changed}
use Rattle.node_edit.proofs.leaf_edit.leaf_delete.Goals as goal

pub returns-then-not-is_there-clause-fits : goal.returns-then-not-is_there-clause-fits
returns-then-not-is_there-clause-fits c = λ right.
    let e = c.args.expect.now in
    record { well = c.requires.well; are = sym (delete_none c.args.key e.low e.high (leaf_rows c.args.page.now) c.enter.ensures.order (sym c.is_there.ensures.there ∙ c.if-not-is_there.true)) }

pub returns-then-not-is_there-clause-few : goal.returns-then-not-is_there-clause-few
returns-then-not-is_there-clause-few c = none_changed c.args.page.now c.enter.ensures.size

removed : (key low high : ℕ) (rows now : List Row) (at : ℕ) → Ascends low high (keys rows) → has_key key rows ≡ true → at ≡ place_of key rows → now ≡ remove rows at → now ≡ row_delete key rows
removed key low high rows now at up there is e = e ∙ ap (remove rows) is ∙ sym (delete_there key low high rows up there)

pub leaf_fit-requires-clause-order : goal.leaf_fit-requires-clause-order
leaf_fit-requires-clause-order c =
    let e = c.args.expect.now in
    let rows = leaf_rows c.args.page.now in
    let is = removed c.args.key e.low e.high rows (leaf_rows c.leaf_remove.new.page) c.leaf_place-at.result c.enter.ensures.order (sym c.is_there.ensures.there ∙ c.if-not-is_there.false) c.leaf_place-at.ensures.place c.leaf_remove.ensures.rows in
    subst (λ (all : List Row). Ascends e.low e.high (keys all)) (sym is) (Ascends-delete e.low e.high c.args.key rows c.enter.ensures.order)

pub returns-clause-fits : goal.returns-clause-fits
returns-clause-fits c = λ right.
    let e = c.args.expect.now in
    let rows = leaf_rows c.args.page.now in
    let is = removed c.args.key e.low e.high rows (leaf_rows c.leaf_remove.new.page) c.leaf_place-at.result c.enter.ensures.order (sym c.is_there.ensures.there ∙ c.if-not-is_there.false) c.leaf_place-at.ensures.place c.leaf_remove.ensures.rows in
    subst (λ (all : List Row). Fits leaf_rows e c.leaf_remove.new.page right all c.leaf_fit.result) is (c.leaf_fit.ensures.fits right)

pub returns-clause-few : goal.returns-clause-few
returns-clause-few c =
    slots_changed c.args.page.now c.leaf_remove.new.page c.enter.ensures.size c.open_leaf-2.ensures.size (omega (arith, rows_few (leaf_rows c.args.page.now), c.open_leaf.ensures.rows.used, c.open_leaf.ensures.count, c.open_leaf.ensures.entries))
    c.leaf_remove.ensures.rest
