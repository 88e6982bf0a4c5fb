use Rattle.std.proofs.Common.{◌≡◌, ◌||◌, refl, ℕ, List, [], arith, subst, ap, sym, ◌∙◌, true, false, length, nat_le, slice_set, get_or}
use Rattle.std.specs.List.{insert}
use Rattle.rows.specs.Rows.{Row, row_put}
use Rattle.page_format.specs.Node.{leaf_rows}
use Rattle.page_format.specs.Sound.{row_bytes}
use Rattle.node_edit.specs.Edit.{Fits}
use Rattle.node_edit.specs.Record.{FitsLeaf}
use Rattle.node_edit.specs.Cuts.{CutsRows}
use Rattle.node_edit.proofs.KeyPlaceLaws.{row_puts, put_new, put_again, put_same}
use Rattle.node_edit.proofs.LeafLaws.{put_order, leaf_within, set_bytes}
use Rattle.node_edit.proofs.SameLength.{held_place, set_record}
use Rattle.node_edit.proofs.leaf_edit.leaf_put.Goals as goal

none : Row
none = (0, [])

pub insert_row-requires-clause-order : goal.insert_row-requires-clause-order
insert_row-requires-clause-order c =
    let e = c.args.expect.now in
    let rows = leaf_rows c.args.left.now in
    put_order e.low e.high c.args.key c.args.value.now rows (insert rows c.leaf_place-at.result (c.args.key, c.args.value.now)) c.requires.above c.requires.within c.enter.ensures.order
    (put_new (row_puts c.args.key c.args.value.now) rows c.leaf_place-at.result (sym c.is_there.ensures.there ∙ c.if-not-is_there.true) c.leaf_place-at.ensures.place)

pub returns-then-not-is_there-clause-fits : goal.returns-then-not-is_there-clause-fits
returns-then-not-is_there-clause-fits c =
    let rows = leaf_rows c.args.left.now in
    subst (λ (all : List Row). Fits leaf_rows c.args.expect.now c.insert_row.new.left c.insert_row.new.right all c.insert_row.result)
    (sym (put_new (row_puts c.args.key c.args.value.now) rows c.leaf_place-at.result (sym c.is_there.ensures.there ∙ c.if-not-is_there.true) c.leaf_place-at.ensures.place)) c.insert_row.ensures.fits

pub insert_row-requires-2-clause-order : goal.insert_row-requires-2-clause-order
insert_row-requires-2-clause-order c =
    let e = c.args.expect.now in
    let rows = leaf_rows c.args.left.now in
    put_order e.low e.high c.args.key c.args.value.now rows (insert (leaf_rows c.leaf_remove.new.page) c.leaf_place-at.result (c.args.key, c.args.value.now)) c.requires.above c.requires.within c.enter.ensures.order
    (put_again (row_puts c.args.key c.args.value.now) rows (leaf_rows c.leaf_remove.new.page) c.leaf_place-at.result (sym c.is_there.ensures.there ∙ c.if-not-is_there.false) c.leaf_place-at.ensures.place c.leaf_remove.ensures.rows)

pub returns-clause-fits : goal.returns-clause-fits
returns-clause-fits c =
    let rows = leaf_rows c.args.left.now in
    subst (λ (all : List Row). Fits leaf_rows c.args.expect.now c.insert_row-2.new.left c.insert_row-2.new.right all c.insert_row-2.result)
    (sym (put_again (row_puts c.args.key c.args.value.now) rows (leaf_rows c.leaf_remove.new.page) c.leaf_place-at.result (sym c.is_there.ensures.there ∙ c.if-not-is_there.false) c.leaf_place-at.ensures.place c.leaf_remove.ensures.rows))
    c.insert_row-2.ensures.fits

pub returns-then-leaf_value-value-clause-fits : goal.returns-then-leaf_value-value-clause-fits
returns-then-leaf_value-value-clause-fits c =
    let e = c.args.expect.now in
    let rows = leaf_rows c.args.left.now in
    let now = leaf_rows c.leaf_set.new.page in
    let at = c.leaf_place-at.result in
    let there = sym c.is_there.ensures.there ∙ c.if-not-is_there.false in
    let set = c.leaf_set.ensures.rows none in
    let is : row_put c.args.key c.args.value.now rows ≡ now =
    put_same c.args.key c.args.value.now rows none there ∙ ap (λ (i : ℕ). slice_set rows i ((get_or rows i none).0, c.args.value.now)) (sym c.leaf_place-at.ensures.place) ∙ sym set in
    let size : row_bytes now ≡ row_bytes rows = ap row_bytes set ∙ set_bytes rows at (get_or rows at none).0 c.args.value.now none (omega (arith, c.is_there.ensures.within c.if-not-is_there.false)) (sym c.if-leaf_value-value.true ∙ ap length (c.leaf_value.ensures.value none)) in
    record {
      well = leaf_within c.leaf_set.new.page e c.open_leaf-then-leaf_value-value.ensures.size c.requires.level c.leaf_set.ensures.leaf (put_order e.low e.high c.args.key c.args.value.now rows now c.requires.above c.requires.within c.enter.ensures.order is)
          (ap (λ (n : ℕ). e.root || nat_le 1344 n) size ∙ c.enter.ensures.full);
      are = sym is;
    }

pub returns-then-not-is_there-clause-again : goal.returns-then-not-is_there-clause-again
returns-then-not-is_there-clause-again c = λ h.
    let e = c.args.expect.now in
    let place = held_place e.low e.high c.args.key h.held (leaf_rows c.args.left.now) c.enter.ensures.order h.is in
    let clash : true ≡ false = sym place.0 ∙ sym c.is_there.ensures.there ∙ c.if-not-is_there.true in
    absurd (cc)

pub returns-then-leaf_value-value-clause-again : goal.returns-then-leaf_value-value-clause-again
returns-then-leaf_value-value-clause-again c = λ h. (
  refl,
  set_record c.args.left.now c.leaf_set.new.page c.args.key c.leaf_place-at.result c.leaf_place-at.ensures.place c.enter.ensures.size c.open_leaf-then-leaf_value-value.ensures.size c.leaf_set.ensures.before c.leaf_set.ensures.after,
)

pub returns-clause-again : goal.returns-clause-again
returns-clause-again c = λ h.
    let e = c.args.expect.now in
    let place = held_place e.low e.high c.args.key h.held (leaf_rows c.args.left.now) c.enter.ensures.order h.is in
    let value = c.leaf_value.ensures.value none in
    let at = ap (λ (i : ℕ). (get_or (leaf_rows c.args.left.now) i none).1) c.leaf_place-at.ensures.place in
    absurd (c.if-leaf_value-value.false (ap length (value ∙ at ∙ place.1 none) ∙ h.long))

pub returns-then-not-is_there-clause-whole : goal.returns-then-not-is_there-clause-whole
returns-then-not-is_there-clause-whole c = λ fits.
    let rows = leaf_rows c.args.left.now in
    c.insert_row.ensures.whole (subst (λ (all : List Row). FitsLeaf (c.args.expect.now.root ≡ true) all)
    (put_new (row_puts c.args.key c.args.value.now) rows c.leaf_place-at.result (sym c.is_there.ensures.there ∙ c.if-not-is_there.true) c.leaf_place-at.ensures.place) fits)

pub returns-clause-whole : goal.returns-clause-whole
returns-clause-whole c = λ fits.
    let rows = leaf_rows c.args.left.now in
    c.insert_row-2.ensures.whole (subst (λ (all : List Row). FitsLeaf (c.args.expect.now.root ≡ true) all)
    (put_again (row_puts c.args.key c.args.value.now) rows (leaf_rows c.leaf_remove.new.page) c.leaf_place-at.result (sym c.is_there.ensures.there ∙ c.if-not-is_there.false) c.leaf_place-at.ensures.place c.leaf_remove.ensures.rows) fits)

pub returns-then-not-is_there-clause-parts : goal.returns-then-not-is_there-clause-parts
returns-then-not-is_there-clause-parts c = λ k is.
    let rows = leaf_rows c.args.left.now in
    subst (λ (all : List Row). CutsRows all (leaf_rows c.insert_row.new.left) (leaf_rows c.insert_row.new.right) k)
    (sym (put_new (row_puts c.args.key c.args.value.now) rows c.leaf_place-at.result (sym c.is_there.ensures.there ∙ c.if-not-is_there.true) c.leaf_place-at.ensures.place)) (c.insert_row.ensures.parts k is)

pub returns-clause-parts : goal.returns-clause-parts
returns-clause-parts c = λ k is.
    let rows = leaf_rows c.args.left.now in
    subst (λ (all : List Row). CutsRows all (leaf_rows c.insert_row-2.new.left) (leaf_rows c.insert_row-2.new.right) k)
    (sym (put_again (row_puts c.args.key c.args.value.now) rows (leaf_rows c.leaf_remove.new.page) c.leaf_place-at.result (sym c.is_there.ensures.there ∙ c.if-not-is_there.false) c.leaf_place-at.ensures.place c.leaf_remove.ensures.rows))
    (c.insert_row-2.ensures.parts k is)
