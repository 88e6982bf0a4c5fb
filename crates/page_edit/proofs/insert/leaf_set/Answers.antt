use Rattle.std.proofs.Common.{[], ◌∙◌, get_or, ap, sym, subst, arith}
use Rattle.rows.specs.Rows.{Row}
use Rattle.page_format.specs.Node.{leaf_rows}
use Rattle.page_format.specs.Sound.{IsRows}
use Rattle.page_format.proofs.FactLemmas.{leaf_is}
use Rattle.page_edit.proofs.LeafLemmas.{rows_set_is, value_size}
use Rattle.page_format.proofs.SlotLemmas.{row_at}
use Rattle.page_edit.proofs.insert.leaf_set.Goals as goal

pub set_value-requires-clause-length : goal.set_value-requires-clause-length
set_value-requires-clause-length c = value_size c.args.page.now c.args.at _ (0, []) c.open_leaf.ensures.sound (omega arith) (c.requires.same (0, []))

pub returns-clause-leaf : goal.returns-clause-leaf
returns-clause-leaf c =
    let rows = leaf_rows c.args.page.now in
    let d : Row = (0, c.args.value.now) in
    let row : Row = ((get_or rows c.args.at d).0, c.args.value.now) in
    let within = c.open_leaf.ensures.entries in
    let key = ap (λ (r : Row). r.0) (row_at c.args.page.now c.args.at d (omega arith) ∙ sym (row_at c.args.page.now c.args.at row (omega arith))) in
    leaf_is c.set_value.new.page c.set_value.ensures.sound
    (subst IsRows (sym (c.set_value.ensures.rows d)) (rows_set_is rows c.args.at row c.open_leaf.ensures.rows key (c.requires.same row) c.requires.printable))
