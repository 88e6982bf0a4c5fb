use Rattle.std.proofs.Common.{◌≡◌, ◌<◌, ℕ, [], length, arith, subst}
use Rattle.std.specs.List.{insert}
use Rattle.rows.specs.Rows.{keys}
use Rattle.page_edit.specs.Cut.{rows_left}
use Rattle.page_format.specs.Node.{leaf_rows}
use Rattle.page_format.specs.Sound.{row_bytes}
use Rattle.page_format.proofs.RowLemmas.{row_bytes-insert}
use Rattle.node_edit.specs.Cuts.{CutsRows}
use Rattle.node_edit.proofs.CutLaws.{rows_cut}
use Rattle.node_edit.proofs.LeafLaws.{wide_order, some_rows, cut_divides}
use Rattle.node_edit.proofs.leaf_edit.cut_row.Goals as goal

pub leaf_cut-requires-clause-order : goal.leaf_cut-requires-clause-order
leaf_cut-requires-clause-order c = wide_order c.args.expect.now.low c.args.expect.now.high (keys (insert (leaf_rows c.args.left.now) c.args.at (c.args.key, c.args.value.now))) c.top_of.ensures.top c.requires.order

pub leaf_key-requires-clause-at : goal.leaf_key-requires-clause-at
leaf_key-requires-clause-at c =
    let over = row_bytes-insert (leaf_rows c.args.left.now) c.args.at (c.args.key, c.args.value.now) in
    let full = c.leaf_cut.ensures.right_full (omega (arith, over, c.requires.over)) in
    some_rows (leaf_rows c.leaf_cut.new.right) (omega (arith, full))

pub returns-clause-fits : goal.returns-clause-fits
returns-clause-fits c =
    let all = insert (leaf_rows c.args.left.now) c.args.at (c.args.key, c.args.value.now) in
    let size = row_bytes-insert (leaf_rows c.args.left.now) c.args.at (c.args.key, c.args.value.now) in
    let over : 4032 < row_bytes all = omega (arith, size, c.requires.over) in
    cut_divides c.args.expect.now c.leaf_cut.new.left c.leaf_cut.new.right (rows_left all) all c.leaf_key.result (0, []) c.open_leaf-2.ensures.size c.open_leaf-3.ensures.size c.requires.level
    c.leaf_cut.ensures.left_leaf c.leaf_cut.ensures.right_leaf c.leaf_cut.ensures.left c.leaf_cut.ensures.right c.requires.order (c.leaf_cut.ensures.left_full over) (c.leaf_cut.ensures.right_full over) (c.leaf_key.ensures (0, []))

pub returns-clause-more : goal.returns-clause-more
returns-clause-more c = omega (arith, row_bytes-insert (leaf_rows c.args.left.now) c.args.at (c.args.key, c.args.value.now), c.requires.over)

pub returns-clause-parts : goal.returns-clause-parts
returns-clause-parts c = λ k is.
    let all = insert (leaf_rows c.args.left.now) c.args.at (c.args.key, c.args.value.now) in
    let size = row_bytes-insert (leaf_rows c.args.left.now) c.args.at (c.args.key, c.args.value.now) in
    let over : 4032 < row_bytes all = omega (arith, size, c.requires.over) in
    let same : c.leaf_key.result ≡ k = cc in
    let full = c.leaf_cut.ensures.right_full over in
    subst (λ (n : ℕ). CutsRows all (leaf_rows c.leaf_cut.new.left) (leaf_rows c.leaf_cut.new.right) n) same
    (rows_cut all (leaf_rows c.leaf_cut.new.left) (leaf_rows c.leaf_cut.new.right) c.leaf_key.result (0, []) over c.leaf_cut.ensures.halves (some_rows (leaf_rows c.leaf_cut.new.right) (omega (arith, full))) (c.leaf_key.ensures (0, [])))
