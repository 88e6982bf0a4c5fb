use Rattle.std.proofs.Common.{◌≡◌, ◌≤◌, inl, inr, ◌∙◌, sym, ◌-◌, ◌++◌, [], arith, ap, subst}
use Rattle.page_format.specs.declared.root.Expect.{Expect}
use Rattle.rows.specs.Rows.{keys, Ascends}
use Rattle.page_format.specs.Node.{leaf_rows}
use Rattle.page_format.specs.Sound.{row_bytes}
use Rattle.node_edit.proofs.CutLaws.{rows_cut}
use Rattle.node_edit.proofs.LeafLaws.{wide_order, some_rows}
use Rattle.node_edit.proofs.MergeLaws.{rows_order, leaves_joined, leaves_divided, leaves_kept}
use Rattle.node_edit.proofs.merge.merge_leaves.Goals as goal
use Rattle.node_edit.proofs.merge.merge_leaves.Goals.{After-top_of}

left_order : (c : After-top_of) → Ascends c.args.pair.now.low (c.args.pair.now.middle - 1) (keys (leaf_rows c.args.left.now))
left_order c = subst (λ (e : Expect). Ascends e.low e.high (keys (leaf_rows c.args.left.now))) c.left_expect-one.ensures c.enter.ensures.order

right_order : (c : After-top_of) → Ascends c.args.pair.now.middle c.args.pair.now.high (keys (leaf_rows c.args.right.now))
right_order c = subst (λ (e : Expect). Ascends e.low e.high (keys (leaf_rows c.args.right.now))) c.right_expect-two.ensures c.enter-2.ensures.order

both_order : (c : After-top_of) → Ascends c.args.pair.now.low c.args.pair.now.high (keys (leaf_rows c.args.left.now ++ leaf_rows c.args.right.now))
both_order c = rows_order c.args.count c.args.pair.now (leaf_rows c.args.left.now) (leaf_rows c.args.right.now) c.requires.is (left_order c) (right_order c)

pub leaf_join-requires-clause-order : goal.leaf_join-requires-clause-order
leaf_join-requires-clause-order c =
    wide_order c.args.pair.now.low c.args.pair.now.high (keys (leaf_rows c.args.left.now ++ leaf_rows c.args.right.now)) (omega (arith, c.top_of.ensures.top, ap (λ (e : Expect). e.high) c.right_expect-two.ensures))
    (both_order (goal.at.leaf_join-requires-clause-order c).After-top_of)

pub returns-then-are_full-clause-merges : goal.returns-then-are_full-clause-merges
returns-then-are_full-clause-merges c = λ enough.
    let p = (goal.at.returns-then-are_full-clause-merges c).After-top_of in
    let full = c.are_full.ensures.full c.if-are_full.true in
    leaves_kept c.args.count c.args.pair.now c.args.left.now c.args.right.now c.requires.is c.enter.ensures.size c.enter-2.ensures.size c.enter.ensures.leaf c.enter-2.ensures.leaf (left_order p) (right_order p) full.0 full.1

pub returns-then-leaf_join-clause-merges : goal.returns-then-leaf_join-clause-merges
returns-then-leaf_join-clause-merges c = λ enough.
    let p = (goal.at.returns-then-leaf_join-clause-merges c).After-top_of in
    leaves_joined c.args.count c.args.pair.now c.args.left.now c.args.right.now c.leaf_join.new.left c.open_leaf.ensures.size (c.leaf_join.ensures.joined c.if-leaf_join.true) (both_order p) enough

pub returns-clause-merges : goal.returns-clause-merges
returns-clause-merges c = λ enough.
    let p = (goal.at.returns-clause-merges c).After-top_of in
    leaves_divided c.args.count c.args.pair.now c.args.left.now c.args.right.now c.leaf_join.new.left c.leaf_join.new.right c.leaf_key.result (0, []) c.open_leaf-2.ensures.size c.open_leaf-3.ensures.size
    (c.leaf_join.ensures.divided c.if-leaf_join.false) (both_order p) (c.leaf_key.ensures (0, []))

pub returns-clause-cut : goal.returns-clause-cut
returns-clause-cut c =
    let p = (goal.at.returns-clause-cut c).After-top_of in
    let d = leaves_divided c.args.count c.args.pair.now c.args.left.now c.args.right.now c.leaf_join.new.left c.leaf_join.new.right c.leaf_key.result (0, []) c.open_leaf-2.ensures.size c.open_leaf-3.ensures.size
    (c.leaf_join.ensures.divided c.if-leaf_join.false) (both_order p) (c.leaf_key.ensures (0, [])) in
    (d.above, d.within)

pub returns-then-are_full-clause-joins : goal.returns-then-are_full-clause-joins
returns-then-are_full-clause-joins c = λ short.
    let full = c.are_full.ensures.full c.if-are_full.true in
    elim short [
      | inl low ↦ absurd (omega (arith, low, full.0))
      | inr low ↦ absurd (omega (arith, low, full.1))
    ]

pub returns-then-leaf_join-clause-joins : goal.returns-then-leaf_join-clause-joins
returns-then-leaf_join-clause-joins c = λ short.
    let j = c.leaf_join.ensures.joined c.if-leaf_join.true in
    (j.rows, j.fits)

pub returns-clause-joins : goal.returns-clause-joins
returns-clause-joins c = λ short.
    let v = c.leaf_join.ensures.divided c.if-leaf_join.false in
    rows_cut (leaf_rows c.args.left.now ++ leaf_rows c.args.right.now) (leaf_rows c.leaf_join.new.left) (leaf_rows c.leaf_join.new.right) c.leaf_key.result (0, []) v.over v.halves
    (some_rows (leaf_rows c.leaf_join.new.right) (omega (arith, v.right_full))) (c.leaf_key.ensures (0, []))
