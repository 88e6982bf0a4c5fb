use Rattle.std.proofs.Common.{◌≡◌, ◌++◌, length, length-drop, arith, ap, subst, ◌∙◌}
use Rattle.page_format.specs.declared.root.Expect.{Expect}
use Rattle.page_edit.specs.Cut.{children_left}
use Rattle.page_format.specs.Node.{children, first_keys, page_level}
use Rattle.node_edit.specs.Edit.{AreChildren, left_of, right_of}
use Rattle.node_edit.proofs.CutLaws.{children_cut}
use Rattle.node_edit.proofs.LeafLaws.{wide_order}
use Rattle.node_edit.proofs.MergeLaws.{children_order, inner_joined, inner_divided, half_facts}
use Rattle.node_edit.proofs.merge.merge_inner.Goals as goal
use Rattle.node_edit.proofs.merge.merge_inner.Goals.{After-top_of}

left_are : (c : After-top_of) → AreChildren (left_of c.args.count c.args.level c.args.pair.now) (children c.args.left.now)
left_are c = subst (λ (e : Expect). AreChildren e (children c.args.left.now)) c.left_expect-one.ensures c.enter.ensures.are

right_are : (c : After-top_of) → AreChildren (right_of c.args.count c.args.level c.args.pair.now) (children c.args.right.now)
right_are c = subst (λ (e : Expect). AreChildren e (children c.args.right.now)) c.right_expect-two.ensures c.enter-2.ensures.are

left_level : (c : After-top_of) → page_level c.args.left.now ≡ c.args.level
left_level c = c.enter.ensures.level ∙ ap (λ (e : Expect). e.level) c.left_expect-one.ensures

right_level : (c : After-top_of) → page_level c.args.right.now ≡ c.args.level
right_level c = c.enter-2.ensures.level ∙ ap (λ (e : Expect). e.level) c.right_expect-two.ensures

pub inner_join-requires-clause-key : goal.inner_join-requires-clause-key
inner_join-requires-clause-key c = (right_are (goal.at.inner_join-requires-clause-key c).After-top_of).begins

pub inner_join-requires-clause-order : goal.inner_join-requires-clause-order
inner_join-requires-clause-order c =
    let p = (goal.at.inner_join-requires-clause-order c).After-top_of in
    wide_order c.args.pair.now.low c.args.pair.now.high (first_keys (children c.args.left.now ++ children c.args.right.now)) (omega (arith, c.top_of.ensures.top, ap (λ (e : Expect). e.high) c.right_expect-two.ensures))
    (children_order c.args.count c.args.pair.now (children c.args.left.now) (children c.args.right.now) c.requires.is (left_are p).order (right_are p).order)

pub returns-then-inner_join-clause-merges : goal.returns-then-inner_join-clause-merges
returns-then-inner_join-clause-merges c = λ enough.
    let p = (goal.at.returns-then-inner_join-clause-merges c).After-top_of in
    inner_joined c.args.count c.args.level c.args.pair.now c.args.left.now c.args.right.now c.inner_join.new.left c.requires.is (left_are p) (right_are p) (left_level p) (c.inner_join.ensures.joined c.if-inner_join.true) enough

pub children-requires : goal.children-requires
children-requires c = (c.inner_join.ensures.divided c.if-inner_join.false).right_branch.inner

pub child_key-requires-clause-inner : goal.child_key-requires-clause-inner
child_key-requires-clause-inner c = (c.inner_join.ensures.divided c.if-inner_join.false).right_branch.inner

pub child_key-requires-clause-at : goal.child_key-requires-clause-at
child_key-requires-clause-at c =
    let v = c.inner_join.ensures.divided c.if-inner_join.false in
    let all = children c.args.left.now ++ children c.args.right.now in
    let half = half_facts (length all) v.over in
    omega (arith, half.1, ap length v.right_children, length-drop (children_left (length all)) all, c.children.ensures.children, c.children.ensures.count)

pub returns-clause-merges : goal.returns-clause-merges
returns-clause-merges c = λ enough.
    let p = (goal.at.returns-clause-merges c).After-top_of in
    inner_divided c.args.count c.args.level c.args.pair.now c.args.left.now c.args.right.now c.inner_join.new.left c.inner_join.new.right c.child_key.result (0, 0) c.requires.is (left_are p) (right_are p) (left_level p) (right_level p)
    (c.inner_join.ensures.divided c.if-inner_join.false) (c.child_key.ensures (0, 0))

pub returns-clause-cut : goal.returns-clause-cut
returns-clause-cut c =
    let p = (goal.at.returns-clause-cut c).After-top_of in
    let d = inner_divided c.args.count c.args.level c.args.pair.now c.args.left.now c.args.right.now c.inner_join.new.left c.inner_join.new.right c.child_key.result (0, 0) c.requires.is (left_are p) (right_are p) (left_level p) (right_level p)
    (c.inner_join.ensures.divided c.if-inner_join.false) (c.child_key.ensures (0, 0)) in
    (d.above, d.within)

pub returns-then-inner_join-clause-joins : goal.returns-then-inner_join-clause-joins
returns-then-inner_join-clause-joins c =
    let j = c.inner_join.ensures.joined c.if-inner_join.true in
    (j.children_are, j.fits)

pub returns-clause-joins : goal.returns-clause-joins
returns-clause-joins c =
    let v = c.inner_join.ensures.divided c.if-inner_join.false in
    let all = children c.args.left.now ++ children c.args.right.now in
    let half = half_facts (length all) v.over in
    children_cut all (children c.inner_join.new.left) (children c.inner_join.new.right) c.child_key.result (0, 0) v.over half.2 v.left_children v.right_children
    (omega (arith, half.1, ap length v.right_children, length-drop (children_left (length all)) all)) (c.child_key.ensures (0, 0))
