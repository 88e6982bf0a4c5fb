use Rattle.std.proofs.Common.{◌≡◌, ℕ, subst, length, length-drop, arith, sym, ap, ◌∙◌}
use Rattle.std.specs.List.{insert}
use Rattle.std.proofs.lemmas.List.Edits.{length-insert}
use Rattle.page_edit.specs.Cut.{children_left}
use Rattle.page_format.specs.Node.{children, first_keys}
use Rattle.node_edit.specs.Cuts.{CutsChildren}
use Rattle.node_edit.proofs.CutLaws.{children_cut}
use Rattle.node_edit.proofs.LeafLaws.{wide_order}
use Rattle.node_edit.proofs.ChildEdits.{inner_within, cut_children_divide, half_of_full}
use Rattle.node_edit.proofs.inner_edit.insert_child.Goals as goal

pub inner_insert-requires-clause-order : goal.inner_insert-requires-clause-order
inner_insert-requires-clause-order c = wide_order c.args.expect.now.low c.args.expect.now.high (first_keys (insert (children c.args.left.now) c.args.at (c.args.key, c.args.child))) c.top_of.ensures.top c.requires.are.order

pub inner_cut-requires-clause-order : goal.inner_cut-requires-clause-order
inner_cut-requires-clause-order c = wide_order c.args.expect.now.low c.args.expect.now.high (first_keys (insert (children c.args.left.now) c.args.at (c.args.key, c.args.child))) c.top_of.ensures.top c.requires.are.order

pub returns-then-children-lt240-clause-fits : goal.returns-then-children-lt240-clause-fits
returns-then-children-lt240-clause-fits c =
    let all = insert (children c.args.left.now) c.args.at (c.args.key, c.args.child) in
    let are = c.requires.are in
    record {
      well = inner_within c.inner_insert.new.page c.args.expect.now all (sym (c.inner_insert.ensures.level ∙ c.requires.level)) c.inner_insert.ensures.branch c.inner_insert.ensures.children are.some are.begins are.order are.below are.full;
      are = c.inner_insert.ensures.children;
    }

pub child_key-requires-clause-at : goal.child_key-requires-clause-at
child_key-requires-clause-at c =
    let all = insert (children c.args.left.now) c.args.at (c.args.key, c.args.child) in
    let size : length all ≡ 241 = length-insert (children c.args.left.now) c.args.at (c.args.key, c.args.child) c.requires.at ∙ omega (arith, c.requires.branch.room, c.if-children-lt240.false, c.children.ensures.children) in
    let half = half_of_full (length all) size in
    omega (arith, ap length c.inner_cut.ensures.right, length-drop (children_left (length all)) all, half, size, c.children-2.ensures.children, c.children-2.ensures.count)

pub returns-clause-fits : goal.returns-clause-fits
returns-clause-fits c =
    let all = insert (children c.args.left.now) c.args.at (c.args.key, c.args.child) in
    let are = c.requires.are in
    let size : length all ≡ 241 = length-insert (children c.args.left.now) c.args.at (c.args.key, c.args.child) c.requires.at ∙ omega (arith, c.requires.branch.room, c.if-children-lt240.false, c.children.ensures.children) in
    let half = half_of_full (length all) size in
    cut_children_divide c.args.expect.now c.inner_cut.new.left c.inner_cut.new.right (children_left (length all)) all c.child_key.result (0, 0) (sym (c.inner_cut.ensures.left_level ∙ c.requires.level)) (sym (c.inner_cut.ensures.right_level ∙ c.requires.level))
    c.inner_cut.ensures.left_branch c.inner_cut.ensures.right_branch c.inner_cut.ensures.left c.inner_cut.ensures.right (omega (arith, half, size)) (omega (arith, half)) (omega (arith, half, size)) are.begins are.order are.below (c.child_key.ensures (0, 0))

pub returns-clause-parts : goal.returns-clause-parts
returns-clause-parts c = λ k is.
    let all = insert (children c.args.left.now) c.args.at (c.args.key, c.args.child) in
    let size : length all ≡ 241 = length-insert (children c.args.left.now) c.args.at (c.args.key, c.args.child) c.requires.at ∙ omega (arith, c.requires.branch.room, c.if-children-lt240.false, c.children.ensures.children) in
    let half = half_of_full (length all) size in
    let same : c.child_key.result ≡ k = cc in
    subst (λ (n : ℕ). CutsChildren all (children c.inner_cut.new.left) (children c.inner_cut.new.right) n) same
    (children_cut all (children c.inner_cut.new.left) (children c.inner_cut.new.right) c.child_key.result (0, 0) (omega (arith, size)) (omega (arith, half, size)) c.inner_cut.ensures.left c.inner_cut.ensures.right
    (omega (arith, ap length c.inner_cut.ensures.right, length-drop (children_left (length all)) all, half, size)) (c.child_key.ensures (0, 0)))
