use Rattle.std.proofs.Common.{[], ◌≡◌, ◌+◌, ◌/◌, ◌++◌, ◌∙◌, ℕ, List, length, take, drop, slice_range, ap, sym, arith}
use Rattle.std.specs.List.{insert}
use Rattle.std.proofs.lemmas.List.Edits.{length-insert}
use Rattle.page_format.specs.Node.{Child, children, page_level}
use Rattle.page_edit.proofs.CutLemmas.{back_is}
use Rattle.page_edit.proofs.ChildLemmas.{branch_front, branch_back, cut_at_half}
use Rattle.page_edit.proofs.inner.inner_cut.Goals as goal

pub returns-clause-left : goal.returns-clause-left
returns-clause-left c =
    let old = children c.args.left.now in
    let all = insert old c.args.at (c.args.key, c.args.child) in
    let half = cut_at_half old c.args.at c.children-count.result (c.args.key, c.args.child) c.children-count.ensures.children c.requires.at in
    c.keep_children.ensures.children ∙ ap (take ((c.children-count.result + 2) / 2)) c.insert_child.ensures.children ∙ ap (λ (k : ℕ). take k all) (sym half)

right_is : (all now left none : List Child) (part end : ℕ) → now ≡ none ++ slice_range left part end → none ≡ [] → left ≡ all → end ≡ length all → now ≡ drop part all
right_is all now left none part end put empty is last =
    put ∙ ap (λ (xs : List Child). xs ++ slice_range left part end) empty ∙ ap (λ (xs : List Child). slice_range xs part end) is ∙ ap (slice_range all part) last ∙ back_is all part

pub returns-clause-right : goal.returns-clause-right
returns-clause-right c =
    let old = children c.args.left.now in
    let all = insert old c.args.at (c.args.key, c.args.child) in
    let half = cut_at_half old c.args.at c.children-count.result (c.args.key, c.args.child) c.children-count.ensures.children c.requires.at in
    let size = length-insert old c.args.at (c.args.key, c.args.child) c.requires.at in
    right_is all _ _ _ ((c.children-count.result + 2) / 2) (c.children-count.result + 1) c.push_children.ensures.children c.clear_inner.ensures.children c.insert_child.ensures.children (omega (arith, size, c.children-count.ensures.children)) ∙ ap (λ (k : ℕ). drop k all) (sym half)

pub returns-clause-left_branch : goal.returns-clause-left_branch
returns-clause-left_branch c =
    let old = children c.args.left.now in
    let all = insert old c.args.at (c.args.key, c.args.child) in
    let size = length-insert old c.args.at (c.args.key, c.args.child) c.requires.at in
    branch_front c.keep_children.new.page all ((c.children-count.result + 2) / 2) (page_level c.args.left.now) c.keep_children.ensures.inner (c.keep_children.ensures.children ∙ ap (take ((c.children-count.result + 2) / 2)) c.insert_child.ensures.children)
    (c.keep_children.ensures.level ∙ c.insert_child.ensures.level) c.requires.branch.above (omega (arith, size, c.children-count.ensures.children)) (omega (arith, c.children-count.ensures.children, c.requires.branch.room)) c.requires.order

pub returns-clause-right_branch : goal.returns-clause-right_branch
returns-clause-right_branch c =
    let old = children c.args.left.now in
    let all = insert old c.args.at (c.args.key, c.args.child) in
    let size = length-insert old c.args.at (c.args.key, c.args.child) c.requires.at in
    branch_back c.push_children.new.page all ((c.children-count.result + 2) / 2) (page_level c.args.left.now) c.push_children.ensures.inner
    (right_is all _ _ _ ((c.children-count.result + 2) / 2) (c.children-count.result + 1) c.push_children.ensures.children c.clear_inner.ensures.children c.insert_child.ensures.children (omega (arith, size, c.children-count.ensures.children)))
    (c.push_children.ensures.level ∙ c.clear_inner.ensures.level ∙ c.page_word-level.ensures.value) c.requires.branch.above (omega (arith, size, c.children-count.ensures.children, c.requires.branch.room)) c.requires.order
