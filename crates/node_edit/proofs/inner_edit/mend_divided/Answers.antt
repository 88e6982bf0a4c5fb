use Rattle.std.proofs.Common.{◌≡◌, ◌++◌, ◌∷◌, ℕ, List, arith, sym, ap, subst, ◌∙◌}
use Rattle.std.specs.List.{remove}
use Rattle.ssd_model.specs.Page.{Same}
use Rattle.rows.specs.Rows.{Ascends, last_key}
use Rattle.page_format.specs.Node.{Child, children, first_keys}
use Rattle.page_format.proofs.PageFacts.{clash}
use Rattle.page_alloc.proofs.WrittenLaws.{changed_first}
use Rattle.node_edit.proofs.LeafLaws.{none_changed}
use Rattle.node_edit.specs.Edit.{has_key}
use Rattle.node_edit.proofs.ChildEdits.{taken_out, put_back, mended_divided, child_order}
use Rattle.node_edit.proofs.KeyPlaceLaws.{child_puts, put_new}
use Rattle.node_edit.proofs.inner_edit.mend_divided.Goals as goal

pub returns-then-not-is_there-clause-mended : goal.returns-then-not-is_there-clause-mended
returns-then-not-is_there-clause-mended c = λ xs ys was reach_is.
    let t = taken_out c.args.expect.now (children c.args.page.now) c.args.pair.now xs ys c.enter.ensures.are was in
    absurd (clash t.there (sym c.is_there.ensures.there ∙ c.if-not-is_there.true))

pub returns-then-not-is_there-clause-few : goal.returns-then-not-is_there-clause-few
returns-then-not-is_there-clause-few c = let few = none_changed c.args.page.now c.enter.ensures.size in omega (arith, few)

pub returns-then-is_there-clause-mended : goal.returns-then-is_there-clause-mended
returns-then-is_there-clause-mended c = λ xs ys was reach_is.
    let e = c.args.expect.now in
    let pair = c.args.pair.now in
    let t = taken_out e (children c.args.page.now) pair xs ys c.enter.ensures.are was in
    let p = put_back e c.args.key (children c.args.page.now) pair xs ys t c.requires.cut reach_is in
    let rest : children c.inner_remove.new.page ≡ xs ++ ((pair.low, pair.left) ∷ ys) = c.inner_remove.ensures.children ∙ ap (remove (children c.args.page.now)) (c.child_at-at.ensures.place ∙ t.place) ∙ t.out in
    absurd (clash (sym c.is_there-2.ensures.there ∙ c.if-is_there.true) (ap (has_key c.args.key) rest ∙ p.none))

pub returns-then-is_there-clause-few : goal.returns-then-is_there-clause-few
returns-then-is_there-clause-few c = changed_first c.args.page.now c.inner_remove.new.page 61 c.enter.ensures.size c.byte.ensures.size (omega arith) c.inner_remove.ensures.rest

pub inner_insert-requires-clause-order : goal.inner_insert-requires-clause-order
inner_insert-requires-clause-order c =
    let mid = children c.inner_remove.new.page in
    subst (λ (all : List Child). Ascends 0 last_key (first_keys all)) (put_new (child_puts c.args.key c.args.pair.now.right) mid c.child_at-place.result (sym c.is_there-2.ensures.there ∙ c.if-is_there.false) c.child_at-place.ensures.place)
    (child_order 0 last_key c.args.key c.args.pair.now.right mid (omega arith) (omega arith) c.inner_remove.ensures.branch.order)

pub returns-clause-mended : goal.returns-clause-mended
returns-clause-mended c = λ xs ys was reach_is.
    mended_divided c.args.expect.now c.args.page.now c.inner_insert.new.page c.inner_remove.new.page c.args.key c.child_at-at.result c.child_at-place.result c.args.pair.now c.requires.cut c.enter.ensures.are c.child_at-at.ensures.place c.inner_remove.ensures.children
    c.child_at-place.ensures.place (sym c.is_there-2.ensures.there ∙ c.if-is_there.false) c.inner_insert.ensures.children (c.inner_insert.ensures.level ∙ c.inner_remove.ensures.level ∙ c.enter.ensures.level) c.inner_insert.ensures.branch xs ys was reach_is

both_same : (one two three : List ℕ) → Same 3904 4096 one two → Same 3904 4096 two three → Same 3904 4096 one three
both_same one two three first second = record { each = λ j low high. second.each j low high ∙ first.each j low high }

pub returns-clause-few : goal.returns-clause-few
returns-clause-few c = changed_first c.args.page.now c.inner_insert.new.page 61 c.enter.ensures.size c.byte-2.ensures.size (omega arith)
    (both_same c.args.page.now c.inner_remove.new.page c.inner_insert.new.page c.inner_remove.ensures.rest c.inner_insert.ensures.rest)
