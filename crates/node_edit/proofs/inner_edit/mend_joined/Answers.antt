use Rattle.std.proofs.Common.{◌≡◌, ◌++◌, ◌∷◌, List, arith, sym, ap, subst, ◌∙◌, length}
use Rattle.std.specs.List.{remove, list_all}
use Rattle.rows.specs.Rows.{Ascends}
use Rattle.page_format.specs.Node.{Child, children, begins_at, first_keys, is_page_below}
use Rattle.page_format.proofs.PageFacts.{clash}
use Rattle.node_edit.specs.Edit.{Fits}
use Rattle.page_alloc.proofs.WrittenLaws.{changed_first}
use Rattle.node_edit.proofs.LeafLaws.{none_changed}
use Rattle.node_edit.proofs.ChildEdits.{taken_out}
use Rattle.node_edit.proofs.inner_edit.mend_joined.Goals as goal

pub returns-then-not-is_there-clause-mended : goal.returns-then-not-is_there-clause-mended
returns-then-not-is_there-clause-mended c = λ xs ys was reach_is.
    let t = taken_out c.args.expect.now (children c.args.page.now) c.args.pair.now xs ys c.enter.ensures.are was in
    absurd (clash t.there (sym c.is_there.ensures.there ∙ c.if-not-is_there.true))

pub returns-then-not-is_there-clause-few : goal.returns-then-not-is_there-clause-few
returns-then-not-is_there-clause-few c = let few = none_changed c.args.page.now c.enter.ensures.size in omega (arith, few)

pub returns-clause-mended : goal.returns-clause-mended
returns-clause-mended c = λ xs ys was reach_is.
    let e = c.args.expect.now in
    let pair = c.args.pair.now in
    let t = taken_out e (children c.args.page.now) pair xs ys c.enter.ensures.are was in
    let new = c.inner_remove.new.page in
    let kids : children new ≡ xs ++ ((pair.low, pair.left) ∷ ys) = c.inner_remove.ensures.children ∙ ap (remove (children c.args.page.now)) (c.child_at-at.ensures.place ∙ t.place) ∙ t.out in
    subst (λ (all : List Child). Fits children e new new all c.inner_fit.result) kids
    (c.inner_fit.ensures.fits (c.inner_remove.ensures.level ∙ c.enter.ensures.level) new (ap (begins_at e.low) kids ∙ t.begins) (subst (λ (all : List Child). Ascends e.low e.high (first_keys all)) (sym kids) t.order)
    (ap (list_all (is_page_below e.pages)) kids ∙ t.below) (omega (arith, t.size, ap length kids, c.requires.some, c.enter.ensures.count, c.enter.ensures.entries)))

pub returns-clause-few : goal.returns-clause-few
returns-clause-few c = changed_first c.args.page.now c.inner_remove.new.page 61 c.enter.ensures.size c.byte.ensures.size (omega arith) c.inner_remove.ensures.rest
