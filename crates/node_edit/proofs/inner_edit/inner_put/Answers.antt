use Rattle.std.proofs.Common.{List, sym, subst, ◌∙◌}
use Rattle.std.specs.List.{insert}
use Rattle.page_format.specs.Node.{Child, children}
use Rattle.node_edit.specs.Edit.{Fits}
use Rattle.node_edit.specs.Cuts.{CutsChildren}
use Rattle.node_edit.proofs.KeyPlaceLaws.{child_puts, put_new, put_again}
use Rattle.node_edit.proofs.ChildEdits.{put_children}
use Rattle.node_edit.proofs.inner_edit.inner_put.Goals as goal

pub insert_child-requires-clause-are : goal.insert_child-requires-clause-are
insert_child-requires-clause-are c =
    let cs = children c.args.left.now in
    put_children c.args.expect.now cs (insert cs c.child_at-at.result (c.args.key, c.args.child)) c.args.key c.args.child c.enter.ensures.are c.requires.above c.requires.within c.requires.some c.requires.below
    (put_new (child_puts c.args.key c.args.child) cs c.child_at-at.result (sym c.is_there.ensures.there ∙ c.if-not-is_there.true) c.child_at-at.ensures.place)

pub returns-then-not-is_there-clause-fits : goal.returns-then-not-is_there-clause-fits
returns-then-not-is_there-clause-fits c =
    let cs = children c.args.left.now in
    subst (λ (all : List Child). Fits children c.args.expect.now c.insert_child.new.left c.insert_child.new.right all c.insert_child.result)
    (sym (put_new (child_puts c.args.key c.args.child) cs c.child_at-at.result (sym c.is_there.ensures.there ∙ c.if-not-is_there.true) c.child_at-at.ensures.place)) c.insert_child.ensures.fits

pub insert_child-requires-2-clause-are : goal.insert_child-requires-2-clause-are
insert_child-requires-2-clause-are c =
    let cs = children c.args.left.now in
    put_children c.args.expect.now cs (insert (children c.inner_remove.new.page) c.child_at-at.result (c.args.key, c.args.child)) c.args.key c.args.child c.enter.ensures.are c.requires.above c.requires.within c.requires.some c.requires.below
    (put_again (child_puts c.args.key c.args.child) cs (children c.inner_remove.new.page) c.child_at-at.result (sym c.is_there.ensures.there ∙ c.if-not-is_there.false) c.child_at-at.ensures.place c.inner_remove.ensures.children)

pub returns-clause-fits : goal.returns-clause-fits
returns-clause-fits c =
    let cs = children c.args.left.now in
    subst (λ (all : List Child). Fits children c.args.expect.now c.insert_child-2.new.left c.insert_child-2.new.right all c.insert_child-2.result)
    (sym (put_again (child_puts c.args.key c.args.child) cs (children c.inner_remove.new.page) c.child_at-at.result (sym c.is_there.ensures.there ∙ c.if-not-is_there.false) c.child_at-at.ensures.place c.inner_remove.ensures.children))
    c.insert_child-2.ensures.fits

pub returns-then-not-is_there-clause-parts : goal.returns-then-not-is_there-clause-parts
returns-then-not-is_there-clause-parts c = λ k is.
    let cs = children c.args.left.now in
    subst (λ (all : List Child). CutsChildren all (children c.insert_child.new.left) (children c.insert_child.new.right) k)
    (sym (put_new (child_puts c.args.key c.args.child) cs c.child_at-at.result (sym c.is_there.ensures.there ∙ c.if-not-is_there.true) c.child_at-at.ensures.place)) (c.insert_child.ensures.parts k is)

pub returns-clause-parts : goal.returns-clause-parts
returns-clause-parts c = λ k is.
    let cs = children c.args.left.now in
    subst (λ (all : List Child). CutsChildren all (children c.insert_child-2.new.left) (children c.insert_child-2.new.right) k)
    (sym (put_again (child_puts c.args.key c.args.child) cs (children c.inner_remove.new.page) c.child_at-at.result (sym c.is_there.ensures.there ∙ c.if-not-is_there.false) c.child_at-at.ensures.place c.inner_remove.ensures.children))
    (c.insert_child-2.ensures.parts k is)
