use Rattle.std.proofs.Common.{arith}
use Rattle.page_format.specs.Node.{Child, children}
use Rattle.node_edit.proofs.KeyPlaceLaws.{place_within, place_next, place_here}
use Rattle.node_edit.proofs.inner_edit.child_at.Goals as goal

none : Child
none = (0, 0)

pub returns-then-child_key-key-clause-place : goal.returns-then-child_key-key-clause-place
returns-then-child_key-key-clause-place c =
    let is = c.child_key.ensures none in
    place_here c.args.key c.loop-i.i (children c.args.page.now) none (omega (arith, c.children-count.ensures.children)) c.loop-i.invariant (omega (arith, is))

pub loop-i-preserved : goal.loop-i-preserved
loop-i-preserved c =
    let is = c.child_key.ensures none in
    place_next c.args.key c.loop-i.i (children c.args.page.now) none (omega (arith, c.children-count.ensures.children)) c.loop-i.invariant (omega (arith, is))

pub returns-clause-place : goal.returns-clause-place
returns-clause-place c = let most = place_within c.args.key (children c.args.page.now) in omega (arith, most, c.loop-i.invariant, c.children-count.ensures.children)
