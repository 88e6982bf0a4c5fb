use Rattle.std.proofs.Common.{arith, []}
use Rattle.rows.specs.Rows.{Row}
use Rattle.page_format.specs.Node.{leaf_rows}
use Rattle.node_edit.proofs.KeyPlaceLaws.{place_within, place_next, place_here}
use Rattle.node_edit.proofs.leaf_edit.leaf_place.Goals as goal

none : Row
none = (0, [])

pub returns-then-leaf_key-key-clause-place : goal.returns-then-leaf_key-key-clause-place
returns-then-leaf_key-key-clause-place c =
    let is = c.leaf_key.ensures none in
    place_here c.args.key c.loop-i.i (leaf_rows c.args.page.now) none (omega (arith, c.open_leaf-count.ensures.count)) c.loop-i.invariant (omega (arith, is))

pub loop-i-preserved : goal.loop-i-preserved
loop-i-preserved c =
    let is = c.leaf_key.ensures none in
    place_next c.args.key c.loop-i.i (leaf_rows c.args.page.now) none (omega (arith, c.open_leaf-count.ensures.count)) c.loop-i.invariant (omega (arith, is))

pub returns-clause-place : goal.returns-clause-place
returns-clause-place c = let most = place_within c.args.key (leaf_rows c.args.page.now) in omega (arith, most, c.loop-i.invariant, c.open_leaf-count.ensures.count)
