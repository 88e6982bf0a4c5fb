use Rattle.page_format.specs.Node.{children}
use Rattle.node_edit.proofs.PairLaws.{is_pair, pair_is}
use Rattle.node_edit.proofs.pair.pair_at.Goals as goal

pub returns-clause-pair : goal.returns-clause-pair
returns-clause-pair c = pair_is c.args.expect.now (children c.args.page.now) c.args.at (0, 0) _ (c.child.ensures (0, 0)) (c.child_key.ensures (0, 0)) (c.child_key-2.ensures (0, 0)) (c.child-2.ensures (0, 0)) (c.high_after.ensures.next (0, 0)) c.high_after.ensures.last

pub returns-clause-is : goal.returns-clause-is
returns-clause-is c = is_pair c.args.expect.now (children c.args.page.now) c.args.at (0, 0) _ c.enter.ensures.are c.requires.at (c.child.ensures (0, 0)) (c.child_key.ensures (0, 0)) (c.child_key-2.ensures (0, 0)) (c.child-2.ensures (0, 0)) (c.high_after.ensures.next (0, 0)) c.high_after.ensures.last
