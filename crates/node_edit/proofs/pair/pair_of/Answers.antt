use Rattle.page_format.specs.Node.{children}
use Rattle.std.proofs.Common.{arith}
use Rattle.node_edit.proofs.PairLaws.{pairs_right, pairs_left}
use Rattle.node_edit.proofs.pair.pair_of.Goals as goal

pub returns-then-at-count-clause-pair : goal.returns-then-at-count-clause-pair
returns-then-at-count-clause-pair c =
    pairs_right c.args.expect.now (children c.args.page.now) c.args.key c.child_at-at.result c.pair_at.result c.enter-count.ensures.are c.child_at-at.ensures.place (omega (arith, c.enter-count.ensures.count)) c.pair_at.ensures.pair

pub returns-clause-pair : goal.returns-clause-pair
returns-clause-pair c =
    pairs_left c.args.expect.now (children c.args.page.now) c.args.key c.child_at-at.result c.enter-count.result c.pair_at-2.result c.enter-count.ensures.are c.child_at-at.ensures.place c.enter-count.ensures.count (omega arith) c.pair_at-2.ensures.pair
