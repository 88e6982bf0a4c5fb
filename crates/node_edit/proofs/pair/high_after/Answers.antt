use Rattle.std.proofs.Common.{◌+◌, arith}
use Rattle.page_format.specs.Node.{children}
use Rattle.node_edit.proofs.PairLaws.{key_before}
use Rattle.node_edit.proofs.pair.high_after.Goals as goal

pub overflow_sub-result : goal.overflow_sub-result
overflow_sub-result c =
    let less = key_before c.args.expect.now (children c.args.page.now) (c.args.at + 1) (c.args.at + 2) (0, 0) c.enter-count.ensures.are (omega arith) (omega (arith, c.enter-count.ensures.count)) in
    omega (arith, less, c.child_key.ensures (0, 0))

pub returns-then-at-count-clause-next : goal.returns-then-at-count-clause-next
returns-then-at-count-clause-next c = λ d within.
    let less = key_before c.args.expect.now (children c.args.page.now) (c.args.at + 1) (c.args.at + 2) d c.enter-count.ensures.are (omega arith) (omega (arith, c.enter-count.ensures.count)) in
    omega (arith, less, c.child_key.ensures d)
