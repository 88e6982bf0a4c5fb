use Rattle.std.proofs.Common.{arith}
use Rattle.rows.specs.Rows.{last_key}
use Rattle.page_format.specs.Node.{leaf_rows}
use Rattle.page_edit.proofs.OrderLaws.{insert_between}
use Rattle.page_tests.proofs.editing.cut.Goals as goal

pub leaf_cut-requires-clause-order : goal.leaf_cut-requires-clause-order
leaf_cut-requires-clause-order c =
    let spot = rw c.in-Gap.is at c.place.ensures in
    insert_between 0 last_key c.args.key c.bytes.result.now (leaf_rows c.args.left.now) c.in-Gap.at c.open_leaf.ensures.rows.order (omega arith) (omega arith) spot.2 spot.3
