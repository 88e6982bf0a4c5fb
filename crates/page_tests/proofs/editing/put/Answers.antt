use Rattle.std.proofs.Common.{arith}
use Rattle.rows.specs.Rows.{last_key}
use Rattle.page_format.specs.Node.{leaf_rows}
use Rattle.page_edit.proofs.OrderLaws.{insert_between}
use Rattle.page_tests.proofs.editing.put.Goals as goal

pub leaf_insert-requires-clause-order : goal.leaf_insert-requires-clause-order
leaf_insert-requires-clause-order c =
    let spot = rw c.in-Gap.is at c.place.ensures in
    insert_between 0 last_key c.args.key c.bytes-in-Gap.result.now (leaf_rows c.args.page.now) c.in-Gap.at c.open_leaf.ensures.rows.order (omega arith) (omega arith) spot.2 spot.3
