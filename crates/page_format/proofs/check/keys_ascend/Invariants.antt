use Rattle.std.proofs.Common.{◌≡◌, drop}
use Rattle.rows.specs.Rows.{ascends, keys}
use Rattle.page_format.specs.Node.{leaf_rows}
use Rattle.page_format.proofs.check.keys_ascend.Given as goal

abbrev pub invariant-loop-i : goal.invariant-loop-i
invariant-loop-i l = record { so_far : ascends l.low l.high (keys (leaf_rows l.page)) ≡ ascends l.least l.high (keys (drop l.i (leaf_rows l.page))) }
