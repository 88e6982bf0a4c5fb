use Rattle.std.proofs.Common.{◌≡◌, drop}
use Rattle.rows.specs.Rows.{ascends}
use Rattle.page_format.specs.Node.{children, first_keys}
use Rattle.page_format.proofs.check.first_keys_ascend.Given as goal

abbrev pub invariant-loop-i : goal.invariant-loop-i
invariant-loop-i l = record { so_far : ascends l.low l.high (first_keys (children l.page)) ≡ ascends l.least l.high (first_keys (drop l.i (children l.page))) }
