-- The replies so far, with those of the rows still to come.
use Rattle.std.proofs.Common.{◌≡◌, ◌++◌, drop}
use Rattle.script.specs.Tables.{row_range}
use Rattle.plain_machine.specs.Plain.{row_replies}
use Rattle.plain_machine.proofs.row_list.scan.Given as goal

abbrev pub invariant-loop-row : goal.invariant-loop-row
invariant-loop-row l = record {
  replies : l.replies.items ++ row_replies (row_range l.low l.high (drop l.row-index l.rows)) ≡ l.fn.replies.items ++ row_replies (row_range l.fn.low l.fn.high l.fn.rows);
}
