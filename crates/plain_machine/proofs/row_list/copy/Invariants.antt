-- What was copied are the rows so far.
use Rattle.std.proofs.Common.{◌≡◌, take}
use Rattle.plain_machine.proofs.row_list.copy.Given as goal

abbrev pub invariant-loop-row : goal.invariant-loop-row
invariant-loop-row l = record { copied : l.copied.items ≡ take l.row-index l.rows }
