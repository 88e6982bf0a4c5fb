-- What was copied are the tables so far.
use Rattle.std.proofs.Common.{◌≡◌, take}
use Rattle.plain_machine.proofs.tables.copy.Given as goal

abbrev pub invariant-loop-table : goal.invariant-loop-table
invariant-loop-table l = record { copied : l.copied.items ≡ take l.table-index l.tables }
