-- The bytes so far and the bytes to come, together, are those of the slice.
use Rattle.std.proofs.Common.{◌≡◌, ◌&&◌, drop}
use Rattle.std.specs.List.{list_all}
use Rattle.rows.specs.Value.{is_printable}
use Rattle.rows.proofs.value.all_printable.Given as goal

abbrev pub invariant-loop-byte : goal.invariant-loop-byte
invariant-loop-byte l = record {
  so_far : list_all is_printable l.bytes ≡ (l.all && list_all is_printable (drop l.byte-index l.bytes));
}
