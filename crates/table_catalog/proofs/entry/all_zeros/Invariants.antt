-- The bytes so far and the bytes to come, together, are those of the slice.
use Rattle.std.proofs.Common.{◌≡◌, ◌&&◌, drop}
use Rattle.std.specs.List.{list_all}
use Rattle.table_catalog.specs.Catalog.{is_zero}
use Rattle.table_catalog.proofs.entry.all_zeros.Given as goal

abbrev pub invariant-loop-byte : goal.invariant-loop-byte
invariant-loop-byte l = record {
  so_far : list_all is_zero l.bytes ≡ (l.all && list_all is_zero (drop l.byte-index l.bytes));
}
