use Rattle.std.proofs.Common.{◌≡◌, slice_range}
use Rattle.page_format.specs.Node.{leaf_rows}
use Rattle.page_format.specs.Sound.{row_bytes}
use Rattle.page_edit.proofs.cut.part_bytes.Given as goal

abbrev pub invariant-loop-i : goal.invariant-loop-i
invariant-loop-i l = record { so_far : l.total ≡ row_bytes (slice_range (leaf_rows l.page) l.start l.i) }
