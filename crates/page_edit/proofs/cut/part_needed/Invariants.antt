use Rattle.std.proofs.Common.{◌≡◌, ◌+◌, ◌-◌, slice_range}
use Rattle.page_format.specs.Node.{leaf_rows}
use Rattle.page_edit.specs.Cut.{needed}
use Rattle.page_format.specs.Room.{sizes}
use Rattle.page_edit.proofs.cut.part_needed.Given as goal

abbrev pub invariant-loop-i : goal.invariant-loop-i
invariant-loop-i l = record {
  so_far : needed l.all (sizes (slice_range (leaf_rows l.page) l.start l.end)) ≡ l.i - l.start + needed l.goal (sizes (slice_range (leaf_rows l.page) l.i l.end));
}
