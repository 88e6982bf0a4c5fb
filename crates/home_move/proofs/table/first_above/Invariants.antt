-- No entry so far is above the number of pages.
use Rattle.std.proofs.Common.{slice_index}
use Rattle.home_move.specs.Table.{AreBelow}
use Rattle.home_move.proofs.table.first_above.Given as goal

abbrev pub invariant-loop-frame : goal.invariant-loop-frame
invariant-loop-frame l = AreBelow l.fn.pages l.frame (slice_index l.fn.entries)
