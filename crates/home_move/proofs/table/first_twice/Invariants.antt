-- The pages of the entries so far were seen, and no other.
use Rattle.std.proofs.Common.{◌≡◌, slice_index}
use Rattle.line_pages.specs.LineSets.{pairs_of, pages_of}
use Rattle.home_move.specs.Table.{SeenSo}
use Rattle.home_move.proofs.table.first_twice.Given as goal

abbrev pub invariant-loop-frame : goal.invariant-loop-frame
invariant-loop-frame l = record {
  seen : SeenSo l.frame (slice_index l.fn.entries) (pairs_of l.seen);
  pages : pages_of l.seen ≡ pages_of l.fn.seen;
}
