-- So far the entries below were loaded.
use Rattle.std.proofs.Common.{◌≡◌, length}
use Rattle.home_move.specs.Table.{EntriesSo}
use Rattle.home_move.proofs.table.load_entries.Given as goal

abbrev pub invariant-loop-frame : goal.invariant-loop-frame
invariant-loop-frame g l = record {
  loads : EntriesSo l.frame l.entries (g.D.Devices.standing l.fn.dev) (g.D.Devices.standing l.dev);
  size : length l.entries ≡ length l.fn.entries;
}
