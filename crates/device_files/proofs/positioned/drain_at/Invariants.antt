-- The first bytes were written.
use Rattle.std.proofs.Common.{◌≤◌, length, take}
use Rattle.device_files.specs.Positioned.{WritesBytes}
use Rattle.device_files.proofs.positioned.drain_at.Given as goal

abbrev pub invariant-pieces : goal.invariant-pieces
invariant-pieces g l = record {
  within : l.at ≤ length l.bytes;
  written : WritesBytes l.start (take l.at l.bytes) (g.F.PositionedFile.known_bytes l.initial.file) (g.F.PositionedFile.known_bytes l.file);
}
