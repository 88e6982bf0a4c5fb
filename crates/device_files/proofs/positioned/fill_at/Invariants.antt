-- What was filled is what stands from the start on.
use Rattle.std.proofs.Common.{◌≡◌, ◌≤◌, ◌+◌, length, take}
use Rattle.std.specs.Io.KnownBytes.{Consumes}
use Rattle.device_files.specs.Positioned.{bytes_from}
use Rattle.device_files.proofs.positioned.fill_at.Given as goal

abbrev pub invariant-pieces : goal.invariant-pieces
invariant-pieces g l = record {
  same_length : length l.into ≡ length l.initial.into;
  within : l.at ≤ length l.into;
  taken : Consumes (bytes_from (g.F.PositionedFile.known_bytes l.file) l.start) (bytes_from (g.F.PositionedFile.known_bytes l.file) (l.start + l.at)) (take l.at l.into);
}
