-- A write that fails writes nothing.
use Rattle.std.specs.Io.KnownBytes.{Keeps}
use Rattle.device_files.proofs.positioned.write_piece.Given as goal

abbrev pub invariant-tries : goal.invariant-tries
invariant-tries g l = Keeps (g.F.PositionedFile.known_bytes l.initial.file) (g.F.PositionedFile.known_bytes l.file)
