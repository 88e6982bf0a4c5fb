-- A read that fails keeps the length of the buffer.
use Rattle.std.proofs.Common.{◌≡◌, length}
use Rattle.device_files.proofs.positioned.read_piece.Given as goal

abbrev pub invariant-tries : goal.invariant-tries
invariant-tries g l = length l.into ≡ length l.initial.into
