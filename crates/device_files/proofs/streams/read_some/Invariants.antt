-- A read that fails takes nothing, and the buffer keeps its length.
use Rattle.std.proofs.Common.{◌≡◌, length}
use Rattle.std.specs.Io.KnownBytes.{Keeps}
use Rattle.device_files.proofs.streams.read_some.Given as goal

abbrev pub invariant-tries : goal.invariant-tries
invariant-tries g l = (length l.into ≡ length l.initial.into) × Keeps (g.F.Read.remaining l.initial.from) (g.F.Read.remaining l.from)
