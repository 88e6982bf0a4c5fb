-- A write that fails sends nothing.
use Rattle.std.specs.Io.KnownBytes.{Keeps}
use Rattle.device_files.proofs.streams.write_some.Given as goal

abbrev pub invariant-tries : goal.invariant-tries
invariant-tries g l = Keeps (g.F.Write.contents l.initial.to) (g.F.Write.contents l.to)
