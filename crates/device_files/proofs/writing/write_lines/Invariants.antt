-- Once the run is written, the lines so far are.
use Rattle.std.proofs.Common.{take}
use Rattle.device_files.specs.Run.{Pends}
use Rattle.device_files.proofs.writing.write_lines.Given as goal

abbrev pub invariant-loop-placed : goal.invariant-loop-placed
invariant-loop-placed g l = Pends (take l.placed-index l.lines) l.run (g.F.PositionedFile.known_bytes l.fn.file) (g.F.PositionedFile.known_bytes l.file)
