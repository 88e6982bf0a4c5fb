use Rattle.std.proofs.Common.{rules}
use Rattle.std.proofs.lemmas.List.{take_more}
use Rattle.device_files.proofs.RunLaws.{pends_more}
use Rattle.device_files.proofs.writing.write_lines.Goals as goal

pub loop-placed-preserved : goal.loop-placed-preserved
loop-placed-preserved g c = pends_more _ _ _ _ _ _ _ _ (take_more _ _ _ (search rules)) c.loop-placed.invariant c.in_ok-add_line.ensures
