use Rattle.std.proofs.Common.{◌∙◌, Some, None}
use Rattle.ssd_model.specs.Contents.{disk_of}
use Rattle.ssd_model.proofs.SectorLaws.{found_bytes, filled_zero}
use Rattle.ssd_model.proofs.state.SsdState.read.Goals as goal

pub returns-in-Some-clause-value : goal.returns-in-Some-clause-value
unfolding disk_of
returns-in-Some-clause-value c = c.read.ensures.value ∙ found_bytes c.args.self.now.written c.args.self.now.interval c.args.block (Some c.in-Some.sector.now) c.in-Some.ensures.value

pub returns-in-None-clause-value : goal.returns-in-None-clause-value
unfolding disk_of
returns-in-None-clause-value c = c.fill.ensures.value ∙ filled_zero ∙ found_bytes c.args.self.now.written c.args.self.now.interval c.args.block None c.in-None.ensures.value
