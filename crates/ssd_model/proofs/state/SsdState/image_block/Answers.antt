use Rattle.std.proofs.Common.{◌∙◌, Some, None}
use Rattle.ssd_model.specs.Contents.{disk_of, synced_of}
use Rattle.ssd_model.proofs.SectorLaws.{found_choice, filled_zero}
use Rattle.ssd_model.proofs.state.SsdState.image_block.Goals as goal

pub returns-in-Some-clause-value : goal.returns-in-Some-clause-value
unfolding disk_of synced_of
returns-in-Some-clause-value c = c.choose.ensures.value ∙ found_choice c.args.self.now.written c.args.self.now.interval c.args.block c.args.choice (Some c.in-Some.sector.now) c.in-Some.ensures.value

pub returns-in-None-clause-value : goal.returns-in-None-clause-value
unfolding disk_of synced_of
returns-in-None-clause-value c = c.fill.ensures.value ∙ filled_zero ∙ found_choice c.args.self.now.written c.args.self.now.interval c.args.block c.args.choice None c.in-None.ensures.value
