use Rattle.ssd_model.specs.Contents.{disk_of, synced_of}
use Rattle.ssd_model.proofs.SectorLaws.{disk_empty, synced_empty}
use Rattle.ssd_model.proofs.state.SsdState.new.Goals as goal

pub returns-clause-blocks : goal.returns-clause-blocks
unfolding disk_of
returns-clause-blocks c = disk_empty c.new.result 0 c.new.ensures.empty

pub returns-clause-synced : goal.returns-clause-synced
unfolding synced_of
returns-clause-synced c = synced_empty c.new.result 0 c.new.ensures.empty
