use Rattle.ssd_model.specs.Contents.{disk_of, synced_of}
use Rattle.ssd_model.proofs.SectorLaws.{disk_restarted, disk_synced_restarted, up_to_restarted, within_restarted, disk_next, disk_synced_next, up_to_next}
use Rattle.ssd_model.proofs.state.SsdState.sync.Goals as goal

pub invariant_of-self : goal.invariant_of-self
invariant_of-self c = record {
  up_to = up_to_restarted c.args.self.now.written c.restart_all.new.written c.restart_all.ensures;
  within = within_restarted c.args.self.now.written c.restart_all.new.written c.args.self.now.blocks c.restart_all.ensures c.args.self.now.within;
}

pub invariant_of-self-else-self : goal.invariant_of-self-else-self
invariant_of-self-else-self c = record { up_to = up_to_next c.args.self.now.written c.args.self.now.interval c.args.self.now.up_to; within = c.args.self.now.within }

pub returns-then-self-clause-settled : goal.returns-then-self-clause-settled
unfolding disk_of
returns-then-self-clause-settled c = disk_restarted c.args.self.now.written c.restart_all.new.written c.args.self.now.interval c.restart_all.ensures

pub returns-then-self-clause-synced : goal.returns-then-self-clause-synced
unfolding disk_of synced_of
returns-then-self-clause-synced c = disk_synced_restarted c.args.self.now.written c.restart_all.new.written c.args.self.now.interval c.restart_all.ensures

pub returns-else-self-clause-settled : goal.returns-else-self-clause-settled
unfolding disk_of
returns-else-self-clause-settled c = disk_next c.args.self.now.written c.args.self.now.interval c.args.self.now.up_to

pub returns-else-self-clause-synced : goal.returns-else-self-clause-synced
unfolding disk_of synced_of
returns-else-self-clause-synced c = disk_synced_next c.args.self.now.written c.args.self.now.interval c.args.self.now.up_to
