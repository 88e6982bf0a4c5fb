use Rattle.std.proofs.lemmas.Result.{on_ok_weaker, on_err_weaker}
use Rattle.ssd_model.specs.Contents.{disk_of, synced_of}
use Rattle.ssd_model.proofs.SectorLaws.{on_both, disk_written, synced_written, up_to_written, disk_same, synced_same, up_to_same, within_written, within_same}
use Rattle.ssd_model.proofs.state.SsdState.write.Goals as goal

pub invariant_of-self : goal.invariant_of-self
invariant_of-self c = record {
  up_to = on_both c.write_at.result c.write_at.ensures.writes c.write_at.ensures.unchanged
      (λ writes. up_to_written c.args.self.now.written c.write_at.new.written c.args.self.now.interval c.args.block c.args.from.now writes c.args.self.now.up_to)
      (λ same. up_to_same c.args.self.now.written c.write_at.new.written c.args.self.now.interval same c.args.self.now.up_to);
  within = on_both c.write_at.result c.write_at.ensures.writes c.write_at.ensures.unchanged
      (λ writes. within_written c.args.self.now.written c.write_at.new.written c.args.self.now.interval c.args.block c.args.self.now.blocks c.args.from.now writes c.requires c.args.self.now.within)
      (λ same. within_same c.args.self.now.written c.write_at.new.written c.args.self.now.blocks same c.args.self.now.within);
}

pub returns-clause-written : goal.returns-clause-written
unfolding disk_of
returns-clause-written c = on_ok_weaker c.write_at.result (λ writes. disk_written c.args.self.now.written c.write_at.new.written c.args.self.now.interval c.args.block c.args.from.now writes) c.write_at.ensures.writes

pub returns-clause-unchanged : goal.returns-clause-unchanged
unfolding disk_of
returns-clause-unchanged c = on_err_weaker c.write_at.result (λ same. disk_same c.args.self.now.written c.write_at.new.written c.args.self.now.interval same) c.write_at.ensures.unchanged

pub returns-clause-synced : goal.returns-clause-synced
unfolding synced_of
returns-clause-synced c = on_both c.write_at.result c.write_at.ensures.writes c.write_at.ensures.unchanged
    (λ writes. synced_written c.args.self.now.written c.write_at.new.written c.args.self.now.interval c.args.block c.args.from.now writes)
    (λ same. synced_same c.args.self.now.written c.write_at.new.written c.args.self.now.interval same)
