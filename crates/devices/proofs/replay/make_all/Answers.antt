use Rattle.std.proofs.Common.{◌∙◌, ap, sym}
use Rattle.ssd_model.specs.Contents.{synced_of}
use Rattle.devices.specs.Past.{made}
use Rattle.devices.specs.State.{State}
use Rattle.devices.specs.Replay.{state_of}
use Rattle.devices.proofs.ReplayLaws.{replay_more, synced_step, synced_more}
use Rattle.devices.proofs.replay.make_all.Goals as goal

pub loop-entry-preserved : goal.loop-entry-preserved
loop-entry-preserved c =
    let begun = state_of c.args.nvm.now c.args.ssd.now in
    let invariant = c.loop-entry.invariant in
    record {
      made = c.in_ok-make_again.ensures.made ∙ ap (λ (s : State). made c.entry-item.result.step s) invariant.made ∙ sym (replay_more begun c.args.entries.now c.loop-entry.entry-index c.entry-item.result c.loop-entry-test.true c.entry-item.is);
      synced = c.in_ok-make_again.ensures.synced ∙ synced_step c.entry-item.result.step invariant.made invariant.synced ∙ sym (synced_more begun (synced_of c.args.ssd.now) c.args.entries.now c.loop-entry.entry-index c.entry-item.result c.loop-entry-test.true c.entry-item.is);
      lines = c.in_ok-make_again.ensures.lines ∙ invariant.lines;
      blocks = c.in_ok-make_again.ensures.blocks ∙ invariant.blocks;
    }
