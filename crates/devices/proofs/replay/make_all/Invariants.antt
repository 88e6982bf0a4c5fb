use Rattle.std.proofs.Common.{◌≡◌, take}
use Rattle.nvm_model.specs.Contents.{lines_of}
use Rattle.ssd_model.specs.Contents.{synced_of, blocks_of}
use Rattle.devices.specs.Past.{replay_from}
use Rattle.devices.specs.Replay.{state_of, synced_from}
use Rattle.devices.proofs.replay.make_all.Given as goal

-- the first calls were made
abbrev pub invariant-loop-entry : goal.invariant-loop-entry
invariant-loop-entry l = record {
  made : state_of l.nvm l.ssd ≡ replay_from (state_of l.fn.nvm l.fn.ssd) (take l.entry-index l.entries);
  synced : synced_of l.ssd ≡ synced_from (state_of l.fn.nvm l.fn.ssd) (synced_of l.fn.ssd) (take l.entry-index l.entries);
  lines : lines_of l.nvm ≡ lines_of l.fn.nvm;
  blocks : blocks_of l.ssd ≡ blocks_of l.fn.ssd;
}
