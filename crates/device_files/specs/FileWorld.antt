-- What contracts see of a world of files: its sizes and its counts. Nothing is told of what the files hold.
use Rattle.std.specs.Prelude.{ℕ, false, []}
use Rattle.nvm_model.specs.Memory.{zeros}
use Rattle.ssd_model.specs.Block.{settled_block}
use Rattle.devices.specs.State.{State}
use Rattle.devices.specs.World.{Standing, Outside}
use Rattle.device_files.specs.declared.counts.CallCounts.{CallCounts}

-- the lines and the blocks that are told, the most that a store needs
abbrev pub told_lines : ℕ
told_lines = 4268048

abbrev pub told_blocks : ℕ
told_blocks = 31033269

-- no call was made
abbrev pub no_counts : CallCounts
no_counts = record { nvm_faults = 0; ssd_faults = 0; block_reads = 0; settings_faults = 0; source_faults = 0; sink_faults = 0 }

-- the state that is named where none is told
unfoldable pub untold_state : State
untold_state = record { nvm = zeros; ssd = λ b. settled_block [] }

-- beside the devices only the counts of faults are known
abbrev pub outside_of : CallCounts → Outside
outside_of counts = record {
  settings = [];
  input = [];
  changes = [];
  settings_faults = counts.settings_faults;
  source_faults = counts.source_faults;
  sink_faults = counts.sink_faults;
}

abbrev pub standing_of : CallCounts → Standing
standing_of counts = record {
  lines = told_lines;
  blocks = told_blocks;
  told = false;
  honest = false;
  clock = 0;
  at = λ m. untold_state;
  nvm_faults = counts.nvm_faults;
  ssd_faults = counts.ssd_faults;
  block_reads = counts.block_reads;
  outside = outside_of counts;
}
