-- What the read of a log line gives.
use Rattle.std.specs.Prelude.{◌≡◌, ℕ, ◌<◌, ◌≤◌, IsTrue, Result, IfOk}
use Rattle.nvm_model.specs.declared.line.Line.{Line}
use Rattle.devices.specs.State.{current}
use Rattle.devices.specs.World.{Standing, Counts, now}
use Rattle.store_model.specs.Recovered.{log_line, block_line}
use Rattle.nvm_layout.specs.Sizes.{sizes_of}
use Rattle.nvm_log.specs.declared.log.Log.{Log}

-- It is the line at the offset, out of the ring in which it stands; one block is read where that is the ring on the SSD.
pub record ReadsLine {E : Type 0} (log : Log) (offset : ℕ) (old new : Standing) (result : Result Line E) : Type 0 where
  pub value : IsTrue old.told → IfOk result (λ found. found ≡ log_line (sizes_of log.geometry) log.drained (current (now old)) offset)
  pub in_nvm : log.drained ≤ offset → new.block_reads ≡ old.block_reads
  pub in_ssd : offset < log.drained → Counts old new

-- the line of a block, and that one block is read
pub record ReadsBlockLine {E : Type 0} (block line : ℕ) (old new : Standing) (result : Result Line E) : Type 0 where
  pub value : IsTrue old.told → IfOk result (λ found. found ≡ block_line ((current (now old)).ssd block) line)
  pub counts : Counts old new
