-- What each call on the devices asks of them, and what it keeps.
use Rattle.std.specs.Prelude.{◌≡◌, ◌≤◌, ◌+◌, ℕ, zero, suc, min, Result}
use Rattle.store_model.specs.Layout.{nvm_lines, ssd_blocks}
use Rattle.nvm_layout.specs.Sizes.{sizes_of}
use Rattle.nvm_layout.specs.declared.geometry.Geometry.{Geometry}
use Rattle.devices.specs.World.{Standing, Goes, last_count}
use Rattle.line_pages.specs.declared.stop.Stop.{Stop}
use Rattle.device_calls.specs.Stops.{StopCause}
use Rattle.tier_rules.specs.Parts.{Parts}

-- the devices are as large as the store
pub record Fits (geometry : Geometry) (d : Standing) : Type 0 where
  pub lines : nvm_lines (sizes_of geometry) ≤ d.lines
  pub blocks : ssd_blocks (sizes_of geometry) ≤ d.blocks

-- The devices go on, and a stop has its cause.
pub record Calls {T : Type 0} (old new : Standing) (result : Result T Stop) : Type 0 where
  pub goes : Goes old new
  pub cause : StopCause old new result

-- The same, and no block was read.
pub record Stores {T : Type 0} (old new : Standing) (result : Result T Stop) : Type 0 where
  pub goes : Goes old new
  pub cause : StopCause old new result
  pub reads : new.block_reads ≡ old.block_reads

-- a count that rose by so many, or stands still at its end
abbrev pub risen : ℕ → ℕ → ℕ
risen zero n = n
risen (suc k) n = min (n + suc k) last_count

-- As many blocks were read as fetches were counted.
pub record FetchesCounted (before after : Parts) (old new : Standing) : Type 0 where
  pub count : ℕ
  pub reads : new.block_reads ≡ risen count old.block_reads
  pub fetches : after.tally.fetches ≡ risen count before.tally.fetches
