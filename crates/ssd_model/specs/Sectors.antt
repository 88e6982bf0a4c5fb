-- What the entry of one block stands for. A block without one was never written.
use Rattle.std.specs.Prelude.{◌≡◌, ◌≢◌, ℕ, ◌<◌, ◌≤◌, Option, Some, None, List, if◌then◌else◌, nat_lt}
use Rattle.std.specs.Option.{ForSome, option_map}
use Rattle.std.specs.Ordering.{nat_cmp}
use Rattle.std.specs.BTreeMap.{BTreeMap, get}
use Rattle.ssd_model.specs.declared.sector.Sector.{Sector}
use Rattle.ssd_model.specs.Block.{Block, Disk, settled_block}
use Rattle.ssd_model.specs.Page.{zero_page}

-- the block, in a sync interval: a sync has been there since a write in an earlier one
abbrev pub block_in : ℕ → Option Sector → Block
block_in interval None = settled_block zero_page
block_in interval (Some sector) = record { bytes = sector.current.value; settled = nat_lt sector.interval interval }

-- its bytes at the last sync that settled it
abbrev pub synced_in : ℕ → Option Sector → List ℕ
synced_in interval None = zero_page
synced_in interval (Some sector) = if nat_lt sector.interval interval then sector.current.value else sector.synced.value

-- the same of all blocks by their numbers
abbrev pub disk_in : ℕ → BTreeMap ℕ Sector → Disk
disk_in interval sectors = λ b. block_in interval (get nat_cmp sectors b)

abbrev pub synced_disk_in : ℕ → BTreeMap ℕ Sector → ℕ → List ℕ
synced_disk_in interval sectors = λ b. synced_in interval (get nat_cmp sectors b)

-- each block was last written in this sync interval or in an earlier one
abbrev pub AreUpTo : ℕ → BTreeMap ℕ Sector → Type 0
AreUpTo interval sectors = (q : ℕ) → ForSome (get nat_cmp sectors q) (λ sector. sector.interval ≤ interval)

-- no block outside the size was written
abbrev pub AreWithin : ℕ → BTreeMap ℕ Sector → Type 0
AreWithin blocks sectors = (q : ℕ) → ForSome (get nat_cmp sectors q) (λ _sector. q < blocks)

-- the entry as if it was last written in the first interval
abbrev pub restarted : Sector → Sector
restarted sector = record sector { interval = 0 }

-- all entries are as if they were last written in the first interval
abbrev pub AreRestarted : BTreeMap ℕ Sector → BTreeMap ℕ Sector → Type 0
AreRestarted old new = (q : ℕ) → get nat_cmp new q ≡ option_map restarted (get nat_cmp old q)

-- The entry after these bytes were written in this interval: what was there, if it counts as settled, is kept.
pub record IsWritten (now : ℕ) (bytes : List ℕ) (old : Option Sector) (new : Sector) : Type 0 where
  pub current : new.current.value ≡ bytes
  pub synced : new.synced.value ≡ synced_in now old
  pub interval : new.interval ≡ now

-- One block was written, and no other has changed.
pub record WritesBlock (interval block : ℕ) (bytes : List ℕ) (old new : BTreeMap ℕ Sector) : Type 0 where
  pub here : (sector : Sector) × (get nat_cmp new block ≡ Some sector) × IsWritten interval bytes (get nat_cmp old block) sector
  pub others : (q : ℕ) → q ≢ block → get nat_cmp new q ≡ get nat_cmp old q

-- no block has changed
abbrev pub SameSectors : BTreeMap ℕ Sector → BTreeMap ℕ Sector → Type 0
SameSectors old new = (q : ℕ) → get nat_cmp new q ≡ get nat_cmp old q
