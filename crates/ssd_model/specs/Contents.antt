-- What the state of a disk stands for: its size, its blocks, and the bytes that each had at the last sync that
-- settled it.
use Rattle.std.specs.Prelude.{ℕ, List}
use Rattle.ssd_model.specs.declared.state.SsdState.{SsdState}
use Rattle.ssd_model.specs.Block.{Disk}
use Rattle.ssd_model.specs.Sectors.{disk_in, synced_disk_in}

-- the blocks by their numbers; one that was never written is settled, with zeros
unfoldable pub disk_of : SsdState → Disk
disk_of state = disk_in state.interval state.written

-- the bytes of each block at the last sync that settled it
unfoldable pub synced_of : SsdState → ℕ → List ℕ
synced_of state = synced_disk_in state.interval state.written

-- how many blocks it has
abbrev pub blocks_of : SsdState → ℕ
blocks_of state = state.blocks
