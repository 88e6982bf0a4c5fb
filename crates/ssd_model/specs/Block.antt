-- The blocks of a disk, and what each call makes of them.
use Rattle.std.specs.Prelude.{ℕ, Bool, true, false, List, if◌then◌else◌, ◌==◌}
use Rattle.ssd_model.specs.Page.{zero_page}

-- One block: its current bytes, and whether a crash leaves just these.
pub record Block : Type 0 where
  pub bytes : List ℕ
  pub settled : Bool

-- all blocks by their numbers
abbrev pub Disk : Type 0
Disk = ℕ → Block

abbrev pub settled_block : List ℕ → Block
settled_block bytes = record { bytes = bytes; settled = true }

-- every block is settled, with zeros
abbrev pub zero_disk : Disk
zero_disk b = settled_block zero_page

-- a write of a block
abbrev pub with_block : ℕ → List ℕ → Disk → Disk
with_block block bytes disk = λ b. if b == block then record { bytes = bytes; settled = false } else disk b

-- a sync
abbrev pub all_settled : Disk → Disk
all_settled disk = λ b. settled_block (disk b).bytes
