-- What a choice leaves of a block.
use Rattle.std.specs.Prelude.{ℕ, ◌%◌, List, if◌then◌else◌, ◌==◌}
use Rattle.ssd_model.specs.declared.choice.BlockChoice.{BlockChoice}
use Rattle.ssd_model.specs.declared.choice.BlockChoice.TheVariants.{Settled, Current, Alternating, Fill}
use Rattle.ssd_model.specs.Block.{Block}
use Rattle.ssd_model.specs.Page.{filled_page}

-- of a block that is not settled, by its number, its current bytes and those of the last sync
abbrev pub unsettled_bytes : BlockChoice → ℕ → List ℕ → List ℕ → List ℕ
unsettled_bytes Settled number current synced = synced
unsettled_bytes Current number current synced = current
unsettled_bytes Alternating number current synced = if number % 2 == 0 then synced else current
unsettled_bytes (Fill value) number current synced = filled_page value

-- of any block: a settled one has its current bytes
abbrev pub chosen_bytes : BlockChoice → ℕ → Block → List ℕ → List ℕ
chosen_bytes choice number block synced = if block.settled then block.bytes else unsettled_bytes choice number block.bytes synced
