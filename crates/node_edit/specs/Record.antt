-- Where the record of a key stands.
use Rattle.std.specs.Prelude.{◌≡◌, ◌≤◌, ◌⊎◌, ℕ, List, length, Some}
use Rattle.rows.specs.Rows.{Row, row_get}
use Rattle.page_format.specs.Room.{leaf_room, leaf_floor}
use Rattle.page_format.specs.Node.{Slot, leaf_rows}
use Rattle.page_format.specs.Sound.{slot_of, row_bytes}
use Rattle.node_edit.specs.Edit.{place_of}

-- where the record of a key stands in a leaf that has the key
abbrev pub record_at : ℕ → List ℕ → Slot
record_at key bytes = slot_of bytes (place_of key (leaf_rows bytes))

-- the key has a value of this length
pub record HoldsLength (key size : ℕ) (rows : List Row) : Type 0 where
  pub held : List ℕ
  pub is : row_get key rows ≡ Some held
  pub long : length held ≡ size

-- Rows that stand in one leaf: they take no more bytes than it has room for, and no fewer than it has to have, unless it may be
-- below that, as a root may.
abbrev pub FitsLeaf : Type 0 → List Row → Type 0
FitsLeaf MayBeBelow rows = (row_bytes rows ≤ leaf_room) × (MayBeBelow ⊎ (leaf_floor ≤ row_bytes rows))
