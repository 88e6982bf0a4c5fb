-- A row by its record alone.
use Rattle.std.specs.Prelude.{◌≡◌, ℕ, ◌+◌, ◌*◌, ◌++◌, Bool, List, Option, Some, None, is_some, nat_le, ◌&&◌, if◌then◌else◌}
use Rattle.line_pages.specs.Cost.{lines_of}
use Rattle.rows.specs.Rows.{Row}
use Rattle.page_format.specs.Node.{Slot, row_in}
use Rattle.page_format.specs.Sound.{slot_of}
use Rattle.rows.specs.Value.{value_of}
use Rattle.tree_search.specs.declared.row.Record.{Record}

-- the record has a key and lies in the page
abbrev pub is_record : Slot → Bool
is_record slot = nat_le 8 slot.size && nat_le (slot.place + slot.size) 4096

abbrev pub with_key : ℕ → Option (List ℕ) → Option Row
with_key key None = None
with_key key (Some value) = Some (key, value)

-- the row of a record, where it is one that a leaf can have
abbrev pub row_found : List ℕ → Slot → Option Row
row_found bytes slot = if is_record slot then with_key (row_in bytes slot).0 (value_of (row_in bytes slot).1) else None

-- and its value
abbrev pub value_found : List ℕ → Slot → Option (List ℕ)
value_found bytes slot = if is_record slot then value_of (row_in bytes slot).1 else None

-- a record as a slot has it
abbrev pub slot_in : Record → Slot
slot_in r = record { place = r.place; size = r.size }

-- the row and the value of a record that was found, if one was
abbrev pub held : List ℕ → Option Record → Option Row
held bytes None = None
held bytes (Some r) = row_found bytes (slot_in r)

abbrev pub held_value : List ℕ → Option Record → Option (List ℕ)
held_value bytes None = None
held_value bytes (Some r) = value_found bytes (slot_in r)

-- a record was found if there is a value, and has that value
abbrev pub HasValue : List ℕ → Option Record → Option (List ℕ) → Type 0
HasValue bytes found value = (held_value bytes found ≡ value) × (is_some found ≡ is_some value)

-- the lines of the row at a place: those of its slot's two numbers, and then those of its record
abbrev pub row_lines : List ℕ → ℕ → List ℕ
row_lines bytes at = lines_of (64 + 4 * at) 2 ++ lines_of (64 + 4 * at + 2) 2 ++ lines_of (slot_of bytes at).place (slot_of bytes at).size
