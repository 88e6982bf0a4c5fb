-- A row taken out of a leaf by the lines that it needs.
use Rattle.std.specs.Prelude.{◌≡◌, ℕ, ◌+◌, ◌*◌, ◌/◌, ◌≤◌, ◌||◌, nat_le, Bool, true, false, List}
use Rattle.std.specs.List.{remove}
use Rattle.ssd_model.specs.Page.{Same}
use Rattle.line_pages.specs.Bytes.{bytes_of}
use Rattle.line_pages.specs.Standing.{Standing}
use Rattle.page_format.specs.declared.root.Expect.{Expect}
use Rattle.rows.specs.Rows.{Row}
use Rattle.page_format.specs.Room.{leaf_floor}
use Rattle.page_format.specs.Node.{IsWellFormed, leaf_rows, slots, entry_count}
use Rattle.page_format.specs.Sound.{row_bytes}
use Rattle.page_alloc.specs.Written.{OtherPages, Differs, WritesOnly, lines_changed}
use Rattle.node_edit.specs.Edit.{Holds}

-- Whether a leaf of these rows has the bytes that it has to have. A root has to have none.
abbrev pub keeps_floor : Bool → List Row → Bool
keeps_floor root rows = root || nat_le leaf_floor (row_bytes rows)

-- How many lines a removal touches at most, reads and writes together, in a leaf of so many rows: two for the header and for each line
-- of the slots.
abbrev pub removal_cost : ℕ → ℕ
removal_cost count = 2 + 2 * ((count + 15) / 16)

-- The leaf has the other rows, its slot is out, all records are where they were, and the lines that differ were written alone, each
-- once.
pub record RemovedByLines {A : Type 0} (page : ℕ) (expect : Expect) (at : ℕ) (old new : Standing A) : Type 0 where
  pub rows : IsWellFormed (bytes_of old.current page) expect → Holds leaf_rows expect (bytes_of new.current page) (remove (leaf_rows (bytes_of old.current page)) at)
  pub slots_are : IsWellFormed (bytes_of old.current page) expect → slots (bytes_of new.current page) ≡ remove (slots (bytes_of old.current page)) at
  pub kept : IsWellFormed (bytes_of old.current page) expect → Same (64 + 4 * entry_count (bytes_of old.current page)) 4096 (bytes_of old.current page) (bytes_of new.current page)
  pub others : OtherPages page old.current new.current
  pub only : WritesOnly page (Differs (bytes_of old.current page) (bytes_of new.current page)) old new
  pub once : old.room ≤ new.room + lines_changed (bytes_of old.current page) (bytes_of new.current page)

-- It was taken out so.
abbrev pub IsRemovedByLines : {A : Type 0} → ℕ → Expect → ℕ → Standing A → Standing A → Bool → Type 0
IsRemovedByLines page expect at old new true = RemovedByLines page expect at old new
IsRemovedByLines page expect at old new false = Unit {0}
