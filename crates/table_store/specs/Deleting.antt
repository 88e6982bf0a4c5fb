-- A row that is taken out of a table.
use Rattle.std.specs.Prelude.{◌≡◌, ℕ, ◌+◌, ◌-◌, Bool, true, false, List, Option, Some, None, is_some, if◌then◌else◌}
use Rattle.line_pages.specs.Lines.{Lines}
use Rattle.line_pages.specs.Standing.{Standing, KeepsLines}
use Rattle.rows.specs.Rows.{Row, row_get, row_delete}
use Rattle.rows.specs.declared.limits.Limits.{Limits}
use Rattle.table_store.specs.declared.answer.Deleted.{Deleted}
use Rattle.table_store.specs.declared.answer.Deleted.TheVariants.{Done, Absent, NoTable}
use Rattle.table_catalog.specs.declared.entry.TableEntry.{TableEntry}
use Rattle.table_catalog.specs.Catalog.{entry_in}
use Rattle.table_store.specs.Changed.{ChangesTable}

-- the answer, the table having these rows
abbrev pub deleted_of : ℕ → Option (List Row) → Deleted
deleted_of key None = NoTable
deleted_of key (Some rows) = if is_some (row_get key rows) then Done else Absent

-- whether the answer is that no table has the name
abbrev pub is_no_table : Deleted → Bool
is_no_table Done = false
is_no_table Absent = false
is_no_table NoTable = true

-- where a row was taken out, the table is without it now
abbrev pub DeletesIfDone : Limits → ℕ → Lines → Lines → List ℕ → ℕ → Deleted → Type 0
DeletesIfDone limits count old new name key Done = ChangesTable limits count old new name (row_delete key)
DeletesIfDone limits count old new name key Absent = Unit {0}
DeletesIfDone limits count old new name key NoTable = Unit {0}

-- Where a row was taken out, the entry at this place has one row less; a number that is 0, which no store in order has then,
-- stays 0.
abbrev pub CountsIfDone : Lines → TableEntry → Deleted → Type 0
CountsIfDone new place Done = (entry_in (new 0 (2 + place.at))).rows ≡ place.entry.rows - 1
CountsIfDone new place Absent = Unit {0}
CountsIfDone new place NoTable = Unit {0}

-- nothing changes unless a row was taken out
abbrev pub KeepsUnlessDone : {A : Type 0} → Standing A → Standing A → Deleted → Type 0
KeepsUnlessDone old new Done = Unit {0}
KeepsUnlessDone old new Absent = KeepsLines old new
KeepsUnlessDone old new NoTable = KeepsLines old new
