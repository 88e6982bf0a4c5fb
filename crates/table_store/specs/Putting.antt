-- A row that is put into a table.
use Rattle.std.specs.Prelude.{◌≡◌, ℕ, ◌-◌, ◌<◌, Bool, true, false, ◌||◌, nat_lt, List, length, Option, Some, None, is_some, if◌then◌else◌}
use Rattle.line_pages.specs.Lines.{Lines}
use Rattle.line_pages.specs.Standing.{Standing, KeepsLines}
use Rattle.rows.specs.Rows.{Row, row_get, row_put}
use Rattle.node_edit.specs.Record.{HoldsLength}
use Rattle.tree_search.specs.Tree.{leaf_for}
use Rattle.bplus_tree.specs.Record.{WritesRecord}
use Rattle.rows.specs.declared.limits.Limits.{Limits}
use Rattle.table_catalog.specs.declared.entry.TableEntry.{TableEntry}
use Rattle.table_catalog.specs.Catalog.{entries, place_of, entry_rows}
use Rattle.table_store.specs.declared.answer.Stored.{Stored}
use Rattle.table_store.specs.declared.answer.Stored.TheVariants.{Done, TableFull, NoTable}
use Rattle.table_store.specs.Changed.{ChangesTable}

-- the answer, the table having these rows
abbrev pub stored_of : Limits → ℕ → Option (List Row) → Stored
stored_of limits key None = NoTable
stored_of limits key (Some rows) = if is_some (row_get key rows) || nat_lt (length rows) limits.rows then Done else TableFull

-- whether the answer is that no table has the name
abbrev pub is_no_table : Stored → Bool
is_no_table Done = false
is_no_table TableFull = false
is_no_table NoTable = true

-- where the row was put, the table has it now
abbrev pub PutsIfDone : Limits → ℕ → Lines → Lines → List ℕ → ℕ → List ℕ → Stored → Type 0
PutsIfDone limits count old new name key value Done = ChangesTable limits count old new name (row_put key value)
PutsIfDone limits count old new name key value TableFull = Unit {0}
PutsIfDone limits count old new name key value NoTable = Unit {0}

-- nothing changes unless the row was put
abbrev pub KeepsUnlessDone : {A : Type 0} → Standing A → Standing A → Stored → Type 0
KeepsUnlessDone old new Done = Unit {0}
KeepsUnlessDone old new TableFull = KeepsLines old new
KeepsUnlessDone old new NoTable = KeepsLines old new

-- where the table has a value of this length at the key, lines of the key's record in its leaf are written alone
abbrev pub RewritesRecord : {A : Type 0} → List ℕ → ℕ → ℕ → Standing A → Standing A → Type 0
RewritesRecord name key size old new =
    (place : TableEntry) → place_of name 0 (entries old.current) ≡ Some place → HoldsLength key size (entry_rows old.current place.entry)
    → WritesRecord (leaf_for old.current (place.entry.levels - 1) place.entry.root key) key old new

-- a table of this name has fewer rows than it may have, by its entry
abbrev pub IsBelowLimit : Limits → List ℕ → Lines → Type 0
IsBelowLimit limits name lines = (place : TableEntry) × (place_of name 0 (entries lines) ≡ Some place) × (place.entry.rows < limits.rows)
