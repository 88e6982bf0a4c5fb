-- A table whose rows change.
use Rattle.std.specs.Prelude.{◌≡◌, ℕ, ◌+◌, ◌≤◌, List, Some, IsTrue, Bool, ◌⊎◌, ◌==◌, ◌&&◌}
use Rattle.nvm_model.specs.declared.line.Line.{Line}
use Rattle.damage.specs.declared.evidence.Evidence.{Evidence}
use Rattle.line_pages.specs.Lines.{Lines, with_line}
use Rattle.rows.specs.Rows.{Row}
use Rattle.tree_search.specs.declared.root.Root.{Root}
use Rattle.page_alloc.specs.Space.{word, high_of}
use Rattle.bplus_tree.specs.Damage.{IsTreeDamage, FailsTree}
use Rattle.rows.specs.declared.limits.Limits.{Limits}
use Rattle.table_catalog.specs.declared.entry.TableEntry.{TableEntry}
use Rattle.table_catalog.specs.Catalog.{entry_in, tables, KeepsUnused, IsCatalogDamage, FailsCatalog}
use Rattle.table_catalog.specs.Stored.{IsStore}
use Rattle.rows.specs.Tables.{rows_of, with_rows}

-- the root of an entry's tree
abbrev pub root_at : TableEntry → Root
root_at place = record { page = place.entry.root; levels = place.entry.levels }

-- whether an entry stays as it is with this root and so many rows
abbrev pub stays_as : TableEntry → Root → ℕ → Bool
stays_as place root rows = place.entry.root == root.page && place.entry.levels == root.levels && place.entry.rows == rows

-- The entry of a table was written anew: its tree has this root, and the table so many rows. A 0 in its unused word 7 stays 0.
pub record Enters (old new : Lines) (place : TableEntry) (root : Root) (rows : ℕ) : Type 0 where
  pub line : Line
  pub entry : entry_in line ≡ record { field = place.entry.field; root = root.page; levels = root.levels; rows = rows }
  pub after : new ≡ with_line 0 (2 + place.at) line old
  pub unused : word (old 0 (2 + place.at)) 7 ≡ 0 → word line 7 ≡ 0

-- The store is in order again: the table with the name has its rows after this step, and all others are as they were. No
-- page above those in use changed, and an unused word of an entry that is 0 stays 0.
pub record ChangesTable (limits : Limits) (count : ℕ) (old new : Lines) (name : List ℕ) (step : List Row → List Row) : Type 0 where
  pub store : IsStore limits count new
  pub tables_are : (rows : List Row) → rows_of name (tables old) ≡ Some rows → tables new ≡ with_rows name (step rows) (tables old)
  pub beyond : (n : ℕ) → high_of new ≤ n → new n ≡ old n
  pub unused : KeepsUnused old new

-- The evidence shows damage of the catalog, as its lines are before any of them is changed, or of the lines at the stop what a
-- call on a tree that changes it may show.
abbrev pub IsChangeDamage : Bool → Limits → ℕ → Lines → Lines → List ℕ → Evidence → Type 0
IsChangeDamage told limits count before lines buffer evidence =
    (IsTrue told → IsCatalogDamage limits count before buffer evidence) ⊎ IsTreeDamage told count lines buffer evidence

-- whatever the store holds, the buffer fails that check
abbrev pub FailsChange : Limits → ℕ → List ℕ → Evidence → Type 0
FailsChange limits count buffer evidence = FailsCatalog limits count buffer evidence ⊎ FailsTree count buffer evidence
