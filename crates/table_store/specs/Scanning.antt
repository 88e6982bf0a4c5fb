-- A search for the next row of a table.
use Rattle.std.specs.Prelude.{◌≡◌, ℕ, Bool, true, false, nat_le, List, [], ◌∷◌, Option, Some, None, if◌then◌else◌}
use Rattle.line_pages.specs.Lines.{Lines}
use Rattle.line_pages.specs.Touch.{Access}
use Rattle.rows.specs.Rows as rows
use Rattle.tree_search.specs.Way.{AreReadsIn}
use Rattle.table_catalog.specs.declared.entry.TableEntry.{TableEntry}
use Rattle.table_store.specs.declared.answer.Next.{Next}
use Rattle.table_store.specs.declared.answer.Next.TheVariants.{Row, End, NoTable}
use Rattle.table_catalog.specs.Catalog.{entries, entry_pages, place_of}

-- the first row from the lower bound on, unless it is above the upper one
abbrev pub row_up_to : ℕ → Option rows.Row → Next
row_up_to to None = End
row_up_to to (Some row) = if nat_le row.0 to then Row row.0 row.1 else End

-- the answer, the table having these rows
abbrev pub next_of : ℕ → ℕ → Option (List rows.Row) → Next
next_of from to None = NoTable
next_of from to (Some all) = row_up_to to (rows.row_next from all)

-- whether the answer is that no table has the name
abbrev pub is_no_table : Next → Bool
is_no_table (Row key value) = false
is_no_table End = false
is_no_table NoTable = true

-- the pages of an entry's tree, if there is one
abbrev pub place_pages : Lines → Option TableEntry → List ℕ
place_pages lines None = []
place_pages lines (Some place) = entry_pages lines place.entry

-- The accesses of the search: page 0, then reads of pages of the table's tree alone.
pub record IsScan (lines : Lines) (name : List ℕ) (begun : List Access) : Type 0 where
  pub rest : List Access
  pub begins : begun ≡ (0, false) ∷ rest
  pub pages : AreReadsIn (place_pages lines (place_of name 0 (entries lines))) rest
