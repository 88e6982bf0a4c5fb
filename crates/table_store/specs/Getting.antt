-- A look-up of a key in a table.
use Rattle.std.specs.Prelude.{◌≡◌, ℕ, ◌-◌, Bool, true, false, List, [], ◌∷◌, length, None, Option, Some, map, ◌⊎◌}
use Rattle.damage.specs.declared.evidence.Evidence.{Evidence}
use Rattle.line_pages.specs.Lines.{Lines}
use Rattle.line_pages.specs.Touch.{Access}
use Rattle.rows.specs.Rows.{Row, row_get}
use Rattle.page_format.specs.Search.{IsNodeDamage, FailsNode}
use Rattle.tree_search.specs.Tree.{path}
use Rattle.rows.specs.declared.limits.Limits.{Limits}
use Rattle.table_catalog.specs.declared.entry.TableEntry.{TableEntry}
use Rattle.table_store.specs.declared.answer.Got.{Got}
use Rattle.table_store.specs.declared.answer.Got.TheVariants.{Found, Absent, NoTable}
use Rattle.table_catalog.specs.Stored.{IsStore}
use Rattle.table_catalog.specs.Catalog.{entries, place_of, IsCatalogDamage, FailsCatalog}

-- the levels of the tree of an entry, and the pages on the way to a key, if there is one
abbrev pub place_levels : Option TableEntry → ℕ
place_levels None = 0
place_levels (Some place) = place.entry.levels

abbrev pub place_path : Lines → ℕ → Option TableEntry → List ℕ
place_path lines key None = []
place_path lines key (Some place) = path lines (place.entry.levels - 1) place.entry.root key

-- The accesses of a look-up of a key in a table: page 0, then one to each level of the table's tree, in a store in order to
-- each page of the key's path.
pub record IsLookup (limits : Limits) (count : ℕ) (lines : Lines) (name : List ℕ) (key : ℕ) (begun : List Access) : Type 0 where
  pub rest : List Access
  pub begins : begun ≡ (0, false) ∷ rest
  pub levels : length rest ≡ place_levels (place_of name 0 (entries lines))
  pub pages : IsStore limits count lines → rest ≡ map (λ p. (p, false)) (place_path lines key (place_of name 0 (entries lines)))

-- one access to page 0, and then to each page of the key's path, in order
abbrev pub ReadsTable : Lines → List ℕ → ℕ → List Access → Type 0
ReadsTable lines name key begun = begun ≡ (0, false) ∷ map (λ p. (p, false)) (place_path lines key (place_of name 0 (entries lines)))

-- The evidence shows damage of the catalog or of a page of a tree.
abbrev pub IsLookupDamage : Limits → ℕ → Lines → List ℕ → Evidence → Type 0
IsLookupDamage limits count lines buffer evidence = IsCatalogDamage limits count lines buffer evidence ⊎ IsNodeDamage count lines buffer evidence

-- whatever the store holds, the buffer fails that check
abbrev pub FailsLookup : Limits → ℕ → List ℕ → Evidence → Type 0
FailsLookup limits count buffer evidence = FailsCatalog limits count buffer evidence ⊎ FailsNode count buffer evidence

-- what a look-up of a key answers, the table having these rows
abbrev pub found_value : Option (List ℕ) → Got
found_value None = Absent
found_value (Some value) = Found value

abbrev pub got_of : ℕ → Option (List Row) → Got
got_of key None = NoTable
got_of key (Some rows) = found_value (row_get key rows)

-- whether the answer is that no table has the name
abbrev pub is_no_table : Got → Bool
is_no_table (Found value) = false
is_no_table Absent = false
is_no_table NoTable = true
