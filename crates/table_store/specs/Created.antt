-- A table that is made.
use Rattle.std.specs.Prelude.{◌≡◌, ℕ, ◌+◌, ◌-◌, ◌<◌, ◌≤◌, true, false, List, [], ◌∷◌, ◌++◌, length, replicate, IsTrue, Option, Some, None, ◌⊎◌, nat_lt, if◌then◌else◌}
use Rattle.nvm_model.specs.declared.line.Line.{Line}
use Rattle.damage.specs.declared.evidence.Evidence.{Evidence}
use Rattle.line_pages.specs.Lines.{Lines, with_line, IsLine}
use Rattle.line_pages.specs.Standing.{Standing, KeepsLines}
use Rattle.page_alloc.specs.Space.{word, high_of, with_word, take_checks, IsSpaceDamage, FailsSpace}
use Rattle.rows.specs.declared.limits.Limits.{Limits}
use Rattle.table_catalog.specs.declared.entry.Entry.{Entry}
use Rattle.table_store.specs.declared.answer.Created.{Created}
use Rattle.table_store.specs.declared.answer.Created.TheVariants.{Made, Present, NoSlot}
use Rattle.rows.specs.Names.{is_name}
use Rattle.table_catalog.specs.Catalog.{entry_in, table_count, tables, entries, place_of, IsCatalogDamage, FailsCatalog, KeepsUnused}
use Rattle.rows.specs.Tables.{Table}
use Rattle.table_catalog.specs.Stored.{IsStore}
use Rattle.rows.specs.Tables.{is_known}

-- the field of a name: its length, its bytes, then zeros
unfoldable pub field_of : List ℕ → List ℕ
field_of name = length name ∷ (name ++ replicate (31 - length name) 0)

-- the entry of a table whose tree is one leaf with no row
abbrev pub new_entry : List ℕ → ℕ → Entry
new_entry name page = record { field = field_of name; root = page; levels = 1; rows = 0 }

-- the header of a leaf with no row
abbrev pub leaf_line : Line
leaf_line = record { words = 1 ∷ 0 ∷ 0 ∷ 4096 ∷ 0 ∷ 0 ∷ 0 ∷ 0 ∷ [] }

-- The page was made an empty leaf, then came the entry of table `at`, then the number of tables.
pub record Written (old new : Lines) (name : List ℕ) (page at : ℕ) : Type 0 where
  pub named : IsTrue (is_name name)
  pub line : Line
  pub header : IsLine (old 0 0)
  pub entry : entry_in line ≡ new_entry name page
  pub unused : word line 7 ≡ 0
  pub after : new ≡ with_line 0 0 (with_word 1 (at + 1) (old 0 0)) (with_line 0 (2 + at) line (with_line page 0 leaf_line old))

-- The store is in order again: one more table, with no row, stands last, and all others are as they were. No page above
-- those in use changed. The unused word of the new entry is 0, and of an old one a 0 stays 0.
pub record Makes (limits : Limits) (count : ℕ) (old new : Lines) (name : List ℕ) : Type 0 where
  pub store : IsStore limits count new
  pub tables_are : tables new ≡ tables old ++ (name, []) ∷ []
  pub beyond : (n : ℕ) → high_of new ≤ n → new n ≡ old n
  pub unused : KeepsUnused old new
  pub unused_last : word (new 0 (2 + table_count old)) 7 ≡ 0

-- the answer, by the tables that there are
abbrev pub created_of : Limits → List ℕ → List Table → Created
created_of limits name all = if is_known name all then Present else if nat_lt (length all) limits.tables then Made else NoSlot

-- which answer comes when, and what changes
abbrev pub IsCreated : Limits → ℕ → Lines → Lines → List ℕ → Created → Type 0
IsCreated limits count old new name Made = (is_known name (tables old) ≡ false) × (length (tables old) < limits.tables) × Makes limits count old new name
IsCreated limits count old new name Present = is_known name (tables old) ≡ true
IsCreated limits count old new name NoSlot = (is_known name (tables old) ≡ false) × (length (tables old) ≡ limits.tables)

-- nothing changes unless a table was made
abbrev pub KeepsUnlessMade : {A : Type 0} → Standing A → Standing A → Created → Type 0
KeepsUnlessMade old new Made = Unit {0}
KeepsUnlessMade old new Present = KeepsLines old new
KeepsUnlessMade old new NoSlot = KeepsLines old new

-- the number that a table of this name would have, where there is none
abbrev pub IsSlot : Lines → List ℕ → Option ℕ → Type 0
IsSlot lines name None = is_known name (tables lines) ≡ true
IsSlot lines name (Some at) = (at ≡ table_count lines) × (place_of name 0 (entries lines) ≡ None)

-- the evidence shows damage of the catalog, or that no page can be taken
abbrev pub IsCreateDamage : Limits → ℕ → Lines → List ℕ → Evidence → Type 0
IsCreateDamage limits count lines buffer evidence = IsCatalogDamage limits count lines buffer evidence ⊎ IsSpaceDamage (take_checks count lines) lines buffer evidence

-- whatever the store holds, the buffer fails that check
abbrev pub FailsCreate : Limits → ℕ → List ℕ → Evidence → Type 0
FailsCreate limits count buffer evidence = FailsCatalog limits count buffer evidence ⊎ FailsSpace count buffer evidence
