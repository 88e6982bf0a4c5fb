-- The catalog in page 0, and the tables of a store of pages.
use Rattle.std.specs.Prelude.{◌≡◌, ℕ, zero, suc, ◌+◌, ◌-◌, ◌≤◌, ◌<◌, Bool, true, false, List, [], ◌∷◌, ◌++◌, map, None, Option, Some, not, nat_lt, nat_le, ◌==◌, ◌&&◌, if◌then◌else◌, slice_index, slice_range, bytes_eq}
use Rattle.std.specs.List.{list_all, list_any}
use Rattle.nvm_model.specs.declared.line.Line.{Line}
use Rattle.line_pages.specs.Lines.{Lines}
use Rattle.line_pages.specs.Bytes.{bytes_of, line_at}
use Rattle.nvm_model.specs.LineBytes.{word_bytes, pieces}
use Rattle.line_pages.specs.Touch.{Touch, Access, touch_of}
use Rattle.damage.specs.declared.evidence.Evidence.{Evidence}
use Rattle.rows.specs.Tables.{Table}
use Rattle.damage.specs.Checks.{first_failure}
use Rattle.rows.specs.Rows.{Row}
use Rattle.page_alloc.specs.Space.{word, high_of, IsPageEvidence}
use Rattle.tree_search.specs.Tree.{tree_rows, tree_pages}
use Rattle.rows.specs.declared.limits.Limits.{Limits}
use Rattle.table_catalog.specs.declared.entry.Entry.{Entry}
use Rattle.table_catalog.specs.declared.entry.TableEntry.{TableEntry}
use Rattle.rows.specs.Names.{is_name_byte}

-- the 32 bytes of words 0 to 3, which keep the name
unfoldable pub field_in : Line → List ℕ
field_in line = pieces (word_bytes line.words) 0 4

-- the entry in one line
abbrev pub entry_in : Line → Entry
entry_in line = record { field = field_in line; root = word line 4; levels = word line 5; rows = word line 6 }

abbrev pub entries_from : Lines → ℕ → ℕ → List Entry
entries_from lines l zero = []
entries_from lines l (suc n) = entry_in (lines 0 l) ∷ entries_from lines (suc l) n

-- the number of tables, and the entries in the order of creation: that of table i is line 2 + i
abbrev pub table_count : Lines → ℕ
table_count lines = word (lines 0 0) 1

unfoldable pub entries : Lines → List Entry
entries lines = entries_from lines 2 (table_count lines)

-- word 7 of an entry's line is unused: a 0 there stays 0
abbrev pub KeepsUnused : Lines → Lines → Type 0
KeepsUnused old new = (l : ℕ) → 2 ≤ l → word (old 0 l) 7 ≡ 0 → word (new 0 l) 7 ≡ 0

-- the name in a field: byte 0 is its length, the bytes follow
abbrev pub name_in : List ℕ → List ℕ
name_in field = slice_range field 1 (1 + slice_index field 0)

abbrev pub name_of : Entry → List ℕ
name_of entry = name_in entry.field

abbrev pub is_zero : ℕ → Bool
is_zero b = b == 0

-- a field that keeps a name, with zeros behind it
unfoldable pub is_name_field : List ℕ → Bool
is_name_field field =
    nat_le 1 (slice_index field 0) && nat_le (slice_index field 0) 31
    && list_all is_name_byte (name_in field) && list_all is_zero (slice_range field (1 + slice_index field 0) 32)

abbrev pub names_differ : List (List ℕ) → Bool
names_differ [] = true
names_differ (name ∷ rest) = not (list_any (bytes_eq name) rest) && names_differ rest

-- an entry in range, below this high water
abbrev pub is_listed : Limits → ℕ → Entry → Bool
is_listed limits high entry =
    is_name_field entry.field && nat_le 1 entry.root && nat_lt entry.root high
    && nat_le 1 entry.levels && nat_le entry.levels 4 && nat_le entry.rows limits.rows

abbrev pub is_entry : Limits → Lines → Entry → Bool
is_entry limits lines entry = is_listed limits (high_of lines) entry

-- the checks of the header: kind, number of tables, high water, first free page
abbrev pub header_checks : Limits → ℕ → Line → List (ℕ × Bool)
header_checks limits count header =
    (31, word header 0 == 4)
    ∷ (32, nat_le (word header 1) limits.tables)
    ∷ (33, nat_le 1 (word header 2) && nat_le (word header 2) count)
    ∷ (34, nat_lt (word header 3) (word header 2)) ∷ []

-- the checks of the whole catalog, each with its number
abbrev pub catalog_checks : Limits → ℕ → Lines → List (ℕ × Bool)
catalog_checks limits count lines =
    header_checks limits count (lines 0 0)
    ++ (35, list_all (is_entry limits lines) (entries lines) && names_differ (map name_of (entries lines))) ∷ []

-- a header that passes its checks
pub record FitsCatalog (limits : Limits) (count : ℕ) (header : Line) : Type 0 where
  pub passes : first_failure (header_checks limits count header) ≡ None
  pub tables : word header 1 ≤ limits.tables
  pub some : 1 ≤ word header 2
  pub within : word header 2 ≤ count

-- an entry that passes its checks
pub record FitsEntry (limits : Limits) (high : ℕ) (entry : Entry) : Type 0 where
  pub some_page : 1 ≤ entry.root
  pub page : entry.root < high
  pub some_levels : 1 ≤ entry.levels
  pub few_levels : entry.levels ≤ 4
  pub rows : entry.rows ≤ limits.rows
  pub short : slice_index entry.field 0 ≤ 31

-- the place of an entry that passes its checks, the catalog having this header
pub record FitsPlace (limits : Limits) (header : Line) (place : TableEntry) : Type 0 where
  pub at : place.at < word header 1
  pub entry : FitsEntry limits (word header 2) place.entry

-- the same in a store of `count` pages
pub record FitsRoot (limits : Limits) (count : ℕ) (place : TableEntry) : Type 0 where
  pub at : place.at < limits.tables
  pub entry : FitsEntry limits count place.entry

-- The evidence names page 0 and the first check that the catalog fails, and the buffer has its bytes.
pub record IsCatalogDamage (limits : Limits) (count : ℕ) (lines : Lines) (buffer : List ℕ) (evidence : Evidence) : Type 0 where
  pub number : ℕ
  pub first : first_failure (catalog_checks limits count lines) ≡ Some number
  pub shown : IsPageEvidence 0 number evidence
  pub bytes : buffer ≡ bytes_of lines 0

-- the lines of page 0 in a buffer
abbrev pub lines_in : List ℕ → Lines
lines_in buffer page line = line_at buffer line

-- Whatever the store holds: the evidence names page 0 and the first check of the catalog that the buffer fails.
pub record FailsCatalog (limits : Limits) (count : ℕ) (buffer : List ℕ) (evidence : Evidence) : Type 0 where
  pub number : ℕ
  pub some : 1 ≤ count
  pub shown : IsPageEvidence 0 number evidence
  pub first : first_failure (catalog_checks limits count (lines_in buffer)) ≡ Some number

-- where the first entry with the name stands, the first of these entries being that of table i
abbrev pub place_of : List ℕ → ℕ → List Entry → Option TableEntry
place_of name i [] = None
place_of name i (entry ∷ rest) = if bytes_eq (name_of entry) name then Some (record { at = i; entry = entry }) else place_of name (suc i) rest

-- the rows and the pages of an entry's tree
abbrev pub entry_rows : Lines → Entry → List Row
entry_rows lines entry = tree_rows lines (entry.levels - 1) entry.root

abbrev pub entry_pages : Lines → Entry → List ℕ
entry_pages lines entry = tree_pages lines (entry.levels - 1) entry.root

abbrev pub table_of : Lines → Entry → Table
table_of lines entry = (name_of entry, entry_rows lines entry)

-- the tables of a store, in the order of creation
abbrev pub tables : Lines → List Table
tables lines = map (table_of lines) (entries lines)

-- the reads of n entries in a row, from line l on, in an open access
abbrev pub entry_touches : ℕ → ℕ → List Touch
entry_touches l zero = []
entry_touches l (suc n) = touch_of (Some (0, false)) 0 l false ∷ entry_touches (suc l) n

-- how many entries a look-up reads: those up to the name, or else all
abbrev pub entries_read : ℕ → Option TableEntry → ℕ
entries_read n None = n
entries_read n (Some place) = place.at + 1

-- the touches of a look-up of a name: line 0, then the entries in order up to the name
abbrev pub lookup_touches : Option Access → Lines → List ℕ → List Touch
lookup_touches access lines name = touch_of access 0 0 false ∷ entry_touches 2 (entries_read (table_count lines) (place_of name 0 (entries lines)))
