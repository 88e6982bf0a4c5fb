-- A value put into a leaf by the lines that it needs.
use Rattle.std.specs.Prelude.{◌≡◌, ◌≢◌, ℕ, ◌+◌, ◌-◌, ◌*◌, ◌/◌, ◌≤◌, ◌==◌, ◌&&◌, ◌||◌, if◌then◌else◌, nat_le, Bool, true, false, List, length, slice_set, Result, Ok, Err}
use Rattle.line_pages.specs.Bytes.{bytes_of}
use Rattle.line_pages.specs.Standing.{Standing, ReadsPage}
use Rattle.page_format.specs.declared.root.Expect.{Expect}
use Rattle.rows.specs.Rows.{row_put}
use Rattle.page_format.specs.Node.{IsWellFormed, leaf_rows, slots, entry_count, heap_start}
use Rattle.page_format.specs.declared.spot.Spot.TheVariants.{Row, Gap}
use Rattle.page_format.specs.Search.{IsSpot}
use Rattle.page_alloc.specs.Written.{OtherPages, Differs, Meets, WritesOnly, lines_changed}
use Rattle.page_edit.specs.Packed.{AddsBelow, PutsBelow, heap_for}
use Rattle.node_edit.specs.Edit.{Holds, has_key, place_of}
use Rattle.node_edit.specs.Record.{record_at, HoldsLength}

-- The slot at an index got a record of so many bytes just below the heap's start, and the others stand where they stood.
pub record SwapsBelow (at size : ℕ) (old new : List ℕ) : Type 0 where
  pub adds : AddsBelow size old new
  pub slots_are : slots new ≡ slice_set (slots old) at (record { place = heap_start new; size = size })

-- Where the records stand after a value of so many bytes was put into a well-formed leaf: that of a new row, and of a value of another
-- length, just below the heap's start, and all others where they stood.
pub record PlacesRecord (key long : ℕ) (old new : List ℕ) : Type 0 where
  pub fresh : has_key key (leaf_rows old) ≡ false → PutsBelow (place_of key (leaf_rows old)) (8 + long) old new
  pub same : has_key key (leaf_rows old) ≡ true → (record_at key old).size ≡ 8 + long → slots new ≡ slots old
  pub other : has_key key (leaf_rows old) ≡ true → (record_at key old).size ≢ 8 + long → SwapsBelow (place_of key (leaf_rows old)) (8 + long) old new

-- a record in place of one of the same length, or just below the heap's start with the slot of the other
abbrev pub fits_over : Bool → ℕ → ℕ → List ℕ → Bool
fits_over root was size bytes = (was == size) || ((root || nat_le was size) && nat_le (64 + 4 * entry_count bytes + size) (heap_start bytes))

-- Whether a value of so many bytes has its place beside the other records of a leaf as they stand: that of a value of its length at
-- the key, or else the room between the heap and the slots, which are one more where the key is new. A row is made shorter so in a
-- root alone, since another leaf could fall below the floor.
abbrev pub fits_beside : Bool → ℕ → ℕ → List ℕ → Bool
fits_beside root key long bytes =
    if has_key key (leaf_rows bytes) then fits_over root (record_at key bytes).size (8 + long) bytes
    else nat_le (heap_for (8 + long) bytes) (heap_start bytes)

-- How many lines a put touches at most, reads and writes together, where so many slots stand behind the new one: two for each line of
-- these slots and of the record, and eight.
abbrev pub put_cost : ℕ → ℕ → ℕ
put_cost behind long = 8 + 2 * ((behind + 15) / 16) + 2 * ((long + 70) / 64)

-- The leaf has the rows with the value put, and the lines that differ were written alone, each once. Where the key had a value of
-- this length, they are lines of its record.
pub record PutByLines {A : Type 0} (page : ℕ) (expect : Expect) (key : ℕ) (value : List ℕ) (old new : Standing A) : Type 0 where
  pub rows : IsWellFormed (bytes_of old.current page) expect → Holds leaf_rows expect (bytes_of new.current page) (row_put key value (leaf_rows (bytes_of old.current page)))
  pub placed : IsWellFormed (bytes_of old.current page) expect → PlacesRecord key (length value) (bytes_of old.current page) (bytes_of new.current page)
  pub others : OtherPages page old.current new.current
  pub only : WritesOnly page (Differs (bytes_of old.current page) (bytes_of new.current page)) old new
  pub once : old.room ≤ new.room + lines_changed (bytes_of old.current page) (bytes_of new.current page)
  pub again : IsWellFormed (bytes_of old.current page) expect → HoldsLength key (length value) (leaf_rows (bytes_of old.current page)) → (line : ℕ) → Differs (bytes_of old.current page) (bytes_of new.current page) line
      → Meets (record_at key (bytes_of old.current page)) line

-- It was put so.
abbrev pub IsPutByLines : {A : Type 0} → ℕ → Expect → ℕ → List ℕ → Standing A → Standing A → Bool → Type 0
IsPutByLines page expect key value old new true = PutByLines page expect key value old new
IsPutByLines page expect key value old new false = Unit {0}

-- Nothing was changed, and some lines of the page were read.
abbrev pub IsLeft : {A : Type 0} → ℕ → Standing A → Standing A → Bool → Type 0
IsLeft page old new true = Unit {0}
IsLeft page old new false = ReadsPage page old new

-- where a key is found in a leaf, or else would stand
abbrev pub IsFound : List ℕ → Expect → ℕ → Result ℕ ℕ → Type 0
IsFound bytes expect key (Ok at) = IsSpot bytes expect key (Row at)
IsFound bytes expect key (Err at) = IsSpot bytes expect key (Gap at)

-- how many slots a new row moves
abbrev pub slots_behind : Result ℕ ℕ → List ℕ → ℕ
slots_behind (Ok at) bytes = 0
slots_behind (Err at) bytes = entry_count bytes - at
