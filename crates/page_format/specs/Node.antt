-- Leaf and inner pages: their rows and children, and the numbered checks that a page of a tree passes.
use Rattle.std.specs.Prelude.{◌≡◌, ℕ, zero, suc, ◌+◌, ◌*◌, Bool, true, List, [], ◌∷◌, map, sum_by, slice_range, Option, None, nat_lt, nat_le, ◌==◌, ◌&&◌, ◌||◌, if◌then◌else◌}
use Rattle.std.specs.List.{list_all}
use Rattle.rows.specs.Value.{is_printable}
use Rattle.page_format.specs.declared.root.Expect.{Expect}
use Rattle.line_pages.specs.Bytes.{u16_at, u64_at}
use Rattle.damage.specs.Checks.{first_failure, but_for}
use Rattle.rows.specs.Rows.{Row, keys, ascends, last_key}
use Rattle.page_format.specs.Room.{leaf_room, leaf_floor, inner_room, inner_floor}

-- Words 0 to 3 of a page: its kind, how many rows or children it has, its level, and where its records begin.
abbrev pub page_kind : List ℕ → ℕ
page_kind bytes = u64_at bytes 0

abbrev pub entry_count : List ℕ → ℕ
entry_count bytes = u64_at bytes 8

abbrev pub page_level : List ℕ → ℕ
page_level bytes = u64_at bytes 16

abbrev pub heap_start : List ℕ → ℕ
heap_start bytes = u64_at bytes 24

-- where a record stands, and how long it is
pub record Slot : Type 0 where
  pub place : ℕ
  pub size : ℕ

abbrev pub slots_from : List ℕ → ℕ → ℕ → List Slot
slots_from bytes at zero = []
slots_from bytes at (suc n) = record { place = u16_at bytes at; size = u16_at bytes (at + 2) } ∷ slots_from bytes (at + 4) n

unfoldable pub slots : List ℕ → List Slot
slots bytes = slots_from bytes 64 (entry_count bytes)

-- a record: the eight bytes of its key, then its value
abbrev pub row_in : List ℕ → Slot → Row
row_in bytes slot = (u64_at bytes slot.place, slice_range bytes (slot.place + 8) (slot.place + slot.size))

-- the rows of a leaf, in the order of its slots
unfoldable pub leaf_rows : List ℕ → List Row
leaf_rows bytes = map (row_in bytes) (slots bytes)

-- a first key and the page of the child
abbrev pub Child : Type 0
Child = ℕ × ℕ

abbrev pub children_from : List ℕ → ℕ → ℕ → List Child
children_from bytes at zero = []
children_from bytes at (suc n) = (u64_at bytes at, u64_at bytes (at + 8)) ∷ children_from bytes (at + 16) n

-- the children of an inner page, in order
unfoldable pub children : List ℕ → List Child
children bytes = children_from bytes 64 (entry_count bytes)

-- the bytes that the slots and the records take
abbrev pub bytes_used : List Slot → ℕ
bytes_used all = sum_by (λ (slot : Slot). 4 + slot.size) all

-- the record lies in the heap and has a length that a row can have
abbrev pub is_in_heap : ℕ → Slot → Bool
is_in_heap heap slot = nat_le heap slot.place && nat_le (slot.place + slot.size) 4096 && nat_le 8 slot.size && nat_le slot.size 488

-- two records share no byte
abbrev pub are_apart : Slot → Slot → Bool
are_apart one other = nat_le (one.place + one.size) other.place || nat_le (other.place + other.size) one.place

abbrev pub all_apart : List Slot → Bool
all_apart [] = true
all_apart (slot ∷ rest) = list_all (are_apart slot) rest && all_apart rest

abbrev pub has_printable_value : Row → Bool
has_printable_value row = list_all is_printable row.1

-- the first child's key is the low bound
abbrev pub begins_at : ℕ → List Child → Bool
begins_at low [] = true
begins_at low (child ∷ rest) = child.0 == low

abbrev pub is_page_below : ℕ → Child → Bool
is_page_below pages child = nat_lt 0 child.1 && nat_lt child.1 pages

abbrev pub leaf_checks : List ℕ → Expect → List (ℕ × Bool)
leaf_checks bytes expect =
    (11, page_kind bytes == 1)
    ∷ (12, page_level bytes == expect.level)
    ∷ (13, nat_le (64 + 4 * entry_count bytes) (heap_start bytes) && nat_le (heap_start bytes) 4096)
    ∷ (14, list_all (is_in_heap (heap_start bytes)) (slots bytes) && all_apart (slots bytes))
    ∷ (15, nat_le (bytes_used (slots bytes)) leaf_room)
    ∷ (16, ascends expect.low expect.high (keys (leaf_rows bytes)))
    ∷ (17, list_all has_printable_value (leaf_rows bytes))
    ∷ (21, expect.root || nat_le leaf_floor (bytes_used (slots bytes))) ∷ []

abbrev pub first_keys : List Child → List ℕ
first_keys all = map (λ (child : Child). child.0) all

abbrev pub inner_checks : List ℕ → Expect → List (ℕ × Bool)
inner_checks bytes expect =
    (11, page_kind bytes == 2)
    ∷ (12, page_level bytes == expect.level)
    ∷ (18, nat_le 2 (entry_count bytes) && nat_le (entry_count bytes) inner_room)
    ∷ (19, begins_at expect.low (children bytes) && ascends expect.low expect.high (first_keys (children bytes)))
    ∷ (20, list_all (is_page_below expect.pages) (children bytes))
    ∷ (22, expect.root || nat_le inner_floor (entry_count bytes)) ∷ []

abbrev pub checks : List ℕ → Expect → List (ℕ × Bool)
checks bytes expect = if expect.level == 0 then leaf_checks bytes expect else inner_checks bytes expect

-- the number of the first check that fails
unfoldable pub first_failing : List ℕ → Expect → Option ℕ
first_failing bytes expect = first_failure (checks bytes expect)

abbrev pub IsWellFormed : List ℕ → Expect → Type 0
IsWellFormed bytes expect = first_failing bytes expect ≡ None

-- the same, where the checks of some numbers are left out
unfoldable pub first_failing_but : List ℕ → List ℕ → Expect → Option ℕ
first_failing_but skipped bytes expect = first_failure (but_for skipped (checks bytes expect))

-- A leaf that is well formed in itself, however full it is, as any root may be.
abbrev pub any_leaf : Expect
any_leaf = record { level = 0; low = 0; high = last_key; root = true; pages = 0 }

abbrev pub IsLeaf : List ℕ → Type 0
IsLeaf bytes = IsWellFormed bytes any_leaf
