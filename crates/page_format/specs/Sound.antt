-- A leaf whose slots and records stand where they may, whatever the rows are: checks 11 to 14.
use Rattle.std.specs.Prelude.{◌≡◌, ℕ, ◌+◌, ◌*◌, ◌≤◌, true, List, length, sum}
use Rattle.std.specs.List.{list_all}
use Rattle.page_format.specs.Node.{page_kind, page_level, Slot, entry_count, heap_start, slots, is_in_heap, all_apart, has_printable_value}
use Rattle.page_format.specs.Room.{sizes, leaf_room}
use Rattle.line_pages.specs.Bytes.{u16_at}
use Rattle.rows.specs.Rows.{Row, keys, Ascends, last_key}

pub record IsSound (bytes : List ℕ) : Type 0 where
  pub size : length bytes ≡ 4096
  pub kind : page_kind bytes ≡ 1
  pub level : page_level bytes ≡ 0
  pub below_heap : 64 + 4 * entry_count bytes ≤ heap_start bytes
  pub heap : heap_start bytes ≤ 4096
  pub in_heap : list_all (is_in_heap (heap_start bytes)) (slots bytes) ≡ true
  pub apart : all_apart (slots bytes) ≡ true

-- the bytes that rows take in a leaf
unfoldable pub row_bytes : List Row → ℕ
row_bytes rows = sum (sizes rows)

-- rows that a leaf may have
pub record IsRows (rows : List Row) : Type 0 where
  pub used : row_bytes rows ≤ leaf_room
  pub order : Ascends 0 last_key (keys rows)
  pub printable : list_all has_printable_value rows ≡ true

-- the slot at an index
abbrev pub slot_of : List ℕ → ℕ → Slot
slot_of bytes i = record { place = u16_at bytes (64 + 4 * i); size = u16_at bytes (64 + 4 * i + 2) }

pub record InHeap (heap : ℕ) (slot : Slot) : Type 0 where
  pub above : heap ≤ slot.place
  pub below : slot.place + slot.size ≤ 4096
  pub key : 8 ≤ slot.size
  pub value : slot.size ≤ 488
