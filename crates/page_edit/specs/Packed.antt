-- Where the records of a changed leaf stand.
use Rattle.std.specs.Prelude.{◌≡◌, ℕ, ◌+◌, ◌*◌, List, [], ◌∷◌}
use Rattle.std.specs.List.{insert}
use Rattle.ssd_model.specs.Page.{Same}
use Rattle.page_format.specs.Node.{Slot, slots, entry_count, heap_start, leaf_rows}
use Rattle.page_format.specs.Sound.{IsSound, row_bytes}

-- the records stand without a gap up to the page's end
pub record IsPacked (bytes : List ℕ) : Type 0 where
  pub sound : IsSound bytes
  pub tight : heap_start bytes + row_bytes (leaf_rows bytes) ≡ 4096 + 4 * entry_count bytes

-- records stand one just below the other, the first one up to an end, the last one from the heap's start on
abbrev pub Descends : ℕ → ℕ → List Slot → Type 0
Descends end heap [] = heap ≡ end
Descends end heap (slot ∷ rest) = (slot.place + slot.size ≡ end) × Descends slot.place heap rest

-- packed in the order of the slots: slot 0's record is the last one in the page
pub record IsPackedInOrder (bytes : List ℕ) : Type 0 where
  pub packed : IsPacked bytes
  pub order : Descends 4096 (heap_start bytes) (slots bytes)

-- how high the heap must start so that one slot more, and below the heap a record of so many bytes, have room
abbrev pub heap_for : ℕ → List ℕ → ℕ
heap_for size bytes = 64 + 4 * (entry_count bytes + 1) + size

-- a record of so many bytes was put just below the heap's start, and the others stand where they stood
pub record AddsBelow (size : ℕ) (old new : List ℕ) : Type 0 where
  pub heap : heap_start new + size ≡ heap_start old
  pub kept : Same (heap_start old) 4096 old new

-- that record has its slot at an index, and the slots of the others are as they were
pub record PutsBelow (at size : ℕ) (old new : List ℕ) : Type 0 where
  pub adds : AddsBelow size old new
  pub slots_are : slots new ≡ insert (slots old) at (record { place = heap_start new; size = size })

-- the records were packed first, and then such a record was put below them
pub record PacksFirst (at size : ℕ) (old new : List ℕ) : Type 0 where
  pub packed : List ℕ
  pub rows : leaf_rows packed ≡ leaf_rows old
  pub in_order : IsPackedInOrder packed
  pub puts : PutsBelow at size packed new
  pub tight : IsPacked new
