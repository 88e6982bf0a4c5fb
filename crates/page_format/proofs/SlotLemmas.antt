-- The slots and rows of a leaf, by index.
use Rattle.std.proofs.Common.{◌≡◌, ℕ, zero, suc, ◌+◌, ◌*◌, ◌<◌, true, List, [], ◌∷◌, length, get_or, refl, ap, sym, ◌∙◌, arith, nat_le, ◌&&◌}
use Rattle.std.specs.List.{list_all}
use Rattle.std.proofs.lemmas.Bool.{leb-true, le-leb, and_parts}
use Rattle.std.proofs.lemmas.List.{length-map, get_or-map}
use Rattle.line_pages.specs.Bytes.{u16_at}
use Rattle.rows.specs.Rows.{Row}
use Rattle.page_format.specs.Node.{Slot, slots, slots_from, row_in, leaf_rows, entry_count, heap_start, is_in_heap}
use Rattle.page_format.specs.Sound.{IsSound, InHeap, slot_of}

pub slots_from-length : (bytes : List ℕ) (at n : ℕ) → length (slots_from bytes at n) ≡ n
slots_from-length bytes at zero = refl
slots_from-length bytes at (suc n) = ap suc (slots_from-length bytes (at + 4) n)

slots_from-get : (bytes : List ℕ) (at n i : ℕ) (d : Slot) → i < n → get_or (slots_from bytes at n) i d ≡ record { place = u16_at bytes (at + 4 * i); size = u16_at bytes (at + 4 * i + 2) }
slots_from-get bytes at zero i d h = absurd (omega arith)
slots_from-get bytes at (suc n) zero d h = ap (λ (k : ℕ). record { place = u16_at bytes k; size = u16_at bytes (k + 2) }) (omega arith)
slots_from-get bytes at (suc n) (suc i) d h =
    slots_from-get bytes (at + 4) n i d (omega arith) ∙ ap (λ (k : ℕ). record { place = u16_at bytes k; size = u16_at bytes (k + 2) }) (omega arith)

pub length-slots : (bytes : List ℕ) → length (slots bytes) ≡ entry_count bytes
unfolding slots
length-slots bytes = slots_from-length bytes 64 (entry_count bytes)

pub length_rows : (bytes : List ℕ) → length (leaf_rows bytes) ≡ entry_count bytes
unfolding leaf_rows
length_rows bytes = length-map (slots bytes) (row_in bytes) ∙ length-slots bytes

pub slot_at : (bytes : List ℕ) (i : ℕ) (d : Slot) → i < entry_count bytes → get_or (slots bytes) i d ≡ slot_of bytes i
unfolding slots
slot_at bytes i d h = slots_from-get bytes 64 (entry_count bytes) i d h

pub row_at : (bytes : List ℕ) (i : ℕ) (d : Row) → i < entry_count bytes → get_or (leaf_rows bytes) i d ≡ row_in bytes (slot_of bytes i)
unfolding leaf_rows
row_at bytes i d h =
    let in_slots : i < length (slots bytes) = omega (arith, length-slots bytes) in
    get_or-map (row_in bytes) (slots bytes) i (record { place = 0; size = 0 }) d in_slots ∙ ap (row_in bytes) (slot_at bytes i (record { place = 0; size = 0 }) h)

pub in_heap_one : (heap : ℕ) (slot : Slot) → is_in_heap heap slot ≡ true → InHeap heap slot
in_heap_one heap slot ok =
    let p3 = and_parts (nat_le heap slot.place && nat_le (slot.place + slot.size) 4096 && nat_le 8 slot.size) (nat_le slot.size 488) ok in
    let p2 = and_parts (nat_le heap slot.place && nat_le (slot.place + slot.size) 4096) (nat_le 8 slot.size) p3.0 in
    let p1 = and_parts (nat_le heap slot.place) (nat_le (slot.place + slot.size) 4096) p2.0 in
    record { above = leb-true heap slot.place p1.0; below = leb-true (slot.place + slot.size) 4096 p1.1; key = leb-true 8 slot.size p2.1; value = leb-true slot.size 488 p3.1 }

pub in_heap_is : (heap : ℕ) (slot : Slot) → InHeap heap slot → is_in_heap heap slot ≡ true
in_heap_is heap slot is = rw (le-leb heap slot.place is.above, le-leb (slot.place + slot.size) 4096 is.below, le-leb 8 slot.size is.key, le-leb slot.size 488 is.value) refl

pub each_in_heap : (heap : ℕ) (all : List Slot) (i : ℕ) (d : Slot) → list_all (is_in_heap heap) all ≡ true → i < length all → is_in_heap heap (get_or all i d) ≡ true
each_in_heap heap [] i d ok h = absurd (omega arith)
each_in_heap heap (slot ∷ rest) zero d ok h = (and_parts (is_in_heap heap slot) (list_all (is_in_heap heap) rest) ok).0
each_in_heap heap (slot ∷ rest) (suc i) d ok h = each_in_heap heap rest i d (and_parts (is_in_heap heap slot) (list_all (is_in_heap heap) rest) ok).1 (omega arith)

pub slot_in_heap : (bytes : List ℕ) (i : ℕ) → list_all (is_in_heap (heap_start bytes)) (slots bytes) ≡ true → i < entry_count bytes → InHeap (heap_start bytes) (slot_of bytes i)
slot_in_heap bytes i placed inside =
    let d : Slot = record { place = 0; size = 0 } in
    in_heap_one (heap_start bytes) (slot_of bytes i) (ap (is_in_heap (heap_start bytes)) (sym (slot_at bytes i d inside)) ∙ each_in_heap (heap_start bytes) (slots bytes) i d placed (omega (arith, length-slots bytes)))

-- each slot of a sound leaf lies in the page, and its record in the heap
pub slot_inside : (bytes : List ℕ) (i : ℕ) → IsSound bytes → i < entry_count bytes → InHeap (heap_start bytes) (slot_of bytes i)
slot_inside bytes i sound inside = slot_in_heap bytes i sound.in_heap inside
