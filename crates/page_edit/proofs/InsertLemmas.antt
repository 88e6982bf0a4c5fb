-- A row put into a leaf.
use Rattle.std.proofs.Common.{◌≡◌, ℕ, zero, suc, ◌+◌, ◌-◌, ◌*◌, ◌<◌, ◌≤◌, true, List, [], ◌∷◌, ◌++◌, map, length, take, drop, refl, ap, sym, ◌∙◌, arith, nat_le, inl, inr, Bool}
use Rattle.std.specs.List.{list_all, insert}
use Rattle.std.proofs.lemmas.Bool.{le-leb, and_parts, cases_lt, cases_eq}
use Rattle.std.proofs.lemmas.List.{map-append, take-map, drop-map, same_lists}
use Rattle.std.proofs.lemmas.List.Edits.{length-insert, get_or-insert_below, get_or-insert_at, get_or-insert_above}
use Rattle.ssd_model.specs.Page.{Same, Moved}
use Rattle.rows.specs.Rows.{Row}
use Rattle.page_format.specs.Node.{Slot, slots, row_in, leaf_rows, page_kind, page_level, entry_count, heap_start, is_in_heap, are_apart, all_apart}
use Rattle.page_format.specs.Sound.{IsSound, slot_of}
use Rattle.page_edit.specs.Laid.{Lays}
use Rattle.page_format.proofs.SlotLemmas.{length-slots, slot_at, in_heap_one, in_heap_is}
use Rattle.std.proofs.Math.Bool.{or-true}
use Rattle.line_pages.proofs.NumberLaws.{u16_at-same, u64_at-same, range-same, u16_at-moved}

-- What the bytes of a leaf are after a slot and its record were put into it.
pub record Puts (at place size : ℕ) (row : Row) (old new : List ℕ) : Type 0 where
  pub kind : page_kind new ≡ page_kind old
  pub level : page_level new ≡ page_level old
  pub count : entry_count new ≡ entry_count old + 1
  pub heap : heap_start new ≡ place
  pub before : (k : ℕ) → k < at → slot_of new k ≡ slot_of old k
  pub here : slot_of new at ≡ record { place = place; size = size }
  pub after : (k : ℕ) → at ≤ k → k < entry_count old → slot_of new (k + 1) ≡ slot_of old k
  pub record_is : row_in new (record { place = place; size = size }) ≡ row
  pub rest : Same (place + size) 4096 old new
  pub size_old : length old ≡ 4096
  pub size_new : length new ≡ 4096

pub all_insert : {X : Type 0} (p : X → Bool) (xs : List X) (i : ℕ) (x : X) → list_all p xs ≡ true → p x ≡ true → list_all p (insert xs i x) ≡ true
all_insert p xs zero x all one = rw (one, all) refl
all_insert p [] (suc i) x all one = rw one refl
all_insert p (y ∷ ys) (suc i) x all one =
    let parts = and_parts (p y) (list_all p ys) all in
    rw (parts.0, all_insert p ys i x parts.1 one) refl

pub slots_put : (at place size : ℕ) (row : Row) (old new : List ℕ) → Puts at place size row old new → at ≤ entry_count old → slots new ≡ insert (slots old) at (record { place = place; size = size })
slots_put at place size row old new puts within =
    let count = length-slots old in
    let count_new = length-slots new in
    let longer = length-insert (slots old) at (record { place = place; size = size }) (omega arith) in
    same_lists (slots new) (insert (slots old) at (record { place = place; size = size })) (omega (arith, puts.count, longer)) (λ k d k_in.
    elim (cases_lt k at) [
      | inl low ↦ slot_at new k d (omega arith) ∙ puts.before k low ∙ sym (slot_at old k d (omega arith)) ∙ sym (get_or-insert_below (slots old) at (record { place = place; size = size }) d k low (omega arith))
      | inr high ↦ elim (cases_eq k at) [
        | inl e ↦ rw e (slot_at new at d (omega (arith, puts.count)) ∙ puts.here ∙ sym (get_or-insert_at (slots old) at (record { place = place; size = size }) d (omega arith)))
        | inr ne ↦
            let step : k ≡ (k - 1) + 1 = omega (arith, ne, high) in
            let in_old : k - 1 < entry_count old = omega (arith, puts.count, ne, high) in
            rw step (slot_at new (k - 1 + 1) d (omega (arith, puts.count)) ∙ puts.after (k - 1) (omega (arith, ne, high)) in_old ∙ sym (slot_at old (k - 1) d in_old)
            ∙ sym (get_or-insert_above (slots old) at (record { place = place; size = size }) d (k - 1) (omega (arith, ne, high)) (omega arith)))
      ]
    ])

-- the records are as they were where the heap is
pub rows_same : (heap : ℕ) (old new : List ℕ) (all : List Slot) → list_all (is_in_heap heap) all ≡ true → Same heap 4096 old new → length old ≡ 4096 → length new ≡ 4096 → map (row_in new) all ≡ map (row_in old) all
rows_same heap old new [] ok same size size_new = refl
rows_same heap old new (slot ∷ rest) ok same size size_new =
    let parts = and_parts (is_in_heap heap slot) (list_all (is_in_heap heap) rest) ok in
    let one = in_heap_one heap slot parts.0 in
    let key = u64_at-same heap 4096 slot.place old new same one.above (omega (arith, one)) in
    let value = range-same heap 4096 (slot.place + 8) (slot.place + slot.size) old new same (omega (arith, one)) one.below (omega (arith, one)) (omega arith) in
    rw (key, value, rows_same heap old new rest parts.1 same size size_new) refl

pub rows_put : (at place size : ℕ) (row : Row) (old new : List ℕ) → Puts at place size row old new → at ≤ entry_count old → place + size ≡ heap_start old → IsSound old → leaf_rows new ≡ insert (leaf_rows old) at row
unfolding leaf_rows
rows_put at place size row old new puts within below sound =
    let slot : Slot = record { place = place; size = size } in
    let same = rows_same (heap_start old) old new (slots old) sound.in_heap (rw below at puts.rest) puts.size_old puts.size_new in
    ap (map (row_in new)) (slots_put at place size row old new puts within)
    ∙ map-append (row_in new) (take at (slots old)) (slot ∷ drop at (slots old))
    ∙ ap (λ front. front ++ (row_in new slot ∷ map (row_in new) (drop at (slots old)))) (sym (take-map (row_in new) at (slots old)))
    ∙ ap (λ back. take at (map (row_in new) (slots old)) ++ (row_in new slot ∷ back)) (sym (drop-map (row_in new) at (slots old)))
    ∙ ap (λ r. take at (map (row_in new) (slots old)) ++ (r ∷ drop at (map (row_in new) (slots old)))) puts.record_is
    ∙ ap (λ all. insert all at row) same

-- a record is as it was where its bytes are
pub row_in-same : (from end : ℕ) (old new : List ℕ) (slot : Slot) → Same from end old new → from ≤ slot.place → slot.place + 8 ≤ end → slot.place + slot.size ≤ end → end ≤ length old → length new ≡ length old → row_in new slot ≡ row_in old slot
row_in-same from end old new slot same low key_in value_in within size =
    let key = u64_at-same from end slot.place old new same low key_in in
    let value = range-same from end (slot.place + 8) (slot.place + slot.size) old new same (omega arith) value_in (omega arith) size in
    rw (key, value) refl

-- a slot is as it was where its four bytes are
pub slot_of-same : (from end i : ℕ) (old new : List ℕ) → Same from end old new → from ≤ 64 + 4 * i → 68 + 4 * i ≤ end → slot_of new i ≡ slot_of old i
slot_of-same from end i old new same low high =
    let place = u16_at-same from end (64 + 4 * i) old new same low (omega arith) in
    let size = u16_at-same from end (64 + 4 * i + 2) old new same (omega arith) (omega arith) in
    rw (place, size) refl

-- a slot that was moved up or down
pub slot_of-moved : (from end to i was : ℕ) (old new : List ℕ) → Moved from end to old new → to ≤ 64 + 4 * i → 64 + 4 * was + to ≡ from + (64 + 4 * i) → 68 + 4 * was ≤ end → slot_of new i ≡ slot_of old was
slot_of-moved from end to i was old new moved low there high =
    let place = u16_at-moved from end to (64 + 4 * i - to) (64 + 4 * i) (64 + 4 * was) old new moved (omega arith) (omega arith) (omega arith) in
    let size = u16_at-moved from end to (64 + 4 * i + 2 - to) (64 + 4 * i + 2) (64 + 4 * was + 2) old new moved (omega arith) (omega arith) (omega arith) in
    rw (place, size) refl

-- bytes that were moved after a step that left them
pub same_moved : (from end to x y : ℕ) (old mid new : List ℕ) → Same x y old mid → x ≤ from → end ≤ y → Moved from end to mid new → Moved from end to old new
same_moved from end to x y old mid new same low high moved = record { each = λ j h. moved.each j h ∙ same.each (from + j) (omega arith) (omega arith) }

-- a row laid into a leaf is put into it
pub laid_puts : (at count place size : ℕ) (row : Row) (old new : List ℕ) → Lays at count (count + 1) place size row old new
    → at ≤ count → 68 + 4 * count ≤ place → count ≡ entry_count old → length old ≡ 4096 → length new ≡ 4096 → Puts at place size row old new
laid_puts at count place size row old new lays within room count_is size_old size_new = record {
  kind = u64_at-same 0 8 0 old new lays.kind (omega arith) (omega arith);
  level = u64_at-same 16 24 16 old new lays.level (omega arith) (omega arith);
  count = lays.count_is ∙ ap (λ (n : ℕ). n + 1) count_is;
  heap = lays.heap_is;
  before = λ k low. slot_of-same 32 (64 + 4 * at) k old new lays.before (omega arith) (omega arith);
  here = lays.slot;
  after = λ k low high. slot_of-moved (64 + 4 * at) (64 + 4 * count) (68 + 4 * at) (k + 1) k old new lays.moved (omega arith) (omega arith) (omega (arith, count_is));
  record_is = lays.record_is;
  rest = lays.after;
  size_old = size_old;
  size_new = size_new;
}

abbrev Below : ℕ → Slot → Type 0
Below heap slot = slot.place + slot.size ≤ heap

apart_from : (heap : ℕ) (x y : Slot) → Below heap x → is_in_heap heap y ≡ true → (are_apart x y ≡ true) × (are_apart y x ≡ true)
apart_from heap x y below ok =
    let one = in_heap_one heap y ok in
    let fact = le-leb (x.place + x.size) y.place (omega (arith, one.above)) in
    (rw fact refl, rw (fact, or-true (nat_le (y.place + y.size) x.place)) refl)

all_apart_from : (heap : ℕ) (x : Slot) (ys : List Slot) → Below heap x → list_all (is_in_heap heap) ys ≡ true → list_all (are_apart x) ys ≡ true
all_apart_from heap x [] below ok = refl
all_apart_from heap x (y ∷ ys) below ok =
    let parts = and_parts (is_in_heap heap y) (list_all (is_in_heap heap) ys) ok in
    rw ((apart_from heap x y below parts.0).0, all_apart_from heap x ys below parts.1) refl

apart_put : (heap : ℕ) (x : Slot) (ys : List Slot) (i : ℕ) → Below heap x → list_all (is_in_heap heap) ys ≡ true → all_apart ys ≡ true → all_apart (insert ys i x) ≡ true
apart_put heap x ys zero below ok apart = rw (all_apart_from heap x ys below ok, apart) refl
apart_put heap x [] (suc i) below ok apart = refl
apart_put heap x (y ∷ ys) (suc i) below ok apart =
    let parts = and_parts (is_in_heap heap y) (list_all (is_in_heap heap) ys) ok in
    let aparts = and_parts (list_all (are_apart y) ys) (all_apart ys) apart in
    rw (all_insert (are_apart y) ys i x aparts.0 (apart_from heap x y below parts.0).1, apart_put heap x ys i below parts.1 aparts.1) refl

-- a lower heap start
in_heap_lower : (heap lower : ℕ) (ys : List Slot) → lower ≤ heap → list_all (is_in_heap heap) ys ≡ true → list_all (is_in_heap lower) ys ≡ true
in_heap_lower heap lower [] h ok = refl
in_heap_lower heap lower (y ∷ ys) h ok =
    let parts = and_parts (is_in_heap heap y) (list_all (is_in_heap heap) ys) ok in
    let one = in_heap_one heap y parts.0 in
    rw (in_heap_is lower y (record { above = omega (arith, one.above); below = one.below; key = one.key; value = one.value }), in_heap_lower heap lower ys h parts.1) refl

pub sound_put : (at place size : ℕ) (row : Row) (old new : List ℕ) → Puts at place size row old new → at ≤ entry_count old → place + size ≡ heap_start old → IsSound old
    → 8 ≤ size → size ≤ 488 → 64 + 4 * (entry_count old + 1) ≤ place → IsSound new
sound_put at place size row old new puts within below sound least most room =
    let slot : Slot = record { place = place; size = size } in
    let is = slots_put at place size row old new puts within in
    record {
      size = puts.size_new;
      kind = puts.kind ∙ sound.kind;
      level = puts.level ∙ sound.level;
      below_heap = omega (arith, puts.count, puts.heap);
      heap = omega (arith, puts.heap, sound.heap);
      in_heap = rw (puts.heap, is) (all_insert (is_in_heap place) (slots old) at slot (in_heap_lower (heap_start old) place (slots old) (omega arith) sound.in_heap)
          (in_heap_is place slot (record { above = omega arith; below = omega (arith, sound.heap); key = least; value = most })));
      apart = rw is (apart_put (heap_start old) slot (slots old) at (omega arith) sound.in_heap sound.apart);
    }
