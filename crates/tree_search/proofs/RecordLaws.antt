-- What a row's record gives in a well-formed leaf.
use Rattle.std.proofs.Common.{◌≡◌, ℕ, zero, suc, ◌+◌, ◌-◌, ◌<◌, ◌≤◌, Bool, true, false, List, [], ◌∷◌, length, get_or, Option, Some, None, Result, Ok, Err, IfOk, refl, sym, ap, ◌∙◌, arith, slice_get, nat_le, cond, drop, length-take}
use Rattle.std.specs.List.{list_all}
use Rattle.std.proofs.lemmas.Bool.{le-leb, and_parts, and_from}
use Rattle.page_format.specs.declared.root.Expect.{Expect}
use Rattle.rows.specs.Rows.{Row}
use Rattle.page_format.specs.Node.{entry_count, heap_start, slots, leaf_rows, row_in, is_in_heap, has_printable_value, IsWellFormed}
use Rattle.rows.specs.Value.{is_printable}
use Rattle.page_format.specs.Sound.{slot_of, InHeap}
use Rattle.rows.specs.Value.{is_value, value_of}
use Rattle.page_format.proofs.PageFacts.{leaf_facts}
use Rattle.page_format.proofs.SlotLemmas.{length-slots, length_rows, slot_at, row_at, in_heap_one, each_in_heap}
use Rattle.tree_search.specs.declared.row.Record.{Record}
use Rattle.tree_search.specs.Record.{is_record, with_key, row_found, slot_in, held, HasValue}

pub record Got {X : Type 0} (xs : List X) (at : ℕ) (x : X) : Type 0 where
  pub within : at < length xs
  pub is : (d : X) → get_or xs at d ≡ x

pub got : {X : Type 0} (xs : List X) (at : ℕ) (x : X) → slice_get xs at ≡ Some x → Got xs at x
got [] at x e = absurd (cc)
got (y ∷ ys) zero x e = record { within = omega arith; is = λ d. (cc) }
got (y ∷ ys) (suc at) x e = let ih = got ys at x e in record { within = omega (arith, ih.within); is = ih.is }

pub all_at : {X : Type 0} (p : X → Bool) (xs : List X) (at : ℕ) (x : X) → list_all p xs ≡ true → slice_get xs at ≡ Some x → p x ≡ true
all_at p [] at x all e = absurd (cc)
all_at p (y ∷ ys) zero x all e = let same : y ≡ x = cc in ap p (sym same) ∙ (and_parts (p y) (list_all p ys) all).0
all_at p (y ∷ ys) (suc at) x all e = all_at p ys at x (and_parts (p y) (list_all p ys) all).1 e

pub record Found (bytes : List ℕ) (at : ℕ) (row : Row) : Type 0 where
  pub below : at < 1008
  pub is : row_found bytes (slot_of bytes at) ≡ Some row

pub found_row : (bytes : List ℕ) (expect : Expect) (at : ℕ) (row : Row) → expect.level ≡ 0 → IsWellFormed bytes expect → slice_get (leaf_rows bytes) at ≡ Some row → Found bytes at row
found_row bytes expect at row level well got_it =
    let facts = leaf_facts bytes expect level well in
    let g = got (leaf_rows bytes) at row got_it in
    let within : at < entry_count bytes = omega (arith, g.within, length_rows bytes) in
    let slot = slot_of bytes at in
    let is_row : row_in bytes slot ≡ row = sym (row_at bytes at row within) ∙ g.is row in
    let in_heap : InHeap (heap_start bytes) slot =
    in_heap_one (heap_start bytes) slot (ap (is_in_heap (heap_start bytes)) (sym (slot_at bytes at slot within)) ∙ each_in_heap (heap_start bytes) (slots bytes) at slot facts.in_heap (omega (arith, within, length-slots bytes))) in
    let printable : list_all is_printable (row_in bytes slot).1 ≡ true = ap (λ (r : Row). list_all is_printable r.1) is_row ∙ all_at has_printable_value (leaf_rows bytes) at row facts.printable got_it in
    let short : length (row_in bytes slot).1 ≤ 480 = omega (arith, length-take (slot.place + slot.size - (slot.place + 8)) (drop (slot.place + 8) bytes), in_heap.value) in
    let value : is_value (row_in bytes slot).1 ≡ true = and_from (nat_le (length (row_in bytes slot).1) 480) (list_all is_printable (row_in bytes slot).1) (le-leb (length (row_in bytes slot).1) 480 short) printable in
    let fits : is_record slot ≡ true = and_from (nat_le 8 slot.size) (nat_le (slot.place + slot.size) 4096) (le-leb 8 slot.size in_heap.key) (le-leb (slot.place + slot.size) 4096 in_heap.below) in
    record {
      below = omega (arith, within, facts.below_heap, facts.heap);
      is = ap (λ b. cond b (with_key (row_in bytes slot).0 (value_of (row_in bytes slot).1)) None) fits
          ∙ ap (λ b. with_key (row_in bytes slot).0 (cond b (Some (row_in bytes slot).1) None)) value ∙ ap (λ (r : Row). Some r) is_row;
    }

-- the slot of a row that a leaf has
pub slot_fits : (bytes : List ℕ) (expect : Expect) (at : ℕ) (row : Row) → expect.level ≡ 0 → IsWellFormed bytes expect → slice_get (leaf_rows bytes) at ≡ Some row → InHeap (heap_start bytes) (slot_of bytes at)
slot_fits bytes expect at row level well got_it =
    let facts = leaf_facts bytes expect level well in
    let within : at < entry_count bytes = omega (arith, (got (leaf_rows bytes) at row got_it).within, length_rows bytes) in
    in_heap_one (heap_start bytes) (slot_of bytes at) (ap (is_in_heap (heap_start bytes)) (sym (slot_at bytes at (slot_of bytes at) within)) ∙ each_in_heap (heap_start bytes) (slots bytes) at (slot_of bytes at) facts.in_heap (omega (arith, within, length-slots bytes)))

-- the value of a record whose row is known
value_by : (fits : Bool) (key : ℕ) (value : Option (List ℕ)) (row : Row) → cond fits (with_key key value) None ≡ Some row → cond fits value None ≡ Some row.1
value_by true key (Some value) row is = let same : (key, value) ≡ row = cc in ap (λ (r : Row). Some r.1) same
value_by true key None row is = absurd (cc)
value_by false key value row is = absurd (cc)

value_held : (bytes : List ℕ) (found : Option Record) (row : Row) → held bytes found ≡ Some row → HasValue bytes found (Some row.1)
value_held bytes None row is = absurd (cc)
value_held bytes (Some r) row is = (value_by (is_record (slot_in r)) (row_in bytes (slot_in r)).0 (value_of (row_in bytes (slot_in r)).1) row is, refl)

pub values_held : {E : Type 0} (bytes : List ℕ) (result : Result (Option Record) E) (row : Row) → IfOk result (λ found. held bytes found ≡ Some row) → IfOk result (λ found. HasValue bytes found (Some row.1))
values_held bytes (Ok found) row is = value_held bytes found row is
values_held bytes (Err e) row is = tt

-- where nothing is found, the record is none of a leaf's rows
pub not_held : {A : Type 0} (bytes : List ℕ) (found : Option Record) (row : Option Row) (r : Row) → found ≡ None → held bytes found ≡ row → row ≡ Some r → A
not_held bytes None row r none is some = let clash : None ≡ Some r = is ∙ some in absurd (cc)
not_held bytes (Some record_is) row r none is some = absurd (cc)
