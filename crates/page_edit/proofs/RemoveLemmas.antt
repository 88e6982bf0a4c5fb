-- A row taken out of a leaf.
use Rattle.std.proofs.Common.{◌≡◌, ℕ, zero, suc, ◌+◌, ◌*◌, ◌<◌, ◌≤◌, true, Bool, List, [], ◌∷◌, ◌++◌, map, length, take, drop, inl, inr, refl, ap, sym, ◌∙◌, arith}
use Rattle.std.specs.List.{list_all, remove}
use Rattle.std.proofs.lemmas.Bool.{and_parts, cases_lt}
use Rattle.std.proofs.lemmas.List.{map-append, take-map, drop-map, same_lists}
use Rattle.std.proofs.lemmas.List.Edits.{length-remove, get_or-remove_below, get_or-remove_above}
use Rattle.ssd_model.specs.Page.{Same}
use Rattle.rows.specs.Rows.{Row, keys, Ascends, last_key}
use Rattle.page_format.specs.Node.{Slot, slots, row_in, leaf_rows, page_kind, page_level, entry_count, heap_start, is_in_heap, are_apart, all_apart, has_printable_value}
use Rattle.page_format.specs.Sound.{IsSound, IsRows, slot_of, row_bytes}
use Rattle.page_format.proofs.SlotLemmas.{length-slots, slot_at}
use Rattle.page_format.proofs.RowLemmas.{row_bytes-cons}
use Rattle.line_pages.proofs.NumberLaws.{u64_at-same, same_part}
use Rattle.page_edit.specs.Laid.{Drops}
use Rattle.page_edit.proofs.InsertLemmas.{rows_same, slot_of-same, slot_of-moved}

-- What the bytes of a leaf are after a slot was taken out.
pub record TakesOut (at : ℕ) (old new : List ℕ) : Type 0 where
  pub kind : page_kind new ≡ page_kind old
  pub level : page_level new ≡ page_level old
  pub count : entry_count new + 1 ≡ entry_count old
  pub heap : heap_start new ≡ heap_start old
  pub before : (k : ℕ) → k < at → slot_of new k ≡ slot_of old k
  pub after : (k : ℕ) → at ≤ k → k + 1 < entry_count old → slot_of new k ≡ slot_of old (k + 1)
  pub rest : Same (heap_start old) 4096 old new
  pub size : length new ≡ 4096

-- a slot that is dropped from a leaf is taken out of it
pub dropped_out : (at count : ℕ) (old new : List ℕ) → Drops at count old new → at < count → count ≡ entry_count old → 64 + 4 * count ≤ heap_start old → length new ≡ 4096 → TakesOut at old new
dropped_out at count old new drops within count_is below size = record {
  kind = u64_at-same 0 8 0 old new drops.kind (omega arith) (omega arith);
  level = u64_at-same 16 64 16 old new drops.header (omega arith) (omega arith);
  count = drops.count_is ∙ count_is;
  heap = u64_at-same 16 64 24 old new drops.header (omega arith) (omega arith);
  before = λ k low. slot_of-same 64 (64 + 4 * at) k old new drops.before (omega arith) (omega arith);
  after = λ k low high. slot_of-moved (68 + 4 * at) (64 + 4 * count) (64 + 4 * at) k (k + 1) old new drops.moved (omega arith) (omega arith) (omega (arith, high, count_is));
  rest = same_part (heap_start old) 4096 (60 + 4 * count) 4096 _ _ drops.after (omega (arith, below)) (omega arith);
  size = size;
}

all_remove : {X : Type 0} (p : X → Bool) (xs : List X) (i : ℕ) → list_all p xs ≡ true → list_all p (remove xs i) ≡ true
all_remove p [] zero all = refl
all_remove p (y ∷ ys) zero all = (and_parts (p y) (list_all p ys) all).1
all_remove p [] (suc i) all = refl
all_remove p (y ∷ ys) (suc i) all =
    let parts = and_parts (p y) (list_all p ys) all in
    rw (parts.0, all_remove p ys i parts.1) refl

apart_remove : (ys : List Slot) (i : ℕ) → all_apart ys ≡ true → all_apart (remove ys i) ≡ true
apart_remove [] zero apart = refl
apart_remove (y ∷ ys) zero apart = (and_parts (list_all (are_apart y) ys) (all_apart ys) apart).1
apart_remove [] (suc i) apart = refl
apart_remove (y ∷ ys) (suc i) apart =
    let parts = and_parts (list_all (are_apart y) ys) (all_apart ys) apart in
    rw (all_remove (are_apart y) ys i parts.0, apart_remove ys i parts.1) refl

pub slots_out : (at : ℕ) (old new : List ℕ) → TakesOut at old new → at < entry_count old → slots new ≡ remove (slots old) at
slots_out at old new out within =
    let count = length-slots old in
    let count_new = length-slots new in
    let in_old : at < length (slots old) = omega arith in
    let shorter = length-remove (slots old) at in_old in
    same_lists (slots new) (remove (slots old) at) (omega (arith, out.count, shorter)) (λ k d k_in.
    elim (cases_lt k at) [
      | inl low ↦ slot_at new k d (omega arith) ∙ out.before k low ∙ sym (slot_at old k d (omega arith)) ∙ sym (get_or-remove_below (slots old) at d k low in_old)
      | inr high ↦ slot_at new k d (omega arith) ∙ out.after k high (omega (arith, out.count)) ∙ sym (slot_at old (k + 1) d (omega (arith, out.count))) ∙ sym (get_or-remove_above (slots old) at d k high in_old)
    ])

pub rows_out : (at : ℕ) (old new : List ℕ) → TakesOut at old new → at < entry_count old → IsSound old → leaf_rows new ≡ remove (leaf_rows old) at
unfolding leaf_rows
rows_out at old new out within sound =
    let same = rows_same (heap_start old) old new (slots old) sound.in_heap out.rest sound.size out.size in
    ap (map (row_in new)) (slots_out at old new out within)
    ∙ map-append (row_in new) (take at (slots old)) (drop (suc at) (slots old))
    ∙ ap (λ front. front ++ map (row_in new) (drop (suc at) (slots old))) (sym (take-map (row_in new) at (slots old)))
    ∙ ap (λ back. take at (map (row_in new) (slots old)) ++ back) (sym (drop-map (row_in new) (suc at) (slots old)))
    ∙ ap (λ all. remove all at) same

pub sound_out : (at : ℕ) (old new : List ℕ) → TakesOut at old new → at < entry_count old → IsSound old → IsSound new
sound_out at old new out within sound =
    let is = slots_out at old new out within in
    record {
      size = out.size;
      kind = out.kind ∙ sound.kind;
      level = out.level ∙ sound.level;
      below_heap = omega (arith, out.count, out.heap, sound.below_heap);
      heap = omega (arith, out.heap, sound.heap);
      in_heap = rw (out.heap, is) (all_remove (is_in_heap (heap_start old)) (slots old) at sound.in_heap);
      apart = rw is (apart_remove (slots old) at sound.apart);
    }

Ascends-lower : (low next high : ℕ) (ks : List ℕ) → low ≤ next → Ascends next high ks → Ascends low high ks
Ascends-lower low next high [] h up = tt
Ascends-lower low next high (k ∷ ks) h up = (omega (arith, h, up.0), up.1, up.2)

pub Ascends-remove : (low high : ℕ) (rows : List Row) (i : ℕ) → Ascends low high (keys rows) → Ascends low high (keys (remove rows i))
Ascends-remove low high [] zero up = tt
Ascends-remove low high (r ∷ rows) zero up = Ascends-lower low (r.0 + 1) high (keys rows) (omega (arith, up.0)) up.2
Ascends-remove low high [] (suc i) up = tt
Ascends-remove low high (r ∷ rows) (suc i) up = (up.0, up.1, Ascends-remove (r.0 + 1) high rows i up.2)

bytes_remove : (rows : List Row) (i : ℕ) → row_bytes (remove rows i) ≤ row_bytes rows
bytes_remove [] zero = omega arith
bytes_remove (r ∷ rows) zero = omega (arith, row_bytes-cons r rows)
bytes_remove [] (suc i) = omega arith
bytes_remove (r ∷ rows) (suc i) = omega (arith, row_bytes-cons r rows, row_bytes-cons r (remove rows i), bytes_remove rows i)

pub rows_remove : (rows : List Row) (i : ℕ) → IsRows rows → IsRows (remove rows i)
rows_remove rows i is = record {
  used = omega (arith, bytes_remove rows i, is.used);
  order = Ascends-remove 0 last_key rows i is.order;
  printable = all_remove has_printable_value rows i is.printable;
}
