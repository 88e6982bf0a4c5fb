-- A value put in place of another of its length.
use Rattle.std.proofs.Common.{◌≡◌, ◌≢◌, ℕ, zero, suc, ◌+◌, ◌<◌, ◌≤◌, Bool, true, List, [], ◌∷◌, length, set, get_or, slice_range, nat_le, inl, inr, refl, ap, sym, ◌∙◌, ◌⊎◌, arith}
use Rattle.std.specs.List.{list_all}
use Rattle.std.proofs.lemmas.Bool.{leb-true, and_parts, cases_lt, cases_eq, cases_Bool}
use Rattle.std.proofs.lemmas.List.{same_lists, length-set, get_or-set_same, get_or-set_other}
use Rattle.ssd_model.specs.Page.{Same}
use Rattle.line_pages.specs.Bytes.{u64_at}
use Rattle.page_format.specs.Node.{Slot, slots, row_in, leaf_rows, page_kind, page_level, entry_count, heap_start, are_apart, all_apart}
use Rattle.page_format.specs.Sound.{IsSound, slot_of}
use Rattle.page_format.proofs.SlotLemmas.{length-slots, length_rows, slot_at, row_at, slot_inside}
use Rattle.page_edit.proofs.InsertLemmas.{row_in-same}

all_at : {X : Type 0} (p : X → Bool) (xs : List X) (i : ℕ) (d : X) → list_all p xs ≡ true → i < length xs → p (get_or xs i d) ≡ true
all_at p [] i d all h = absurd (omega arith)
all_at p (x ∷ xs) zero d all h = (and_parts (p x) (list_all p xs) all).0
all_at p (x ∷ xs) (suc i) d all h = all_at p xs i d (and_parts (p x) (list_all p xs) all).1 (omega arith)

apart_at : (ss : List Slot) (i j : ℕ) (d : Slot) → all_apart ss ≡ true → i < j → j < length ss → are_apart (get_or ss i d) (get_or ss j d) ≡ true
apart_at [] i j d apart lt h = absurd (omega arith)
apart_at (s ∷ ss) zero zero d apart lt h = absurd (omega arith)
apart_at (s ∷ ss) zero (suc j) d apart lt h = all_at (are_apart s) ss j d (and_parts (list_all (are_apart s) ss) (all_apart ss) apart).0 (omega arith)
apart_at (s ∷ ss) (suc i) zero d apart lt h = absurd (omega arith)
apart_at (s ∷ ss) (suc i) (suc j) d apart lt h = apart_at ss i j d (and_parts (list_all (are_apart s) ss) (all_apart ss) apart).1 (omega arith) (omega arith)

-- two records, one behind the other
sides : (one other : Slot) → are_apart one other ≡ true → (one.place + one.size ≤ other.place) ⊎ (other.place + other.size ≤ one.place)
sides one other apart =
    elim (cases_Bool (nat_le (one.place + one.size) other.place)) [
      | inl yes_it ↦ inl (leb-true (one.place + one.size) other.place yes_it)
      | inr no_it ↦ inr (leb-true (other.place + other.size) one.place (rw no_it at apart))
    ]

pub slots_apart : (bytes : List ℕ) (i j : ℕ) → IsSound bytes → i ≢ j → i < entry_count bytes → j < entry_count bytes
    → ((slot_of bytes i).place + (slot_of bytes i).size ≤ (slot_of bytes j).place) ⊎ ((slot_of bytes j).place + (slot_of bytes j).size ≤ (slot_of bytes i).place)
slots_apart bytes i j sound ne h k =
    let d : Slot = record { place = 0; size = 0 } in
    let size = length-slots bytes in
    elim (cases_lt i j) [
      | inl lt ↦ sides (slot_of bytes i) (slot_of bytes j) (rw (slot_at bytes i d h, slot_at bytes j d k) at (apart_at (slots bytes) i j d sound.apart lt (omega arith)))
      | inr ge ↦ elim (sides (slot_of bytes j) (slot_of bytes i) (rw (slot_at bytes j d k, slot_at bytes i d h) at (apart_at (slots bytes) j i d sound.apart (omega (arith, ne, ge)) (omega arith)))) [
        | inl a ↦ inr a
        | inr b ↦ inl b
      ]
    ]

-- What the bytes of a leaf are after the value of a row was overwritten.
pub record Sets (at : ℕ) (value : List ℕ) (old new : List ℕ) : Type 0 where
  pub kind : page_kind new ≡ page_kind old
  pub level : page_level new ≡ page_level old
  pub count : entry_count new ≡ entry_count old
  pub heap : heap_start new ≡ heap_start old
  pub each : (k : ℕ) → k < entry_count old → slot_of new k ≡ slot_of old k
  pub key : u64_at new (slot_of old at).place ≡ u64_at old (slot_of old at).place
  pub put : slice_range new ((slot_of old at).place + 8) ((slot_of old at).place + (slot_of old at).size) ≡ value
  pub before : Same 0 ((slot_of old at).place) old new
  pub after : Same ((slot_of old at).place + (slot_of old at).size) 4096 old new
  pub size : length new ≡ 4096

pub slots_set : (at : ℕ) (value old new : List ℕ) → Sets at value old new → slots new ≡ slots old
slots_set at value old new sets =
    let size = length-slots old in
    let size_new = length-slots new in
    same_lists (slots new) (slots old) (omega (arith, sets.count)) (λ k d k_in.
    slot_at new k d (omega arith) ∙ sets.each k (omega (arith, sets.count)) ∙ sym (slot_at old k d (omega (arith, sets.count))))

pub sound_set : (at : ℕ) (value old new : List ℕ) → Sets at value old new → IsSound old → IsSound new
sound_set at value old new sets sound =
    let is = slots_set at value old new sets in
    record {
      size = sets.size;
      kind = sets.kind ∙ sound.kind;
      level = sets.level ∙ sound.level;
      below_heap = omega (arith, sets.count, sets.heap, sound.below_heap);
      heap = omega (arith, sets.heap, sound.heap);
      in_heap = rw (sets.heap, is) sound.in_heap;
      apart = rw is sound.apart;
    }

pub rows_set : (at key : ℕ) (value old new : List ℕ) → Sets at value old new → at < entry_count old → IsSound old → key ≡ u64_at old (slot_of old at).place → leaf_rows new ≡ set (leaf_rows old) at (key, value)
rows_set at key value old new sets within sound is =
    let size = length_rows old in
    let size_new = length_rows new in
    let longer = length-set (leaf_rows old) at (key, value) in
    same_lists (leaf_rows new) (set (leaf_rows old) at (key, value)) (omega (arith, sets.count, longer)) (λ k d k_in.
    let here : k < entry_count old = omega (arith, sets.count) in
    let moved = row_at new k d (omega arith) ∙ ap (row_in new) (sets.each k here) in
    elim (cases_eq k at) [
      | inl e ↦
          let one : row_in new (slot_of old at) ≡ (key, value) = rw (sets.key, sets.put, is) refl in
          moved ∙ ap (λ (i : ℕ). row_in new (slot_of old i)) e ∙ one ∙ sym (get_or-set_same (leaf_rows old) at (key, value) d (omega arith)) ∙ ap (λ (i : ℕ). get_or (set (leaf_rows old) at (key, value)) i d) (sym e)
      | inr ne ↦
          let inside = slot_inside old k sound here in
          let same : row_in new (slot_of old k) ≡ row_in old (slot_of old k) = elim (slots_apart old k at sound ne here within) [
            | inl low ↦ row_in-same 0 (slot_of old at).place old new (slot_of old k) sets.before (omega arith) (omega (arith, low, inside.key)) low (omega (arith, sound.size, (slot_inside old at sound within).below)) (omega (arith, sound.size, sets.size))
            | inr high ↦ row_in-same ((slot_of old at).place + (slot_of old at).size) 4096 old new (slot_of old k) sets.after high (omega (arith, inside.below, inside.key)) inside.below (omega (arith, sound.size)) (omega (arith, sound.size, sets.size))
          ] in
          moved ∙ same ∙ sym (row_at old k d here) ∙ sym (get_or-set_other (leaf_rows old) at k (key, value) d ne)
    ])
