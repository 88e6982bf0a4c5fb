-- Records that share no byte, by the bytes that they mark.
use Rattle.std.proofs.Common.{◌≡◌, ℕ, ◌+◌, ◌<◌, ◌≤◌, inl, inr, ◌⊎◌, Bool, true, false, List, [], ◌∷◌, nat_le, ◌&&◌, refl, ap, sym, ◌∙◌, arith}
use Rattle.std.specs.List.{list_all}
use Rattle.std.specs.Cmp.{both_ways}
use Rattle.std.proofs.lemmas.Bool.{and_parts, and_from, or_left, or_right, cases_lt, leb-true, le-leb, or_cases, true≢false}
use Rattle.page_format.specs.Marks.{Marked, no_marks, with_run, all_free, is_free}
use Rattle.page_format.specs.Node.{Slot, is_in_heap, are_apart, all_apart}
use Rattle.page_format.proofs.SlotLemmas.{in_heap_one}
use Rattle.page_format.proofs.MarkLaws.{free_each, free_from, run_in, run_below, run_above}

-- a record is free of another one's bytes where it is apart from it
module _ (marked : Marked) (one other : Slot) (some : 1 ≤ one.size) (some_other : 1 ≤ other.size) where
  abbrev with_one : Marked
  with_one = with_run one.place one.size marked

  is_apart : one.place + one.size ≤ other.place ⊎ other.place + other.size ≤ one.place → are_apart one other ≡ true
  is_apart (inl before) = or_left (nat_le (one.place + one.size) other.place) (nat_le (other.place + other.size) one.place) (le-leb (one.place + one.size) other.place before)
  is_apart (inr after) = or_right (nat_le (one.place + one.size) other.place) (nat_le (other.place + other.size) one.place) (le-leb (other.place + other.size) one.place after)

  apart_sides : are_apart one other ≡ true → one.place + one.size ≤ other.place ⊎ other.place + other.size ≤ one.place
  apart_sides apart =
      elim (or_cases (nat_le (one.place + one.size) other.place) (nat_le (other.place + other.size) one.place) apart) [
        | inl before ↦ inl (leb-true (one.place + one.size) other.place before)
        | inr after ↦ inr (leb-true (other.place + other.size) one.place after)
      ]

  -- a byte of both is marked
  shared : (byte : ℕ) → is_free with_one other ≡ true → one.place ≤ byte → byte < one.place + one.size → other.place ≤ byte → byte < other.place + other.size → ⊥
  shared byte free low high from until = true≢false (sym (run_in marked one.place one.size byte low high) ∙ free_each with_one other.place other.size byte free from until)

  free_parts : is_free with_one other ≡ true → (is_free marked other && are_apart one other) ≡ true
  free_parts free = and_from (is_free marked other) (are_apart one other) (free_from marked other.place other.size before) (is_apart sides)
    where
      sides : one.place + one.size ≤ other.place ⊎ other.place + other.size ≤ one.place
      sides =
          elim (cases_lt other.place (one.place + one.size)) [
            | inr before ↦ inl before
            | inl reaches ↦ elim (cases_lt one.place (other.place + other.size)) [
              | inr after ↦ inr after
              | inl reached ↦ elim (cases_lt one.place other.place) [
                | inl low ↦ absurd (shared other.place free (omega arith) reaches (omega arith) (omega arith))
                | inr high ↦ absurd (shared one.place free (omega arith) (omega arith) high reached)
              ]
            ]
          ]

      before : (byte : ℕ) → other.place ≤ byte → byte < other.place + other.size → marked byte ≡ false
      before byte low high =
          let now : with_one byte ≡ false = free_each with_one other.place other.size byte free low high in
          elim sides [
            | inl early ↦ sym (run_above marked one.place one.size byte (omega arith)) ∙ now
            | inr late ↦ sym (run_below marked one.place one.size byte (omega arith)) ∙ now
          ]

  free_again : (is_free marked other && are_apart one other) ≡ true → is_free with_one other ≡ true
  free_again both = free_from with_one other.place other.size each
    where
      parts : (is_free marked other ≡ true) × (are_apart one other ≡ true)
      parts = and_parts (is_free marked other) (are_apart one other) both

      each : (byte : ℕ) → other.place ≤ byte → byte < other.place + other.size → with_one byte ≡ false
      each byte low high =
          let was : marked byte ≡ false = free_each marked other.place other.size byte parts.0 low high in
          elim (apart_sides parts.1) [
            | inl early ↦ run_above marked one.place one.size byte (omega arith) ∙ was
            | inr late ↦ run_below marked one.place one.size byte (omega arith) ∙ was
          ]

  pub free_of_one : is_free (with_run one.place one.size marked) other ≡ (is_free marked other && are_apart one other)
  free_of_one = both_ways (is_free with_one other) (is_free marked other && are_apart one other) free_parts free_again

-- the same for all that are left
pub free_of_all : (marked : Marked) (heap : ℕ) (one : Slot) (rest : List Slot) → 1 ≤ one.size → list_all (is_in_heap heap) rest ≡ true
    → list_all (is_free (with_run one.place one.size marked)) rest ≡ (list_all (is_free marked) rest && list_all (are_apart one) rest)
free_of_all marked heap one [] some placed = refl
free_of_all marked heap one (other ∷ rest) some placed =
    let parts = and_parts (is_in_heap heap other) (list_all (is_in_heap heap) rest) placed in
    let sound = in_heap_one heap other parts.0 in
    rw (free_of_one marked one other some (omega (arith, sound.key)), free_of_all marked heap one rest some parts.1) (four (is_free marked other) (are_apart one other) (list_all (is_free marked) rest) (list_all (are_apart one) rest))
  where
    four : (a b c d : Bool) → (a && b && (c && d)) ≡ (a && c && (b && d))
    four true true c d = refl
    four true false true d = refl
    four true false false d = refl
    four false b c d = refl

-- what is left to test: each record that is left is free, and they are apart
abbrev pub left_apart : Marked → List Slot → Bool
left_apart marked left = list_all (is_free marked) left && all_apart left

pub left_step : (whole : Bool) (old new : Marked) (heap : ℕ) (left rest : List Slot) (one : Slot) (place size : ℕ) → whole ≡ left_apart old left → left ≡ one ∷ rest → 1 ≤ one.size → list_all (is_in_heap heap) rest ≡ true
    → place ≡ one.place → size ≡ one.size → all_free old place size ≡ true → new ≡ with_run place size old → whole ≡ left_apart new rest
left_step whole old new heap left rest one place size so_far is some placed place_is size_is free step =
    let is_one : is_free old one ≡ true = rw (sym place_is, sym size_is) free in
    let marked : new ≡ with_run one.place one.size old = rw (sym place_is, sym size_is) step in
    so_far ∙ ap (left_apart old) is ∙ rw (is_one, marked, free_of_all old heap one rest some placed) (moved (list_all (is_free old) rest) (list_all (are_apart one) rest) (all_apart rest))
  where
    moved : (a b c : Bool) → (true && a && (b && c)) ≡ (a && b && c)
    moved true b c = refl
    moved false b c = refl

pub left_stop : (whole : Bool) (old : Marked) (left rest : List Slot) (one : Slot) (place size : ℕ) → whole ≡ left_apart old left → left ≡ one ∷ rest → place ≡ one.place → size ≡ one.size → all_free old place size ≡ false → false ≡ whole
left_stop whole old left rest one place size so_far is place_is size_is taken =
    let is_one : is_free old one ≡ false = rw (sym place_is, sym size_is) taken in
    sym (so_far ∙ ap (left_apart old) is ∙ rw is_one refl)

-- at the start nothing is marked
pub left_first : (all : List Slot) → all_apart all ≡ left_apart no_marks all
left_first all = rw (none all) refl
  where
    none : (some : List Slot) → list_all (is_free no_marks) some ≡ true
    none [] = refl
    none (slot ∷ rest) = rw (free_from no_marks slot.place slot.size (λ byte low high. refl), none rest) refl
