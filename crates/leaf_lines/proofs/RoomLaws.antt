-- Records that share no byte take no more bytes than the part of the page in which they stand.
use Rattle.std.proofs.Common.{◌≡◌, ℕ, ◌+◌, ◌-◌, ◌*◌, ◌<◌, ◌≤◌, inl, inr, ◌⊎◌, true, List, [], ◌∷◌, length, nat_le, refl, ◌∙◌, arith}
use Rattle.std.specs.List.{list_all}
use Rattle.std.proofs.lemmas.Bool.{and_parts, cases_lt, leb-true, or_cases}
use Rattle.std.proofs.lemmas.List.Sums.{sum_by-cons}
use Rattle.page_format.specs.Node.{Slot, slots, bytes_used, leaf_rows, entry_count, heap_start, is_in_heap, are_apart, all_apart}
use Rattle.page_format.specs.Sound.{IsSound, row_bytes}
use Rattle.page_format.proofs.SlotLemmas.{in_heap_one, length-slots}
use Rattle.page_format.proofs.FactLemmas.{leaf_used_is}

-- how many bytes of a record stand between two places
abbrev clip : ℕ → ℕ → Slot → ℕ
clip low high s = (high - (high - (s.place + s.size))) - (low + (s.place - low))

abbrev clips : ℕ → ℕ → List Slot → ℕ
clips low high [] = 0
clips low high (s ∷ ss) = clip low high s + clips low high ss

sides : (one other : Slot) → are_apart one other ≡ true → (one.place + one.size ≤ other.place) ⊎ (other.place + other.size ≤ one.place)
sides one other apart =
    elim (or_cases (nat_le (one.place + one.size) other.place) (nat_le (other.place + other.size) one.place) apart) [
      | inl before ↦ inl (leb-true (one.place + one.size) other.place before)
      | inr after ↦ inr (leb-true (other.place + other.size) one.place after)
    ]

clip_parted : (low high a b p e q f : ℕ) → a ≡ low + (p - low) → b ≡ high - (high - e) → a < b → (e ≤ q) ⊎ (f ≤ p)
    → (high - (high - f)) - (low + (q - low)) ≤ ((a - (a - f)) - (low + (q - low))) + ((high - (high - f)) - (b + (q - b)))
clip_parted low high a b p e q f is_a is_b some (inl after) = omega (arith, is_a, is_b, some, after)
clip_parted low high a b p e q f is_a is_b some (inr before) = omega (arith, is_a, is_b, some, before)

clips_parted : (low high a b : ℕ) (s : Slot) (ys : List Slot) → a ≡ low + (s.place - low) → b ≡ high - (high - (s.place + s.size)) → a < b → list_all (are_apart s) ys ≡ true → clips low high ys ≤ clips low a ys + clips b high ys
clips_parted low high a b s [] is_a is_b some apart = omega arith
clips_parted low high a b s (y ∷ ys) is_a is_b some apart =
    let parts = and_parts (are_apart s y) (list_all (are_apart s) ys) apart in
    let one : clip low high y ≤ clip low a y + clip b high y = clip_parted low high a b s.place (s.place + s.size) y.place (y.place + y.size) is_a is_b some (sides s y parts.0) in
    let rest = clips_parted low high a b s ys is_a is_b some parts.1 in
    omega (arith, one, rest)

clips_room : (ys : List Slot) (low high : ℕ) → all_apart ys ≡ true → low ≤ high → clips low high ys ≤ high - low
clips_room [] low high apart order = omega arith
clips_room (s ∷ ys) low high apart order =
    let parts = and_parts (list_all (are_apart s) ys) (all_apart ys) apart in
    let a = low + (s.place - low) in
    let b = high - (high - (s.place + s.size)) in
    elim (cases_lt a b) [
      | inl some ↦
          let split = clips_parted low high a b s ys refl refl some parts.0 in
          let left = clips_room ys low a parts.1 (omega arith) in
          let right = clips_room ys b high parts.1 (omega arith) in
          let one : clip low high s ≡ b - a = refl in
          room a b (clips low high ys) (clips low a ys) (clips b high ys) (omega arith) some (omega arith) split left right
      | inr none ↦
          let rest = clips_room ys low high parts.1 order in
          let one : clip low high s ≡ b - a = refl in
          empty a b (clips low high ys) none rest
    ]
  where
    room : (a b all left right : ℕ) → low ≤ a → a < b → b ≤ high → all ≤ left + right → left ≤ a - low → right ≤ high - b → (b - a) + all ≤ high - low
    room a b all left right f g h split l r = omega arith

    empty : (a b all : ℕ) → b ≤ a → all ≤ high - low → (b - a) + all ≤ high - low
    empty a b all none rest = omega arith

used_clips : (heap : ℕ) (all : List Slot) → list_all (is_in_heap heap) all ≡ true → bytes_used all ≡ 4 * length all + clips heap 4096 all
used_clips heap [] ok = refl
used_clips heap (s ∷ ss) ok =
    let parts = and_parts (is_in_heap heap s) (list_all (is_in_heap heap) ss) ok in
    let one = in_heap_one heap s parts.0 in
    let rest = used_clips heap ss parts.1 in
    let here : clip heap 4096 s ≡ s.size = whole s.place s.size one.above one.below in
    sum_by-cons (λ (slot : Slot). 4 + slot.size) s ss ∙ omega (arith, rest, here)
  where
    whole : (p n : ℕ) → heap ≤ p → p + n ≤ 4096 → (4096 - (4096 - (p + n))) - (heap + (p - heap)) ≡ n
    whole p n above below = omega arith

-- the rows of a leaf take no more than its slots and its heap have room for
pub used_room : (bytes : List ℕ) → IsSound bytes → row_bytes (leaf_rows bytes) + heap_start bytes ≤ 4096 + 4 * entry_count bytes
used_room bytes sound =
    let used = leaf_used_is bytes sound in
    let all = used_clips (heap_start bytes) (slots bytes) sound.in_heap in
    let room = clips_room (slots bytes) (heap_start bytes) 4096 sound.apart sound.heap in
    let count = length-slots bytes in
    omega (arith, used, all, room, count, sound.heap)
