-- Marks in words of bits.
use Rattle.std.proofs.Common.{◌≡◌, ℕ, zero, suc, ◌≢◌, ◌+◌, ◌-◌, ◌*◌, ◌/◌, ◌%◌, ◌^◌, ◌<◌, ◌≤◌, inl, inr, true, false, List, length, get_or, replicate, min, max, nat_eq, slice_set, get_or-set_same, get_or-set_other, refl, ap, sym, ◌∙◌, arith}
use Rattle.std.specs.Int.{bit_at}
use Rattle.std.specs.Int.RustNames.{bit_or}
use lib.Bits.{bit_and}
use Rattle.std.specs.Cmp.{both_ways}
use Rattle.std.proofs.lemmas.Bool.{cases_eq, eqb-true, eq-eqb, true≢false}
use Rattle.std.proofs.lemmas.Nat.Bits.{bit_at_and, bit_at_or, bit_at-zero, bit_at-lt, bit_at_mask_inside, bit_at_mask_below, bit_at_mask_above, same_from_bits, ones_shr}
use Rattle.std.proofs.Math.Pow.{high_ones, pow-sub-lt, pow_mono}
use Rattle.std.proofs.Math.Nat.{mod-eq_of_lt}
use Rattle.std.proofs.lemmas.Nat.{pow_pos}
use Rattle.page_format.specs.Marks.{no_marks, with_run, all_free, marked_in}
use Rattle.page_format.proofs.MarkLaws.{free_each, free_from, run_in, run_below, run_above, below, inside, above, side}

-- a byte of a word is its bit there
pub marked_bit : (words : List ℕ) (word bit byte x : ℕ) → byte ≡ 64 * word + bit → bit < 64 → x ≡ get_or words word 0 → marked_in words byte ≡ nat_eq (bit_at x bit) 1
unfolding marked_in
marked_bit words word bit byte x is few x_is =
    let in_word : byte / 64 ≡ word = omega (arith, is, few) in
    let in_bit : byte % 64 ≡ bit = omega (arith, is, few) in
    rw (in_word, in_bit, x_is) refl

elsewhere : (words : List ℕ) (word new byte : ℕ) → byte / 64 ≢ word → marked_in (slice_set words word new) byte ≡ marked_in words byte
unfolding marked_in
elsewhere words word new byte other = rw (get_or-set_other words word (byte / 64) new 0 other) refl

pub none_marked : (n : ℕ) → marked_in (replicate n 0) ≡ no_marks
unfolding marked_in
none_marked n = λ i byte. at byte i
  where
    same : (m k : ℕ) → get_or (replicate {A = ℕ} m 0) k 0 ≡ 0
    same zero k = refl
    same (suc m) zero = refl
    same (suc m) (suc k) = same m k

    at : (byte : ℕ) → marked_in (replicate n 0) byte ≡ false
    at byte = rw (same n (byte / 64), bit_at-zero (byte % 64)) refl

-- ones that are shifted to a place
pub run_mask : (from until : ℕ) → from < until → until ≤ 64 → (2 ^ 64 - 1) / 2 ^ (64 - (until - from)) * 2 ^ from % 2 ^ 64 ≡ 2 ^ until - 2 ^ from
run_mask from until some within =
    let few : 64 - (64 - (until - from)) ≡ until - from = omega arith in
    let shifted : (2 ^ 64 - 1) / 2 ^ (64 - (until - from)) ≡ 2 ^ (until - from) - 1 = ones_shr 64 (64 - (until - from)) (omega arith) ∙ ap (λ (n : ℕ). 2 ^ n - 1) few in
    let end : until - from + from ≡ until = omega arith in
    let placed : (2 ^ (until - from) - 1) * 2 ^ from ≡ 2 ^ until - 2 ^ from = sym (high_ones (until - from) from) ∙ ap (λ (n : ℕ). 2 ^ n - 2 ^ from) end in
    let fits : 2 ^ until - 2 ^ from < 2 ^ 64 = omega (arith, pow_mono {i = until} {j = 64} within, pow-sub-lt until (pow_pos from)) in
    ap (λ (n : ℕ). n * 2 ^ from % 2 ^ 64) shifted ∙ ap (λ (n : ℕ). n % 2 ^ 64) placed ∙ mod-eq_of_lt fits

least_off : (a b c : ℕ) → b ≡ 0 → c ≡ 0 → min a b ≡ c
least_off a b c off none = omega arith

least_first : (a b c : ℕ) → a ≡ 0 → c ≡ 0 → min a b ≡ c
least_first a b c off none = omega arith

most_off : (a b : ℕ) → b ≡ 0 → max a b ≡ a
most_off a b off = omega arith

most_one : (a b : ℕ) → a < 2 → b ≡ 1 → max a b ≡ 1
most_one a b few one = omega arith

off_from : (a b : ℕ) → min a b ≡ 0 → b ≡ 1 → a ≡ 0
off_from a b none one = omega arith

-- the bits of one word from a first one up to an end, tested and set by a mask
module _ (words : List ℕ) (word from until x mask : ℕ) (few : until ≤ 64) (x_is : x ≡ get_or words word 0) (mask_is : mask ≡ 2 ^ until - 2 ^ from) where
  one_in : (bit : ℕ) → from ≤ bit → bit < until → bit_at mask bit ≡ 1
  one_in bit low high = ap (λ (m : ℕ). bit_at m bit) mask_is ∙ bit_at_mask_inside from until bit low high

  zero_below : (bit : ℕ) → bit < from → bit_at mask bit ≡ 0
  zero_below bit low = ap (λ (m : ℕ). bit_at m bit) mask_is ∙ bit_at_mask_below from until bit low

  zero_above : (bit : ℕ) → until ≤ bit → bit_at mask bit ≡ 0
  zero_above bit past = ap (λ (m : ℕ). bit_at m bit) mask_is ∙ bit_at_mask_above from until bit past

  bit_free : (bit : ℕ) → bit < 64 → marked_in words (64 * word + bit) ≡ false → bit_at x bit ≡ 0
  bit_free bit within free =
      elim (cases_eq (bit_at x bit) 1) [
        | inl one ↦ absurd (true≢false (sym (marked_bit words word bit (64 * word + bit) x refl within x_is ∙ eq-eqb (bit_at x bit) 1 one) ∙ free))
        | inr other ↦ omega (arith, bit_at-lt x bit)
      ]

  zero_from : all_free (marked_in words) (64 * word + from) (until - from) ≡ true → bit_and x mask ≡ 0
  zero_from free = same_from_bits (bit_and x mask) 0 each
    where
      each : (bit : ℕ) → bit_at (bit_and x mask) bit ≡ bit_at 0 bit
      each bit =
          bit_at_and x mask bit ∙ elim (side from (until - from) bit) [
            | below low ↦ least_off (bit_at x bit) (bit_at mask bit) (bit_at 0 bit) (zero_below bit low) (bit_at-zero bit)
            | inside low high ↦
                let off : bit_at x bit ≡ 0 = bit_free bit (omega arith) (free_each (marked_in words) (64 * word + from) (until - from) (64 * word + bit) free (omega arith) (omega arith)) in
                least_first (bit_at x bit) (bit_at mask bit) (bit_at 0 bit) off (bit_at-zero bit)
            | above past ↦ least_off (bit_at x bit) (bit_at mask bit) (bit_at 0 bit) (zero_above bit (omega arith)) (bit_at-zero bit)
          ]

  free_if_zero : bit_and x mask ≡ 0 → all_free (marked_in words) (64 * word + from) (until - from) ≡ true
  free_if_zero none = free_from (marked_in words) (64 * word + from) (until - from) each
    where
      each : (byte : ℕ) → 64 * word + from ≤ byte → byte < 64 * word + from + (until - from) → marked_in words byte ≡ false
      each byte low high =
          let bit : ℕ = byte - 64 * word in
          let both : min (bit_at x bit) (bit_at mask bit) ≡ 0 = sym (bit_at_and x mask bit) ∙ ap (λ (n : ℕ). bit_at n bit) none ∙ bit_at-zero bit in
          let off : bit_at x bit ≡ 0 = off_from (bit_at x bit) (bit_at mask bit) both (one_in bit (omega arith) (omega arith)) in
          marked_bit words word bit byte x (omega arith) (omega arith) x_is ∙ ap (λ (b : ℕ). nat_eq b 1) off

  pub part_free : nat_eq (bit_and x mask) 0 ≡ all_free (marked_in words) (64 * word + from) (until - from)
  part_free = both_ways (nat_eq (bit_and x mask) 0) (all_free (marked_in words) (64 * word + from) (until - from)) (λ e. free_if_zero (eqb-true (bit_and x mask) 0 e)) (λ free. eq-eqb (bit_and x mask) 0 (zero_from free))

  pub part_marked : word < length words → marked_in (slice_set words word (bit_or x mask)) ≡ with_run (64 * word + from) (until - from) (marked_in words)
  part_marked in_words = λ i byte. at byte i
    where
      new : ℕ
      new = bit_or x mask

      here : (byte bit : ℕ) → byte ≡ 64 * word + bit → bit < 64 → marked_in (slice_set words word new) byte ≡ nat_eq (max (bit_at x bit) (bit_at mask bit)) 1
      here byte bit is within = marked_bit (slice_set words word new) word bit byte new is within (sym (get_or-set_same words word new 0 in_words)) ∙ ap (λ (b : ℕ). nat_eq b 1) (bit_at_or x mask bit)

      unmasked : (byte : ℕ) → (byte / 64 ≡ word → bit_at mask (byte % 64) ≡ 0) → marked_in (slice_set words word new) byte ≡ marked_in words byte
      unmasked byte off =
          elim (cases_eq (byte / 64) word) [
            | inr other ↦ elsewhere words word new byte other
            | inl same ↦
                let is : byte ≡ 64 * word + byte % 64 = omega (arith, same) in
                let within : byte % 64 < 64 = omega arith in
                here byte (byte % 64) is within ∙ ap (λ (b : ℕ). nat_eq b 1) (most_off (bit_at x (byte % 64)) (bit_at mask (byte % 64)) (off same)) ∙ sym (marked_bit words word (byte % 64) byte x is within x_is)
          ]

      at : (byte : ℕ) → marked_in (slice_set words word new) byte ≡ with_run (64 * word + from) (until - from) (marked_in words) byte
      at byte =
          elim (side (64 * word + from) (until - from) byte) [
            | below low ↦ unmasked byte (λ same. zero_below (byte % 64) (omega (arith, same))) ∙ sym (run_below (marked_in words) (64 * word + from) (until - from) byte low)
            | inside low high ↦
                let bit : ℕ = byte - 64 * word in
                let one : max (bit_at x bit) (bit_at mask bit) ≡ 1 = most_one (bit_at x bit) (bit_at mask bit) (bit_at-lt x bit) (one_in bit (omega arith) (omega arith)) in
                here byte bit (omega arith) (omega arith) ∙ ap (λ (b : ℕ). nat_eq b 1) one ∙ sym (run_in (marked_in words) (64 * word + from) (until - from) byte low high)
            | above past ↦ unmasked byte (λ same. zero_above (byte % 64) (omega (arith, same))) ∙ sym (run_above (marked_in words) (64 * word + from) (until - from) byte past)
          ]
