-- Masks as sets of pairs.
use Rattle.std.proofs.Common.{◌≡◌, ℕ, zero, suc, ◌*◌, ◌%◌, ◌/◌, ◌^◌, ◌<◌, inl, inr, false, List, length, get_or, replicate, refl, arith, nat_eq, nat_lt, slice_set, get_or-set_same, get_or-set_other}
use Rattle.std.specs.Int.{w64}
use Rattle.std.specs.Int.RustNames.{bit_or}
use lib.Bits.{bit_and}
use Rattle.std.proofs.lemmas.Bool.{lt-ltb, le-ltb, cases_lt, cases_eq, ne_eqb, eq-eqb, and_right}
use Rattle.std.proofs.lemmas.Nat.Bits.{bit_at_set_same, bit_at_set_other, bit_at-zero, shr_and_one}
use Rattle.line_pages.specs.Pairs.{pairs_in, no_pairs, with_pair}

pub blank_masks : (n : ℕ) → pairs_in (replicate n 0) ≡ no_pairs
unfolding pairs_in
blank_masks n = λ i p l. at p l i
  where
    same : (m k : ℕ) → get_or (replicate {A = ℕ} m 0) k 0 ≡ 0
    same zero k = refl
    same (suc m) zero = refl
    same (suc m) (suc k) = same m k

    at : (p l : ℕ) → pairs_in (replicate n 0) p l ≡ false
    at p l = rw (same n p, bit_at-zero l) (and_right (nat_lt l 64) false refl)

-- the test of one bit
pub test_bit : (masks : List ℕ) (page line mask : ℕ) → line < 64 → mask ≡ get_or masks page 0 → nat_eq (bit_and (mask / 2 ^ line) 1) 1 ≡ pairs_in masks page line
unfolding pairs_in
test_bit masks page line mask in_page is = rw (lt-ltb line 64 in_page, is, shr_and_one (get_or masks page 0) line) refl

-- one bit set in one mask
pub bit_set : (masks : List ℕ) (page line mask : ℕ) → line < 64 → page < length masks → mask ≡ get_or masks page 0
    → pairs_in (slice_set masks page (bit_or mask (1 * 2 ^ line % 2 ^ 64))) ≡ with_pair page line (pairs_in masks)
unfolding pairs_in
bit_set masks page line mask in_page in_list is = λ i p l. at p l i
  where
    new : ℕ
    new = bit_or mask (1 * 2 ^ line % 2 ^ 64)

    at : (p l : ℕ) → pairs_in (slice_set masks page new) p l ≡ with_pair page line (pairs_in masks) p l
    at p l =
        elim (cases_eq p page) [
          | inr other ↦ rw (ne_eqb p page other, get_or-set_other masks page p new 0 other) refl
          | inl same_page ↦
              elim (cases_lt l 64) [
                | inr out ↦ rw (le-ltb l 64 out, ne_eqb l line (λ e. omega (arith, e, out, in_page)), and_right (nat_eq p page) false refl) refl
                | inl inside ↦
                    elim (cases_eq l line) [
                      | inl same_line ↦
                          rw (same_page, same_line, eq-eqb page page refl, eq-eqb line line refl, lt-ltb line 64 in_page, get_or-set_same masks page new 0 in_list, bit_at_set_same w64 mask line in_page) refl
                      | inr other ↦
                          rw (same_page, ne_eqb l line other, eq-eqb page page refl, lt-ltb l 64 inside, get_or-set_same masks page new 0 in_list, bit_at_set_other w64 mask line in_page l other, is) refl
                    ]
              ]
        ]
