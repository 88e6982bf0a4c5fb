-- Numbers at a place of bytes, and what a write leaves.
use Rattle.std.proofs.Common.{◌%◌, ◌/◌, ◌≡◌, ℕ, zero, suc, ◌+◌, ◌-◌, ◌^◌, ◌<◌, ◌≤◌, inl, inr, List, [], ◌++◌, length, take, drop, get_or, slice_range, refl, sym, ap, ◌∙◌, arith, length-append, append-nil}
use Rattle.std.proofs.lemmas.List.{get_or_append_left, get_or-append_right, get_or-drop, get_or-take, take_all, drop_all, length-take-le, length-drop, drop-drop}
use Rattle.std.proofs.lemmas.Bool.{cases_lt}
use Rattle.std.proofs.Math.Nat.{div-div-eq-div-mul, div-one, pow-suc}
use Rattle.std.proofs.Math.Seq.{drop-cons}
use Rattle.std.specs.Int.{byte_at, bytes_low_first}
use Rattle.std.proofs.lemmas.List.Edits.{length-between, get_or-between}
use Rattle.std.proofs.lemmas.Grind.{same_number_lists}
use borrow.Rule.Slice.PartMut.{put_mid, mid_of}
use Rattle.byteorder.specs.Endian.{little_from, little_bytes}
use Rattle.byteorder.specs.Numbers.{little_number-reads_back}
use Rattle.ssd_model.specs.Page.{Same, Moved}
use Rattle.line_pages.specs.Bytes.{u16_at, u64_at, bytes_of_half, overwritten}
use Rattle.nvm_model.specs.LineBytes.{bytes_of_word}

pub little_from-same : (i k n : ℕ) (xs ys : List ℕ) → ((j : ℕ) → j < n → get_or xs (i + j) 0 ≡ get_or ys (k + j) 0) → little_from i n xs ≡ little_from k n ys
little_from-same i k zero xs ys same = refl
little_from-same i k (suc n) xs ys same =
    let first : get_or xs i 0 ≡ get_or ys k 0 = ap (λ (at : ℕ). get_or xs at 0) (omega arith) ∙ same 0 (omega arith) ∙ ap (λ (at : ℕ). get_or ys at 0) (omega arith) in
    let rest = little_from-same (suc i) (suc k) n xs ys (λ j low.
    ap (λ (at : ℕ). get_or xs at 0) (omega arith) ∙ same (suc j) (omega arith) ∙ ap (λ (at : ℕ). get_or ys at 0) (omega arith)) in
    rw (first, rest) refl

-- `&xs[k..]`
rest_of : (n k : ℕ) (xs : List ℕ) → k + n ≤ length xs → little_from 0 n (take (length xs - k) (drop k xs)) ≡ little_from k n xs
rest_of n k xs fits = little_from-same 0 k n (take (length xs - k) (drop k xs)) xs (λ j j_in.
    get_or-take (length xs - k) (drop k xs) (0 + j) 0 (omega arith) ∙ get_or-drop k xs (0 + j) 0 ∙ ap (λ (at : ℕ). get_or xs at 0) (omega arith))

pub reads_half : (k : ℕ) (xs : List ℕ) → k + 2 ≤ length xs → little_from 0 2 (take (length xs - k) (drop k xs)) ≡ u16_at xs k
unfolding u16_at
reads_half k xs fits = rest_of 2 k xs fits

pub reads_word : (k : ℕ) (xs : List ℕ) → k + 8 ≤ length xs → little_from 0 8 (take (length xs - k) (drop k xs)) ≡ u64_at xs k
unfolding u64_at
reads_word k xs fits = rest_of 8 k xs fits

-- numbers and bytes where the page is the same
pub u16_at-same : (from end at : ℕ) (old new : List ℕ) → Same from end old new → from ≤ at → at + 2 ≤ end → u16_at new at ≡ u16_at old at
unfolding u16_at
u16_at-same from end at old new same low high = little_from-same at at 2 new old (λ j j_in. same.each (at + j) (omega arith) (omega arith))

pub u64_at-same : (from end at : ℕ) (old new : List ℕ) → Same from end old new → from ≤ at → at + 8 ≤ end → u64_at new at ≡ u64_at old at
unfolding u64_at
u64_at-same from end at old new same low high = little_from-same at at 8 new old (λ j j_in. same.each (at + j) (omega arith) (omega arith))

pub range-same : (from end a b : ℕ) (old new : List ℕ) → Same from end old new → from ≤ a → b ≤ end → b ≤ length old → length new ≡ length old → slice_range new a b ≡ slice_range old a b
range-same from end a b old new same low high within size =
    let one = length-between new a b (omega arith) in
    let other = length-between old a b within in
    same_number_lists (slice_range new a b) (slice_range old a b) (omega (arith, one, other)) (λ k k_in.
    get_or-between new a b k 0 (omega (arith, one)) ∙ same.each (a + k) (omega arith) (omega (arith, one)) ∙ sym (get_or-between old a b k 0 (omega (arith, one))))

pub same_same : (from end : ℕ) (xs : List ℕ) → Same from end xs xs
same_same from end xs = record { each = λ j low high. refl }

pub same_then : (from end : ℕ) (xs ys zs : List ℕ) → Same from end xs ys → Same from end ys zs → Same from end xs zs
same_then from end xs ys zs p q = record { each = λ j low high. q.each j low high ∙ p.each j low high }

pub same_part : (a b from end : ℕ) (xs ys : List ℕ) → Same from end xs ys → from ≤ a → b ≤ end → Same a b xs ys
same_part a b from end xs ys p low high = record { each = λ j l h. p.each j (omega arith) (omega arith) }

-- what a write leaves
pub record Wrote (old : List ℕ) (at : ℕ) (new now : List ℕ) : Type 0 where
  pub before : Same 0 at old now
  pub after : Same (at + length new) (length old) old now
  pub here : (j : ℕ) → j < length new → get_or now (at + j) 0 ≡ get_or new j 0
  pub size : length now ≡ length old

pub wrote : (old : List ℕ) (at : ℕ) (new : List ℕ) → at + length new ≤ length old → Wrote old at new (overwritten old at new)
wrote old at new fits =
    let front : length (take at old) ≡ at = length-take-le at old (omega arith) in
    let tail = drop (at + length new) old in
    record {
      before = record { each = λ j low high. get_or_append_left (take at old) (new ++ tail) 0 j (omega (arith, front)) ∙ get_or-take at old j 0 high };
      after = record {
        each = λ j low high. get_or-append_right (take at old) (new ++ tail) at j 0 front (omega arith) ∙ get_or-append_right new tail (length new) (j - at) 0 refl (omega arith)
            ∙ get_or-drop (at + length new) old (j - at - length new) 0 ∙ ap (λ (k : ℕ). get_or old k 0) (omega arith);
      };
      here = λ j j_in. get_or-append_right (take at old) (new ++ tail) at (at + j) 0 front (omega arith)
          ∙ ap (λ (k : ℕ). get_or (new ++ tail) k 0) (omega arith) ∙ get_or_append_left new tail 0 j j_in;
      size = length-append (take at old) (new ++ tail) ∙ omega (arith, front, length-append new tail, length-drop (at + length new) old);
    }

-- a write at the start of `&mut xs[at..]`
pub put_rest : (old : List ℕ) (at n : ℕ) (new part : List ℕ) → length new ≡ n → at + n ≤ length old → part ≡ new ++ drop n (mid_of at (length old - at) old)
    → put_mid at (length old - at) old part ≡ overwritten old at new
put_rest old at n new part size fits is =
    let all : length (drop at old) ≤ length old - at = omega (arith, length-drop at old) in
    rw (is, take_all (length old - at) (drop at old) all, drop_all (length old - at) (drop at old) all, append-nil (new ++ drop n (drop at old)), drop-drop n at old, size) refl

-- a number written is the number there
pub half_reads : (old : List ℕ) (at x : ℕ) → at + 2 ≤ length old → x < 2 ^ 16 → u16_at (overwritten old at (bytes_of_half x)) at ≡ x
unfolding u16_at bytes_of_half
half_reads old at x fits small =
    let w = wrote old at (little_bytes 2 x) fits in
    little_from-same at 0 2 (overwritten old at (little_bytes 2 x)) (little_bytes 2 x ++ []) (λ j j_in. w.here j j_in ∙ ap (λ (p : ℕ). get_or (little_bytes 2 x ++ []) p 0) (omega arith))
    ∙ little_number-reads_back 2 x [] small

pub word_reads : (old : List ℕ) (at x : ℕ) → at + 8 ≤ length old → x < 2 ^ 64 → u64_at (overwritten old at (bytes_of_word x)) at ≡ x
unfolding u64_at bytes_of_word
word_reads old at x fits small =
    let w = wrote old at (little_bytes 8 x) fits in
    little_from-same at 0 8 (overwritten old at (little_bytes 8 x)) (little_bytes 8 x ++ []) (λ j j_in. w.here j j_in ∙ ap (λ (p : ℕ). get_or (little_bytes 8 x ++ []) p 0) (omega arith))
    ∙ little_number-reads_back 8 x [] small

pub half_value : (old : List ℕ) (at x : ℕ) (part : List ℕ) → at + 2 ≤ length old → x < 2 ^ 16 → part ≡ little_bytes 2 x ++ drop 2 (mid_of at (length old - at) old) → u16_at (put_mid at (length old - at) old part) at ≡ x
unfolding bytes_of_half
half_value old at x part fits small is = ap (λ now. u16_at now at) (put_rest old at 2 (little_bytes 2 x) part refl fits is) ∙ half_reads old at x fits small

pub word_value : (old : List ℕ) (at x : ℕ) (part : List ℕ) → at + 8 ≤ length old → x < 2 ^ 64 → part ≡ little_bytes 8 x ++ drop 8 (mid_of at (length old - at) old) → u64_at (put_mid at (length old - at) old part) at ≡ x
unfolding bytes_of_word
word_value old at x part fits small is = ap (λ now. u64_at now at) (put_rest old at 8 (little_bytes 8 x) part refl fits is) ∙ word_reads old at x fits small

pub after_value : (old : List ℕ) (at n : ℕ) (new part : List ℕ) → length new ≡ n → at + n ≤ length old → part ≡ new ++ drop n (mid_of at (length old - at) old)
    → Same (at + n) (length old) old (put_mid at (length old - at) old part)
after_value old at n new part size fits is =
    let w : Wrote old at new (overwritten old at new) = wrote old at new (omega (arith, size)) in
    rw (put_rest old at n new part size fits is) (same_part (at + n) (length old) (at + length new) (length old) old (overwritten old at new) w.after (omega (arith, size)) (omega arith))

pub u16_at-moved : (from end to j at was : ℕ) (old new : List ℕ) → Moved from end to old new → at ≡ to + j → was ≡ from + j → from + j + 2 ≤ end → u16_at new at ≡ u16_at old was
unfolding u16_at
u16_at-moved from end to j at was old new moved here there high =
    little_from-same at was 2 new old (λ i i_in. ap (λ (p : ℕ). get_or new p 0) (omega arith) ∙ moved.each (j + i) (omega arith) ∙ ap (λ (p : ℕ). get_or old p 0) (omega arith))

pub u64_at-moved : (from end to j at was : ℕ) (old new : List ℕ) → Moved from end to old new → at ≡ to + j → was ≡ from + j → from + j + 8 ≤ end → u64_at new at ≡ u64_at old was
unfolding u64_at
u64_at-moved from end to j at was old new moved here there high =
    little_from-same at was 8 new old (λ i i_in. ap (λ (p : ℕ). get_or new p 0) (omega arith) ∙ moved.each (j + i) (omega arith) ∙ ap (λ (p : ℕ). get_or old p 0) (omega arith))

pub moved_then : (from end to a b : ℕ) (xs ys zs : List ℕ) → Moved from end to xs ys → Same a b ys zs → a ≤ to → to + end ≤ b + from → Moved from end to xs zs
moved_then from end to a b xs ys zs p q low high = record { each = λ j h. q.each (to + j) (omega arith) (omega arith) ∙ p.each j h }

-- what the calls that write a number make
pub half_written : (old : List ℕ) (at x : ℕ) (part : List ℕ) → at + 2 ≤ length old → part ≡ little_bytes 2 x ++ drop 2 (mid_of at (length old - at) old)
    → put_mid at (length old - at) old part ≡ overwritten old at (bytes_of_half x)
unfolding bytes_of_half
half_written old at x part fits is = put_rest old at 2 (little_bytes 2 x) part refl fits is

pub word_written : (old : List ℕ) (at x : ℕ) (part : List ℕ) → at + 8 ≤ length old → part ≡ little_bytes 8 x ++ drop 8 (mid_of at (length old - at) old)
    → put_mid at (length old - at) old part ≡ overwritten old at (bytes_of_word x)
unfolding bytes_of_word
word_written old at x part fits is = put_rest old at 8 (little_bytes 8 x) part refl fits is

-- bytes put at a place, with all others as they were
pub set_is : (old new value : List ℕ) (at all : ℕ) → length old ≡ all → length new ≡ all → at + length value ≤ all → slice_range new at (at + length value) ≡ value
    → Same 0 at old new → Same (at + length value) all old new → new ≡ overwritten old at value
set_is old new value at all size_old size fits here before after =
    let w : Wrote old at value (overwritten old at value) = wrote old at value (omega (arith, size_old)) in
    let one = length-between new at (at + length value) (omega arith) in
    same_number_lists new (overwritten old at value) (omega (arith, w.size, size, size_old)) (λ k k_in.
    elim (cases_lt k at) [
      | inl low ↦ before.each k (omega arith) low ∙ sym (w.before.each k (omega arith) low)
      | inr high ↦
          elim (cases_lt k (at + length value)) [
            | inl inside ↦
                ap (λ (p : ℕ). get_or new p 0) (omega (arith, high)) ∙ sym (get_or-between new at (at + length value) (k - at) 0 (omega (arith, one, high, inside)))
                ∙ ap (λ xs. get_or xs (k - at) 0) here ∙ sym (w.here (k - at) (omega (arith, high, inside))) ∙ ap (λ (p : ℕ). get_or (overwritten old at value) p 0) (omega (arith, high))
            | inr past ↦ after.each k past (omega (arith, size, k_in)) ∙ sym (w.after.each k past (omega (arith, size, size_old, k_in)))
          ]
    ])

pub length-overwritten : (old : List ℕ) (at : ℕ) (new : List ℕ) → at + length new ≤ length old → length (overwritten old at new) ≡ length old
length-overwritten old at new fits =
    let w : Wrote old at new (overwritten old at new) = wrote old at new fits in
    w.size

-- the bytes of the number in some bytes are those bytes again
bytes_back : (n j i x : ℕ) (xs : List ℕ) → x / 256 ^ j ≡ little_from i n xs → i + n ≤ length xs → ((k : ℕ) → get_or xs k 0 < 256) → bytes_low_first j n x ≡ take n (drop i xs)
bytes_back zero j i x xs is fits small = refl
bytes_back (suc n) j i x xs is fits small =
    let first = small i in
    let byte : byte_at j x ≡ get_or xs i 0 = byte_at-pow j x ∙ omega (arith, is, first) in
    let up : x / 256 ^ suc j ≡ little_from (suc i) n xs = ap (λ (p : ℕ). x / p) (pow-suc 256 j) ∙ sym (div-div-eq-div-mul x (256 ^ j) 256) ∙ omega (arith, is, first) in
    rw (drop-cons xs i 0 (omega arith), byte, bytes_back n (suc j) (suc i) x xs up (omega arith) small) refl
  where
    byte_at-pow : (k x : ℕ) → byte_at k x ≡ x / 256 ^ k % 256
    byte_at-pow zero x = ap (λ (y : ℕ). y % 256) (sym (div-one x))
    byte_at-pow (suc k) x = refl

pub half_bytes : (xs : List ℕ) (at : ℕ) → at + 2 ≤ length xs → ((k : ℕ) → get_or xs k 0 < 256) → bytes_of_half (u16_at xs at) ≡ slice_range xs at (at + 2)
unfolding u16_at bytes_of_half
half_bytes xs at fits small =
    let all : 2 ≡ at + 2 - at = omega arith in
    bytes_back 2 0 at (little_from at 2 xs) xs (div-one (little_from at 2 xs)) fits small ∙ ap (λ n. take n (drop at xs)) all

pub word_bytes : (xs : List ℕ) (at : ℕ) → at + 8 ≤ length xs → ((k : ℕ) → get_or xs k 0 < 256) → bytes_of_word (u64_at xs at) ≡ slice_range xs at (at + 8)
unfolding u64_at bytes_of_word
word_bytes xs at fits small =
    let all : 8 ≡ at + 8 - at = omega arith in
    bytes_back 8 0 at (little_from at 8 xs) xs (div-one (little_from at 8 xs)) fits small ∙ ap (λ n. take n (drop at xs)) all
