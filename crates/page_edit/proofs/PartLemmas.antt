-- The bytes that parts of rows take.
use Rattle.std.proofs.Common.{◌≡◌, ℕ, zero, suc, ◌+◌, ◌-◌, ◌<◌, ◌≤◌, List, [], ◌∷◌, ◌++◌, length, take, drop, get_or, slice_range, ap, sym, ◌∙◌, arith, take-append-drop}
use Rattle.std.proofs.lemmas.List.Edits.{between_more, between_none}
use Rattle.rows.specs.Rows.{Row}
use Rattle.page_format.specs.Room.{row_size}
use Rattle.page_format.specs.Sound.{row_bytes}
use Rattle.page_format.proofs.RowLemmas.{row_bytes-append, row_bytes-nil, row_bytes-push}

-- one row more of a part
pub part_more : (xs : List Row) (from i : ℕ) (d : Row) → from ≤ i → i < length xs → slice_range xs from (i + 1) ≡ slice_range xs from i ++ get_or xs i d ∷ []
part_more xs from i d low high = between_more xs from i d low high

-- of a longer part each shorter one takes no more
pub part_bytes : (xs : List Row) (from i n : ℕ) → from ≤ i → i + n ≤ length xs → row_bytes (slice_range xs from i) ≤ row_bytes (slice_range xs from (i + n))
part_bytes xs from i zero low high = omega (arith, ap (λ (k : ℕ). row_bytes (slice_range xs from k)) (zero_more i))
  where
    zero_more : (i : ℕ) → i ≡ i + 0
    zero_more i = omega arith
part_bytes xs from i (suc n) low high =
    let d : Row = (0, []) in
    let shorter = part_bytes xs from i n low (omega arith) in
    let more = ap row_bytes (part_more xs from (i + n) d (omega arith) (omega arith)) ∙ row_bytes-push (slice_range xs from (i + n)) (get_or xs (i + n) d) in
    let same = ap (λ (k : ℕ). row_bytes (slice_range xs from k)) (next i n) in
    omega (arith, shorter, more, same)
  where
    next : (i n : ℕ) → i + suc n ≡ i + n + 1
    next i n = omega arith

-- a part takes no more than the whole
pub part_le : (xs : List Row) (i j : ℕ) → row_bytes (slice_range xs i j) ≤ row_bytes xs
part_le xs i j =
    let front = row_bytes-append (take i xs) (drop i xs) in
    let back = row_bytes-append (take (j - i) (drop i xs)) (drop (j - i) (drop i xs)) in
    let one = ap row_bytes (take-append-drop i xs) in
    let two = ap row_bytes (take-append-drop (j - i) (drop i xs)) in
    omega (arith, front, back, one, two)

-- one row more
pub part_next : (xs : List Row) (from i size total : ℕ) (d : Row) → from ≤ i → i < length xs → size ≡ row_size (get_or xs i d) → total ≡ row_bytes (slice_range xs from i) → total + size ≡ row_bytes (slice_range xs from (i + 1))
part_next xs from i size total d low high is so_far =
    let more = ap row_bytes (part_more xs from i d low high) ∙ row_bytes-push (slice_range xs from i) (get_or xs i d) in
    omega (arith, more, is, so_far)

pub part_none : (xs : List Row) (i : ℕ) → row_bytes (slice_range xs i i) ≡ 0
part_none xs i = ap row_bytes (between_none xs i) ∙ row_bytes-nil

-- what goes into an empty page
pub fits_empty : (page xs all : List Row) → page ≡ [] → all ≡ xs → row_bytes all ≤ 4032 → row_bytes (page ++ xs) ≤ 4032
fits_empty page xs all none is room = rw (none, sym is) room

pub lands_empty : (now page xs all : List Row) → now ≡ page ++ xs → page ≡ [] → all ≡ xs → now ≡ all
lands_empty now page xs all put none is = put ∙ ap (λ ys. ys ++ xs) none ∙ sym is
