-- A scan, row by row: the rows of a range are the next row, and those of the range behind it.
use Rattle.std.proofs.Common.{◌≡◌, ℕ, ◌+◌, ◌<◌, ◌≤◌, Bool, true, false, cond, List, [], ◌∷◌, refl, ap, arith, subst, Some, None, inl, inr}
use Rattle.std.proofs.lemmas.Bool.{cases_lt, le-leb, lt-leb, lt-ltb, le-ltb}
use Rattle.std.specs.Prelude.{nat_le, ◌&&◌}
use Rattle.rows.specs.Rows.{Row, keys, row_next, Ascends}
use Rattle.script.specs.Tables.{row_range}

and_false : (b : Bool) → (b && false) ≡ false
and_false true = refl
and_false false = refl

-- no row is in a range that ends before it begins, nor in one that ends before the rows
pub range_empty : (low high : ℕ) (rows : List Row) → high < low → row_range low high rows ≡ []
range_empty low high [] h = refl
range_empty low high (row ∷ rows) h =
    elim (cases_lt row.0 low) [
      | inl l ↦ rw (lt-leb low row.0 l) (range_empty low high rows h)
      | inr g ↦ rw (le-leb low row.0 g, lt-leb row.0 high (omega arith)) (range_empty low high rows h)
    ]

pub range_before : (low high least most : ℕ) (rows : List Row) → high < least → Ascends least most (keys rows) → row_range low high rows ≡ []
range_before low high least most [] h a = refl
range_before low high least most (row ∷ rows) h a =
    let first : least ≤ row.0 = a.0 in
    rw (lt-leb row.0 high (omega arith), and_false (nat_le low row.0)) (range_before low high (row.0 + 1) most rows (omega arith) a.2)

-- two bounds below all rows are the same
range_low : (low other high least most : ℕ) (rows : List Row) → low ≤ least → other ≤ least → Ascends least most (keys rows) → row_range low high rows ≡ row_range other high rows
range_low low other high least most [] l o a = refl
range_low low other high least most (row ∷ rows) l o a =
    let first : least ≤ row.0 = a.0 in
    rw (le-leb low row.0 (omega arith), le-leb other row.0 (omega arith))
    (ap (λ (rs : List Row). cond (nat_le row.0 high) (row ∷ rs) rs) (range_low low other high (row.0 + 1) most rows (omega arith) (omega arith) a.2))

pub next_from : (low : ℕ) (rows : List Row) (row : Row) → row_next low rows ≡ Some row → low ≤ row.0
next_from low [] row h = absurd cc
next_from low (first ∷ rows) row h =
    elim (cases_lt first.0 low) [
      | inl l ↦ next_from low rows row (rw (lt-ltb first.0 low l) at h)
      | inr g ↦ let s : Some first ≡ Some row = rw (le-ltb first.0 low g) at h in let same : first ≡ row = cc in let k : first.0 ≡ row.0 = ap (λ (r : Row). r.0) same in omega arith
    ]

-- where there is no next row, the range has none
pub range_none : (low high : ℕ) (rows : List Row) → row_next low rows ≡ None → row_range low high rows ≡ []
range_none low high [] h = refl
range_none low high (row ∷ rows) h =
    elim (cases_lt row.0 low) [
      | inl l ↦ rw (lt-leb low row.0 l) (range_none low high rows (rw (lt-ltb row.0 low l) at h))
      | inr g ↦ absurd (let f : Some row ≡ None = rw (le-ltb row.0 low g) at h in cc)
    ]

-- nor where the next row is behind it
pub range_past : (low high least most : ℕ) (rows : List Row) (row : Row) → Ascends least most (keys rows) → row_next low rows ≡ Some row → high < row.0 → row_range low high rows ≡ []
range_past low high least most [] row a h p = refl
range_past low high least most (first ∷ rows) row a h p =
    elim (cases_lt first.0 low) [
      | inl l ↦ rw (lt-leb low first.0 l) (range_past low high (first.0 + 1) most rows row a.2 (rw (lt-ltb first.0 low l) at h) p)
      | inr g ↦
          let s : Some first ≡ Some row = rw (le-ltb first.0 low g) at h in
          let same : first ≡ row = cc in
          let k : first.0 ≡ row.0 = ap (λ (r : Row). r.0) same in
          rw (lt-leb first.0 high (omega arith), and_false (nat_le low first.0)) (range_before low high (first.0 + 1) most rows (omega arith) a.2)
    ]

-- else it is the next row, and the range behind it
pub range_next : (low high least most : ℕ) (rows : List Row) (row : Row) → Ascends least most (keys rows) → row_next low rows ≡ Some row → row.0 ≤ high → row_range low high rows ≡ row ∷ row_range (row.0 + 1) high rows
range_next low high least most [] row a h p = absurd cc
range_next low high least most (first ∷ rows) row a h p =
    elim (cases_lt first.0 low) [
      | inl l ↦
          let more : row_next low rows ≡ Some row = rw (lt-ltb first.0 low l) at h in
          let from : low ≤ row.0 = next_from low rows row more in
          rw (lt-leb low first.0 l, lt-leb (row.0 + 1) first.0 (omega arith)) (range_next low high (first.0 + 1) most rows row a.2 more p)
      | inr g ↦
          let s : Some first ≡ Some row = rw (le-ltb first.0 low g) at h in
          let same : first ≡ row = cc in
          let k : first.0 ≡ row.0 = ap (λ (r : Row). r.0) same in
          subst (λ (r : Row). row_range low high (first ∷ rows) ≡ r ∷ row_range (r.0 + 1) high (first ∷ rows)) same
          (rw (le-leb low first.0 g, le-leb first.0 high (omega arith), lt-leb (first.0 + 1) first.0 (omega arith))
          (ap (λ (rs : List Row). first ∷ rs) (range_low low (first.0 + 1) high (first.0 + 1) most rows (omega arith) (omega arith) a.2)))
    ]
