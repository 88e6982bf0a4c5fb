-- The bytes that rows take.
use Rattle.std.proofs.Common.{◌≡◌, ℕ, zero, suc, ◌+◌, List, [], ◌∷◌, ◌++◌, sum, refl, ap, ◌∙◌, arith}
use Rattle.std.proofs.lemmas.List.{map-append}
use Rattle.std.proofs.lemmas.List.Sums.{sum_by-append, sum_by-cons}
use Rattle.std.specs.List.{insert}
use Rattle.rows.specs.Rows.{Row}
use Rattle.page_format.specs.Room.{sizes, row_size}
use Rattle.page_format.specs.Sound.{row_bytes}

pub row_bytes-append : (xs ys : List Row) → row_bytes (xs ++ ys) ≡ row_bytes xs + row_bytes ys
unfolding row_bytes
row_bytes-append xs ys = ap sum (map-append row_size xs ys) ∙ sum_by-append (λ (x : ℕ). x) (sizes xs) (sizes ys)

pub row_bytes-nil : row_bytes [] ≡ 0
unfolding row_bytes
row_bytes-nil = refl

pub row_bytes-cons : (x : Row) (xs : List Row) → row_bytes (x ∷ xs) ≡ row_size x + row_bytes xs
unfolding row_bytes
row_bytes-cons x xs = sum_by-cons (λ (n : ℕ). n) (row_size x) (sizes xs)

pub row_bytes-one : (x : Row) → row_bytes (x ∷ []) ≡ row_size x
row_bytes-one x = row_bytes-cons x [] ∙ omega (arith, row_bytes-nil)

pub row_bytes-push : (xs : List Row) (x : Row) → row_bytes (xs ++ x ∷ []) ≡ row_bytes xs + row_size x
row_bytes-push xs x = row_bytes-append xs (x ∷ []) ∙ omega (arith, row_bytes-one x)

pub row_bytes-insert : (xs : List Row) (i : ℕ) (x : Row) → row_bytes (insert xs i x) ≡ row_bytes xs + row_size x
row_bytes-insert xs zero x = row_bytes-cons x xs ∙ omega arith
row_bytes-insert [] (suc i) x = row_bytes-one x ∙ omega (arith, row_bytes-nil)
row_bytes-insert (y ∷ ys) (suc i) x = row_bytes-cons y (insert ys i x) ∙ omega (arith, row_bytes-cons y ys, row_bytes-insert ys i x)
