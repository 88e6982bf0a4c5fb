-- Pieces of one length in a row.
use Rattle.std.proofs.Common.{◌≡◌, ◌≢◌, ℕ, zero, suc, ◌+◌, ◌-◌, ◌*◌, ◌^◌, ◌<◌, ◌≤◌, true, false, nat_eq, inl, inr, List, [], ◌∷◌, ◌++◌, length, take, drop, get_or, slice_index, slice_range, refl, sym, ap, ◌∙◌, arith, length-append, mul-suc, mul-zero, zero-add, add-one, append_assoc, append-nil, take_all, drop-drop, take-add, add-zero}
use Rattle.std.proofs.lemmas.List.{get_or_append_left, get_or-append-add, take_at, drop_at, get_or-drop, get_or-take, length-take-le}
use Rattle.std.proofs.Math.ListN.{get_or-eq_default}
use Rattle.std.proofs.lemmas.Bool.{cases_lt, eq-eqb, ne_eqb, and_right}
use Rattle.nvm_model.specs.LineBytes.{pieces}

pub length-pieces : (s : ℕ) (f : ℕ → List ℕ) → ((i : ℕ) → length (f i) ≡ s) → (i n : ℕ) → length (pieces f i n) ≡ s * n
length-pieces s f each i zero = sym (mul-zero s)
length-pieces s f each i (suc n) = length-append (f i) (pieces f (suc i) n) ∙ omega (arith, each i, length-pieces s f each (suc i) n, mul-suc s n)

-- a byte of a row of pieces of one length is a byte of one of them
pub get_or-pieces : (s : ℕ) (f : ℕ → List ℕ) → ((i : ℕ) → length (f i) ≡ s) → (i n k j : ℕ) → k < n → j < s
    → get_or (pieces f i n) (s * k + j) 0 ≡ get_or (f (i + k)) j 0
get_or-pieces s f each i zero k j in_row in_piece = absurd (omega arith)
get_or-pieces s f each i (suc n) zero j in_row in_piece =
    ap (λ (at : ℕ). get_or (f i ++ pieces f (suc i) n) at 0) (omega (arith, mul-zero s))
    ∙ get_or_append_left (f i) (pieces f (suc i) n) 0 j (omega (arith, each i))
    ∙ ap (λ (at : ℕ). get_or (f at) j 0) (omega arith)
get_or-pieces s f each i (suc n) (suc k) j in_row in_piece =
    ap (λ (at : ℕ). get_or (f i ++ pieces f (suc i) n) at 0) (omega (arith, mul-suc s k, each i))
    ∙ get_or-append-add (f i) (pieces f (suc i) n) (s * k + j) 0
    ∙ get_or-pieces s f each (suc i) n k j (omega arith) in_piece
    ∙ ap (λ (at : ℕ). get_or (f at) j 0) (omega arith)

-- one piece more at the end
pub pieces-more : (f : ℕ → List ℕ) (i n : ℕ) → pieces f i (suc n) ≡ pieces f i n ++ f (i + n)
pieces-more f i zero = append-nil (f i) ∙ ap f (omega arith)
pieces-more f i (suc n) =
    ap (λ r. f i ++ r) (pieces-more f (suc i) n)
    ∙ sym (append_assoc (f i) (pieces f (suc i) n) (f (suc i + n)))
    ∙ ap (λ (at : ℕ). (f i ++ pieces f (suc i) n) ++ f at) (omega arith)

pub pieces-same : (f g : ℕ → List ℕ) (i n : ℕ) → ((k : ℕ) → i ≤ k → k < i + n → f k ≡ g k) → pieces f i n ≡ pieces g i n
pieces-same f g i zero same = refl
pieces-same f g i (suc n) same = rw (same i (omega arith) (omega arith), pieces-same f g (suc i) n (λ k low high. same k (omega arith) (omega arith))) refl
