-- The place of a page in the queue.
use Rattle.std.proofs.Common.{◌≡◌, ℕ, zero, suc, ◌+◌, ◌<◌, ◌≤◌, Bool, true, false, not, cond, ◌||◌, List, [], ◌∷◌, ◌++◌, length, drop, get_or, refl, ap, arith}
use Rattle.std.specs.Prelude.{Some, ◌==◌, nat_lt}
use Rattle.std.specs.List.{position, position_or_len, remove}
use Rattle.std.proofs.lemmas.List.Quantifiers.{position-Some}
use Rattle.std.proofs.lemmas.Bool.{lt-ltb, ltb-true}
use Rattle.std.proofs.lemmas.List.{length-append, length-drop}
use Rattle.migration_policy.specs.Admission.{is_queued, unqueued, queued}

first_place : (page : ℕ) (xs : List ℕ) (i : ℕ) → i < length xs → (get_or xs i 0 == page) ≡ true → ((k : ℕ) → k < i → (get_or xs k 0 == page) ≡ false)
    → (is_queued page xs ≡ true) × (unqueued page xs ≡ remove xs i)
first_place page [] i h at below = absurd (omega arith)
first_place page (x ∷ xs) zero h at below = (rw at refl, rw at refl)
first_place page (x ∷ xs) (suc i) h at below =
    let other : (x == page) ≡ false = below 0 (omega arith) in
    let rest = first_place page xs i (omega arith) at (λ k less. below (suc k) (omega arith)) in
    (rw other rest.0, rw other (ap (λ t. x ∷ t) rest.1))

pub found_queued : (page : ℕ) (xs : List ℕ) (i : ℕ) → position (λ q. q == page) xs ≡ Some i → (i < length xs) × (is_queued page xs ≡ true) × (unqueued page xs ≡ remove xs i)
found_queued page xs i h =
    let at = position-Some (λ q. q == page) xs i 0 h in
    let both = first_place page xs i at.0 at.1 at.2 in
    (at.0, both.0, both.1)

any_place : (b : Bool) (n m : ℕ) (rest : Bool) → (rest ≡ true → n < m) → b || rest ≡ true → cond (not b) (1 + n) 0 < suc m
any_place true n m rest f h = omega arith
any_place false n m rest f h = let less = f h in omega arith

queued_place : (page : ℕ) (xs : List ℕ) → is_queued page xs ≡ true → position_or_len (λ q. q == page) xs < length xs
queued_place page [] h = absurd (cc)
queued_place page (x ∷ xs) h = any_place (x == page) (position_or_len (λ q. q == page) xs) (length xs) (is_queued page xs) (queued_place page xs) h

gone : (b : Bool) → (b ≡ true → ⊥) → b ≡ false
gone true n = absurd (n refl)
gone false n = refl

-- where no place was found
pub not_queued : (page : ℕ) (xs : List ℕ) → ((i : ℕ) → position (λ q. q == page) xs ≡ Some i → ⊥) → is_queued page xs ≡ false
not_queued page xs none = gone (is_queued page xs) (λ yes.
    let less = queued_place page xs yes in
    none (position_or_len (λ q. q == page) xs) (rw (lt-ltb (position_or_len (λ q. q == page) xs) (length xs) less) refl))

queued_if : (b : Bool) (len page : ℕ) (xs : List ℕ) → nat_lt (length xs) len ≡ b → 1 ≤ len → length xs ≤ len → length (cond b xs (drop 1 xs) ++ page ∷ []) ≤ len
queued_if true len page xs e some fits = let less = ltb-true (length xs) len e in omega (arith, length-append {A = ℕ})
queued_if false len page xs e some fits = omega (arith, length-append {A = ℕ}, length-drop {A = ℕ})

pub length-queued : (len page : ℕ) (xs : List ℕ) → 1 ≤ len → length xs ≤ len → length (queued len page xs) ≤ len
length-queued len page xs some fits = queued_if (nat_lt (length xs) len) len page xs refl some fits
