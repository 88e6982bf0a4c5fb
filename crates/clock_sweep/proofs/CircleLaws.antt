-- The circle of an array of slots, and one step of a sweep over it.
use Rattle.std.proofs.Common.{◌≡◌, ℕ, zero, suc, ◌+◌, ◌-◌, ◌<◌, ◌≤◌, ◌⊎◌, inl, inr, Bool, true, false, cond, min, replicate, List, [], ◌∷◌, ◌++◌, length, take, drop, get_or, refl, ap, sym, ◌∙◌, arith, add-zero, set, length-drop, append_assoc}
use Rattle.std.specs.Prelude.{Option, Some, None, IfSome, ◌==◌, nat_lt}
use Rattle.std.specs.List.{position, position_or_len}
use Rattle.std.proofs.lemmas.List.Sums.{fails_before_first}
use Rattle.std.proofs.lemmas.Bool.{ltb-false, cases_lt, eq-eqb, eqb-true, false_from_ne_true}
use Rattle.std.proofs.lemmas.List.{map-append, drop-set-add, take-append-drop, drop_more, take_more_set, drop-set-lt, append-nil, drop_all, take_all, length-take-le, length-take, length-append}
use Rattle.clock_sweep.specs.declared.clock.Slot.{Slot}
use Rattle.clock_sweep.specs.declared.clock.Slot.TheVariants.{Empty, Clear, Set}
use Rattle.clock_sweep.specs.Clock.{with_slot, is_empty, new_clock, places_from, lower, lower_if, lowest_empty}
use Rattle.clock_sweep.specs.Circles.{numbered, circle_of, left_behind, found_at, turned}

pub numbered-append : (k : ℕ) (xs ys : List Slot) → numbered k (xs ++ ys) ≡ numbered k xs ++ numbered (k + length xs) ys
numbered-append k [] ys = rw add-zero refl
numbered-append k (x ∷ xs) ys = let e : k + suc (length xs) ≡ (k + 1) + length xs = omega arith in rw e (ap (λ t. (k, x) ∷ t) (numbered-append (k + 1) xs ys))

pub length-numbered : (k : ℕ) (xs : List Slot) → length (numbered k xs) ≡ length xs
length-numbered k [] = refl
length-numbered k (x ∷ xs) = ap suc (length-numbered (k + 1) xs)

-- all places but the one under the hand
pub rest_of : List Slot → ℕ → List (ℕ × Slot)
rest_of slots hand = numbered (hand + 1) (drop (hand + 1) slots) ++ numbered 0 (take hand slots)

pub circle_front : (slots : List Slot) (hand : ℕ) (d : Slot) → hand < length slots → circle_of slots hand ≡ (hand, get_or slots hand d) ∷ rest_of slots hand
unfolding circle_of rest_of
circle_front slots hand d h = rw (drop_more slots hand d h) refl

pub circle_back : (slots : List Slot) (hand : ℕ) (x : Slot) → hand < length slots → circle_of (set slots hand x) (hand + 1) ≡ rest_of slots hand ++ (hand, x) ∷ []
unfolding circle_of rest_of
circle_back slots hand x h =
    let below : hand < hand + 1 = omega arith in
    let short : length (take hand slots) ≡ hand = length-take-le hand slots (omega arith) in
    let back : numbered 0 (take hand slots ++ x ∷ []) ≡ numbered 0 (take hand slots) ++ (hand, x) ∷ [] =
    numbered-append 0 (take hand slots) (x ∷ []) ∙ ap (λ n. numbered 0 (take hand slots) ++ (n, x) ∷ []) (omega arith) in
    rw (drop-set-lt (hand + 1) slots hand x below, take_more_set slots hand x h, back) (sym (append_assoc (numbered (hand + 1) (drop (hand + 1) slots)) (numbered 0 (take hand slots)) ((hand, x) ∷ [])))

pub circle_wrapped : (slots : List Slot) (hand : ℕ) → hand ≡ length slots → circle_of slots hand ≡ circle_of slots 0
unfolding circle_of
circle_wrapped slots hand e =
    let all : length slots ≤ hand = omega arith in
    rw (drop_all hand slots all, take_all hand slots all) (sym (append-nil _))

pub turn : (slots : List Slot) (hand place : ℕ) → (place ≡ hand) ⊎ ((place ≡ 0) × (hand ≡ length slots)) → place < length slots
    → (found_at (get_or slots place Empty) place, circle_of (set slots place (left_behind (get_or slots place Empty))) (place + 1)) ≡ turned (circle_of slots hand)
turn slots hand place (inl e) h =
    rw (sym e, circle_front slots place Empty h, circle_back slots place (left_behind (get_or slots place Empty)) h) refl
turn slots hand place (inr e) h =
    rw (circle_wrapped slots hand e.1, sym e.0, circle_front slots place Empty h, circle_back slots place (left_behind (get_or slots place Empty)) h) refl

-- a victim that is found is the place
pub found_in : (slot : Slot) (place n : ℕ) → place < n → IfSome (found_at slot place) (λ found. found < n)
found_in Empty place n h = tt
found_in Clear place n h = h
found_in Set place n h = tt

pub length-circle_of : (slots : List Slot) (hand : ℕ) → length (circle_of slots hand) ≡ length slots
unfolding circle_of
length-circle_of slots hand =
    length-append (numbered hand (drop hand slots)) (numbered 0 (take hand slots))
    ∙ (rw (length-numbered hand (drop hand slots), length-numbered 0 (take hand slots)) (omega (arith, length-drop hand slots, length-take hand slots)))

-- ---- one place gets another slot

slot_below : (k j : ℕ) (x : Slot) (xs : List Slot) → j < k → with_slot j x (numbered k xs) ≡ numbered k xs
slot_below k j x [] h = refl
slot_below k j x (y ∷ ys) h =
    let other : (k == j) ≡ false = false_from_ne_true (k == j) (λ t. let same = eqb-true k j t in absurd (omega arith)) in
    rw other (ap (λ t. (k, y) ∷ t) (slot_below (k + 1) j x ys (omega arith)))

slot_at : (k i j : ℕ) (x : Slot) (xs : List Slot) → j ≡ k + i → with_slot j x (numbered k xs) ≡ numbered k (set xs i x)
slot_at k i j x [] e = refl
slot_at k zero j x (y ∷ ys) e =
    let here : (k == j) ≡ true = eq-eqb k j (omega arith) in
    rw here (ap (λ t. (k, x) ∷ t) (slot_below (k + 1) j x ys (omega arith)))
slot_at k (suc i) j x (y ∷ ys) e =
    let other : (k == j) ≡ false = false_from_ne_true (k == j) (λ t. let same = eqb-true k j t in absurd (omega arith)) in
    rw other (ap (λ t. (k, y) ∷ t) (slot_at (k + 1) i j x ys (omega arith)))

take_set : (n i : ℕ) (x : Slot) (xs : List Slot) → take n (set xs i x) ≡ set (take n xs) i x
take_set zero i x [] = refl
take_set zero i x (y ∷ ys) = elim i as (λ i. take zero (set (y ∷ ys) i x) ≡ set [] i x) [ zero ↦ refl | suc i' ↦ refl ]
take_set (suc n) i x [] = refl
take_set (suc n) zero x (y ∷ ys) = refl
take_set (suc n) (suc i) x (y ∷ ys) = ap (λ t. y ∷ t) (take_set n i x ys)

pub circle-set : (slots : List Slot) (hand i : ℕ) (x : Slot) → circle_of (set slots i x) hand ≡ with_slot i x (circle_of slots hand)
unfolding circle_of
circle-set slots hand i x =
    let parts : with_slot i x (numbered hand (drop hand slots) ++ numbered 0 (take hand slots)) ≡ with_slot i x (numbered hand (drop hand slots)) ++ with_slot i x (numbered 0 (take hand slots)) =
    map-append (λ e. (e.0, cond (e.0 == i) x e.1)) (numbered hand (drop hand slots)) (numbered 0 (take hand slots)) in
    let front : with_slot i x (numbered 0 (take hand slots)) ≡ numbered 0 (take hand (set slots i x)) = slot_at 0 i i x (take hand slots) (omega arith) ∙ ap (numbered 0) (sym (take_set hand i x slots)) in
    let back : with_slot i x (numbered hand (drop hand slots)) ≡ numbered hand (drop hand (set slots i x)) = elim (cases_lt i hand) [
      | inl less ↦ slot_below hand i x (drop hand slots) less ∙ ap (numbered hand) (sym (drop-set-lt hand slots i x less))
      | inr more ↦
          let at : i ≡ hand + (i - hand) = omega arith in
          let moved : drop hand (set slots i x) ≡ set (drop hand slots) (i - hand) x = ap (λ n. drop hand (set slots n x)) at ∙ drop-set-add hand slots (i - hand) x in
          slot_at hand (i - hand) i x (drop hand slots) at ∙ ap (numbered hand) (sym moved)
    ] in
    sym (parts ∙ ap (λ t. t ++ with_slot i x (numbered 0 (take hand slots))) back ∙ ap (λ t. numbered hand (drop hand (set slots i x)) ++ t) front)

-- ---- a new clock

pub numbered-empty : (k n : ℕ) → numbered k (replicate n Empty) ≡ places_from k n
numbered-empty k zero = refl
numbered-empty k (suc n) = ap (λ t. (k, Empty) ∷ t) (numbered-empty (k + 1) n)

pub circle-new : (n : ℕ) → circle_of (replicate n Empty) 0 ≡ new_clock n
unfolding circle_of
circle-new n = append-nil (numbered 0 (replicate n Empty)) ∙ numbered-empty 0 n

-- ---- the lowest empty place

either : Option ℕ → Option ℕ → Option ℕ
either None b = b
either (Some i) None = Some i
either (Some i) (Some j) = Some (min i j)

lower-either : (k : ℕ) (a b : Option ℕ) → lower k (either a b) ≡ either (lower k a) b
unfolding either
lower-either k None None = refl
lower-either k None (Some j) = refl
lower-either k (Some i) None = refl
lower-either k (Some i) (Some j) = ap Some (omega arith)

lower_if-either : (c : Bool) (k : ℕ) (a b : Option ℕ) → lower_if c k (either a b) ≡ either (lower_if c k a) b
lower_if-either true k a b = lower-either k a b
lower_if-either false k a b = refl

lowest-append : (xs ys : List (ℕ × Slot)) → lowest_empty (xs ++ ys) ≡ either (lowest_empty xs) (lowest_empty ys)
unfolding lowest_empty either
lowest-append [] ys = refl
lowest-append (x ∷ xs) ys = ap (lower_if (is_empty x.1) x.0) (lowest-append xs ys) ∙ lower_if-either (is_empty x.1) x.0 (lowest_empty xs) (lowest_empty ys)

either-comm : (a b : Option ℕ) → either a b ≡ either b a
unfolding either
either-comm None None = refl
either-comm None (Some j) = refl
either-comm (Some i) None = refl
either-comm (Some i) (Some j) = ap Some (omega arith)

pub lowest-circle : (slots : List Slot) (hand : ℕ) → hand ≤ length slots → lowest_empty (circle_of slots hand) ≡ lowest_empty (numbered 0 slots)
unfolding circle_of
lowest-circle slots hand h =
    let whole : numbered 0 slots ≡ numbered 0 (take hand slots) ++ numbered hand (drop hand slots) =
    ap (numbered 0) (sym (take-append-drop hand slots)) ∙ numbered-append 0 (take hand slots) (drop hand slots)
    ∙ ap (λ n. numbered 0 (take hand slots) ++ numbered n (drop hand slots)) (let short = length-take-le hand slots h in omega arith) in
    lowest-append (numbered hand (drop hand slots)) (numbered 0 (take hand slots))
    ∙ either-comm (lowest_empty (numbered hand (drop hand slots))) (lowest_empty (numbered 0 (take hand slots)))
    ∙ sym (ap lowest_empty whole ∙ lowest-append (numbered 0 (take hand slots)) (numbered hand (drop hand slots)))

-- the first empty slot has the lowest number
at_least : (k : ℕ) (xs : List Slot) (i : ℕ) → lowest_empty (numbered k xs) ≡ Some i → k ≤ i
unfolding lowest_empty
at_least k [] i h = absurd (cc)
at_least k (x ∷ xs) i h = step (is_empty x) (lowest_empty (numbered (k + 1) xs)) (λ j e. at_least (k + 1) xs j e) h
  where
    step : (b : Bool) (o : Option ℕ) → ((j : ℕ) → o ≡ Some j → k + 1 ≤ j) → lower_if b k o ≡ Some i → k ≤ i
    step true None rest e = let same : k ≡ i = cc in omega arith
    step true (Some j) rest e = let more = rest j refl in let same : min k j ≡ i = cc in omega arith
    step false o rest e = let more = rest i e in omega arith

lower_least : (k : ℕ) (o : Option ℕ) → ((j : ℕ) → o ≡ Some j → k + 1 ≤ j) → lower k o ≡ Some k
lower_least k None rest = refl
lower_least k (Some j) rest = let more = rest j refl in ap Some (omega arith)

pub first-lowest : (k : ℕ) (xs : List Slot) (i : ℕ) → i < length xs → is_empty (get_or xs i Empty) ≡ true → ((j : ℕ) → j < i → is_empty (get_or xs j Empty) ≡ false)
    → lowest_empty (numbered k xs) ≡ Some (k + i)
unfolding lowest_empty
first-lowest k [] i h at below = absurd (omega arith)
first-lowest k (x ∷ xs) zero h at below =
    rw at (lower_least k (lowest_empty (numbered (k + 1) xs)) (λ j e. at_least (k + 1) xs j e) ∙ ap Some (omega arith))
first-lowest k (x ∷ xs) (suc i) h at below =
    rw (below 0 (omega arith)) (first-lowest (k + 1) xs i (omega arith) at (λ j less. below (suc j) (omega arith)) ∙ ap Some (omega arith))

pub none-lowest : (k : ℕ) (xs : List Slot) → ((j : ℕ) → j < length xs → is_empty (get_or xs j Empty) ≡ false) → lowest_empty (numbered k xs) ≡ None
unfolding lowest_empty
none-lowest k [] none = refl
none-lowest k (x ∷ xs) none = rw (none 0 (omega arith)) (none-lowest (k + 1) xs (λ j less. none (suc j) (omega arith)))

-- where the search found none, none is empty
pub none_found : (xs : List Slot) → position is_empty xs ≡ None → (j : ℕ) → j < length xs → is_empty (get_or xs j Empty) ≡ false
none_found xs h j less =
    let past = past_all (nat_lt (position_or_len is_empty xs) (length xs)) (position_or_len is_empty xs) refl h in
    let far = ltb-false (position_or_len is_empty xs) (length xs) past in
    fails_before_first is_empty xs j Empty (omega arith)
  where
    past_all : (b : Bool) (n : ℕ) → nat_lt (position_or_len is_empty xs) (length xs) ≡ b → cond b (Some n) None ≡ None → nat_lt (position_or_len is_empty xs) (length xs) ≡ false
    past_all true n e g = absurd (cc)
    past_all false n e g = e
