-- What the checks of a frame table say, and that a table with one entry changed passes them.
use Rattle.std.proofs.Common.{◌≡◌, ◌≢◌, ◌⊎◌, ℕ, zero, suc, ◌<◌, ◌≤◌, Bool, true, false, not, ◌&&◌, refl, sym, ap, ◌∙◌, inl, inr, arith, cond, eqb, ltb, Option, Some, None}
use Rattle.std.proofs.lemmas.Bool.{cases_eq, or_parts, ltb-false, le-ltb, eq-eqb, ne_eqb, cond-false}
use Rattle.store_model.specs.Recovered.{any_below, table_check}
use Rattle.store_model.specs.Checked.{TablePasses}

none_below : (n : ℕ) (f : ℕ → Bool) → any_below n f ≡ false → (k : ℕ) → k < n → f k ≡ false
none_below zero f h k less = absurd (omega arith)
none_below (suc n) f h k less =
    let parts : (f n ≡ false) × (any_below n f ≡ false) = or_parts (f n) (any_below n f) h in
    elim (cases_eq k n) [
      | inl last ↦ ap f last ∙ parts.0
      | inr other ↦ none_below n f parts.1 k (omega arith)
    ]

below_none : (n : ℕ) (f : ℕ → Bool) → ((k : ℕ) → k < n → f k ≡ false) → any_below n f ≡ false
below_none zero f h = refl
below_none (suc n) f h =
    let last : f n ≡ false = h n (omega arith) in
    let rest : any_below n f ≡ false = below_none n f (λ k less. h k (omega arith)) in
    rw (last, rest)

if_none : (t : Bool) (n : ℕ) (rest : Option ℕ) → cond t (Some n) rest ≡ None → (t ≡ false) × (rest ≡ None)
if_none true n rest h = cc
if_none false n rest h = (refl, h)

-- a table without a failing check
pub table_passes : (pages n : ℕ) (e : ℕ → ℕ) → table_check pages n e ≡ None → TablePasses pages n e
table_passes pages n e h =
    let fifth : (any_below n (λ k. ltb pages (e k)) ≡ false) × (cond (any_below n (λ k. not (eqb (e k) 0) && any_below k (λ j. eqb (e j) (e k)))) (Some 6) None ≡ None) =
    if_none (any_below n (λ k. ltb pages (e k))) 5 _ h in
    let sixth : (any_below n (λ k. not (eqb (e k) 0) && any_below k (λ j. eqb (e j) (e k))) ≡ false) × (◌≡◌ {A = Option ℕ} None None) =
    if_none (any_below n (λ k. not (eqb (e k) 0) && any_below k (λ j. eqb (e j) (e k)))) 6 None fifth.1 in
    record {
      in_store = λ k less. ltb-false pages (e k) (none_below n (λ m. ltb pages (e m)) fifth.0 k less);
      once = λ j k under less some same. true_false (sym (eq-eqb (e j) (e k) same)
          ∙ none_below k (λ m. eqb (e m) (e k)) (second (eqb (e k) 0) (any_below k (λ m. eqb (e m) (e k))) (ne_eqb (e k) 0 some)
          (none_below n (λ m. not (eqb (e m) 0) && any_below m (λ j. eqb (e j) (e m))) sixth.0 k less)) j under);
    }
  where
    true_false : true ≡ false → ⊥
    true_false e = cc

    second : (x y : Bool) → x ≡ false → (not x && y) ≡ false → y ≡ false
    second true y h k = cc
    second false y h k = k

-- and the other way round
pub table_check-none : (pages n : ℕ) (e : ℕ → ℕ) → TablePasses pages n e → table_check pages n e ≡ None
table_check-none pages n e passes =
    cond-false (any_below n (λ k. ltb pages (e k))) (Some 5) _ (below_none n (λ k. ltb pages (e k)) (λ k less. le-ltb pages (e k) (passes.in_store k less)))
    ∙ cond-false (any_below n (λ k. not (eqb (e k) 0) && any_below k (λ j. eqb (e j) (e k)))) (Some 6) None
    (below_none n (λ k. not (eqb (e k) 0) && any_below k (λ j. eqb (e j) (e k))) (λ k less. each k less (cases_eq (e k) 0)))
  where
    each : (k : ℕ) → k < n → (e k ≡ 0) ⊎ (e k ≢ 0) → (not (eqb (e k) 0) && any_below k (λ j. eqb (e j) (e k))) ≡ false
    each k less (inl empty) = rw (eq-eqb (e k) 0 empty) refl
    each k less (inr some) = first (not (eqb (e k) 0)) (any_below k (λ j. eqb (e j) (e k))) (below_none k (λ j. eqb (e j) (e k)) (λ j under. ne_eqb (e j) (e k) (passes.once j k under less some)))
      where
        first : (x y : Bool) → y ≡ false → (x && y) ≡ false
        first true y h = h
        first false y h = refl

-- One entry is changed to 0 or to a page that no other entry names.
pub entry_passes : (pages n k : ℕ) (e f : ℕ → ℕ) → TablePasses pages n f → ((m : ℕ) → m ≢ k → e m ≡ f m) → e k ≤ pages → (e k ≢ 0 → (m : ℕ) → m < n → m ≢ k → f m ≢ e k) → TablePasses pages n e
entry_passes pages n k e f passes others fits alone = record {
  in_store = λ m less. elim (cases_eq m k) [
    | inl here ↦ (let same : e m ≡ e k = ap e here in omega arith)
    | inr there ↦ (let same : e m ≡ f m = others m there in let old : f m ≤ pages = passes.in_store m less in omega arith)
  ];
  once = λ j m under less some same. elim (cases_eq m k) [
    | inl here ↦
        (let at : e m ≡ e k = ap e here in
        let apart : j ≢ k = (λ clash. omega arith) in
        let some_k : e k ≢ 0 = (λ none. some (at ∙ none)) in
        alone some_k j (omega arith) apart (sym (others j apart) ∙ same ∙ at))
    | inr there ↦ elim (cases_eq j k) [
      | inl here ↦
          (let at : e j ≡ e k = ap e here in
          let some_k : e k ≢ 0 = (λ none. some (sym same ∙ at ∙ none)) in
          alone some_k m less there (sym (others m there) ∙ sym same ∙ at))
      | inr apart ↦ passes.once j m under less (λ none. some (others m there ∙ none)) (sym (others j apart) ∙ same ∙ others m there)
    ]
  ];
}
