-- Entries of a frame table that are read and judged one by one.
use Rattle.std.proofs.Common.{◌≡◌, ◌≢◌, ℕ, zero, suc, ◌+◌, ◌-◌, ◌<◌, ◌≤◌, Bool, true, false, not, ◌&&◌, ◌||◌, List, length, slice_index, slice_set, refl, sym, ap, ◌∙◌, subst, inl, inr, arith, eqb, ltb, IsTrue, Some, None, Result, Ok, Err}
use Rattle.std.proofs.lemmas.Bool.{cases_eq, eq-eqb, ne_eqb, lt-ltb, le-ltb, cond-true, cond-false}
use Rattle.std.proofs.lemmas.List.{get_or-set_same, get_or-set_other}
use Rattle.devices.specs.State.{State, current}
use Rattle.devices.specs.World.{Standing, now}
use Rattle.line_pages.specs.declared.stop.Stop.{Stop}
use Rattle.line_pages.specs.declared.stop.Stop.TheVariants.{Nvm}
use Rattle.std.specs.Prelude.{IfErr}
use Rattle.std.specs.Result.{IsErrAnd}
use Rattle.device_calls.specs.Stops.{IsFault, StopCause, StopsWith}
use Rattle.line_pages.specs.Pairs.{Pairs, with_pair, no_pairs}
use Rattle.damage.specs.declared.evidence.Evidence.{Evidence}
use Rattle.damage.specs.declared.evidence.Evidence.TheVariants as evidence
use Rattle.device_calls.specs.Leads.{Looked}
use Rattle.device_calls.proofs.LeadsLaws.{looked_none, looked_then, looked_ok, looked_same, looked_exit, later_told}
use Rattle.store_model.specs.Recovered.{entry_at, any_below, table_check}
use Rattle.store_model.specs.Checked.{TablePasses}
use Rattle.home_laws.proofs.TableLaws.{table_passes, table_check-none}
use Rattle.home_move.proofs.WriteLaws.{at_exit}
use Rattle.home_move.specs.Table.{AreEntries, AreBelow, HasWord, SeenSo, EntriesSo, NamesTwice, IsTableEvidence, IsTableStop, TableCause}

-- ---- the first check that fails

some_below : (n : ℕ) (f : ℕ → Bool) (k : ℕ) → k < n → f k ≡ true → any_below n f ≡ true
some_below zero f k less h = absurd (omega arith)
some_below (suc n) f k less h = elim (cases_eq k n) [
  | inl last ↦ true_or (f n) (any_below n f) (ap f (sym last) ∙ h)
  | inr other ↦ or_true (f n) (any_below n f) (some_below n f k (omega arith) h)
]
  where
    true_or : (x y : Bool) → x ≡ true → (x || y) ≡ true
    true_or true y h = refl
    true_or false y h = cc

    or_true : (x y : Bool) → y ≡ true → (x || y) ≡ true
    or_true true y h = refl
    or_true false y h = h

below_none : (n : ℕ) (f : ℕ → Bool) → ((k : ℕ) → k < n → f k ≡ false) → any_below n f ≡ false
below_none zero f h = refl
below_none (suc n) f h =
    let last : f n ≡ false = h n (omega arith) in
    let rest : any_below n f ≡ false = below_none n f (λ k less. h k (omega arith)) in
    rw (last, rest)

pub fails_above : (p n : ℕ) (e : ℕ → ℕ) (k : ℕ) → k < n → p < e k → table_check p n e ≡ Some 5
fails_above p n e k less above = cond-true (any_below n (λ m. ltb p (e m))) (Some 5) _ (some_below n (λ m. ltb p (e m)) k less (lt-ltb p (e k) above))

pub fails_twice : (p n : ℕ) (e : ℕ → ℕ) (j k : ℕ) → AreBelow p n e → j < k → k < n → e k ≢ 0 → e j ≡ e k → table_check p n e ≡ Some 6
fails_twice p n e j k below under less some same =
    cond-false (any_below n (λ m. ltb p (e m))) (Some 5) _ (below_none n (λ m. ltb p (e m)) (λ m h. le-ltb p (e m) (below.each m h)))
    ∙ cond-true (any_below n (λ m. not (eqb (e m) 0) && any_below m (λ i. eqb (e i) (e m)))) (Some 6) None
    (some_below n (λ m. not (eqb (e m) 0) && any_below m (λ i. eqb (e i) (e m))) k less
    (both (eqb (e k) 0) (any_below k (λ i. eqb (e i) (e k))) (ne_eqb (e k) 0 some) (some_below k (λ i. eqb (e i) (e k)) j under (eq-eqb (e j) (e k) same))))
  where
    both : (x y : Bool) → x ≡ false → y ≡ true → (not x && y) ≡ true
    both true y h g = cc
    both false y h g = g

pub passes_once : (p n : ℕ) (e : ℕ → ℕ) → AreBelow p n e → ((j k : ℕ) → j < k → k < n → e k ≢ 0 → e j ≢ e k) → table_check p n e ≡ None
passes_once p n e below once = table_check-none p n e (record { in_store = below.each; once = once })

pub judged_above : (p n : ℕ) (e : ℕ → ℕ) (k : ℕ) (kept : Evidence) → k < n → p < e k → kept ≡ evidence.Frames k k (e k) 5 → IsTableEvidence p n e kept
judged_above p n e k kept less above keeps = inl (fails_above p n e k less above, record { frame = k; less = less; above = above; keeps = keeps })

pub judged_twice : (p n : ℕ) (e : ℕ → ℕ) (kept : Evidence) → AreBelow p n e → NamesTwice n e kept → IsTableEvidence p n e kept
judged_twice p n e kept below names = inr (fails_twice p n e names.first names.second below names.order names.less names.page names.same, names)

-- ---- what was seen

pub seen_none : (e : ℕ → ℕ) (pairs : Pairs) → pairs ≡ no_pairs → SeenSo 0 e pairs
seen_none e pairs none = record {
  noted = λ p h. absurd (false_true (sym (ap (λ (x : Pairs). x p 0) none) ∙ h));
  all_noted = λ k less some. absurd (omega arith);
  once = λ j k under less some. absurd (omega arith);
}
  where
    false_true : false ≡ true → ⊥
    false_true h = cc

has_more : (n : ℕ) (e : ℕ → ℕ) (word : ℕ) → HasWord n e word → HasWord (n + 1) e word
has_more n e word has = record { at = has.at; less = (let low : has.at < n = has.less in omega arith); is = has.is }

-- an entry of 0
pub seen_empty : (n : ℕ) (e : ℕ → ℕ) (old new : Pairs) → SeenSo n e old → e n ≡ 0 → new ≡ old → SeenSo (n + 1) e new
seen_empty n e old new seen empty same = subst (λ (x : Pairs). SeenSo (n + 1) e x) (sym same) (record {
  noted = λ p h. has_more n e (p + 1) (seen.noted p h);
  all_noted = λ k less some. seen.all_noted k (below k less some) some;
  once = λ j k under less some. seen.once j k under (below k less some) some;
})
  where
    below : (k : ℕ) → k < n + 1 → e k ≢ 0 → k < n
    below k less some = elim (cases_eq k n) [
      | inl last ↦ absurd (some (ap e last ∙ empty))
      | inr other ↦ omega arith
    ]

-- an entry whose page was not seen
pub seen_more : (n : ℕ) (e : ℕ → ℕ) (old new : Pairs) → SeenSo n e old → e n ≢ 0 → old (e n - 1) 0 ≡ false → new ≡ with_pair (e n - 1) 0 old → SeenSo (n + 1) e new
seen_more n e old new seen some fresh same = subst (λ (x : Pairs). SeenSo (n + 1) e x) (sym same) (record {
  noted = λ p h. elim (cases_eq p (e n - 1)) [
    | inl here ↦ record { at = n; less = omega arith; is = omega arith }
    | inr other ↦ has_more n e (p + 1) (seen.noted p (sym (elsewhere p other) ∙ h))
  ];
  all_noted = λ k less named. elim (cases_eq (e k) (e n)) [
    | inl here ↦ (let page : e k - 1 ≡ e n - 1 = ap (λ m. m - 1) here in added (e k - 1) page)
    | inr other ↦ elim (cases_eq k n) [
      | inl last ↦ absurd (other (ap e last))
      | inr before ↦
          (let apart : e k - 1 ≢ e n - 1 = (λ clash. other (omega arith)) in
          elsewhere (e k - 1) apart ∙ seen.all_noted k (omega arith) named)
    ]
  ];
  once = λ j k under less named. elim (cases_eq k n) [
    | inl last ↦ (λ clash. twice j k last under (clash ∙ ap e last))
    | inr before ↦ seen.once j k under (omega arith) named
  ];
})
  where
    elsewhere : (p : ℕ) → p ≢ e n - 1 → with_pair (e n - 1) 0 old p 0 ≡ old p 0
    elsewhere p apart = rw (ne_eqb p (e n - 1) apart) refl

    added : (p : ℕ) → p ≡ e n - 1 → with_pair (e n - 1) 0 old p 0 ≡ true
    added p here = rw (eq-eqb p (e n - 1) here) refl

    twice : (j k : ℕ) → k ≡ n → j < k → e j ≡ e n → ⊥
    twice j k last under clash =
        let before : j < n = omega arith in
        let named : e j ≢ 0 = (λ none. some (sym clash ∙ none)) in
        let noted : old (e j - 1) 0 ≡ true = seen.all_noted j before named in
        true_false (sym noted ∙ ap (λ m. old (m - 1) 0) clash ∙ fresh)
      where
        true_false : true ≡ false → ⊥
        true_false h = cc

-- an entry whose page was seen
pub seen_again : (n : ℕ) (e : ℕ → ℕ) (pairs : Pairs) → SeenSo n e pairs → e n ≢ 0 → pairs (e n - 1) 0 ≡ true → HasWord n e (e n)
seen_again n e pairs seen some noted =
    let has : HasWord n e (e n - 1 + 1) = seen.noted (e n - 1) noted in
    let same : e n - 1 + 1 ≡ e n = omega arith in
    subst (λ word. HasWord n e word) same has

-- a word that none of the first n entries is
pub never_there : (n m : ℕ) (e : ℕ → ℕ) (word : ℕ) → HasWord n e word → n ≤ m → ((k : ℕ) → k < m → e k ≢ word) → ⊥
never_there n m e word has le none = none has.at (let low : has.at < n = has.less in omega arith) has.is

-- ---- the loads

pub entries_none : (words : List ℕ) (a : Standing) → EntriesSo 0 words a a
entries_none words a = record { looked = looked_none a; reads = refl; held = λ told. record { each = λ k less. absurd (omega arith) } }

pub entries_more : {a b c : Standing} (n : ℕ) (words : List ℕ) (found : ℕ) → EntriesSo n words a b → n < length words → Looked {T = ℕ} b c (Ok found) → c.block_reads ≡ b.block_reads
    → (IsTrue b.told → found ≡ entry_at (current (now b)) n) → EntriesSo (n + 1) (slice_set words n found) a c
entries_more {a = a} {b = b} n words found so less looked reads value = record {
  looked = looked_then so.looked (looked_ok looked);
  reads = reads ∙ so.reads;
  held = λ told. record {
    each = λ k under. elim (cases_eq k n) [
      | inl here ↦ ap (slice_index (slice_set words n found)) here ∙ get_or-set_same words n found 0 less ∙ value (later_told so.looked.goes told)
          ∙ ap (λ (s : State). entry_at (current s) n) (looked_same so.looked told) ∙ ap (entry_at (current (now a))) (sym here)
      | inr other ↦ get_or-set_other words n k found 0 other ∙ (so.held told).each k (omega arith)
    ];
  };
}

-- ---- why it stops

stop_of : (a b : Standing) (why : Stop) → IsFault a b why → why ≡ Nvm → IsTableStop a b why
stop_of a b why fault nvm = subst (IsTableStop a b) (sym nvm) (subst (λ (y : Stop). IsFault a b y) nvm fault)

failed_of : {T : Type 0} (a b : Standing) (r : Result T Stop) → IfErr r (IsFault a b) → StopsWith Nvm r → IfErr r (IsTableStop a b)
failed_of a b (Ok v) fault nvm = tt
failed_of a b (Err why) fault nvm = stop_of a b why fault nvm

table_cause : {T : Type 0} {a b : Standing} {r : Result T Stop} → StopCause a b r → StopsWith Nvm r → TableCause a b r
table_cause {a = a} {b = b} {r = r} cause nvm = record { failed = failed_of a b r cause.failed nvm; nvm = cause.nvm; ssd = cause.ssd }

pub exit_cause : {T U : Type 0} {why : Stop} {a b : Standing} (r : Result T Stop) → IsErrAnd r (λ y. y ≡ why) → Looked {T = U} a b (Err why) → why ≡ Nvm → TableCause a b r
exit_cause {T = T} r is looked nvm = table_cause (looked_exit r is looked).cause (at_exit (StopsWith Nvm) r is nvm)

-- ---- the table of the devices

-- Where the entries that were loaded pass, so do those of the image that loads give.
pub table_passes_now : (p n : ℕ) (words : List ℕ) (s : State) → AreEntries n words s → table_check p n (slice_index words) ≡ None → table_check p n (entry_at (current s)) ≡ None
table_passes_now p n words s are passes =
    let found : TablePasses p n (slice_index words) = table_passes p n (slice_index words) passes in
    table_check-none p n (entry_at (current s)) (record {
      in_store = λ k less. subst (λ e. e ≤ p) (are.each k less) (found.in_store k less);
      once = λ j k under less some same. found.once j k under less (λ none. some (sym (are.each k less) ∙ none)) (are.each j (omega arith) ∙ same ∙ sym (are.each k less));
    })
