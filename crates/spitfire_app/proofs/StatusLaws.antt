-- Statuses that are one of some, and by what the words of a superblock are found to be.
use Rattle.std.proofs.Common.{◌≡◌, ◌⊎◌, inl, inr, ℕ, ◌<◌, ◌≤◌, Bool, true, false, not, ◌||◌, eqb, List, [], ◌∷◌, refl, sym, ◌∙◌, ap, subst, arith, IsTrue, Result, Ok, Err}
use Rattle.std.specs.List.{list_any, list_all}
use Rattle.std.proofs.lemmas.Bool.{cases_Bool, and_parts, eqb-true}
use Rattle.devices.specs.World.{Rose, last_count}
use Rattle.flat_nvm_layout.specs.Opening.{Finding}
use Rattle.flat_nvm_layout.specs.Opening.Finding.{another, too_small, ended, sound, fails}
use Rattle.flat_recovery.specs.Opening.{IsAnswer}
use Rattle.flat_recovery.specs.declared.opening.Parts.{Parts}
use Rattle.flat_recovery.specs.declared.errors.OpenError.{OpenError}
use Rattle.flat_recovery.specs.declared.errors.OpenError.TheVariants.{Nvm, Ssd, NotAStore, TooSmall, LogEnded, Damaged, NoMemory}
use Rattle.runner.specs.Statuses.{IsOneOf}
use Rattle.spitfire_app.specs.Promises.{IsQuiet}

-- ---- one of some

-- the first of them, or one of the others
pub first_or : (status x : ℕ) (xs : List ℕ) → IsOneOf status (x ∷ xs) → (status ≡ x) ⊎ IsOneOf status xs
first_or status x xs one = elim (cases_Bool (eqb x status)) [
  | inl same ↦ inl (sym (eqb-true x status same))
  | inr other ↦ inr (sym (ap (λ (b : Bool). b || list_any (λ c. eqb c status) xs) other) ∙ one)
]

-- the only one
pub only_one : (status x : ℕ) → IsOneOf status (x ∷ []) → status ≡ x
only_one status x one = elim (first_or status x [] one) [ inl same ↦ same | inr none ↦ (let clash : false ≡ true = none in absurd (cc)) ]

-- among more
pub one_of : (status : ℕ) (xs ys : List ℕ) → IsTrue (list_all (λ x. list_any (λ y. eqb y x) ys) xs) → IsOneOf status xs → IsOneOf status ys
one_of status [] ys all one = let clash : false ≡ true = one in absurd (cc)
one_of status (x ∷ xs) ys all one =
    let both : (list_any (λ y. eqb y x) ys ≡ true) × (list_all (λ x. list_any (λ y. eqb y x) ys) xs ≡ true) = and_parts (list_any (λ y. eqb y x) ys) (list_all (λ x. list_any (λ y. eqb y x) ys) xs) all in
    elim (first_or status x xs one) [
      | inl same ↦ subst (λ n. IsOneOf n ys) (sym same) both.0
      | inr later ↦ one_of status xs ys both.1 later
    ]

-- among none of those
pub none_of : {A : Type 0} (status : ℕ) (xs ys : List ℕ) → IsTrue (list_all (λ x. not (list_any (λ y. eqb y x) ys)) xs) → IsOneOf status xs → IsOneOf status ys → A
none_of status [] ys all one other = let clash : false ≡ true = one in absurd (cc)
none_of status (x ∷ xs) ys all one other =
    let both : (not (list_any (λ y. eqb y x) ys) ≡ true) × (list_all (λ x. not (list_any (λ y. eqb y x) ys)) xs ≡ true) = and_parts (not (list_any (λ y. eqb y x) ys)) (list_all (λ x. not (list_any (λ y. eqb y x) ys)) xs) all in
    elim (first_or status x xs one) [
      | inl same ↦ (
          let here : list_any (λ y. eqb y x) ys ≡ true = subst (λ n. IsOneOf n ys) same other in
          let clash : false ≡ true = sym (ap not here) ∙ both.0 in
          absurd (cc)
          )
      | inr later ↦ none_of status xs ys both.1 later other
    ]

pub not_one : {A : Type 0} (status code : ℕ) (xs : List ℕ) → IsTrue (not (list_any (λ x. eqb x code) xs)) → IsOneOf status xs → status ≡ code → A
not_one status code xs none one is =
    let here : list_any (λ x. eqb x code) xs ≡ true = subst (λ n. IsOneOf n xs) is one in
    let clash : false ≡ true = sym (ap not here) ∙ none in
    absurd (cc)

-- ---- counts

pub quiet : {A : Type 0} (before after : ℕ) → IsQuiet before after → Rose before after → A
quiet before after is rose = let low : before < last_count = is.below in let same : after ≡ before = is.same in absurd (omega arith)

pub rose_before : (first before after : ℕ) → first ≤ before → Rose before after → Rose first after
rose_before first before after low rose = omega arith

-- ---- the answer of a recovery

-- the statuses that it leads to
abbrev pub codes_of : Result Parts OpenError → List ℕ
codes_of (Ok parts) = 0 ∷ 5 ∷ 6 ∷ 7 ∷ 8 ∷ 9 ∷ 12 ∷ []
codes_of (Err Nvm) = 6 ∷ []
codes_of (Err Ssd) = 7 ∷ []
codes_of (Err NotAStore) = 3 ∷ []
codes_of (Err TooSmall) = 4 ∷ []
codes_of (Err LogEnded) = 13 ∷ []
codes_of (Err (Damaged kept)) = 5 ∷ 9 ∷ []
codes_of (Err NoMemory) = 11 ∷ []

pub known_of : (r : Result Parts OpenError) → IsTrue (list_all (λ x. list_any (λ y. eqb y x) (0 ∷ 3 ∷ 4 ∷ 5 ∷ 6 ∷ 7 ∷ 8 ∷ 9 ∷ 11 ∷ 12 ∷ 13 ∷ [])) (codes_of r))
known_of (Ok parts) = refl
known_of (Err Nvm) = refl
known_of (Err Ssd) = refl
known_of (Err NotAStore) = refl
known_of (Err TooSmall) = refl
known_of (Err LogEnded) = refl
known_of (Err (Damaged kept)) = refl
known_of (Err NoMemory) = refl

-- those of a refusal
pub refusal_of : (status : ℕ) (why : OpenError) → IsOneOf status (codes_of (Err why)) → IsOneOf status (3 ∷ 4 ∷ 5 ∷ 6 ∷ 7 ∷ 9 ∷ 11 ∷ 13 ∷ [])
refusal_of status Nvm one = one_of status (6 ∷ []) (3 ∷ 4 ∷ 5 ∷ 6 ∷ 7 ∷ 9 ∷ 11 ∷ 13 ∷ []) refl one
refusal_of status Ssd one = one_of status (7 ∷ []) (3 ∷ 4 ∷ 5 ∷ 6 ∷ 7 ∷ 9 ∷ 11 ∷ 13 ∷ []) refl one
refusal_of status NotAStore one = one_of status (3 ∷ []) (3 ∷ 4 ∷ 5 ∷ 6 ∷ 7 ∷ 9 ∷ 11 ∷ 13 ∷ []) refl one
refusal_of status TooSmall one = one_of status (4 ∷ []) (3 ∷ 4 ∷ 5 ∷ 6 ∷ 7 ∷ 9 ∷ 11 ∷ 13 ∷ []) refl one
refusal_of status LogEnded one = one_of status (13 ∷ []) (3 ∷ 4 ∷ 5 ∷ 6 ∷ 7 ∷ 9 ∷ 11 ∷ 13 ∷ []) refl one
refusal_of status (Damaged kept) one = one_of status (5 ∷ 9 ∷ []) (3 ∷ 4 ∷ 5 ∷ 6 ∷ 7 ∷ 9 ∷ 11 ∷ 13 ∷ []) refl one
refusal_of status NoMemory one = one_of status (11 ∷ []) (3 ∷ 4 ∷ 5 ∷ 6 ∷ 7 ∷ 9 ∷ 11 ∷ 13 ∷ []) refl one

-- the statuses that words of a superblock lead to, which are found to be this, beside a fault of the NVM
abbrev pub codes_found : Finding → List ℕ
codes_found another = 3 ∷ []
codes_found too_small = 4 ∷ []
codes_found ended = 13 ∷ []
codes_found sound = 0 ∷ 5 ∷ 6 ∷ 7 ∷ 8 ∷ 9 ∷ 11 ∷ 12 ∷ []
codes_found (fails check) = 5 ∷ 9 ∷ []

module _ (status : ℕ) where
  as_found : (what is : Finding) (codes : List ℕ) → what ≡ is → IsTrue (list_all (λ x. list_any (λ y. eqb y x) (6 ∷ codes_found is)) codes) → IsOneOf status codes → IsOneOf status (6 ∷ codes_found what)
  as_found what is codes same all one = subst (λ (x : Finding). IsOneOf status (6 ∷ codes_found x)) (sym same) (one_of status codes (6 ∷ codes_found is) all one)

  pub by_finding : (r : Result Parts OpenError) (words : List ℕ) (what : Finding) → IsAnswer words what r → IsOneOf status (codes_of r) → IsOneOf status (6 ∷ codes_found what)
  by_finding (Ok parts) words what answer one = as_found what sound (codes_of (Ok parts)) answer refl one
  by_finding (Err Nvm) words what answer one = ap (λ (b : Bool). b || list_any (λ c. eqb c status) (codes_found what)) (subst (λ (x : ℕ). eqb 6 x ≡ true) (sym (only_one status 6 one)) refl)
  by_finding (Err Ssd) words what answer one = absurd answer
  by_finding (Err NotAStore) words what answer one = as_found what another (3 ∷ []) answer refl one
  by_finding (Err TooSmall) words what answer one = as_found what too_small (4 ∷ []) answer refl one
  by_finding (Err LogEnded) words what answer one = as_found what ended (13 ∷ []) answer refl one
  by_finding (Err (Damaged kept)) words what answer one = elim answer [
    | inl superblock ↦ as_found what (fails superblock.check) (5 ∷ 9 ∷ []) superblock.fails_it refl one
    | inr line ↦ as_found what sound (5 ∷ 9 ∷ []) line.0 refl one
  ]
  by_finding (Err NoMemory) words what answer one = as_found what sound (11 ∷ []) answer refl one

  -- 3, 4 and 13 come by one finding alone
  pub is_another : (what : Finding) → IsOneOf status (6 ∷ codes_found what) → status ≡ 3 → what ≡ another
  is_another another one is = refl
  is_another too_small one is = not_one status 3 (6 ∷ 4 ∷ []) refl one is
  is_another ended one is = not_one status 3 (6 ∷ 13 ∷ []) refl one is
  is_another sound one is = not_one status 3 (6 ∷ 0 ∷ 5 ∷ 6 ∷ 7 ∷ 8 ∷ 9 ∷ 11 ∷ 12 ∷ []) refl one is
  is_another (fails check) one is = not_one status 3 (6 ∷ 5 ∷ 9 ∷ []) refl one is

  pub is_small : (what : Finding) → IsOneOf status (6 ∷ codes_found what) → status ≡ 4 → what ≡ too_small
  is_small another one is = not_one status 4 (6 ∷ 3 ∷ []) refl one is
  is_small too_small one is = refl
  is_small ended one is = not_one status 4 (6 ∷ 13 ∷ []) refl one is
  is_small sound one is = not_one status 4 (6 ∷ 0 ∷ 5 ∷ 6 ∷ 7 ∷ 8 ∷ 9 ∷ 11 ∷ 12 ∷ []) refl one is
  is_small (fails check) one is = not_one status 4 (6 ∷ 5 ∷ 9 ∷ []) refl one is

  pub is_ended : (what : Finding) → IsOneOf status (6 ∷ codes_found what) → status ≡ 13 → what ≡ ended
  is_ended another one is = not_one status 13 (6 ∷ 3 ∷ []) refl one is
  is_ended too_small one is = not_one status 13 (6 ∷ 4 ∷ []) refl one is
  is_ended ended one is = refl
  is_ended sound one is = not_one status 13 (6 ∷ 0 ∷ 5 ∷ 6 ∷ 7 ∷ 8 ∷ 9 ∷ 11 ∷ 12 ∷ []) refl one is
  is_ended (fails check) one is = not_one status 13 (6 ∷ 5 ∷ 9 ∷ []) refl one is

  -- and 11
  pub is_sound : (what : Finding) → IsOneOf status (6 ∷ codes_found what) → status ≡ 11 → what ≡ sound
  is_sound another one is = not_one status 11 (6 ∷ 3 ∷ []) refl one is
  is_sound too_small one is = not_one status 11 (6 ∷ 4 ∷ []) refl one is
  is_sound ended one is = not_one status 11 (6 ∷ 13 ∷ []) refl one is
  is_sound sound one is = refl
  is_sound (fails check) one is = not_one status 11 (6 ∷ 5 ∷ 9 ∷ []) refl one is

  -- and a finding leaves no others
  pub comes_by : (what is : Finding) (codes : List ℕ) → what ≡ is → IsTrue (list_all (λ x. list_any (λ y. eqb y x) codes) (6 ∷ codes_found is)) → IsOneOf status (6 ∷ codes_found what) → IsOneOf status codes
  comes_by what is codes same all one = one_of status (6 ∷ codes_found is) codes all (subst (λ (x : Finding). IsOneOf status (6 ∷ codes_found x)) same one)
