-- What each change of the placement keeps: the two directions agree.
use Rattle.std.proofs.Common.{◌≡◌, ℕ, inl, inr, true, false, cond, refl, ap, sym, ◌∙◌}
use Rattle.std.specs.Prelude.{Option, Some, None, ◌==◌}
use Rattle.std.proofs.lemmas.Bool.{cases_eq, eq-eqb, eqb-true, false_from_ne_true}
use Rattle.tier_map.specs.declared.place.Place.{Place}
use Rattle.tier_map.specs.declared.place.Place.TheVariants.{Absent, Full, Mini}
use Rattle.tier_map.specs.Placement.{changed, Placement, Inverse, full_of, mini_of, with_full, with_mini, with_nvm, freed, without_dram, without_nvm, Agrees}

module _ {A : Type 0} (k : ℕ) (v : A) (f : ℕ → A) where
  pub changed-same : (i : ℕ) → i ≡ k → changed k v f i ≡ v
  changed-same i e = rw (eq-eqb i k e) refl

  pub changed-other : (i : ℕ) → (i ≡ k → ⊥) → changed k v f i ≡ f i
  changed-other i n = rw (false_from_ne_true (i == k) (λ t. n (eqb-true i k t))) refl

pub inverse-none : (f g : ℕ → Option ℕ) (p i : ℕ) → Inverse f g → f p ≡ Some i → Inverse (changed p None f) (changed i None g)
inverse-none f g p i inv at q j = (to, from)
  where
    to : changed p None f q ≡ Some j → changed i None g j ≡ Some q
    to h = elim (cases_eq q p) [
      | inl e ↦ absurd (let x = changed-same p None f q e in cc)
      | inr n ↦
          let there : g j ≡ Some q = (inv q j).0 (sym (changed-other p None f q n) ∙ h) in
          elim (cases_eq j i) [
            | inl e ↦ absurd (n (let here : g i ≡ Some p = (inv p i).0 at in let both : g i ≡ Some q = rw (← e) there in cc))
            | inr m ↦ changed-other i None g j m ∙ there
          ]
    ]

    from : changed i None g j ≡ Some q → changed p None f q ≡ Some j
    from h = elim (cases_eq j i) [
      | inl e ↦ absurd (let x = changed-same i None g j e in cc)
      | inr m ↦
          let there : f q ≡ Some j = (inv q j).1 (sym (changed-other i None g j m) ∙ h) in
          elim (cases_eq q p) [
            | inl e ↦ absurd (m (let both : f p ≡ Some j = rw (← e) there in cc))
            | inr n ↦ changed-other p None f q n ∙ there
          ]
    ]

pub inverse-some : (f g : ℕ → Option ℕ) (p i : ℕ) → Inverse f g → f p ≡ None → g i ≡ None → Inverse (changed p (Some i) f) (changed i (Some p) g)
inverse-some f g p i inv no_place no_page q j = (to, from)
  where
    to : changed p (Some i) f q ≡ Some j → changed i (Some p) g j ≡ Some q
    to h = elim (cases_eq q p) [
      | inl e ↦
          let x = changed-same p (Some i) f q e in
          let same : j ≡ i = cc in
          changed-same i (Some p) g j same ∙ ap Some (sym e)
      | inr n ↦
          let there : g j ≡ Some q = (inv q j).0 (sym (changed-other p (Some i) f q n) ∙ h) in
          elim (cases_eq j i) [
            | inl e ↦ absurd (let both : g i ≡ Some q = rw (← e) there in cc)
            | inr m ↦ changed-other i (Some p) g j m ∙ there
          ]
    ]

    from : changed i (Some p) g j ≡ Some q → changed p (Some i) f q ≡ Some j
    from h = elim (cases_eq j i) [
      | inl e ↦
          let x = changed-same i (Some p) g j e in
          let same : q ≡ p = cc in
          changed-same p (Some i) f q same ∙ ap Some (sym e)
      | inr m ↦
          let there : f q ≡ Some j = (inv q j).1 (sym (changed-other i (Some p) g j m) ∙ h) in
          elim (cases_eq q p) [
            | inl e ↦ absurd (let both : f p ≡ Some j = rw (← e) there in cc)
            | inr n ↦ changed-other p (Some i) f q n ∙ there
          ]
    ]

pub inverse-like : (f f' g : ℕ → Option ℕ) → ((q : ℕ) → f' q ≡ f q) → Inverse f g → Inverse f' g
inverse-like f f' g same inv q j = (λ h. (inv q j).0 (sym (same q) ∙ h), λ h. same q ∙ (inv q j).1 h)

-- ---- a change of a page's place, read as a change of its full place or of its mini place

pub full_of-changed : (p : ℕ) (v : Place) (f : ℕ → Place) (q : ℕ) → full_of (changed p v f q) ≡ changed p (full_of v) (λ r. full_of (f r)) q
full_of-changed p v f q = elim (q == p) as (λ b. full_of (cond b v (f q)) ≡ cond b (full_of v) (full_of (f q))) [ true ↦ refl | false ↦ refl ]

pub mini_of-changed : (p : ℕ) (v : Place) (f : ℕ → Place) (q : ℕ) → mini_of (changed p v f q) ≡ changed p (mini_of v) (λ r. mini_of (f r)) q
mini_of-changed p v f q = elim (q == p) as (λ b. mini_of (cond b v (f q)) ≡ cond b (mini_of v) (mini_of (f q))) [ true ↦ refl | false ↦ refl ]

-- a change to the value that is there already
pub changed-kept : {A : Type 0} (p : ℕ) (v : A) (f : ℕ → A) → f p ≡ v → (q : ℕ) → changed p v f q ≡ f q
changed-kept p v f e q = elim (cases_eq q p) [ inl same ↦ changed-same p v f q same ∙ sym e ∙ ap f (sym same) | inr n ↦ changed-other p v f q n ]

inverse-freed : (f g : ℕ → Option ℕ) (p : ℕ) (o : Option ℕ) → Inverse f g → f p ≡ o → Inverse (changed p None f) (freed o g)
inverse-freed f g p None inv e = inverse-like f (changed p None f) g (changed-kept p None f e) inv
inverse-freed f g p (Some i) inv e = inverse-none f g p i inv e

-- ---- each change of the placement

pub with_full-agrees : (m : Placement) (p i : ℕ) → Agrees m → m.place p ≡ Absent → m.full_page i ≡ None → Agrees (with_full p i m)
with_full-agrees m p i a absent free = record {
  full = inverse-like _ _ _ (full_of-changed p (Full i) m.place) (inverse-some (λ r. full_of (m.place r)) m.full_page p i a.full (ap full_of absent) free);
  mini = inverse-like _ _ _ (λ q. mini_of-changed p (Full i) m.place q ∙ changed-kept p None (λ r. mini_of (m.place r)) (ap mini_of absent) q) a.mini;
  nvm = a.nvm;
}

pub with_mini-agrees : (m : Placement) (p j : ℕ) → Agrees m → m.place p ≡ Absent → m.mini_owner j ≡ None → Agrees (with_mini p j m)
with_mini-agrees m p j a absent free = record {
  full = inverse-like _ _ _ (λ q. full_of-changed p (Mini j) m.place q ∙ changed-kept p None (λ r. full_of (m.place r)) (ap full_of absent) q) a.full;
  mini = inverse-like _ _ _ (mini_of-changed p (Mini j) m.place) (inverse-some (λ r. mini_of (m.place r)) m.mini_owner p j a.mini (ap mini_of absent) free);
  nvm = a.nvm;
}

pub with_nvm-agrees : (m : Placement) (p k : ℕ) → Agrees m → m.nvm p ≡ None → m.frame_page k ≡ None → Agrees (with_nvm p k m)
with_nvm-agrees m p k a absent free = record { full = a.full; mini = a.mini; nvm = inverse-some m.nvm m.frame_page p k a.nvm absent free }

pub without_dram-agrees : (m : Placement) (p : ℕ) → Agrees m → Agrees (without_dram p m)
without_dram-agrees m p a = record {
  full = inverse-like _ _ _ (full_of-changed p Absent m.place) (inverse-freed (λ r. full_of (m.place r)) m.full_page p (full_of (m.place p)) a.full refl);
  mini = inverse-like _ _ _ (mini_of-changed p Absent m.place) (inverse-freed (λ r. mini_of (m.place r)) m.mini_owner p (mini_of (m.place p)) a.mini refl);
  nvm = a.nvm;
}

pub without_nvm-agrees : (m : Placement) (p : ℕ) → Agrees m → Agrees (without_nvm p m)
without_nvm-agrees m p a = record { full = a.full; mini = a.mini; nvm = inverse-freed m.nvm m.frame_page p (m.nvm p) a.nvm refl }
