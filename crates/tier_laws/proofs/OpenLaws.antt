-- The state at the opening is sound.
use Rattle.std.proofs.Common.{◌≡◌, ℕ, zero, suc, ◌+◌, ◌<◌, ◌≤◌, ◌⊎◌, inl, inr, Bool, true, false, ◌&&◌, cond, List, [], ◌∷◌, length, take, refl, ap, ◌∙◌, arith, subst, pred}
use Rattle.std.specs.Prelude.{Option, Some, None, ◌==◌, slice_index}
use Rattle.std.proofs.lemmas.Bool.{cases_eq, eq-eqb, eqb-true, false_from_ne_true}
use Rattle.tier_map.specs.Placement.{Inverse}
use Rattle.tier_rules.specs.Plans.{Plan}
use Rattle.tier_rules.specs.Clocks.{one_if, place_count, stand_count, IsClock}
use Rattle.clock_sweep.specs.Clock.{stands, places_from, new_clock}
use Rattle.tier_rules.specs.Sound.{Clocked, HasPlace, Sound}
use Rattle.tier_rules.specs.Opening.{named_page, frame_naming, slot_of, table_clock, opened, IsTable}

-- ---- the pages of the frames

naming-here : (b : Bool) (p k e : ℕ) (es : List ℕ) → (e == suc p) ≡ b → (j : ℕ) → cond b (Some k) (frame_naming p (k + 1) es) ≡ Some j
    → ((j ≡ k) × (e ≡ suc p)) ⊎ (frame_naming p (k + 1) es ≡ Some j)
naming-here true p k e es is j h = inl (cc, eqb-true e (suc p) is)
naming-here false p k e es is j h = inr h

-- the named frame has the page
named : (p k : ℕ) (es : List ℕ) (j : ℕ) → frame_naming p k es ≡ Some j → (i : ℕ) × (j ≡ k + i) × (slice_index es i ≡ suc p)
named p k [] j h = absurd (cc)
named p k (e ∷ es) j h = elim (naming-here (e == suc p) p k e es refl j h) [
  | inl here ↦ (0, omega arith, here.1)
  | inr there ↦ let rest = named p (k + 1) es j there in let at = rest.1 in (suc rest.0, omega arith, rest.2)
]

naming-found : (b : Bool) (p k e : ℕ) (es : List ℕ) → ((j : ℕ) × (frame_naming p (k + 1) es ≡ Some j)) → (j : ℕ) × (cond b (Some k) (frame_naming p (k + 1) es) ≡ Some j)
naming-found true p k e es rest = (k, refl)
naming-found false p k e es rest = rest

-- a page that has a frame is found
found : (p k : ℕ) (es : List ℕ) (i : ℕ) → slice_index es i ≡ suc p → (j : ℕ) × (frame_naming p k es ≡ Some j)
found p k [] i h = absurd (omega arith)
found p k (e ∷ es) zero h = (k, rw (eq-eqb e (suc p) h) refl)
found p k (e ∷ es) (suc i) h = naming-found (e == suc p) p k e es (found p (k + 1) es i h)

named_page-is : (e p : ℕ) → named_page e ≡ Some p → e ≡ suc p
named_page-is zero p h = absurd (cc)
named_page-is (suc q) p h = let same : q ≡ p = cc in ap suc same

table-inverse : (es : List ℕ) → IsTable es → Inverse (λ p. frame_naming p 0 es) (λ k. named_page (slice_index es k))
table-inverse es table p k = (to, from)
  where
    to : frame_naming p 0 es ≡ Some k → named_page (slice_index es k) ≡ Some p
    to h = let at = named p 0 es k h in let same : at.0 ≡ k = omega (arith, at.1) in ap named_page (subst (λ (n : ℕ). slice_index es n ≡ suc p) same at.2)

    from : named_page (slice_index es k) ≡ Some p → frame_naming p 0 es ≡ Some k
    from h =
        let is = named_page-is (slice_index es k) p h in
        let j = found p 0 es k is in
        let at = named p 0 es j.0 j.1 in
        let same : at.0 ≡ k = table at.0 k p at.2 is in
        let it : j.0 ≡ k = omega (arith, at.1) in
        j.1 ∙ ap Some it

-- ---- the clocks

not_here : (k j : ℕ) → (k ≡ j → ⊥) → one_if (k == j) ≡ 0
not_here k j n = rw (false_from_ne_true (k == j) (λ t. n (eqb-true k j t))) refl

one_at_most : (b : Bool) → one_if b ≤ 1
one_at_most true = omega arith
one_at_most false = omega arith

table-below : (k : ℕ) (es : List ℕ) (j : ℕ) → j < k → place_count j (table_clock k es) ≡ 0
table-below k [] j h = refl
table-below k (e ∷ es) j h =
    let here = not_here k j (λ same. omega arith) in
    let rest = table-below (k + 1) es j (omega arith) in
    omega arith

table-once : (k : ℕ) (es : List ℕ) → IsClock (table_clock k es)
table-once k [] j = omega arith
table-once k (e ∷ es) j =
    let rest = table-once (k + 1) es j in
    elim (cases_eq k j) [
      | inl same ↦ let below = table-below (k + 1) es j (omega arith) in let one = one_at_most (k == j) in omega arith
      | inr n ↦ let here = not_here k j n in omega arith
    ]

table-stands : (k : ℕ) (es : List ℕ) (i j p : ℕ) → j ≡ k + i → slice_index es i ≡ suc p → 1 ≤ stand_count j (table_clock k es)
table-stands k [] i j p e h = absurd (omega arith)
table-stands k (x ∷ es) zero j p e h =
    let same : k ≡ j = omega arith in
    let here : one_if ((k == j) && stands (slot_of x)) ≡ 1 = rw (h, eq-eqb k j same) refl in
    omega arith
table-stands k (x ∷ es) (suc i) j p e h = let rest = table-stands (k + 1) es i j p (omega arith) h in omega arith

table-clocked : (es : List ℕ) → Clocked (table_clock 0 es) (λ k. named_page (slice_index es k))
table-clocked es = record {
  once = table-once 0 es;
  standing = λ k p h. table-stands 0 es k k p (omega arith) (named_page-is (slice_index es k) p h);
}

table-some : (es : List ℕ) → 1 ≤ length es → HasPlace (table_clock 0 es)
table-some [] h = absurd (omega arith)
table-some (e ∷ es) h = (0, omega arith)

places-below : (k n j : ℕ) → j < k → place_count j (places_from k n) ≡ 0
places-below k zero j h = refl
places-below k (suc n) j h =
    let here = not_here k j (λ same. omega arith) in
    let rest = places-below (k + 1) n j (omega arith) in
    omega arith

places-once : (k n : ℕ) → IsClock (places_from k n)
places-once k zero j = omega arith
places-once k (suc n) j =
    let rest = places-once (k + 1) n j in
    elim (cases_eq k j) [
      | inl same ↦ let below = places-below (k + 1) n j (omega arith) in let one = one_at_most (k == j) in omega arith
      | inr m ↦ let here = not_here k j m in omega arith
    ]

new-clocked : (n : ℕ) → Clocked (new_clock n) (λ i. None)
new-clocked n = record { once = places-once 0 n; standing = λ i p h. absurd (cc) }

new-some : (n : ℕ) → 1 ≤ n → HasPlace (new_clock n)
new-some zero h = absurd (omega arith)
new-some (suc n) h = (0, omega arith)

-- ---- the opening

nothing_full : (p i : ℕ) → ◌≡◌ {A = Option ℕ} None (Some i) → ◌≡◌ {A = Option ℕ} None (Some p)
nothing_full p i h = absurd (cc)

pub opened-sound : (plan : Plan) (words : List ℕ) → 1 ≤ plan.dram_frames → IsTable (take (pred (length words)) words) → Sound (opened plan words)
unfolding opened
opened-sound plan words some table =
    let es = take (pred (length words)) words in
    record {
      held = record {
        agrees = record {
          full = λ p i. (λ h. nothing_full p i h, λ h. nothing_full i p h);
          mini = λ p i. (λ h. nothing_full p i h, λ h. nothing_full i p h);
          nvm = table-inverse es table;
        };
        over_frame = λ p j e. absurd (cc);
        whole = λ p i e none. absurd (cc);
      };
      full_clock = new-clocked plan.dram_frames;
      mini_clock = new-clocked plan.minis;
      nvm_clock = table-clocked es;
      some_full = new-some plan.dram_frames some;
      some_mini = λ up. new-some plan.minis up;
      some_frame = λ up. table-some es up;
    }
