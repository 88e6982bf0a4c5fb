-- Which places stand after each call of a clock, by counts.
use Rattle.std.proofs.Common.{◌≡◌, ℕ, ◌+◌, ◌≤◌, ◌⊎◌, inl, inr, Bool, true, false, ◌&&◌, cond, [], ◌∷◌, ◌++◌, refl, ap, sym, ◌∙◌, arith, min, subst, length}
use Rattle.std.specs.Prelude.{Option, Some, None, ◌==◌}
use Rattle.std.proofs.lemmas.Bool.{cases_eq, eq-eqb, eqb-true, false_from_ne_true}
use Rattle.clock_sweep.specs.declared.clock.Slot.{Slot}
use Rattle.clock_sweep.specs.declared.clock.Slot.TheVariants.{Empty, Clear, Set}
use Rattle.tier_map.specs.Placement.{changed}
use Rattle.tier_rules.specs.Clocks.{one_if, place_count, stand_count}
use Rattle.clock_sweep.specs.Clock.{Circle, stands, is_clear, is_empty, cleared, with_slot, inserted, touched, removed, lower, lower_if, lowest_empty, Cut, with_first, cut_here, first_cut, passed, Swept, swept, victim, any_stands}
use Rattle.tier_rules.specs.Sound.{Clocked, HasPlace}
use Rattle.clock_sweep.proofs.ClockLaws.{victim-some}
use Rattle.tier_map.proofs.PlacementLaws.{changed-same, changed-other}

place_count-append : (j : ℕ) (xs ys : Circle) → place_count j (xs ++ ys) ≡ place_count j xs + place_count j ys
place_count-append j [] ys = omega arith
place_count-append j (x ∷ xs) ys = omega (arith, place_count-append j xs ys)

stand_count-append : (j : ℕ) (xs ys : Circle) → stand_count j (xs ++ ys) ≡ stand_count j xs + stand_count j ys
stand_count-append j [] ys = omega arith
stand_count-append j (x ∷ xs) ys = omega (arith, stand_count-append j xs ys)

-- a place stands no more often than it is there
part : (b c : Bool) → one_if (b && c) ≤ one_if b
part true true = omega arith
part true false = omega arith
part false c = omega arith

pub stand_le : (j : ℕ) (xs : Circle) → stand_count j xs ≤ place_count j xs
stand_le j [] = omega arith
stand_le j (x ∷ xs) = omega (arith, stand_le j xs, part (x.0 == j) (stands x.1))

-- ---- one place gets another slot

pub place_count-with_slot : (j i : ℕ) (slot : Slot) (xs : Circle) → place_count j (with_slot i slot xs) ≡ place_count j xs
place_count-with_slot j i slot [] = refl
place_count-with_slot j i slot (x ∷ xs) = ap (λ n. one_if (x.0 == j) + n) (place_count-with_slot j i slot xs)

-- another number fails the test
other_number : (a i j : ℕ) → (j ≡ i → ⊥) → (slot old : Slot) → one_if ((a == j) && stands (cond (a == i) slot old)) ≡ one_if ((a == j) && stands old)
other_number a i j n slot old = elim (cases_eq a i) [
  | inl e ↦
      let no : (a == j) ≡ false = false_from_ne_true (a == j) (λ t. n (sym (eqb-true a j t) ∙ e)) in
      rw no refl
  | inr m ↦
      let no : (a == i) ≡ false = false_from_ne_true (a == i) (λ t. m (eqb-true a i t)) in
      rw no refl
]

pub stand_count-other : (j i : ℕ) (slot : Slot) (xs : Circle) → (j ≡ i → ⊥) → stand_count j (with_slot i slot xs) ≡ stand_count j xs
stand_count-other j i slot [] n = refl
stand_count-other j i slot (x ∷ xs) n =
    let rest = stand_count-other j i slot xs n in
    let here = other_number x.0 i j n slot x.1 in
    omega arith

same_number : (a i : ℕ) (slot old : Slot) → stands slot ≡ true → one_if ((a == i) && stands (cond (a == i) slot old)) ≡ one_if (a == i)
same_number a i slot old e = elim (a == i) as (λ b. one_if (b && stands (cond b slot old)) ≡ one_if b) [ true ↦ ap one_if e | false ↦ refl ]

pub stand_count-same : (i : ℕ) (slot : Slot) (xs : Circle) → stands slot ≡ true → stand_count i (with_slot i slot xs) ≡ place_count i xs
stand_count-same i slot [] e = refl
stand_count-same i slot (x ∷ xs) e =
    let rest = stand_count-same i slot xs e in
    let here = same_number x.0 i slot x.1 e in
    omega arith

-- ---- the lowest empty place

empty_slot : (slot : Slot) → is_empty slot ≡ true → stands slot ≡ false
empty_slot Empty e = refl
empty_slot Clear e = absurd (cc)
empty_slot Set e = absurd (cc)

same_one : (a : ℕ) → one_if (a == a) ≡ 1
same_one a = rw (eq-eqb a a refl) refl

lower-is : (k i : ℕ) (o : Option ℕ) → lower k o ≡ Some i → (i ≡ k) ⊎ (o ≡ Some i)
lower-is k i None h = inl (cc)
lower-is k i (Some j) h = elim (cases_eq i k) [
  | inl e ↦ inl e
  | inr n ↦ let both : min k j ≡ i = cc in let it : j ≡ i = omega arith in inr (ap Some it)
]

at_lowest : (k : ℕ) (slot : Slot) (xs : Circle) → stands slot ≡ false → stand_count k ((k, slot) ∷ xs) + 1 ≤ place_count k ((k, slot) ∷ xs)
at_lowest k slot xs none =
    let one = same_one k in
    let all = stand_le k xs in
    let no : one_if ((k == k) && stands slot) ≡ 0 = rw (none, eq-eqb k k refl) refl in
    omega arith

lowest_step : (b : Bool) (k i : ℕ) (slot : Slot) (xs : Circle) (o : Option ℕ) → is_empty slot ≡ b
    → (o ≡ Some i → stand_count i xs + 1 ≤ place_count i xs)
    → lower_if b k o ≡ Some i → stand_count i ((k, slot) ∷ xs) + 1 ≤ place_count i ((k, slot) ∷ xs)
lowest_step false k i slot xs o e rest h = let later = rest h in omega (arith, part (k == i) (stands slot))
lowest_step true k i slot xs o e rest h =
    let none = empty_slot slot e in
    elim (lower-is k i o h) [
      | inl same ↦
          let P : ℕ → Type 0 = λ n. stand_count n ((k, slot) ∷ xs) + 1 ≤ place_count n ((k, slot) ∷ xs) in
          subst P (sym same) (at_lowest k slot xs none)
      | inr there ↦ let later = rest there in omega (arith, part (k == i) (stands slot))
    ]

pub lowest-free : (xs : Circle) (i : ℕ) → lowest_empty xs ≡ Some i → stand_count i xs + 1 ≤ place_count i xs
unfolding lowest_empty
lowest-free [] i h = absurd (cc)
lowest-free (x ∷ xs) i h = lowest_step (is_empty x.1) x.0 i x.1 xs (lowest_empty xs) refl (lowest-free xs i) h

-- ---- the victim

still : (slot : Slot) → stands (cleared slot) ≡ stands slot
still Empty = refl
still Clear = refl
still Set = refl

place_count-passed : (j : ℕ) (xs : Circle) → place_count j (passed xs) ≡ place_count j xs
place_count-passed j [] = refl
place_count-passed j (x ∷ xs) = ap (λ n. one_if (x.0 == j) + n) (place_count-passed j xs)

stand_count-passed : (j : ℕ) (xs : Circle) → stand_count j (passed xs) ≡ stand_count j xs
stand_count-passed j [] = refl
stand_count-passed j (x ∷ xs) = rw (still x.1) (ap (λ n. one_if ((x.0 == j) && stands x.1) + n) (stand_count-passed j xs))

-- a circle and its cut have the same places, and all stand that are not cut
pub record IsCut (test : Slot → Bool) (xs : Circle) (cut : Cut) : Type 0 where
  pub slot : Slot
  pub passes : test slot ≡ true
  pub is : xs ≡ cut.before ++ (cut.place, slot) ∷ cut.behind

cut_here-is : (test : Slot → Bool) (b : Bool) (x : ℕ × Slot) (xs : Circle) (o : Option Cut) → test x.1 ≡ b → ((cut : Cut) → o ≡ Some cut → IsCut test xs cut)
    → (cut : Cut) → cut_here b x xs o ≡ Some cut → IsCut test (x ∷ xs) cut
cut_here-is test true x xs o e rest cut h =
    let same : record { before = []; place = x.0; behind = xs } ≡ cut = cc in
    rw (← same) (record { slot = x.1; passes = e; is = refl })
cut_here-is test false x xs None e rest cut h = absurd (cc)
cut_here-is test false x xs (Some found) e rest cut h =
    let there = rest found refl in
    let same : with_first x found ≡ cut = cc in
    rw (← same) (record { slot = there.slot; passes = there.passes; is = ap (λ t. x ∷ t) there.is })

cut-is : (test : Slot → Bool) (xs : Circle) (cut : Cut) → first_cut test xs ≡ Some cut → IsCut test xs cut
unfolding first_cut
cut-is test [] cut h = absurd (cc)
cut-is test (x ∷ xs) cut h = cut_here-is test (test x.1) x xs (first_cut test xs) refl (cut-is test xs) cut h

-- What a victim is: a place that stood, now empty; the others are there as before, and stand as before.
pub record IsVictim (xs : Circle) (v : Swept) : Type 0 where
  pub stood : 1 ≤ stand_count v.place xs
  pub places : (j : ℕ) → place_count j v.clock ≡ place_count j xs
  pub others : (j : ℕ) → (j ≡ v.place → ⊥) → stand_count j v.clock ≡ stand_count j xs

clear_stands : (slot : Slot) → is_clear slot ≡ true → stands slot ≡ true
clear_stands Empty e = absurd (cc)
clear_stands Clear e = refl
clear_stands Set e = absurd (cc)

-- the circle that is left after a cut, whatever became of the bits
left-is : (xs : Circle) (cut : Cut) (slot : Slot) (n : ℕ) (before behind : Circle) → xs ≡ cut.before ++ (cut.place, slot) ∷ cut.behind → stands slot ≡ true
    → ((j : ℕ) → place_count j before ≡ place_count j cut.before) → ((j : ℕ) → stand_count j before ≡ stand_count j cut.before)
    → ((j : ℕ) → place_count j behind ≡ place_count j cut.behind) → ((j : ℕ) → stand_count j behind ≡ stand_count j cut.behind)
    → IsVictim xs (record { place = cut.place; steps = n; clock = behind ++ before ++ (cut.place, Empty) ∷ [] })
left-is xs cut slot n before behind is stood pb sb pa sa = record {
  stood = rw is (let a = stand_count-append cut.place cut.before ((cut.place, slot) ∷ cut.behind) in
      let one : one_if ((cut.place == cut.place) && stands slot) ≡ 1 = rw (eq-eqb cut.place cut.place refl, stood) refl in omega arith);
  places = λ j. rw is (
      let a = place_count-append j cut.before ((cut.place, slot) ∷ cut.behind) in
      let b = place_count-append j (behind ++ before) ((cut.place, Empty) ∷ []) in
      let c = place_count-append j behind before in
      let d = pb j in let e = pa j in omega arith);
  others = λ j n. rw is (
      let a = stand_count-append j cut.before ((cut.place, slot) ∷ cut.behind) in
      let b = stand_count-append j (behind ++ before) ((cut.place, Empty) ∷ []) in
      let c = stand_count-append j behind before in
      let no : (cut.place == j) ≡ false = false_from_ne_true (cut.place == j) (λ t. n (sym (eqb-true cut.place j t))) in
      let left : one_if ((cut.place == j) && false) ≡ 0 = rw no refl in
      let was : one_if ((cut.place == j) && stands slot) ≡ 0 = rw no refl in
      let d = sb j in let e = sa j in omega arith);
}

swept-is : (xs : Circle) (n : ℕ) (clear standing : Option Cut) → ((cut : Cut) → clear ≡ Some cut → IsCut is_clear xs cut) → ((cut : Cut) → standing ≡ Some cut → IsCut stands xs cut)
    → (v : Swept) → swept n clear standing ≡ Some v → IsVictim xs v
swept-is xs n (Some cut) standing c s v h =
    let there = c cut refl in
    let same : record { place = cut.place; steps = length cut.before + 1; clock = cut.behind ++ passed cut.before ++ (cut.place, Empty) ∷ [] } ≡ v = cc in
    rw (← same) (left-is xs cut there.slot _ (passed cut.before) cut.behind there.is (clear_stands there.slot there.passes)
    (λ j. place_count-passed j cut.before) (λ j. stand_count-passed j cut.before) (λ j. refl) (λ j. refl))
swept-is xs n None (Some cut) c s v h =
    let there = s cut refl in
    let same : record { place = cut.place; steps = n + (length cut.before + 1); clock = passed cut.behind ++ passed cut.before ++ (cut.place, Empty) ∷ [] } ≡ v = cc in
    rw (← same) (left-is xs cut there.slot _ (passed cut.before) (passed cut.behind) there.is there.passes
    (λ j. place_count-passed j cut.before) (λ j. stand_count-passed j cut.before) (λ j. place_count-passed j cut.behind) (λ j. stand_count-passed j cut.behind))
swept-is xs n None None c s v h = absurd (cc)

pub victim-is : (xs : Circle) (v : Swept) → victim xs ≡ Some v → IsVictim xs v
unfolding victim
victim-is xs v h = swept-is xs (length xs) (first_cut is_clear xs) (first_cut stands xs) (cut-is is_clear xs) (cut-is stands xs) v h

-- ---- clocks and owners

module _ (xs : Circle) (owner : ℕ → Option ℕ) where
  pub clocked-like : (other : ℕ → Option ℕ) → ((i : ℕ) → other i ≡ owner i) → Clocked xs owner → Clocked xs other
  clocked-like other same c = record { once = c.once; standing = λ i page h. c.standing i page (sym (same i) ∙ h) }

  -- a place gets an owner
  pub clocked-inserted : (i page : ℕ) → 1 ≤ place_count i xs → Clocked xs owner → Clocked (inserted i xs) (changed i (Some page) owner)
  clocked-inserted i page there c = record {
    once = λ j. rw (place_count-with_slot j i Set xs) (c.once j);
    standing = λ j q h. elim (cases_eq j i) [
      | inl e ↦ rw (e, stand_count-same i Set xs refl) there
      | inr n ↦ rw (stand_count-other j i Set xs n) (c.standing j q (sym (changed-other i (Some page) owner j n) ∙ h))
    ];
  }

  -- a place that has an owner is touched
  pub clocked-touched : (i : ℕ) → Clocked xs owner → Clocked (touched i xs) owner
  clocked-touched i c = record {
    once = λ j. rw (place_count-with_slot j i Set xs) (c.once j);
    standing = λ j q h. let was = c.standing j q h in elim (cases_eq j i) [
      | inl e ↦ rw (e, stand_count-same i Set xs refl) (let all = stand_le i xs in let at_i : 1 ≤ stand_count i xs = rw (← e) was in omega arith)
      | inr n ↦ rw (stand_count-other j i Set xs n) was
    ];
  }

  -- a place without an owner becomes empty
  pub clocked-removed : (i : ℕ) → owner i ≡ None → Clocked xs owner → Clocked (removed i xs) owner
  clocked-removed i none c = record {
    once = λ j. rw (place_count-with_slot j i Empty xs) (c.once j);
    standing = λ j q h. elim (cases_eq j i) [
      | inl e ↦ absurd (let some : owner i ≡ Some q = rw (← e) h in cc)
      | inr n ↦ rw (stand_count-other j i Empty xs n) (c.standing j q h)
    ];
  }

  -- a place loses its owner
  pub clocked-freed : (i : ℕ) → Clocked xs owner → Clocked xs (changed i None owner)
  clocked-freed i c = record {
    once = c.once;
    standing = λ j q h. elim (cases_eq j i) [
      | inl e ↦ absurd (let none = changed-same i None owner j e in cc)
      | inr n ↦ c.standing j q (sym (changed-other i None owner j n) ∙ h)
    ];
  }

  -- the victim loses its place
  pub clocked-victim : (v : Swept) → victim xs ≡ Some v → Clocked xs owner → Clocked v.clock (changed v.place None owner)
  clocked-victim v h c = let is = victim-is xs v h in record {
    once = λ j. rw (is.places j) (c.once j);
    standing = λ j q g. elim (cases_eq j v.place) [
      | inl e ↦ absurd (let none = changed-same v.place None owner j e in cc)
      | inr n ↦ rw (is.others j n) (c.standing j q (sym (changed-other v.place None owner j n) ∙ g))
    ];
  }

  -- the lowest empty place is there, and has no owner
  pub lowest-owner : (i : ℕ) → lowest_empty xs ≡ Some i → Clocked xs owner → (1 ≤ place_count i xs) × (owner i ≡ None)
  lowest-owner i h c =
      let free = lowest-free xs i h in
      let once = c.once i in
      (omega arith, no_owner (owner i) refl)
    where
      no_owner : (o : Option ℕ) → owner i ≡ o → owner i ≡ None
      no_owner None e = e
      no_owner (Some page) e = let free = lowest-free xs i h in let once = c.once i in let up = c.standing i page e in absurd (omega arith)

  -- the victim's place is there
  pub victim-there : (v : Swept) → victim xs ≡ Some v → 1 ≤ place_count v.place v.clock
  victim-there v h = let is = victim-is xs v h in let up = is.stood in let all = stand_le v.place xs in rw (is.places v.place) (omega arith)

-- ---- a clock with a place has an empty one or a victim

full_stands : (slot : Slot) → is_empty slot ≡ false → stands slot ≡ true
full_stands Empty e = absurd (cc)
full_stands Clear e = refl
full_stands Set e = refl

lower-some : (k : ℕ) (o : Option ℕ) → lower k o ≡ None → ⊥
lower-some k None h = cc
lower-some k (Some j) h = cc

none_empty : (b : Bool) (k : ℕ) (o : Option ℕ) → lower_if b k o ≡ None → b ≡ false
none_empty true k o h = absurd (lower-some k o h)
none_empty false k o h = refl

all_stand : (xs : Circle) → HasPlace xs → lowest_empty xs ≡ None → any_stands xs ≡ true
unfolding lowest_empty
all_stand [] some h = absurd (let no = some.1 in omega arith)
all_stand (x ∷ xs) some h = let full = none_empty (is_empty x.1) x.0 (lowest_empty xs) h in rw (full_stands x.1 full) refl

pub victim-found : (xs : Circle) → HasPlace xs → lowest_empty xs ≡ None → (v : Swept) × (victim xs ≡ Some v)
victim-found xs some h = victim-some xs (all_stand xs some h)
