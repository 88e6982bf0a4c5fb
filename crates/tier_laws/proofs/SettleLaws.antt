-- Settling leaves no dirty copy, in every state that a run reaches.
use Rattle.std.proofs.Common.{◌≡◌, ℕ, zero, suc, ◌+◌, ◌<◌, ◌≤◌, ◌⊎◌, inl, inr, Bool, true, false, not, cond, ◌||◌, List, [], ◌∷◌, ◌++◌, length, take, refl, ap, sym, ◌∙◌, arith, pred}
use Rattle.std.specs.Prelude.{Option, Some, None, ◌==◌, filter}
use Rattle.std.specs.List.{filter_map, cons_option, list_any}
use Rattle.std.proofs.lemmas.Bool.{cases_eq, eq-eqb, eqb-true, false_from_ne_true}
use Rattle.tier_rules.specs.declared.trace.TraceLine.{TraceLine}
use Rattle.tier_rules.specs.declared.trace.TraceLine.TheVariants.{Read, Write, Settle, Clean, LogReads}
use Rattle.tier_map.specs.declared.place.Place.{Place}
use Rattle.tier_map.specs.declared.place.Place.TheVariants.{Absent, Full, Mini}
use Rattle.page_frame.specs.LineSets.{no_lines, has_line}
use Rattle.tier_map.specs.Placement.{changed, full_of, mini_of}
use Rattle.tier_rules.specs.Plans.{Plan}
use Rattle.migration_policy.specs.Policies.{Rates}
use Rattle.tier_rules.specs.Clocks.{one_if, place_count}
use Rattle.clock_sweep.specs.Clock.{places_from}
use Rattle.tier_rules.specs.State.{TierState, is_dirty}
use Rattle.tier_rules.specs.Sound.{Sound}
use Rattle.tier_rules.specs.Fitting.{Fitting}
use Rattle.tier_rules.specs.Cleaning.{numbers_from, pages_in_dram, dirty_pages, written, cleaned, all_cleaned, clean, settled}
use Rattle.tier_rules.specs.Opening.{IsTable, opened}
use Rattle.tier_rules.specs.Runs.{read_of, write_of, traced, Printed, trace, reply, epoch, with_rates, after_line, after_lines, tier_run}
use Rattle.tier_rules.specs.Entering.{rested}
use Rattle.tier_map.proofs.PlacementLaws.{changed-same, changed-other}
use Rattle.tier_laws.proofs.StandLaws.{stand_le}
use Rattle.tier_laws.proofs.StepLaws.{with_access}
use Rattle.tier_laws.proofs.OpenLaws.{opened-sound}
use Rattle.tier_laws.proofs.RunLaws.{AllInRange, InRange, traced-sound, with_rates-sound}
use Rattle.tier_laws.proofs.FitLaws.{tier_step-fits, nothing_there}

-- ---- which copies are cleaned

written-dirty : (o : Option ℕ) (b : Bool) (s : TierState) → (written o b s).dirty ≡ s.dirty
written-dirty None b s = refl
written-dirty (Some k) b s = refl

cleaned-dirty : (p : ℕ) (s : TierState) → (cleaned p s).dirty ≡ changed p no_lines s.dirty
unfolding cleaned
cleaned-dirty p s = written-dirty (s.map.nvm p) (is_dirty p s) (record s { dirty = changed p no_lines s.dirty })

all_cleaned-kept : (pages : List ℕ) (s : TierState) (p : ℕ) → s.dirty p ≡ no_lines → (all_cleaned pages s).dirty p ≡ no_lines
unfolding all_cleaned
all_cleaned-kept [] s p h = h
all_cleaned-kept (q ∷ pages) s p h = all_cleaned-kept pages (cleaned q s) p (ap (λ d. d p) (cleaned-dirty q s) ∙ elim (cases_eq p q) [
  | inl e ↦ changed-same q no_lines s.dirty p e
  | inr n ↦ changed-other q no_lines s.dirty p n ∙ h
])

is_in : ℕ → List ℕ → Bool
is_in p pages = list_any (λ q. q == p) pages

parts : (a b : Bool) → a || b ≡ true → (a ≡ true) ⊎ (b ≡ true)
parts true b h = inl refl
parts false b h = inr h

all_cleaned-in : (pages : List ℕ) (s : TierState) (p : ℕ) → is_in p pages ≡ true → (all_cleaned pages s).dirty p ≡ no_lines
unfolding all_cleaned is_in
all_cleaned-in [] s p h = absurd (cc)
all_cleaned-in (q ∷ pages) s p h = elim (parts (q == p) (list_any (λ r. r == p) pages) h) [
  | inl e ↦ all_cleaned-kept pages (cleaned q s) p (ap (λ d. d p) (cleaned-dirty q s) ∙ changed-same q no_lines s.dirty p (sym (eqb-true q p e)))
  | inr rest ↦ all_cleaned-in pages (cleaned q s) p rest
]

-- ---- each dirty copy is among them

or_right : (a b : Bool) → b ≡ true → a || b ≡ true
or_right true b h = refl
or_right false b h = h

or_left : (a b : Bool) → a ≡ true → a || b ≡ true
or_left true b h = refl
or_left false b h = absurd (cc)

in_append : (p : ℕ) (xs ys : List ℕ) → (is_in p xs ≡ true) ⊎ (is_in p ys ≡ true) → is_in p (xs ++ ys) ≡ true
unfolding is_in
in_append p [] ys (inl h) = absurd (cc)
in_append p [] ys (inr h) = h
in_append p (x ∷ xs) ys (inl h) = elim (parts (x == p) (is_in p xs) h) [ inl e ↦ or_left (x == p) (is_in p (xs ++ ys)) e | inr rest ↦ or_right (x == p) (is_in p (xs ++ ys)) (in_append p xs ys (inl rest)) ]
in_append p (x ∷ xs) ys (inr h) = or_right (x == p) (is_in p (xs ++ ys)) (in_append p xs ys (inr h))

in_cons : (p : ℕ) (o : Option ℕ) (xs : List ℕ) → (o ≡ Some p) ⊎ (is_in p xs ≡ true) → is_in p (cons_option o xs) ≡ true
unfolding is_in
in_cons p None xs (inl h) = absurd (cc)
in_cons p None xs (inr h) = h
in_cons p (Some q) xs (inl h) = let same : q ≡ p = cc in or_left (q == p) (is_in p xs) (eq-eqb q p same)
in_cons p (Some q) xs (inr h) = or_right (q == p) (is_in p xs) h

in_places : (f : ℕ → Option ℕ) (p k n i : ℕ) → i < n → f (k + i) ≡ Some p → is_in p (filter_map f (numbers_from k n)) ≡ true
in_places f p k zero i h e = absurd (omega arith)
in_places f p k (suc n) zero h e = in_cons p (f k) (filter_map f (numbers_from (k + 1) n)) (inl (ap f (omega arith) ∙ e))
in_places f p k (suc n) (suc i) h e = in_cons p (f k) (filter_map f (numbers_from (k + 1) n)) (inr (in_places f p (k + 1) n i (omega arith) (ap f (omega arith) ∙ e)))

in_filter : (test : ℕ → Bool) (p : ℕ) (xs : List ℕ) → test p ≡ true → is_in p xs ≡ true → is_in p (filter test xs) ≡ true
unfolding is_in
in_filter test p [] t h = absurd (cc)
in_filter test p (x ∷ xs) t h = elim (parts (x == p) (is_in p xs) h) [
  | inl e ↦
      let same : x ≡ p = eqb-true x p e in
      let passes : test x ≡ true = ap test same ∙ t in
      rw passes (or_left (x == p) (is_in p (filter test xs)) e)
  | inr rest ↦ kept (test x) x (in_filter test p xs t rest)
]
  where
    kept : (b : Bool) (y : ℕ) → list_any (λ q. q == p) (filter test xs) ≡ true → list_any (λ q. q == p) (cond b (y ∷ filter test xs) (filter test xs)) ≡ true
    kept true y g = or_right (y == p) (list_any (λ q. q == p) (filter test xs)) g
    kept false y g = g

in_dram : (p : ℕ) (place : Place) (s : TierState) → s.map.place p ≡ place → Sound s → Fitting s → (place ≡ Absent → ⊥) → is_in p (pages_in_dram s) ≡ true
unfolding pages_in_dram
in_dram p Absent s e sound fits never = absurd (never refl)
in_dram p (Full i) s e sound fits never =
    let owner : s.map.full_page i ≡ Some p = (sound.held.agrees.full p i).0 (ap full_of e) in
    let up = sound.full_clock.standing i p owner in
    let there = stand_le i s.full_clock in
    let below = fits.full_size i (omega arith) in
    in_append p (filter_map s.map.full_page (numbers_from 0 s.plan.dram_frames)) (filter_map s.map.mini_owner (numbers_from 0 s.plan.minis))
    (inl (in_places s.map.full_page p 0 s.plan.dram_frames i below (ap s.map.full_page (omega arith) ∙ owner)))
in_dram p (Mini j) s e sound fits never =
    let owner : s.map.mini_owner j ≡ Some p = (sound.held.agrees.mini p j).0 (ap mini_of e) in
    let up = sound.mini_clock.standing j p owner in
    let there = stand_le j s.mini_clock in
    let below = fits.mini_size j (omega arith) in
    in_append p (filter_map s.map.full_page (numbers_from 0 s.plan.dram_frames)) (filter_map s.map.mini_owner (numbers_from 0 s.plan.minis))
    (inr (in_places s.map.mini_owner p 0 s.plan.minis j below (ap s.map.mini_owner (omega arith) ∙ owner)))

pub settled-clean : (s : TierState) → Sound s → Fitting s → (p : ℕ) → (settled s).dirty p ≡ no_lines
unfolding settled dirty_pages
settled-clean s sound fits p = elim (cases_eq (s.dirty p) no_lines) [
  | inl clean_now ↦ all_cleaned-kept (filter (λ page. is_dirty page s) (pages_in_dram s)) s p clean_now
  | inr dirty_now ↦
      let test : is_dirty p s ≡ true = ap not (false_from_ne_true (s.dirty p == no_lines) (λ t. dirty_now (eqb-true (s.dirty p) no_lines t))) in
      all_cleaned-in (filter (λ page. is_dirty page s) (pages_in_dram s)) s p
      (in_filter (λ page. is_dirty page s) p (pages_in_dram s) test (in_dram p (s.map.place p) s refl sound fits (λ gone. dirty_now (fits.clean_absent p gone))))
]

-- ---- runs

written-fits : (o : Option ℕ) (b : Bool) (s : TierState) → Fitting s → Fitting (written o b s)
written-fits None b s h = h
written-fits (Some k) b s h = h

cleaned-fits : (p : ℕ) (s : TierState) → Fitting s → Fitting (cleaned p s)
unfolding cleaned
cleaned-fits p s h = written-fits (s.map.nvm p) (is_dirty p s) (record s { dirty = changed p no_lines s.dirty }) (record {
  full_size = h.full_size;
  mini_size = h.mini_size;
  clean_absent = λ q e. elim (cases_eq q p) [ inl same ↦ changed-same p no_lines s.dirty q same | inr n ↦ changed-other p no_lines s.dirty q n ∙ h.clean_absent q e ];
  there = λ q l e. elim (cases_eq q p) [
    | inl same ↦ nothing_there l (has_line (s.resident q) l ≡ true) (ap (λ set. has_line set l) (sym (changed-same p no_lines s.dirty q same)) ∙ e)
    | inr n ↦ h.there q l (ap (λ set. has_line set l) (sym (changed-other p no_lines s.dirty q n)) ∙ e)
  ];
})

all_cleaned-fits : (pages : List ℕ) (s : TierState) → Fitting s → Fitting (all_cleaned pages s)
unfolding all_cleaned
all_cleaned-fits [] s h = h
all_cleaned-fits (p ∷ pages) s h = all_cleaned-fits pages (cleaned p s) (cleaned-fits p s h)

traced-fits : (line : TraceLine) (s : TierState) → InRange line → Sound s → Fitting s → Fitting (traced line s)
unfolding traced clean settled
traced-fits (Read page l) s r sound h = tier_step-fits (read_of page l) s r sound h
traced-fits (Write page l) s r sound h = tier_step-fits (write_of page l) s r sound h
traced-fits Settle s r sound h = all_cleaned-fits (dirty_pages s) s h
traced-fits (Clean n) s r sound h = all_cleaned-fits (take n (dirty_pages s)) s h
traced-fits (LogReads n) s r sound h = h

rated-fits : (rates : Rates) (s : TierState) → Fitting s → Fitting (with_rates rates s)
rated-fits rates s h = record { full_size = h.full_size; mini_size = h.mini_size; clean_absent = h.clean_absent; there = h.there }

after_lines-fits : (lines : List Printed) (s : TierState) → AllInRange lines → Sound s → Fitting s → Fitting (after_lines lines s)
unfolding after_lines after_line
after_lines-fits [] s r sound h = h
after_lines-fits (trace line ∷ lines) s r sound h = after_lines-fits lines (traced line s) r.1 (traced-sound line s r.0 sound) (traced-fits line s r.0 sound h)
after_lines-fits (reply ∷ lines) s r sound h = after_lines-fits lines (rested s) r (with_access s None sound) h
after_lines-fits (epoch rates ∷ lines) s r sound h = after_lines-fits lines (with_rates rates s) r (with_rates-sound rates s sound) (rated-fits rates s h)

places-below_size : (k n i : ℕ) → 1 ≤ place_count i (places_from k n) → i < k + n
places-below_size k zero i h = absurd (omega arith)
places-below_size k (suc n) i h = elim (cases_eq k i) [
  | inl same ↦ omega arith
  | inr other ↦
      let no : one_if (k == i) ≡ 0 = rw (false_from_ne_true (k == i) (λ t. other (eqb-true k i t))) refl in
      let rest = places-below_size (k + 1) n i (omega arith) in
      omega arith
]

opened-fits : (plan : Plan) (words : List ℕ) → Fitting (opened plan words)
unfolding opened
opened-fits plan words = record {
  full_size = λ i up. let below = places-below_size 0 plan.dram_frames i up in omega arith;
  mini_size = λ j up. let below = places-below_size 0 plan.minis j up in omega arith;
  clean_absent = λ page e. refl;
  there = λ page l e. e;
}

pub tier_run-fits : (plan : Plan) (words : List ℕ) (lines : List Printed) → 1 ≤ plan.dram_frames → IsTable (take (pred (length words)) words) → AllInRange lines → Fitting (tier_run plan words lines)
unfolding tier_run
tier_run-fits plan words lines some table r = after_lines-fits lines (opened plan words) r (opened-sound plan words some table) (opened-fits plan words)
