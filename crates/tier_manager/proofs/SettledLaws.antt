-- Once every dirty copy became clean, no copy is dirty.
use Rattle.std.proofs.Common.{Bool, true, false, not, ◌≡◌, ◌≢◌, ◌⊎◌, inl, inr, ℕ, zero, suc, ◌+◌, ◌<◌, ◌≤◌, cond, List, [], ◌∷◌, ◌++◌, length, take, refl, sym, ap, ◌∙◌, subst, arith, Option, Some, None}
use Rattle.std.specs.Prelude.{◌==◌, filter}
use Rattle.std.specs.List.{filter_map, cons_option}
use Rattle.std.proofs.lemmas.Bool.{cases_eq, ne_eqb}
use Rattle.std.proofs.lemmas.List.{length-append, take_all}
use Rattle.store_model.specs.Layout.{Sizes}
use Rattle.tier_map.specs.declared.place.Place.{Place}
use Rattle.tier_map.specs.declared.place.Place.TheVariants.{Absent, Full, Mini}
use Rattle.tier_map.specs.Placement.{Placement, Agrees, full_of, mini_of}
use Rattle.page_frame.specs.LineSets.{no_lines, has_line}
use Rattle.mini_page.proofs.ChangeLaws.{has_none}
use Rattle.tier_rules.specs.Parts.{Parts, dirty_at}
use Rattle.tier_rules.specs.Cleaning.{numbers_from}
use Rattle.tier_facts.specs.Facts.{AreClean}
use Rattle.part_laws.specs.PartData.{dirty_lines, data_of_parts}
use Rattle.tier_rules.specs.Clocks.{place_count, stand_count}
use Rattle.tier_laws.proofs.StandLaws.{stand_le}
use Rattle.tier_pool.specs.Places.{IsPlace}
use Rattle.tier_pool.specs.Standing.{IsSteady}
use Rattle.tier_pool.specs.Cleaning.{copy_written}
use Rattle.tier_manager.specs.Cleaning.{is_dirty, dirty_of, pages_in_fulls, pages_in_minis, dirty_pages, all_written, cleaned, settled}
use Rattle.tier_manager.proofs.WrittenLaws.{written_map, written_others, written_clean}

-- ---- so many copies are all

few_front : (o : Option ℕ) (pages : List ℕ) → length (cons_option o pages) ≤ 1 + length pages
few_front None pages = omega arith
few_front (Some page) pages = omega arith

few_pages : (f : ℕ → Option ℕ) (k n : ℕ) → length (filter_map f (numbers_from k n)) ≤ n
few_pages f k zero = omega arith
few_pages f k (suc n) = omega (arith, few_front (f k) (filter_map f (numbers_from (k + 1) n)), few_pages f (k + 1) n)

few_if : (b : Bool) (x : ℕ) (xs ys : List ℕ) → length xs ≤ length ys → length (cond b (x ∷ xs) xs) ≤ 1 + length ys
few_if true x xs ys h = omega arith
few_if false x xs ys h = omega arith

few_of : (test : ℕ → Bool) (pages : List ℕ) → length (filter test pages) ≤ length pages
few_of test [] = omega arith
few_of test (x ∷ pages) = omega (arith, few_if (test x) x (filter test pages) pages (few_of test pages))

few_dirty : (parts : Parts) → length (dirty_pages parts) ≤ parts.plan.dram_frames + parts.plan.minis
unfolding dirty_pages pages_in_fulls pages_in_minis
few_dirty parts =
    let fulls = filter_map parts.map.full_page (numbers_from 0 parts.plan.dram_frames) in
    let minis = filter_map parts.map.mini_owner (numbers_from 0 parts.plan.minis) in
    let all : length (filter (is_dirty parts) (fulls ++ minis)) ≤ length (fulls ++ minis) = few_of (is_dirty parts) (fulls ++ minis) in
    let both : length (fulls ++ minis) ≡ length fulls + length minis = length-append fulls minis in
    let a : length fulls ≤ parts.plan.dram_frames = few_pages parts.map.full_page 0 parts.plan.dram_frames in
    let b : length minis ≤ parts.plan.minis = few_pages parts.map.mini_owner 0 parts.plan.minis in
    omega arith

-- cleaned as many times as there are places
pub cleaned_all : (n : ℕ) (parts : Parts) → parts.plan.dram_frames + parts.plan.minis ≤ n → cleaned n parts ≡ settled parts
unfolding cleaned settled
cleaned_all n parts h =
    let few : length (dirty_pages parts) ≤ parts.plan.dram_frames + parts.plan.minis = few_dirty parts in
    ap (λ (pages : List ℕ). all_written pages parts) (take_all n (dirty_pages parts) (omega arith))

-- ---- each dirty copy is among them

abbrev Among : ℕ → List ℕ → Type 0
Among p [] = ⊥
Among p (q ∷ pages) = (q ≡ p) ⊎ Among p pages

among_append : (p : ℕ) (xs ys : List ℕ) → Among p xs ⊎ Among p ys → Among p (xs ++ ys)
among_append p [] ys (inl h) = absurd h
among_append p [] ys (inr h) = h
among_append p (x ∷ xs) ys (inl (inl e)) = inl e
among_append p (x ∷ xs) ys (inl (inr h)) = inr (among_append p xs ys (inl h))
among_append p (x ∷ xs) ys (inr h) = inr (among_append p xs ys (inr h))

among_front : (p : ℕ) (o : Option ℕ) (xs : List ℕ) → (o ≡ Some p) ⊎ Among p xs → Among p (cons_option o xs)
among_front p None xs (inl e) = absurd (let no : ⊥ = cc in no)
among_front p None xs (inr h) = h
among_front p (Some q) xs (inl e) = inl (cc)
among_front p (Some q) xs (inr h) = inr h

among_places : (f : ℕ → Option ℕ) (p k n i : ℕ) → i < n → f (k + i) ≡ Some p → Among p (filter_map f (numbers_from k n))
among_places f p k zero i h e = absurd (omega arith)
among_places f p k (suc n) zero h e = among_front p (f k) (filter_map f (numbers_from (k + 1) n)) (inl (ap f (omega arith) ∙ e))
among_places f p k (suc n) (suc i) h e = among_front p (f k) (filter_map f (numbers_from (k + 1) n)) (inr (among_places f p (k + 1) n i (omega arith) (ap f (omega arith) ∙ e)))

among_if : (b : Bool) (p x : ℕ) (xs : List ℕ) → (x ≡ p → b ≡ true) → (x ≡ p) ⊎ Among p xs → Among p (cond b (x ∷ xs) xs)
among_if true p x xs test (inl e) = inl e
among_if true p x xs test (inr h) = inr h
among_if false p x xs test (inl e) = absurd (let no = test e in cc)
among_if false p x xs test (inr h) = h

among_filter : (test : ℕ → Bool) (p : ℕ) (xs : List ℕ) → test p ≡ true → Among p xs → Among p (filter test xs)
among_filter test p [] t h = absurd h
among_filter test p (x ∷ xs) t (inl e) = among_if (test x) p x (filter test xs) (λ same. ap test same ∙ t) (inl e)
among_filter test p (x ∷ xs) t (inr h) = among_if (test x) p x (filter test xs) (λ same. ap test same ∙ t) (inr (among_filter test p xs t h))

full_owner : (m : Placement) → Agrees m → (p i : ℕ) → m.place p ≡ Full i → m.full_page i ≡ Some p
full_owner m agrees p i at = (agrees.full p i).0 (ap full_of at)

mini_owner_of : (m : Placement) → Agrees m → (p j : ℕ) → m.place p ≡ Mini j → m.mini_owner j ≡ Some p
mini_owner_of m agrees p j at = (agrees.mini p j).0 (ap mini_of at)

among_dram : (p : ℕ) (parts : Parts) (place : Place) → Agrees parts.map → parts.map.place p ≡ place → IsPlace parts.plan place → (place ≡ Absent → ⊥) → Among p (pages_in_fulls parts ++ pages_in_minis parts)
unfolding pages_in_fulls pages_in_minis
among_dram p parts Absent agrees at low some = absurd (some refl)
among_dram p parts (Full i) agrees at low some =
    among_append p (pages_in_fulls parts) (pages_in_minis parts)
    (inl (among_places parts.map.full_page p 0 parts.plan.dram_frames i low (ap parts.map.full_page (omega arith) ∙ full_owner parts.map agrees p i at)))
among_dram p parts (Mini j) agrees at low some =
    among_append p (pages_in_fulls parts) (pages_in_minis parts)
    (inr (among_places parts.map.mini_owner p 0 parts.plan.minis j low (ap parts.map.mini_owner (omega arith) ∙ mini_owner_of parts.map agrees p j at)))

-- ---- and is clean then

agrees_on : (q : ℕ) (parts : Parts) → Agrees parts.map → Agrees (copy_written q (parts.map.place q) parts).map
agrees_on q parts agrees = subst Agrees (sym (written_map q (parts.map.place q) parts).map) agrees

written_kept : (q p : ℕ) (parts : Parts) → Agrees parts.map → dirty_lines parts p ≡ no_lines → dirty_lines (copy_written q (parts.map.place q) parts) p ≡ no_lines
written_kept q p parts agrees clean = elim (cases_eq p q) [
  | inl same ↦ ap (dirty_lines (copy_written q (parts.map.place q) parts)) same ∙ written_clean q (parts.map.place q) parts refl
  | inr other ↦ (written_others q (parts.map.place q) parts agrees refl).dirty p other ∙ clean
]

all_kept : (pages : List ℕ) (p : ℕ) (parts : Parts) → Agrees parts.map → dirty_lines parts p ≡ no_lines → dirty_lines (all_written pages parts) p ≡ no_lines
unfolding all_written
all_kept [] p parts agrees clean = clean
all_kept (q ∷ pages) p parts agrees clean = all_kept pages p (copy_written q (parts.map.place q) parts) (agrees_on q parts agrees) (written_kept q p parts agrees clean)

all_among : (pages : List ℕ) (p : ℕ) (parts : Parts) → Agrees parts.map → Among p pages → dirty_lines (all_written pages parts) p ≡ no_lines
unfolding all_written
all_among [] p parts agrees h = absurd h
all_among (q ∷ pages) p parts agrees (inl e) = all_kept pages p (copy_written q (parts.map.place q) parts) (agrees_on q parts agrees)
    (ap (dirty_lines (copy_written q (parts.map.place q) parts)) (sym e) ∙ written_clean q (parts.map.place q) parts refl)
all_among (q ∷ pages) p parts agrees (inr h) = all_among pages p (copy_written q (parts.map.place q) parts) (agrees_on q parts agrees) h

not_absent : (p : ℕ) (parts : Parts) → dirty_lines parts p ≢ no_lines → parts.map.place p ≡ Absent → ⊥
not_absent p parts dirty at = dirty (ap (λ (x : Place). dirty_at x parts.full_dirty parts.minis) at)

settled_clean : (p : ℕ) (parts : Parts) → Agrees parts.map → IsPlace parts.plan (parts.map.place p) → dirty_lines (settled parts) p ≡ no_lines
unfolding settled dirty_pages
settled_clean p parts agrees low = elim (cases_eq (dirty_lines parts p) no_lines) [
  | inl clean ↦ all_kept (dirty_pages parts) p parts agrees clean
  | inr dirty ↦ all_among (dirty_pages parts) p parts agrees
      (among_filter (is_dirty parts) p (pages_in_fulls parts ++ pages_in_minis parts) (ap not (ne_eqb (dirty_lines parts p) no_lines dirty))
      (among_dram p parts (parts.map.place p) agrees refl low (not_absent p parts dirty)))
]

-- a page that has a copy has it in a place that there is
place_low : (p : ℕ) (parts : Parts) (place : Place) → IsSteady parts → parts.map.place p ≡ place → IsPlace parts.plan place
place_low p parts Absent steady at = tt
place_low p parts (Full i) steady at =
    let up : 1 ≤ stand_count i parts.full_clock = steady.standing.fulls.standing i p (full_owner parts.map steady.agrees p i at) in
    let there : stand_count i parts.full_clock ≤ place_count i parts.full_clock = stand_le i parts.full_clock in
    steady.places.fulls.within i (omega arith)
place_low p parts (Mini j) steady at =
    let up : 1 ≤ stand_count j parts.mini_clock = steady.standing.minis.standing j p (mini_owner_of parts.map steady.agrees p j at) in
    let there : stand_count j parts.mini_clock ≤ place_count j parts.mini_clock = stand_le j parts.mini_clock in
    steady.places.minis.within j (omega arith)

pub all_clean : (g : Sizes) (parts after : Parts) → IsSteady parts → after ≡ settled parts → AreClean (data_of_parts g after)
all_clean g parts after steady is = record {
  lines = λ p l hp hl. ap (λ (x : Parts). has_line (dirty_lines x p) l) is
      ∙ ap (λ set. has_line set l) (settled_clean p parts steady.agrees (place_low p parts (parts.map.place p) steady refl)) ∙ has_none l;
}

-- ---- the map stays

all_map : (pages : List ℕ) (parts : Parts) → (all_written pages parts).map ≡ parts.map
unfolding all_written
all_map [] parts = refl
all_map (q ∷ pages) parts = all_map pages (copy_written q (parts.map.place q) parts) ∙ (written_map q (parts.map.place q) parts).map

pub cleaned_map : (n : ℕ) (parts : Parts) → (cleaned n parts).map ≡ parts.map
unfolding cleaned
cleaned_map n parts = all_map (take n (dirty_pages parts)) parts
