-- Which copies are still to be cleaned, place by place.
use Rattle.std.proofs.Common.{Bool, true, false, not, ◌||◌, ◌≡◌, ◌≢◌, ℕ, zero, suc, ◌+◌, ◌-◌, ◌<◌, ◌≤◌, cond, List, [], ◌∷◌, ◌++◌, take, refl, sym, ap, ◌∙◌, subst, arith, Option, Some, None}
use Rattle.std.specs.Prelude.{◌==◌, filter}
use Rattle.std.specs.List.{filter_map, cons_option}
use Rattle.std.proofs.lemmas.Bool.{ne_eqb}
use Rattle.std.proofs.lemmas.List.Elements.{filter-append}
use Rattle.tier_map.specs.declared.place.Place.{Place}
use Rattle.tier_map.specs.declared.place.Place.TheVariants.{Absent, Full, Mini}
use Rattle.tier_map.specs.Placement.{Placement, Agrees, full_of, mini_of}
use Rattle.page_frame.specs.LineSets.{no_lines}
use Rattle.tier_rules.specs.Plans.{Plan}
use Rattle.tier_rules.specs.Parts.{Parts, dirty_at}
use Rattle.tier_rules.specs.Cleaning.{numbers_from}
use Rattle.part_laws.specs.PartData.{dirty_lines}
use Rattle.tier_pool.specs.Cleaning.{copy_written}
use Rattle.tier_manager.specs.Cleaning.{is_dirty, dirty_of, pages_in_fulls, pages_in_minis, dirty_pages, all_written, cleaned, minis_cleaned, PartsLeft, written_unless, place_cleaned}
use Rattle.tier_manager.proofs.WrittenLaws.{SameMap, written_map, written_others, written_clean}

-- ---- lists of pages

cons_append : {A : Type 0} (o : Option A) (xs ys : List A) → cons_option o xs ++ ys ≡ cons_option o (xs ++ ys)
cons_append None xs ys = refl
cons_append (Some x) xs ys = refl

same_front : (d e : ℕ → Bool) (o : Option ℕ) (xs : List ℕ) → ((q : ℕ) → o ≡ Some q → e q ≡ d q) → filter e xs ≡ filter d xs → filter e (cons_option o xs) ≡ filter d (cons_option o xs)
same_front d e None xs same rest = rest
same_front d e (Some q) xs same rest = ap (λ (b : Bool). cond b (q ∷ filter e xs) (filter e xs)) (same q refl) ∙ ap (λ (ys : List ℕ). cond (d q) (q ∷ ys) ys) rest

-- two tests agree on the pages of some places
same_tests : (d e : ℕ → Bool) (f : ℕ → Option ℕ) (k n : ℕ) → ((i q : ℕ) → k ≤ i → f i ≡ Some q → e q ≡ d q) → filter e (filter_map f (numbers_from k n)) ≡ filter d (filter_map f (numbers_from k n))
same_tests d e f k zero same = refl
same_tests d e f k (suc n) same = same_front d e (f k) (filter_map f (numbers_from (k + 1) n)) (λ q at. same k q (omega arith) at) (same_tests d e f (k + 1) n (λ i q low at. same i q (omega arith) at))

-- ---- the copy at one place, before those of other pages

is_clean : (page : ℕ) (place : Place) (parts : Parts) → parts.map.place page ≡ place → is_dirty parts page ≡ not (dirty_at place parts.full_dirty parts.minis == no_lines)
is_clean page place parts here = ap (λ (x : Place). not (dirty_at x parts.full_dirty parts.minis == no_lines)) here

abbrev written_rest : ℕ → List ℕ → Parts → Parts
written_rest left pages parts = all_written (take left (dirty_of pages parts)) parts

abbrev rest_written : List ℕ → PartsLeft → Parts
rest_written pages at = written_rest at.left pages at.parts

front_by : (clean : Bool) (page : ℕ) (place : Place) (m : ℕ) (rest : List ℕ) (parts : Parts) → parts.map.place page ≡ place → is_dirty parts page ≡ not clean
    → dirty_of rest (copy_written page place parts) ≡ dirty_of rest parts
    → written_rest (suc m) (page ∷ rest) parts ≡ rest_written rest (written_unless clean page place (record { left = suc m; parts = parts }))
unfolding all_written
front_by true page place m rest parts here clean same =
    ap (λ (b : Bool). all_written (take (suc m) (cond b (page ∷ dirty_of rest parts) (dirty_of rest parts))) parts) clean
front_by false page place m rest parts here dirty same =
    let one_less : m ≡ suc m - 1 = omega arith in
    ap (λ (b : Bool). all_written (take (suc m) (cond b (page ∷ dirty_of rest parts) (dirty_of rest parts))) parts) dirty
    ∙ ap (λ (x : Place). all_written (take m (dirty_of rest parts)) (copy_written page x parts)) here
    ∙ ap (λ (pages : List ℕ). all_written (take m pages) (copy_written page place parts)) (sym same)
    ∙ ap (λ (n : ℕ). written_rest n rest (copy_written page place parts)) one_less

front_some : (page : ℕ) (place : Place) (left : ℕ) (rest : List ℕ) (parts : Parts) → parts.map.place page ≡ place
    → dirty_of rest (copy_written page place parts) ≡ dirty_of rest parts
    → written_rest left (page ∷ rest) parts ≡ rest_written rest (place_cleaned (Some page) place (record { left = left; parts = parts }))
unfolding all_written
front_some page place zero rest parts here same = refl
front_some page place (suc m) rest parts here same =
    let clean = dirty_at place parts.full_dirty parts.minis == no_lines in
    front_by clean page place m rest parts here (is_clean page place parts here) same
    ∙ ap (λ (b : Bool). rest_written rest (written_unless (b || clean) page place (record { left = suc m; parts = parts }))) (sym (ne_eqb (suc m) 0 (λ e. absurd (omega arith))))

front : (o : Option ℕ) (place : Place) (left : ℕ) (rest : List ℕ) (parts : Parts) → ((page : ℕ) → o ≡ Some page → parts.map.place page ≡ place)
    → ((page : ℕ) → o ≡ Some page → dirty_of rest (copy_written page place parts) ≡ dirty_of rest parts)
    → written_rest left (cons_option o rest) parts ≡ rest_written rest (place_cleaned o place (record { left = left; parts = parts }))
front None place left rest parts here same = refl
front (Some page) place left rest parts here same = front_some page place left rest parts (here page refl) (same page refl)

-- it leaves the map and the plan
unless_map : (b : Bool) (page : ℕ) (place : Place) (at : PartsLeft) → SameMap at.parts (written_unless b page place at).parts
unless_map true page place at = record { map = refl; plan = refl }
unless_map false page place at = written_map page place at.parts

pub place_map : (o : Option ℕ) (place : Place) (at : PartsLeft) → SameMap at.parts (place_cleaned o place at).parts
place_map None place at = record { map = refl; plan = refl }
place_map (Some page) place at = unless_map (at.left == 0 || dirty_at place at.parts.full_dirty at.parts.minis == no_lines) page place at

-- ---- the full places from one on, and the mini places

-- the pages with a copy in the full places from one on and in all mini places, and in the mini places from one on
abbrev pub fulls_from : ℕ → Parts → List ℕ
fulls_from i parts = filter_map parts.map.full_page (numbers_from i (parts.plan.dram_frames - i)) ++ pages_in_minis parts

abbrev pub minis_from : ℕ → Parts → List ℕ
minis_from j parts = filter_map parts.map.mini_owner (numbers_from j (parts.plan.minis - j))

-- the first `left` dirty copies of these became clean
abbrev pub fulls_written : ℕ → ℕ → Parts → Parts
fulls_written i left parts = written_rest left (fulls_from i parts) parts

abbrev pub minis_written : ℕ → ℕ → Parts → Parts
minis_written j left parts = written_rest left (minis_from j parts) parts

is_full : (place : Place) (i : ℕ) → full_of place ≡ Some i → place ≡ Full i
is_full Absent i h = absurd (cc)
is_full (Full j) i h = ap Full (cc)
is_full (Mini j) i h = absurd (cc)

is_mini : (place : Place) (j : ℕ) → mini_of place ≡ Some j → place ≡ Mini j
is_mini Absent j h = absurd (cc)
is_mini (Full i) j h = absurd (cc)
is_mini (Mini i) j h = ap Mini (cc)

pub full_at : (m : Placement) → Agrees m → (page i : ℕ) → m.full_page i ≡ Some page → m.place page ≡ Full i
full_at m agrees page i owner = is_full (m.place page) i ((agrees.full page i).1 owner)

pub mini_at : (m : Placement) → Agrees m → (page j : ℕ) → m.mini_owner j ≡ Some page → m.place page ≡ Mini j
mini_at m agrees page j owner = is_mini (m.place page) j ((agrees.mini page j).1 owner)

next_number : (i n : ℕ) → i < n → numbers_from i (n - i) ≡ i ∷ numbers_from (i + 1) (n - (i + 1))
next_number i n h = let e : n - i ≡ suc (n - (i + 1)) = omega arith in ap (numbers_from i) e

-- another copy is as dirty as it was
as_dirty : (page q : ℕ) (place : Place) (parts : Parts) → Agrees parts.map → parts.map.place page ≡ place → q ≢ page → is_dirty (copy_written page place parts) q ≡ is_dirty parts q
as_dirty page q place parts agrees here other = ap (λ (n : ℕ). not (n == no_lines)) ((written_others page place parts agrees here).dirty q other)

apart : (page q : ℕ) (m : Placement) (x y : Place) → m.place page ≡ x → m.place q ≡ y → (x ≡ y → ⊥) → q ≢ page
apart page q m x y at_page at_q differ same = differ (sym at_page ∙ sym (ap m.place same) ∙ at_q)

full_mini : (i j : ℕ) → Full i ≡ Mini j → ⊥
full_mini i j e = absurd (cc)

later_full : (i j : ℕ) → i + 1 ≤ j → Full i ≡ Full j → ⊥
later_full i j low e = absurd (let same : i ≡ j = cc in omega arith)

later_mini : (i j : ℕ) → i + 1 ≤ j → Mini i ≡ Mini j → ⊥
later_mini i j low e = absurd (let same : i ≡ j = cc in omega arith)

-- the cleaning of one copy leaves the later ones as dirty as they were
minis_later : (page j n : ℕ) (place : Place) (parts : Parts) → Agrees parts.map → parts.map.place page ≡ place → ((i : ℕ) → j ≤ i → place ≡ Mini i → ⊥)
    → dirty_of (filter_map parts.map.mini_owner (numbers_from j n)) (copy_written page place parts) ≡ dirty_of (filter_map parts.map.mini_owner (numbers_from j n)) parts
minis_later page j n place parts agrees here differ = same_tests (is_dirty parts) (is_dirty (copy_written page place parts)) parts.map.mini_owner j n
    (λ i q low owner. as_dirty page q place parts agrees here (apart page q parts.map place (Mini i) here (mini_at parts.map agrees q i owner) (differ i low)))

fulls_later : (page i n : ℕ) (parts : Parts) → Agrees parts.map → parts.map.place page ≡ Full i
    → dirty_of (filter_map parts.map.full_page (numbers_from (i + 1) n)) (copy_written page (Full i) parts) ≡ dirty_of (filter_map parts.map.full_page (numbers_from (i + 1) n)) parts
fulls_later page i n parts agrees here = same_tests (is_dirty parts) (is_dirty (copy_written page (Full i) parts)) parts.map.full_page (i + 1) n
    (λ j q low owner. as_dirty page q (Full i) parts agrees here (apart page q parts.map (Full i) (Full j) here (full_at parts.map agrees q j owner) (later_full i j low)))

both_later : (page i n : ℕ) (parts : Parts) → Agrees parts.map → parts.map.place page ≡ Full i
    → dirty_of (filter_map parts.map.full_page (numbers_from (i + 1) n) ++ pages_in_minis parts) (copy_written page (Full i) parts)
    ≡ dirty_of (filter_map parts.map.full_page (numbers_from (i + 1) n) ++ pages_in_minis parts) parts
unfolding pages_in_minis
both_later page i n parts agrees here =
    let fulls = filter_map parts.map.full_page (numbers_from (i + 1) n) in
    let minis = pages_in_minis parts in
    filter-append (is_dirty (copy_written page (Full i) parts)) fulls minis
    ∙ ap (λ (xs : List ℕ). xs ++ dirty_of minis (copy_written page (Full i) parts)) (fulls_later page i n parts agrees here)
    ∙ ap (λ (ys : List ℕ). dirty_of fulls parts ++ ys) (minis_later page 0 parts.plan.minis (Full i) parts agrees here (λ j low e. full_mini i j e))
    ∙ sym (filter-append (is_dirty parts) fulls minis)

-- the pages of later places by the fields after the cleaning of one
same_fulls : (i : ℕ) (a b : Parts) → SameMap a b → fulls_from i b ≡ fulls_from i a
unfolding pages_in_minis
same_fulls i a b same =
    ap (λ (m : Placement). filter_map m.full_page (numbers_from i (b.plan.dram_frames - i)) ++ filter_map m.mini_owner (numbers_from 0 b.plan.minis)) same.map
    ∙ ap (λ (p : Plan). filter_map a.map.full_page (numbers_from i (p.dram_frames - i)) ++ filter_map a.map.mini_owner (numbers_from 0 p.minis)) same.plan

same_minis : (j : ℕ) (a b : Parts) → SameMap a b → minis_from j b ≡ minis_from j a
same_minis j a b same =
    ap (λ (m : Placement). filter_map m.mini_owner (numbers_from j (b.plan.minis - j))) same.map
    ∙ ap (λ (p : Plan). filter_map a.map.mini_owner (numbers_from j (p.minis - j))) same.plan

-- one full place further
pub full_step : (i left more : ℕ) (parts after : Parts) → Agrees parts.map → i < parts.plan.dram_frames
    → place_cleaned (parts.map.full_page i) (Full i) (record { left = left; parts = parts }) ≡ record { left = more; parts = after }
    → fulls_written (i + 1) more after ≡ fulls_written i left parts
full_step i left more parts after agrees low is =
    let o = parts.map.full_page i in
    let tail = filter_map parts.map.full_page (numbers_from (i + 1) (parts.plan.dram_frames - (i + 1))) in
    let at = place_cleaned o (Full i) (record { left = left; parts = parts }) in
    let split : fulls_from i parts ≡ cons_option o (tail ++ pages_in_minis parts) =
    ap (λ (ks : List ℕ). filter_map parts.map.full_page ks ++ pages_in_minis parts) (next_number i parts.plan.dram_frames low) ∙ cons_append o tail (pages_in_minis parts) in
    ap (λ (x : PartsLeft). written_rest x.left (fulls_from (i + 1) x.parts) x.parts) (sym is)
    ∙ ap (λ (pages : List ℕ). written_rest at.left pages at.parts) (same_fulls (i + 1) parts at.parts (place_map o (Full i) (record { left = left; parts = parts })))
    ∙ sym (front o (Full i) left (tail ++ pages_in_minis parts) parts (λ page owner. full_at parts.map agrees page i owner)
    (λ page owner. both_later page i (parts.plan.dram_frames - (i + 1)) parts agrees (full_at parts.map agrees page i owner)))
    ∙ sym (ap (λ (pages : List ℕ). written_rest left pages parts) split)

-- one mini place further
pub mini_step : (j left more : ℕ) (parts after : Parts) → Agrees parts.map → j < parts.plan.minis
    → place_cleaned (parts.map.mini_owner j) (Mini j) (record { left = left; parts = parts }) ≡ record { left = more; parts = after }
    → minis_written (j + 1) more after ≡ minis_written j left parts
mini_step j left more parts after agrees low is =
    let o = parts.map.mini_owner j in
    let tail = filter_map parts.map.mini_owner (numbers_from (j + 1) (parts.plan.minis - (j + 1))) in
    let at = place_cleaned o (Mini j) (record { left = left; parts = parts }) in
    ap (λ (x : PartsLeft). written_rest x.left (minis_from (j + 1) x.parts) x.parts) (sym is)
    ∙ ap (λ (pages : List ℕ). written_rest at.left pages at.parts) (same_minis (j + 1) parts at.parts (place_map o (Mini j) (record { left = left; parts = parts })))
    ∙ sym (front o (Mini j) left tail parts (λ page owner. mini_at parts.map agrees page j owner)
    (λ page owner. minis_later page (j + 1) (parts.plan.minis - (j + 1)) (Mini j) parts agrees (mini_at parts.map agrees page j owner) (later_mini j)))
    ∙ sym (ap (λ (ks : List ℕ). written_rest left (filter_map parts.map.mini_owner ks) parts) (next_number j parts.plan.minis low))

-- ---- where the places begin and end

pub all_fulls : (n : ℕ) (parts : Parts) → fulls_written 0 n parts ≡ cleaned n parts
unfolding cleaned dirty_pages pages_in_fulls pages_in_minis
all_fulls n parts =
    let all : parts.plan.dram_frames - 0 ≡ parts.plan.dram_frames = omega arith in
    ap (λ (m : ℕ). written_rest n (filter_map parts.map.full_page (numbers_from 0 m) ++ pages_in_minis parts) parts) all

pub no_fulls : (left : ℕ) (parts : Parts) → fulls_written parts.plan.dram_frames left parts ≡ minis_cleaned left parts
unfolding pages_in_minis minis_cleaned
no_fulls left parts =
    let none : parts.plan.dram_frames - parts.plan.dram_frames ≡ 0 = omega arith in
    ap (λ (n : ℕ). written_rest left (filter_map parts.map.full_page (numbers_from parts.plan.dram_frames n) ++ pages_in_minis parts) parts) none

pub all_minis : (n : ℕ) (parts : Parts) → minis_written 0 n parts ≡ minis_cleaned n parts
unfolding pages_in_minis minis_cleaned
all_minis n parts =
    let all : parts.plan.minis - 0 ≡ parts.plan.minis = omega arith in
    ap (λ (m : ℕ). written_rest n (filter_map parts.map.mini_owner (numbers_from 0 m)) parts) all

pub no_minis : (left : ℕ) (parts : Parts) → minis_written parts.plan.minis left parts ≡ parts
unfolding all_written
no_minis left parts =
    let none : parts.plan.minis - parts.plan.minis ≡ 0 = omega arith in
    ap (λ (n : ℕ). written_rest left (filter_map parts.map.mini_owner (numbers_from parts.plan.minis n)) parts) none ∙ nothing left
  where
    nothing : (n : ℕ) → all_written (take n []) parts ≡ parts
    nothing zero = refl
    nothing (suc n) = refl
