-- What holds of the fields between two calls, in pieces, where one place of each tier may be between two pages.
use Rattle.std.proofs.Common.{◌≡◌, ℕ, zero, suc, ◌<◌, ◌≤◌, ◌⊎◌, inl, inr, Bool, List, [], ◌∷◌, length, get_or, slice_set, refl, sym, ap, ◌∙◌, arith, IsTrue}
use Rattle.std.specs.Prelude.{Option, Some, None}
use Rattle.std.proofs.lemmas.Bool.{cases_eq}
use Rattle.std.proofs.lemmas.List.{length-set}
use Rattle.nvm_model.specs.declared.line.Line.{Line}
use Rattle.tier_map.specs.declared.place.Place.{Place}
use Rattle.tier_map.specs.declared.place.Place.TheVariants.{Absent, Full, Mini}
use Rattle.tier_map.specs.Placement.{Placement, Agrees, freed, changed}
use Rattle.tier_map.proofs.PlacementLaws.{changed-same, changed-other, changed-kept}
use Rattle.page_frame.specs.LineSets.{no_lines, has_line}
use Rattle.page_frame.specs.Frames.{Frame, empty_frame, line_at}
use Rattle.mini_page.specs.MiniPages.{MiniPage, empty_mini}
use Rattle.mini_page.proofs.ChangeLaws.{has_none}
use Rattle.clock_sweep.specs.Clock.{Circle, removed}
use Rattle.tier_rules.specs.Clocks.{place_count, removed_if}
use Rattle.tier_rules.specs.Plans.{Plan}
use Rattle.tier_rules.specs.Sound.{Clocked}
use Rattle.tier_rules.specs.Parts.{Parts, copy_at, dirty_at}
use Rattle.tier_laws.proofs.StandLaws.{place_count-with_slot, clocked-like, clocked-removed, clocked-freed}
use Rattle.tier_pool.specs.Bringing.{IsFree}
use Rattle.tier_pool.specs.Standing.{OverFrames, IsBare, HasAll, IsSteady}

-- who owns which place by the clocks, but for one place of each that its page is about to leave
pub record Stands (f m n : Option ℕ) (map : Placement) (fulls minis frames : Circle) : Type 0 where
  pub agrees : Agrees map
  pub full_clock : Clocked fulls (freed f map.full_page)
  pub mini_clock : Clocked minis (freed m map.mini_owner)
  pub nvm_clock : Clocked frames (freed n map.frame_page)
  pub over : OverFrames map

-- what stands at the places
pub record Holds (map : Placement) (arena : List Frame) (marks : List ℕ) (minis : List MiniPage) : Type 0 where
  pub whole : (page i l : ℕ) → map.place page ≡ Full i → map.nvm page ≡ None → l < 64 → (value : Line) × (line_at (get_or arena i empty_frame) l ≡ Some value)
  pub empty : (i : ℕ) → map.full_page i ≡ None → get_or arena i empty_frame ≡ empty_frame
  pub clean : (i : ℕ) → map.full_page i ≡ None → get_or marks i 0 ≡ no_lines
  pub mini_empty : (j : ℕ) → map.mini_owner j ≡ None → get_or minis j empty_mini ≡ empty_mini
  pub there : (i l : ℕ) → l < 64 → IsTrue (has_line (get_or marks i 0) l) → (value : Line) × (line_at (get_or arena i empty_frame) l ≡ Some value)
  pub mini_there : (j l : ℕ) → l < 64 → IsTrue (has_line (get_or minis j empty_mini).dirty l)
      → (value : Line) × (line_at (get_or minis j empty_mini).places l ≡ Some value)
  pub frame_long : (i : ℕ) → length (get_or arena i empty_frame) ≡ 64
  pub mini_long : (j : ℕ) → length (get_or minis j empty_mini).places ≡ 64

pub record AllPlaces (plan : Plan) (count : ℕ) (fulls minis frames : Circle) : Type 0 where
  pub all_fulls : HasAll fulls plan.dram_frames
  pub all_minis : HasAll minis plan.minis
  pub all_frames : HasAll frames count
  pub some : 1 ≤ plan.dram_frames

pub record AreLong (plan : Plan) (count : ℕ) (arena : List Frame) (marks : List ℕ) (minis : List MiniPage) (frame_marks : List Bool) : Type 0 where
  pub arena_long : length arena ≡ plan.dram_frames
  pub marks_long : length marks ≡ plan.dram_frames
  pub minis_long : length minis ≡ plan.minis
  pub frame_marks_long : length frame_marks ≡ count

pub record SteadyBut (f m n : Option ℕ) (parts : Parts) : Type 0 where
  pub stands : Stands f m n parts.map parts.full_clock parts.mini_clock parts.nvm_clock
  pub holds : Holds parts.map parts.arena parts.full_dirty parts.minis
  pub all : AllPlaces parts.plan parts.frames parts.full_clock parts.mini_clock parts.nvm_clock
  pub long : AreLong parts.plan parts.frames parts.arena parts.full_dirty parts.minis parts.frame_dirty

pub steady_to : (parts : Parts) → IsSteady parts → SteadyBut None None None parts
steady_to parts s = record {
  stands = record { agrees = s.agrees; full_clock = s.standing.fulls; mini_clock = s.standing.minis; nvm_clock = s.standing.frames; over = s.standing.over };
  holds = record {
    whole = λ page i l at none low. let x = (s.whole.each page i at none).lines l low in
        (x.0, ap (λ (p : Place). line_at (copy_at p parts.arena parts.minis) l) (sym at) ∙ x.1);
    empty = λ i none. (s.free.each (Full i) none).empty;
    clean = λ i none. (s.free.each (Full i) none).clean;
    mini_empty = λ j none. mini_of_bare (get_or parts.minis j empty_mini) (s.free.each (Mini j) none).empty (s.free.each (Mini j) none).clean;
    there = λ i l low dirty. s.there.each (Full i) l low dirty;
    mini_there = λ j l low dirty. s.there.each (Mini j) l low dirty;
    frame_long = λ i. s.long.each (Full i);
    mini_long = λ j. s.long.each (Mini j);
  };
  all = record { all_fulls = s.places.fulls; all_minis = s.places.minis; all_frames = s.places.frames; some = s.places.some };
  long = record { arena_long = s.places.arena; marks_long = s.places.marks; minis_long = s.places.mini_pages; frame_marks_long = s.places.frame_marks };
}
  where
    mini_of_bare : (mini : MiniPage) → mini.places ≡ empty_frame → mini.dirty ≡ no_lines → mini ≡ empty_mini
    mini_of_bare mini places dirty = ap (λ (x : Frame). record { places = x; dirty = mini.dirty }) places ∙ ap (λ (x : ℕ). record { places = empty_frame; dirty = x }) dirty

bare_at : (parts : Parts) → Holds parts.map parts.arena parts.full_dirty parts.minis → (place : Place) → IsFree parts.map place → IsBare parts place
bare_at parts h Absent free = record { empty = refl; clean = refl }
bare_at parts h (Full i) free = record { empty = h.empty i free; clean = h.clean i free }
bare_at parts h (Mini j) free = record { empty = ap (λ (x : MiniPage). x.places) (h.mini_empty j free); clean = ap (λ (x : MiniPage). x.dirty) (h.mini_empty j free) }

there_at : (parts : Parts) → Holds parts.map parts.arena parts.full_dirty parts.minis → (place : Place) (l : ℕ) → l < 64 → IsTrue (has_line (dirty_at place parts.full_dirty parts.minis) l)
    → (value : Line) × (line_at (copy_at place parts.arena parts.minis) l ≡ Some value)
there_at parts h Absent l low dirty = absurd (let not = has_none l in cc)
there_at parts h (Full i) l low dirty = h.there i l low dirty
there_at parts h (Mini j) l low dirty = h.mini_there j l low dirty

pub empty_long : length empty_frame ≡ 64
empty_long = refl

long_at : (parts : Parts) → Holds parts.map parts.arena parts.full_dirty parts.minis → (place : Place) → length (copy_at place parts.arena parts.minis) ≡ 64
long_at parts h Absent = empty_long
long_at parts h (Full i) = h.frame_long i
long_at parts h (Mini j) = h.mini_long j

pub steady_from : (parts : Parts) → SteadyBut None None None parts → IsSteady parts
steady_from parts s = record {
  agrees = s.stands.agrees;
  standing = record { fulls = s.stands.full_clock; minis = s.stands.mini_clock; frames = s.stands.nvm_clock; over = s.stands.over };
  whole = record {
    each = λ page i at none. record {
      lines = λ l low. let x = s.holds.whole page i l at none low in
          (x.0, ap (λ (p : Place). line_at (copy_at p parts.arena parts.minis) l) at ∙ x.1);
    };
  };
  free = record { each = bare_at parts s.holds };
  there = record { each = there_at parts s.holds };
  long = record { each = long_at parts s.holds };
  places = record {
    fulls = s.all.all_fulls;
    minis = s.all.all_minis;
    frames = s.all.all_frames;
    arena = s.long.arena_long;
    marks = s.long.marks_long;
    mini_pages = s.long.minis_long;
    frame_marks = s.long.frame_marks_long;
    some = s.all.some;
  };
}

-- ---- lists

module _ {X : Type 0} where
  pub set_back : (xs : List X) (i : ℕ) (d : X) → get_or (slice_set xs i d) i d ≡ d
  set_back [] i d = refl
  set_back (x ∷ xs) zero d = refl
  set_back (x ∷ xs) (suc i) d = set_back xs i d

  -- an item that is set is there, or nothing is there
  pub set_at : (xs : List X) (i : ℕ) (v d : X) → (get_or (slice_set xs i v) i d ≡ v) ⊎ ((get_or (slice_set xs i v) i d ≡ d) × (get_or xs i d ≡ d))
  set_at [] i v d = inr (refl, refl)
  set_at (x ∷ xs) zero v d = inl refl
  set_at (x ∷ xs) (suc i) v d = set_at xs i v d

  -- what holds of each item, and of the new one
  pub set_keeps : (P : X → Type 0) (xs : List X) (i : ℕ) (v d : X) → P v → ((k : ℕ) → P (get_or xs k d)) → (k : ℕ) → P (get_or (slice_set xs i v) k d)
  set_keeps P [] i v d new all k = all k
  set_keeps P (x ∷ xs) zero v d new all zero = new
  set_keeps P (x ∷ xs) zero v d new all (suc k) = all (suc k)
  set_keeps P (x ∷ xs) (suc i) v d new all zero = all zero
  set_keeps P (x ∷ xs) (suc i) v d new all (suc k) = set_keeps P xs i v d new (λ n. all (suc n)) k

  pub long_set : (xs : List X) (i : ℕ) (v : X) (count : ℕ) → length xs ≡ count → length (slice_set xs i v) ≡ count
  long_set xs i v count e = length-set xs i v ∙ e

-- ---- clocks

pub all_same : (xs ys : Circle) (count : ℕ) → ((i : ℕ) → place_count i ys ≡ place_count i xs) → HasAll xs count → HasAll ys count
all_same xs ys count same h = record {
  there = λ i low. let at = same i in let was = h.there i low in omega arith;
  within = λ i up. let at = same i in h.within i (omega arith);
}

pub freed-swap : (f o : Option ℕ) (owner : ℕ → Option ℕ) (k : ℕ) → freed f (freed o owner) k ≡ freed o (freed f owner) k
freed-swap None o owner k = refl
freed-swap (Some i) None owner k = refl
freed-swap (Some i) (Some j) owner k = elim (cases_eq k i) [
  | inl at_i ↦ changed-same i None (changed j None owner) k at_i ∙ sym (gone j (changed i None owner) (changed-same i None owner k at_i))
  | inr not_i ↦ changed-other i None (changed j None owner) k not_i ∙ under j owner (changed i None owner) (sym (changed-other i None owner k not_i))
]
  where
    gone : (j : ℕ) (g : ℕ → Option ℕ) → g k ≡ None → changed j None g k ≡ None
    gone j g e = elim (cases_eq k j) [ inl same ↦ changed-same j None g k same | inr other ↦ changed-other j None g k other ∙ e ]

    under : (j : ℕ) (g h : ℕ → Option ℕ) → g k ≡ h k → changed j None g k ≡ changed j None h k
    under j g h e = elim (cases_eq k j) [
      | inl same ↦ changed-same j None g k same ∙ sym (changed-same j None h k same)
      | inr other ↦ changed-other j None g k other ∙ e ∙ sym (changed-other j None h k other)
    ]

-- a place loses its owner, and leaves the clock
pub clock_freed : (f o : Option ℕ) (xs : Circle) (owner : ℕ → Option ℕ) → Clocked xs (freed f owner) → Clocked xs (freed f (freed o owner))
clock_freed f None xs owner c = c
clock_freed f (Some i) xs owner c = clocked-like xs (changed i None (freed f owner)) (freed f (changed i None owner)) (freed-swap f (Some i) owner) (clocked-freed xs (freed f owner) i c)

pub clock_removed : (f o : Option ℕ) (xs : Circle) (owner : ℕ → Option ℕ) → Clocked xs (freed f owner) → Clocked (removed_if o xs) (freed f (freed o owner))
clock_removed f None xs owner c = c
clock_removed f (Some i) xs owner c =
    clocked-like (removed i xs) (changed i None (freed f owner)) (freed f (changed i None owner)) (freed-swap f (Some i) owner)
    (clocked-removed xs (changed i None (freed f owner)) i (changed-same i None (freed f owner) i refl) (clocked-freed xs (freed f owner) i c))

-- the page has left
pub clock_left : (i : ℕ) (xs : Circle) (owner : ℕ → Option ℕ) → owner i ≡ None → Clocked xs (changed i None owner) → Clocked xs owner
clock_left i xs owner gone c = clocked-like xs (changed i None owner) owner (λ k. sym (changed-kept i None owner gone k)) c

pub all_removed : (o : Option ℕ) (xs : Circle) (count : ℕ) → HasAll xs count → HasAll (removed_if o xs) count
all_removed None xs count h = h
all_removed (Some i) xs count h = all_same xs (removed i xs) count (λ j. place_count-with_slot j i _ xs) h
