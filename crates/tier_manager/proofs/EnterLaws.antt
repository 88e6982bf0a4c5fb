-- The beginning of an access: where the page lies behind it, and that a page with a copy stays where it was.
use Rattle.std.proofs.Common.{◌≡◌, ◌≢◌, ℕ, Bool, true, false, refl, sym, ap, ◌∙◌, subst}
use Rattle.std.specs.Prelude.{Option, Some, None, IsSome, ◌==◌}
use Rattle.clock_sweep.specs.Clock.{Swept, lowest_empty, victim}
use Rattle.tier_map.specs.declared.place.Place.{Place}
use Rattle.tier_map.specs.declared.place.Place.TheVariants.{Absent, Full, Mini}
use Rattle.tier_map.proofs.PlacementLaws.{changed-same}
use Rattle.tier_rules.specs.Plans.{dram_question}
use Rattle.tier_rules.specs.Entering.{begins}
use Rattle.tier_rules.specs.Parts.{Parts}
use Rattle.tier_pool.specs.FullRoom.{full_room, drawn}
use Rattle.tier_pool.specs.Hits.{frame_hit}
use Rattle.tier_pool.specs.Bringing.{PartsPlace, FetchedInto, BroughtTo, brought_through, fetched_to_nvm, copied_to, dram_room, dram_room_by, mini_room_by, mini_given_up, mini_left, mini_swept, mini_swept_left}
use Rattle.tier_pool.proofs.RoomLaws.{given_up_nvm}
use Rattle.tier_pool.proofs.SteadyHolds.{none_some, absent_full, absent_mini}
use Rattle.tier_pool.proofs.SteadyLaws.{fetched_frame}
use Rattle.tier_manager.specs.Entering.{through_nvm, BroughtIf, ThroughIf, ReadInIf, EnteredBelow, EnteredAt, Entered, BegunIf, Opened}
use Rattle.tier_manager.specs.Quiet.{quiet_in}

-- the page has a copy or a frame
abbrev pub Lies : ℕ → Parts → Type 0
Lies page parts = parts.map.place page ≡ Absent → IsSome (parts.map.nvm page)

some_is : (o : Option ℕ) (k : ℕ) → o ≡ Some k → IsSome o
some_is o k e = subst (λ (x : Option ℕ). IsSome x) (sym e) refl

-- ---- room for a mini copy leaves the frames

mini_given_nvm : (o : Option ℕ) (q p : ℕ) (parts : Parts) → (mini_given_up o q parts).map.nvm p ≡ parts.map.nvm p
mini_given_nvm None q p parts = refl
mini_given_nvm (Some k) q p parts = given_up_nvm parts q k p

mini_left_nvm : (o : Option ℕ) (p : ℕ) (parts : Parts) → (mini_left o parts).map.nvm p ≡ parts.map.nvm p
mini_left_nvm None p parts = refl
mini_left_nvm (Some q) p parts = mini_given_nvm (parts.map.nvm q) q p parts

mini_swept_nvm : (o : Option Swept) (p : ℕ) (parts : Parts) → (mini_swept_left (mini_swept o parts)).parts.map.nvm p ≡ parts.map.nvm p
mini_swept_nvm None p parts = mini_left_nvm (parts.map.mini_owner 0) p parts
mini_swept_nvm (Some v) p parts = mini_left_nvm (parts.map.mini_owner v.place) p (mini_swept (Some v) parts).parts

mini_by_nvm : (o : Option ℕ) (p : ℕ) (parts : Parts) → (mini_room_by o parts).parts.map.nvm p ≡ parts.map.nvm p
mini_by_nvm (Some j) p parts = refl
mini_by_nvm None p parts = mini_swept_nvm (victim parts.mini_clock) p parts

-- ---- a page that is brought has a copy

full_here : (page i : ℕ) (old new : Parts) → FetchedInto page i old new → new.map.place page ≡ Full i
full_here page i old new fetched = ap (λ (p : Parts). p.map.place page) fetched.is ∙ changed-same page (Full i) old.map.place page refl

lies_fetched : (page i : ℕ) (old new : Parts) → FetchedInto page i old new → Lies page new
lies_fetched page i old new fetched absent = absent_full (sym absent ∙ full_here page i old new fetched)

lies_copied : (page k : ℕ) (place : Place) (old new : Parts) → old.map.nvm page ≡ Some k → new ≡ copied_to place page old → Lies page new
lies_copied page k place old new framed is absent = some_is (new.map.nvm page) k (ap (λ (p : Parts). p.map.nvm page) is ∙ same place)
  where
    same : (place : Place) → (copied_to place page old).map.nvm page ≡ Some k
    same Absent = framed
    same (Full i) = framed
    same (Mini j) = framed

-- by the frame that the page still has
lies_to : (o : Option ℕ) (page : ℕ) (place : Place) (old new : Parts) → old.map.nvm page ≡ o → ((j : ℕ) → place ≡ Mini j → o ≢ None) → place ≢ Absent → BroughtTo o page place old new → Lies page new
lies_to (Some k) page place old new e framed placed is = lies_copied page k place old new e is
lies_to None page (Full i) old new e framed placed is = lies_fetched page i old new is
lies_to None page (Mini j) old new e framed placed is = absurd (framed j refl refl)
lies_to None page Absent old new e framed placed is = absurd (placed refl)

dram_placed : (no_minis : Bool) (parts : Parts) → (dram_room_by no_minis parts).place ≢ Absent
dram_placed true parts e = absent_full (sym e)
dram_placed false parts e = absent_mini (sym e)

dram_framed : (no_minis : Bool) (page k j : ℕ) (parts : Parts) → parts.map.nvm page ≡ Some k → (dram_room_by no_minis parts).place ≡ Mini j → (dram_room_by no_minis parts).parts.map.nvm page ≢ None
dram_framed true page k j parts framed e none = full_not e
  where
    full_not : Full (full_room parts).place ≡ Mini j → ⊥
    full_not f = absurd (let no : ⊥ = cc in no)
dram_framed false page k j parts framed e none = none_some (sym none ∙ mini_by_nvm (lowest_empty parts.mini_clock) page parts ∙ framed)

lies_room : (page k : ℕ) (room : PartsPlace) (old new : Parts) → dram_room old ≡ room → old.map.nvm page ≡ Some k → BroughtTo (room.parts.map.nvm page) page room.place room.parts new → Lies page new
lies_room page k room old new made framed is =
    lies_to (room.parts.map.nvm page) page room.place room.parts new refl
    (λ j mini none. dram_framed (old.plan.minis == 0) page k j old framed (ap (λ (r : PartsPlace). r.place) made ∙ mini) (ap (λ (r : PartsPlace). r.parts.map.nvm page) made ∙ none))
    (λ absent. dram_placed (old.plan.minis == 0) old (ap (λ (r : PartsPlace). r.place) made ∙ absent))
    is

lies_through : (page : ℕ) (place : Place) (old new : Parts) → brought_through page old ≡ record { place = place; parts = new } → Lies page new
lies_through page place old new is =
    let room = dram_room old in
    lies_copied page (fetched_frame page room.parts).0 room.place (fetched_to_nvm page room.parts) new (fetched_frame page room.parts).1 (ap (λ (r : PartsPlace). r.parts) (sym is))

-- ---- where a page lies behind the beginning of an access

lies_brought_if : (b : Bool) (page k : ℕ) (old new : Parts) → old.map.nvm page ≡ Some k → BroughtIf b page old new → Lies page new
lies_brought_if true page k old new framed it = lies_room page k it.is.room old new it.is.made framed it.is.is
lies_brought_if false page k old new framed it = λ absent. some_is (new.map.nvm page) k (ap (λ (p : Parts). p.map.nvm page) it ∙ framed)

lies_through_if : (b : Bool) (page : ℕ) (old new : Parts) → ThroughIf b page old new → Lies page new
lies_through_if true page old new it = lies_through page it.place old new it.is
lies_through_if false page old new it = λ absent. some_is (new.map.nvm page) (fetched_frame page old).0 (ap (λ (p : Parts). p.map.nvm page) it ∙ (fetched_frame page old).1)

lies_read_in : (b : Bool) (page : ℕ) (writes : Bool) (old new : Parts) → ReadInIf b page writes old new → Lies page new
lies_read_in false page writes old new it = lies_fetched page (full_room old).place (full_room old).parts new it
lies_read_in true page writes old new it = lies_through_if (drawn (dram_question writes) old).yes page (drawn (dram_question writes) old).parts new it

lies_below : (o : Option ℕ) (page : ℕ) (writes : Bool) (old new : Parts) → old.map.nvm page ≡ o → EnteredBelow o page writes old new → Lies page new
lies_below (Some k) page writes old new e it = lies_brought_if (drawn (dram_question writes) (frame_hit k old)).yes page k (drawn (dram_question writes) (frame_hit k old)).parts new e it
lies_below None page writes old new e it = lies_read_in (through_nvm old).yes page writes (through_nvm old).parts new it

lies_at : (place : Place) (page : ℕ) (writes : Bool) (old new : Parts) → old.map.place page ≡ place → EnteredAt place page writes old new → Lies page new
lies_at Absent page writes old new e it = lies_below (old.map.nvm page) page writes old new refl it
lies_at (Full i) page writes old new e it = λ absent. absent_full (sym absent ∙ ap (λ (p : Parts). p.map.place page) it ∙ e)
lies_at (Mini j) page writes old new e it = λ absent. absent_mini (sym absent ∙ ap (λ (p : Parts). p.map.place page) it ∙ e)

pub entered_lies : (page : ℕ) (writes : Bool) (old new : Parts) → Entered page writes old new → Lies page new
entered_lies page writes old new it = lies_at (old.map.place page) page writes old new refl it

-- ---- a touch that is quiet before it is quiet behind it

quiet_at_entered : (place : Place) (page line : ℕ) (writes : Bool) (old new : Parts) → old.map.place page ≡ place → EnteredAt place page writes old new → quiet_in old page line ≡ true → quiet_in new page line ≡ true
quiet_at_entered Absent page line writes old new e it quiet = absurd (let no : quiet_in old page line ≡ false = rw e refl in cc)
quiet_at_entered (Full i) page line writes old new e it quiet = ap (λ (p : Parts). quiet_in p page line) it ∙ quiet
quiet_at_entered (Mini j) page line writes old new e it quiet = ap (λ (p : Parts). quiet_in p page line) it ∙ quiet

quiet_begun : (b : Bool) (page line : ℕ) (writes : Bool) (old new : Parts) → BegunIf b page writes old new → quiet_in old page line ≡ true → quiet_in new page line ≡ true
quiet_begun false page line writes old new it quiet = ap (λ (p : Parts). quiet_in p page line) it ∙ quiet
quiet_begun true page line writes old new it quiet =
    ap (λ (p : Parts). quiet_in p page line) it.opened ∙ quiet_at_entered (old.map.place page) page line writes old it.entered refl it.is quiet

pub opened_quiet : (page line : ℕ) (writes : Bool) (old new : Parts) → Opened page writes old new → quiet_in old page line ≡ true → quiet_in new page line ≡ true
opened_quiet page line writes old new it quiet = quiet_begun (begins old.access page writes) page line writes old new it quiet

-- a page that is touched quietly has a copy
pub quiet_copied : (page line : ℕ) (parts : Parts) → quiet_in parts page line ≡ true → parts.map.place page ≢ Absent
quiet_copied page line parts quiet absent = absurd (let no : quiet_in parts page line ≡ false = rw absent refl in cc)
