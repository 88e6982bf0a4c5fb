-- What room for a mini copy and room in DRAM leave: a page without a copy gets none, each frame keeps its page, and the place is free.
use Rattle.std.proofs.Common.{◌≡◌, ℕ, Bool, true, false, refl, sym, ap, ◌∙◌, subst}
use Rattle.std.specs.Prelude.{Option, Some, None, ◌==◌}
use Rattle.clock_sweep.specs.Clock.{Swept, lowest_empty, victim}
use Rattle.tier_map.specs.declared.place.Place.{Place}
use Rattle.tier_map.specs.declared.place.Place.TheVariants.{Absent, Full, Mini}
use Rattle.tier_map.specs.Placement.{Agrees, Placement, changed, freed, mini_of}
use Rattle.tier_map.proofs.PlacementLaws.{changed-same}
use Rattle.tier_rules.specs.Sound.{Clocked}
use Rattle.tier_rules.specs.Parts.{Parts}
use Rattle.tier_laws.proofs.StandLaws.{lowest-owner}
use Rattle.tier_pool.specs.Bringing.{PartsPlace, mini_given_up, mini_left, mini_swept, mini_room_by, dram_room_by, dram_room, IsFree}
use Rattle.tier_pool.specs.Standing.{OverFrames}
use Rattle.tier_pool.proofs.NvmRoomLaws.{stored_map}
use Rattle.tier_pool.proofs.FullRoomLaws.{kept_absent, full_free_by, full_absent_by}

given_absent : (o : Option ℕ) (q p : ℕ) (parts : Parts) → parts.map.place p ≡ Absent → (mini_given_up o q parts).map.place p ≡ Absent
given_absent None q p parts none = none
given_absent (Some k) q p parts none =
    ap (λ (m : Placement). changed q Absent m.place p) (stored_map (parts.map.place q) k parts) ∙ kept_absent q p parts.map.place none

mini_left_absent : (o : Option ℕ) (p : ℕ) (parts : Parts) → parts.map.place p ≡ Absent → (mini_left o parts).map.place p ≡ Absent
mini_left_absent None p parts none = none
mini_left_absent (Some q) p parts none = given_absent (parts.map.nvm q) q p parts none

mini_swept_map : (o : Option Swept) (parts : Parts) → (mini_swept o parts).parts.map ≡ parts.map
mini_swept_map None parts = refl
mini_swept_map (Some v) parts = refl

mini_absent_by : (o : Option ℕ) (p : ℕ) (parts : Parts) → parts.map.place p ≡ Absent → (mini_room_by o parts).parts.map.place p ≡ Absent
mini_absent_by (Some j) p parts none = none
mini_absent_by None p parts none =
    let swept = mini_swept (victim parts.mini_clock) parts in
    mini_left_absent (swept.parts.map.mini_owner swept.place) p swept.parts (ap (λ (m : Placement). m.place p) (mini_swept_map (victim parts.mini_clock) parts) ∙ none)

pub is_mini : (place : Place) (j : ℕ) → mini_of place ≡ Some j → place ≡ Mini j
is_mini Absent j h = absurd (cc)
is_mini (Full i) j h = absurd (cc)
is_mini (Mini i) j h = ap Mini (cc)

given_free : (o : Option ℕ) (q j k : ℕ) (parts : Parts) → o ≡ Some k → parts.map.place q ≡ Mini j → (mini_given_up o q parts).map.mini_owner j ≡ None
given_free None q j k parts e at = absurd (cc)
given_free (Some h) q j k parts e at =
    ap (λ (m : Placement). freed (mini_of (m.place q)) m.mini_owner j) (stored_map (parts.map.place q) h parts)
    ∙ ap (λ (place : Place). freed (mini_of place) parts.map.mini_owner j) at
    ∙ changed-same j None parts.map.mini_owner j refl

pub mini_left_free : (o : Option ℕ) (j : ℕ) (parts : Parts) → parts.map.mini_owner j ≡ o → Agrees parts.map → OverFrames parts.map → (mini_left o parts).map.mini_owner j ≡ None
mini_left_free None j parts e agrees over = e
mini_left_free (Some q) j parts e agrees over =
    let at : parts.map.place q ≡ Mini j = is_mini (parts.map.place q) j ((agrees.mini q j).1 e) in
    let under = over.frame q j at in
    given_free (parts.map.nvm q) q j under.0 parts under.1 at

mini_free_by : (o : Option ℕ) (parts : Parts) → lowest_empty parts.mini_clock ≡ o → Clocked parts.mini_clock parts.map.mini_owner → Agrees parts.map → OverFrames parts.map
    → (mini_room_by o parts).parts.map.mini_owner (mini_room_by o parts).place ≡ None
mini_free_by (Some j) parts e clocked agrees over = (lowest-owner parts.mini_clock parts.map.mini_owner j e clocked).1
mini_free_by None parts e clocked agrees over =
    let swept = mini_swept (victim parts.mini_clock) parts in
    let same = sym (mini_swept_map (victim parts.mini_clock) parts) in
    mini_left_free (swept.parts.map.mini_owner swept.place) swept.place swept.parts refl (subst Agrees same agrees) (subst OverFrames same over)

dram_absent_by : (no_minis : Bool) (p : ℕ) (parts : Parts) → parts.map.place p ≡ Absent → (dram_room_by no_minis parts).parts.map.place p ≡ Absent
dram_absent_by true p parts none = full_absent_by (lowest_empty parts.full_clock) p parts none
dram_absent_by false p parts none = mini_absent_by (lowest_empty parts.mini_clock) p parts none

dram_free_by : (no_minis : Bool) (parts : Parts) → Clocked parts.full_clock parts.map.full_page → Clocked parts.mini_clock parts.map.mini_owner → Agrees parts.map → OverFrames parts.map
    → IsFree (dram_room_by no_minis parts).parts.map (dram_room_by no_minis parts).place
dram_free_by true parts fulls minis agrees over = full_free_by (lowest_empty parts.full_clock) parts refl fulls agrees
dram_free_by false parts fulls minis agrees over = mini_free_by (lowest_empty parts.mini_clock) parts refl minis agrees over

-- a page without a copy gets none
pub dram_room_absent : (parts after : Parts) (place : Place) (p : ℕ) → dram_room parts ≡ record { place = place; parts = after } → parts.map.place p ≡ Absent → after.map.place p ≡ Absent
dram_room_absent parts after place p is none =
    ap (λ (room : PartsPlace). room.parts.map.place p) (sym is) ∙ dram_absent_by (parts.plan.minis == 0) p parts none

-- the place is free
pub dram_room_free : (parts after : Parts) (place : Place) → dram_room parts ≡ record { place = place; parts = after } → Clocked parts.full_clock parts.map.full_page
    → Clocked parts.mini_clock parts.map.mini_owner → Agrees parts.map → OverFrames parts.map → IsFree after.map place
dram_room_free parts after place is fulls minis agrees over =
    subst (λ (room : PartsPlace). IsFree room.parts.map room.place) is (dram_free_by (parts.plan.minis == 0) parts fulls minis agrees over)
