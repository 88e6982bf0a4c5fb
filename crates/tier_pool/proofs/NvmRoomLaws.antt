-- What room in NVM leaves: the frame is free, and a page without a frame gets none.
use Rattle.std.proofs.Common.{◌≡◌, ℕ, Bool, true, false, refl, sym, ap, ◌∙◌, subst, inl, inr}
use Rattle.std.specs.Prelude.{Option, Some, None, ◌==◌}
use Rattle.std.proofs.lemmas.Bool.{cases_eq}
use Rattle.page_frame.specs.LineSets.{no_lines}
use Rattle.clock_sweep.specs.Clock.{Swept, lowest_empty, victim}
use Rattle.tier_map.specs.declared.place.Place.{Place}
use Rattle.tier_map.specs.declared.place.Place.TheVariants.{Absent, Full, Mini}
use Rattle.tier_map.specs.Placement.{Agrees, Placement, changed, freed}
use Rattle.tier_map.proofs.PlacementLaws.{changed-same, changed-other}
use Rattle.tier_rules.specs.Sound.{Clocked}
use Rattle.tier_rules.specs.Parts.{Parts, dirty_at}
use Rattle.tier_laws.proofs.StandLaws.{lowest-owner}
use Rattle.tier_pool.specs.Places.{copy_cleaned, copy_stored, frame_marked, stored_unless}
use Rattle.tier_pool.specs.NvmRoom.{PartsRoom, victim_left, frame_swept, swept_left, frame_room_by, frame_room}

cleaned_map : (place : Place) (parts : Parts) → (copy_cleaned place parts).map ≡ parts.map
cleaned_map Absent parts = refl
cleaned_map (Full i) parts = refl
cleaned_map (Mini j) parts = refl

unless_map : (clean : Bool) (place : Place) (k : ℕ) (parts : Parts) → (stored_unless clean place k parts).map ≡ parts.map
unless_map true place k parts = refl
unless_map false place k parts = cleaned_map place (frame_marked k parts)

pub stored_map : (place : Place) (k : ℕ) (parts : Parts) → (copy_stored place k parts).map ≡ parts.map
stored_map place k parts = unless_map (dirty_at place parts.full_dirty parts.minis == no_lines) place k parts

pub left_free : (o : Option ℕ) (k : ℕ) (parts : Parts) → parts.map.frame_page k ≡ o → Agrees parts.map → (victim_left o k parts).map.frame_page k ≡ None
left_free None k parts e agrees = e
left_free (Some page) k parts e agrees =
    let same = stored_map (parts.map.place page) k parts in
    let at : parts.map.nvm page ≡ Some k = (agrees.nvm page k).1 e in
    ap (λ (m : Placement). freed (m.nvm page) m.frame_page k) same
    ∙ ap (λ (o : Option ℕ). freed o parts.map.frame_page k) at
    ∙ changed-same k None parts.map.frame_page k refl

kept_none : (q page : ℕ) (f : ℕ → Option ℕ) → f page ≡ None → changed q None f page ≡ None
kept_none q page f none = elim (cases_eq page q) [
  | inl same ↦ changed-same q None f page same
  | inr other ↦ changed-other q None f page other ∙ none
]

left_homeless : (o : Option ℕ) (k page : ℕ) (parts : Parts) → parts.map.nvm page ≡ None → (victim_left o k parts).map.nvm page ≡ None
left_homeless None k page parts none = none
left_homeless (Some q) k page parts none =
    ap (λ (m : Placement). changed q None m.nvm page) (stored_map (parts.map.place q) k parts) ∙ kept_none q page parts.map.nvm none

pub swept_map : (o : Option Swept) (parts : Parts) → (frame_swept o parts).parts.map ≡ parts.map
swept_map None parts = refl
swept_map (Some v) parts = refl

swept_free : (room : PartsRoom) → Agrees room.parts.map → (swept_left room).parts.map.frame_page (swept_left room).place ≡ None
swept_free room agrees = left_free (room.parts.map.frame_page room.place) room.place room.parts refl agrees

free_by : (o : Option ℕ) (parts : Parts) → lowest_empty parts.nvm_clock ≡ o → Clocked parts.nvm_clock parts.map.frame_page → Agrees parts.map
    → (frame_room_by o parts).parts.map.frame_page (frame_room_by o parts).place ≡ None
free_by (Some k) parts e clocked agrees = (lowest-owner parts.nvm_clock parts.map.frame_page k e clocked).1
free_by None parts e clocked agrees =
    swept_free (frame_swept (victim parts.nvm_clock) parts) (subst Agrees (sym (swept_map (victim parts.nvm_clock) parts)) agrees)

pub homeless_by : (o : Option ℕ) (page : ℕ) (parts : Parts) → parts.map.nvm page ≡ None → (frame_room_by o parts).parts.map.nvm page ≡ None
homeless_by (Some k) page parts none = none
homeless_by None page parts none =
    let swept = frame_swept (victim parts.nvm_clock) parts in
    left_homeless (swept.parts.map.frame_page swept.place) swept.place page swept.parts (ap (λ (m : Placement). m.nvm page) (swept_map (victim parts.nvm_clock) parts) ∙ none)

-- the frame is free
pub room_free : (parts after : Parts) (k : ℕ) → frame_room parts ≡ record { place = k; parts = after } → Clocked parts.nvm_clock parts.map.frame_page → Agrees parts.map
    → after.map.frame_page k ≡ None
room_free parts after k is clocked agrees =
    ap (λ (room : PartsRoom). room.parts.map.frame_page room.place) (sym is) ∙ free_by (lowest_empty parts.nvm_clock) parts refl clocked agrees

-- a page without a frame gets none
pub room_homeless : (parts after : Parts) (k page : ℕ) → frame_room parts ≡ record { place = k; parts = after } → parts.map.nvm page ≡ None → after.map.nvm page ≡ None
room_homeless parts after k page is none =
    ap (λ (room : PartsRoom). room.parts.map.nvm page) (sym is) ∙ homeless_by (lowest_empty parts.nvm_clock) page parts none
