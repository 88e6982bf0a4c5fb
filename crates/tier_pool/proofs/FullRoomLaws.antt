-- What room for a full copy leaves: a page without a copy gets none, and the place is free.
use Rattle.std.proofs.Common.{◌≡◌, ℕ, Bool, true, false, refl, sym, ap, ◌∙◌, subst, inl, inr}
use Rattle.std.specs.Prelude.{Option, Some, None, ◌==◌}
use Rattle.std.proofs.lemmas.Bool.{cases_eq}
use Rattle.clock_sweep.specs.Clock.{Swept, lowest_empty, victim}
use Rattle.tier_map.specs.declared.place.Place.{Place}
use Rattle.tier_map.specs.declared.place.Place.TheVariants.{Absent, Full, Mini}
use Rattle.tier_map.specs.Placement.{Agrees, Placement, changed, freed, full_of}
use Rattle.tier_map.proofs.PlacementLaws.{changed-same, changed-other}
use Rattle.tier_rules.specs.Sound.{Clocked}
use Rattle.tier_rules.specs.Parts.{Parts}
use Rattle.tier_laws.proofs.StandLaws.{lowest-owner}
use Rattle.tier_pool.specs.NvmRoom.{PartsRoom, victim_left, frame_swept, frame_room_by, frame_room}
use Rattle.tier_pool.specs.FullRoom.{drawn_if, admission_by, admitted, moved_if, handed_by, handed_down, full_dirty_at, full_left, full_swept, full_room_by, full_room}
use Rattle.tier_pool.proofs.NvmRoomLaws.{stored_map, swept_map}

pub kept_absent : (q page : ℕ) (f : ℕ → Place) → f page ≡ Absent → changed q Absent f page ≡ Absent
kept_absent q page f none = elim (cases_eq page q) [
  | inl same ↦ changed-same q Absent f page same
  | inr other ↦ changed-other q Absent f page other ∙ none
]

-- ---- what room in NVM leaves of the copies

left_absent : (o : Option ℕ) (k page : ℕ) (parts : Parts) → parts.map.place page ≡ Absent → (victim_left o k parts).map.place page ≡ Absent
left_absent None k page parts none = none
left_absent (Some q) k page parts none =
    ap (λ (m : Placement). changed q Absent m.place page) (stored_map (parts.map.place q) k parts) ∙ kept_absent q page parts.map.place none

absent_by : (o : Option ℕ) (page : ℕ) (parts : Parts) → parts.map.place page ≡ Absent → (frame_room_by o parts).parts.map.place page ≡ Absent
absent_by (Some k) page parts none = none
absent_by None page parts none =
    let swept = frame_swept (victim parts.nvm_clock) parts in
    left_absent (swept.parts.map.frame_page swept.place) swept.place page swept.parts (ap (λ (m : Placement). m.place page) (swept_map (victim parts.nvm_clock) parts) ∙ none)

pub room_absent : (page : ℕ) (parts : Parts) → parts.map.place page ≡ Absent → (frame_room parts).parts.map.place page ≡ Absent
room_absent page parts none = absent_by (lowest_empty parts.nvm_clock) page parts none

-- a page without a frame keeps its copy
left_kept : (o : Option ℕ) (k page : ℕ) (parts : Parts) → parts.map.frame_page k ≡ o → Agrees parts.map → parts.map.nvm page ≡ None
    → (victim_left o k parts).map.place page ≡ parts.map.place page
left_kept None k page parts e agrees none = refl
left_kept (Some q) k page parts e agrees none =
    let at : parts.map.nvm q ≡ Some k = (agrees.nvm q k).1 e in
    ap (λ (m : Placement). changed q Absent m.place page) (stored_map (parts.map.place q) k parts)
    ∙ changed-other q Absent parts.map.place page (λ same. not_both page q k parts.map.nvm same at none)
  where
    not_both : (page q k : ℕ) (f : ℕ → Option ℕ) → page ≡ q → f q ≡ Some k → f page ≡ None → ⊥
    not_both page q k f same at none = absurd (let there = ap f same in cc)

pub kept_by : (o : Option ℕ) (page : ℕ) (parts : Parts) → Agrees parts.map → parts.map.nvm page ≡ None → (frame_room_by o parts).parts.map.place page ≡ parts.map.place page
kept_by (Some k) page parts agrees none = refl
kept_by None page parts agrees none =
    let swept = frame_swept (victim parts.nvm_clock) parts in
    let same = swept_map (victim parts.nvm_clock) parts in
    left_kept (swept.parts.map.frame_page swept.place) swept.place page swept.parts refl (subst Agrees (sym same) agrees) (ap (λ (m : Placement). m.nvm page) same ∙ none)
    ∙ ap (λ (m : Placement). m.place page) same

-- ---- answers change no placement

drawn_map : (dirty : Bool) (parts : Parts) → (drawn_if dirty parts).parts.map ≡ parts.map
drawn_map true parts = refl
drawn_map false parts = refl

admission_map : (no_frames no_queue dirty : Bool) (page : ℕ) (parts : Parts) → (admission_by no_frames no_queue dirty page parts).parts.map ≡ parts.map
admission_map true no_queue dirty page parts = refl
admission_map false true dirty page parts = drawn_map dirty parts
admission_map false false dirty page parts = refl

pub admitted_map : (dirty : Bool) (page : ℕ) (parts : Parts) → (admitted dirty page parts).parts.map ≡ parts.map
admitted_map dirty page parts = admission_map (parts.frames == 0) (parts.plan.queue_len == 0) dirty page parts

-- ---- where the lines go

module _ (p page i : ℕ) where
  moved_absent : (yes dirty : Bool) (parts : Parts) → parts.map.place p ≡ Absent → (moved_if yes dirty page i parts).map.place p ≡ Absent
  moved_absent true dirty parts none = room_absent p parts none
  moved_absent false true parts none = none
  moved_absent false false parts none = none

  handed_absent : (o : Option ℕ) (parts : Parts) → parts.map.place p ≡ Absent → (handed_by o page i parts).map.place p ≡ Absent
  handed_absent (Some k) parts none = ap (λ (m : Placement). m.place p) (stored_map (Full i) k parts) ∙ none
  handed_absent None parts none =
      let dirty = full_dirty_at i parts in let answer = admitted dirty page parts in
      moved_absent answer.yes dirty answer.parts (ap (λ (m : Placement). m.place p) (admitted_map dirty page parts) ∙ none)

module _ (page i : ℕ) where
  moved_kept : (yes dirty : Bool) (parts : Parts) → Agrees parts.map → parts.map.nvm page ≡ None → (moved_if yes dirty page i parts).map.place page ≡ parts.map.place page
  moved_kept true dirty parts agrees none = kept_by (lowest_empty parts.nvm_clock) page parts agrees none
  moved_kept false true parts agrees none = refl
  moved_kept false false parts agrees none = refl

  handed_kept : (o : Option ℕ) (parts : Parts) → parts.map.nvm page ≡ o → Agrees parts.map → (handed_by o page i parts).map.place page ≡ parts.map.place page
  handed_kept (Some k) parts e agrees = ap (λ (m : Placement). m.place page) (stored_map (Full i) k parts)
  handed_kept None parts e agrees =
      let dirty = full_dirty_at i parts in let answer = admitted dirty page parts in let same = admitted_map dirty page parts in
      moved_kept answer.yes dirty answer.parts (subst Agrees (sym same) agrees) (ap (λ (m : Placement). m.nvm page) same ∙ e) ∙ ap (λ (m : Placement). m.place page) same

-- ---- the room

full_left_absent : (o : Option ℕ) (p i : ℕ) (parts : Parts) → parts.map.place p ≡ Absent → (full_left o i parts).map.place p ≡ Absent
full_left_absent None p i parts none = none
full_left_absent (Some page) p i parts none = kept_absent page p (handed_down page i parts).map.place (handed_absent p page i (parts.map.nvm page) parts none)

pub full_swept_map : (o : Option Swept) (parts : Parts) → (full_swept o parts).parts.map ≡ parts.map
full_swept_map None parts = refl
full_swept_map (Some v) parts = refl

pub full_absent_by : (o : Option ℕ) (p : ℕ) (parts : Parts) → parts.map.place p ≡ Absent → (full_room_by o parts).parts.map.place p ≡ Absent
full_absent_by (Some i) p parts none = none
full_absent_by None p parts none =
    let swept = full_swept (victim parts.full_clock) parts in
    full_left_absent (swept.parts.map.full_page swept.place) p swept.place swept.parts (ap (λ (m : Placement). m.place p) (full_swept_map (victim parts.full_clock) parts) ∙ none)

pub is_full : (place : Place) (i : ℕ) → full_of place ≡ Some i → place ≡ Full i
is_full Absent i h = absurd (cc)
is_full (Full j) i h = ap Full (cc)
is_full (Mini j) i h = absurd (cc)

pub full_left_free : (o : Option ℕ) (i : ℕ) (parts : Parts) → parts.map.full_page i ≡ o → Agrees parts.map → (full_left o i parts).map.full_page i ≡ None
full_left_free None i parts e agrees = e
full_left_free (Some page) i parts e agrees =
    let at : parts.map.place page ≡ Full i = is_full (parts.map.place page) i ((agrees.full page i).1 e) in
    let after = (handed_down page i parts).map in
    let still : after.place page ≡ Full i = handed_kept page i (parts.map.nvm page) parts refl agrees ∙ at in
    ap (λ (place : Place). freed (full_of place) after.full_page i) still ∙ changed-same i None after.full_page i refl

pub full_free_by : (o : Option ℕ) (parts : Parts) → lowest_empty parts.full_clock ≡ o → Clocked parts.full_clock parts.map.full_page → Agrees parts.map
    → (full_room_by o parts).parts.map.full_page (full_room_by o parts).place ≡ None
full_free_by (Some i) parts e clocked agrees = (lowest-owner parts.full_clock parts.map.full_page i e clocked).1
full_free_by None parts e clocked agrees =
    let swept = full_swept (victim parts.full_clock) parts in
    full_left_free (swept.parts.map.full_page swept.place) swept.place swept.parts refl (subst Agrees (sym (full_swept_map (victim parts.full_clock) parts)) agrees)

-- the place is free
pub full_room_free : (parts after : Parts) (i : ℕ) → full_room parts ≡ record { place = i; parts = after } → Clocked parts.full_clock parts.map.full_page → Agrees parts.map
    → after.map.full_page i ≡ None
full_room_free parts after i is clocked agrees =
    ap (λ (room : PartsRoom). room.parts.map.full_page room.place) (sym is) ∙ full_free_by (lowest_empty parts.full_clock) parts refl clocked agrees

-- a page without a copy gets none
pub full_room_absent : (parts after : Parts) (i p : ℕ) → full_room parts ≡ record { place = i; parts = after } → parts.map.place p ≡ Absent → after.map.place p ≡ Absent
full_room_absent parts after i p is none =
    ap (λ (room : PartsRoom). room.parts.map.place p) (sym is) ∙ full_absent_by (lowest_empty parts.full_clock) p parts none
