-- Nothing stands at a place that was made free, and a page on the SSD gets no frame while room in DRAM is made.
use Rattle.std.proofs.Common.{true, false, Bool, ◌≡◌, ◌≢◌, ℕ, ◌≤◌, refl, sym, ap, ◌∙◌, subst}
use Rattle.std.specs.Prelude.{Option, Some, None}
use Rattle.tier_map.specs.declared.place.Place.{Place}
use Rattle.tier_map.specs.declared.place.Place.TheVariants.{Absent, Full}
use Rattle.tier_map.specs.Placement.{Placement, Agrees}
use Rattle.tier_map.proofs.PlacementLaws.{changed-other}
use Rattle.clock_sweep.specs.Clock.{lowest_empty, victim}
use Rattle.tier_rules.specs.Parts.{Parts}
use Rattle.tier_pool.specs.declared.pool.TierPool.{TierPool}
use Rattle.tier_pool.specs.Fields.{parts_of}
use Rattle.tier_pool.specs.NvmRoom.{PartsRoom, frame_room}
use Rattle.tier_pool.specs.FullRoom.{admitted, moved_if, handed_by, full_dirty_at, full_left, full_swept, full_room_by, full_room}
use Rattle.tier_pool.specs.Bringing.{PartsPlace, IsFree, dram_room, fetched_to_nvm}
use Rattle.tier_pool.specs.Standing.{IsStanding, IsBare, IsSteady}
use Rattle.tier_pool.proofs.NvmRoomLaws.{stored_map, homeless_by}
use Rattle.tier_pool.proofs.FullRoomLaws.{is_full, admitted_map, full_swept_map, full_room_free}
use Rattle.tier_pool.proofs.MiniRoomLaws.{dram_room_free}
use Rattle.tier_pool.proofs.ThroughLaws.{NvmLeft, dram_room_left}
use Rattle.tier_pool.proofs.SteadyRooms.{steady_full_room, steady_dram_room}
use Rattle.tier_pool.proofs.SteadyLaws.{steady_fetched_to_nvm}

-- ---- rooms

pub full_room_bare : (parts after : Parts) (i : ℕ) → full_room parts ≡ record { place = i; parts = after } → IsSteady parts → IsBare after (Full i)
full_room_bare parts after i is steady =
    (subst (λ (room : PartsRoom). IsSteady room.parts) is (steady_full_room parts steady)).free.each (Full i) (full_room_free parts after i is steady.standing.fulls steady.agrees)

pub dram_room_steady : (parts after : Parts) (place : Place) → dram_room parts ≡ record { place = place; parts = after } → IsSteady parts → IsSteady after
dram_room_steady parts after place is steady = subst (λ (room : PartsPlace). IsSteady room.parts) is (steady_dram_room parts steady)

pub dram_room_bare : (parts after : Parts) (place : Place) → dram_room parts ≡ record { place = place; parts = after } → IsSteady parts → IsBare after place
dram_room_bare parts after place is steady =
    (dram_room_steady parts after place is steady).free.each place (dram_room_free parts after place is steady.standing.fulls steady.standing.minis steady.agrees steady.standing.over)

-- and still when the page was fetched to NVM
pub through_bare : (made fetched : Parts) (place : Place) (page : ℕ) → fetched ≡ fetched_to_nvm page made → 1 ≤ made.frames → made.map.nvm page ≡ None → IsFree fetched.map place → IsSteady made
    → IsBare fetched place
through_bare made fetched place page is some none free steady = (subst IsSteady (sym is) (steady_fetched_to_nvm page made some none steady)).free.each place free

-- a page on the SSD gets no frame, and the clock of frames knows those that have a page
pub through_left : (t : TierPool) (made : Parts) (place : Place) (page : ℕ) → 1 ≤ t.geometry.frames → IsStanding (parts_of t) → (parts_of t).map.nvm page ≡ None
    → (parts_of t).map.place page ≡ Absent → dram_room (parts_of t) ≡ record { place = place; parts = made } → NvmLeft page made
through_left t made place page some standing none absent is = dram_room_left (parts_of t) made place page is absent (record {
  left = record { clocked = standing.frames; homeless = none };
  some = subst (λ (n : ℕ). 1 ≤ n) (sym t.nvm_clock_fits) some;
  agrees = t.map.agrees;
})

-- ---- a page without a copy and without a frame gets no frame while room for a full copy is made

module _ (p page i : ℕ) (other : p ≢ page) where
  moved_homeless : (yes dirty : Bool) (parts : Parts) → parts.map.nvm p ≡ None → (moved_if yes dirty page i parts).map.nvm p ≡ None
  moved_homeless true dirty parts none =
      changed-other page (Some (frame_room parts).place) (frame_room parts).parts.map.nvm p other ∙ homeless_by (lowest_empty parts.nvm_clock) p parts none
  moved_homeless false true parts none = none
  moved_homeless false false parts none = none

  handed_homeless : (o : Option ℕ) (parts : Parts) → parts.map.nvm p ≡ None → (handed_by o page i parts).map.nvm p ≡ None
  handed_homeless (Some k) parts none = ap (λ (m : Placement). m.nvm p) (stored_map (Full i) k parts) ∙ none
  handed_homeless None parts none =
      let dirty = full_dirty_at i parts in let answer = admitted dirty page parts in
      moved_homeless answer.yes dirty answer.parts (ap (λ (m : Placement). m.nvm p) (admitted_map dirty page parts) ∙ none)

not_absent : (p q i : ℕ) (f : ℕ → Place) → f p ≡ Absent → f q ≡ Full i → p ≢ q
not_absent p q i f none at same = absurd (let there = ap f same in cc)

full_left_homeless : (o : Option ℕ) (p i : ℕ) (parts : Parts) → parts.map.full_page i ≡ o → Agrees parts.map → parts.map.place p ≡ Absent → parts.map.nvm p ≡ None
    → (full_left o i parts).map.nvm p ≡ None
full_left_homeless None p i parts e agrees absent none = none
full_left_homeless (Some page) p i parts e agrees absent none =
    let at : parts.map.place page ≡ Full i = is_full (parts.map.place page) i ((agrees.full page i).1 e) in
    handed_homeless p page i (not_absent p page i parts.map.place absent at) (parts.map.nvm page) parts none

full_homeless_by : (o : Option ℕ) (p : ℕ) (parts : Parts) → Agrees parts.map → parts.map.place p ≡ Absent → parts.map.nvm p ≡ None → (full_room_by o parts).parts.map.nvm p ≡ None
full_homeless_by (Some i) p parts agrees absent none = none
full_homeless_by None p parts agrees absent none =
    let swept = full_swept (victim parts.full_clock) parts in
    let same = full_swept_map (victim parts.full_clock) parts in
    full_left_homeless (swept.parts.map.full_page swept.place) p swept.place swept.parts refl (subst Agrees (sym same) agrees)
    (ap (λ (m : Placement). m.place p) same ∙ absent) (ap (λ (m : Placement). m.nvm p) same ∙ none)

pub full_room_homeless : (parts after : Parts) (i p : ℕ) → full_room parts ≡ record { place = i; parts = after } → Agrees parts.map → parts.map.place p ≡ Absent → parts.map.nvm p ≡ None
    → after.map.nvm p ≡ None
full_room_homeless parts after i p is agrees absent none =
    ap (λ (room : PartsRoom). room.parts.map.nvm p) (sym is) ∙ full_homeless_by (lowest_empty parts.full_clock) p parts agrees absent none
