-- Room in NVM and what stands there: the fields do what the rules do.
use Rattle.std.proofs.Common.{◌≡◌, ◌≢◌, ℕ, ◌<◌, ◌≤◌, Bool, true, false, [], ◌∷◌, length, cond, refl, sym, ap, ◌∙◌, subst}
use Rattle.std.specs.Prelude.{Option, Some, None, ◌==◌, not}
use Rattle.tier_map.specs.declared.place.Place.TheVariants.{Absent}
use Rattle.tier_map.specs.Placement.{Placement, Agrees, changed, full_of, mini_of, freed}
use Rattle.tier_map.proofs.PlacementLaws.{changed-other}
use Rattle.page_frame.specs.LineSets.{no_lines}
use Rattle.clock_sweep.specs.declared.clock.Slot.{Slot}
use Rattle.clock_sweep.specs.declared.clock.Slot.TheVariants.{Empty}
use Rattle.clock_sweep.specs.Clock.{Circle, Swept, lowest_empty, victim, with_slot}
use Rattle.tier_rules.specs.Clocks.{removed_if}
use Rattle.tier_rules.specs.Tallies.{nvm_eviction}
use Rattle.tier_rules.specs.State.{TierState, Room, counting}
use Rattle.tier_rules.specs.Storing.{stored_back, dropped, frame_emptied}
use Rattle.tier_rules.specs.NvmRoom.{released, nvm_evicted, nvm_room, room_in_nvm, installed}
use Rattle.tier_rules.specs.Parts.{Parts}
use Rattle.tier_laws.proofs.StandLaws.{victim-found}
use Rattle.pool_laws.specs.States.{state_of}
use Rattle.tier_pool.specs.NvmRoom.{PartsRoom, frame_swept, swept_left, frame_room_by, frame_room, page_installed}
use Rattle.tier_pool.specs.Standing.{HasAll}
use Rattle.tier_pool.proofs.SteadyPieces.{freed-swap}
use Rattle.tier_pool.proofs.SteadyRooms.{has_one, victim_low}
use Rattle.pool_laws.proofs.StateLaws.{same_state, same_map, mark_set, changed-swap}
use Rattle.pool_laws.proofs.StoreShown.{state_victim_left}

-- a room of the fields is that of the state
pub record IsRoom (n : ℕ) (room : PartsRoom) (shown : Room) : Type 0 where
  pub place : room.place ≡ shown.place
  pub state : state_of n room.parts ≡ shown.state

-- the frames that the clock knows have their marks
pub record KnowsFrames (parts : Parts) : Type 0 where
  pub agrees : Agrees parts.map
  pub all : HasAll parts.nvm_clock parts.frames
  pub long : length parts.frame_dirty ≡ parts.frames

evicted_shown : (n : ℕ) (o : Option Swept) (parts : Parts) → victim parts.nvm_clock ≡ o → lowest_empty parts.nvm_clock ≡ None → 1 ≤ parts.frames → KnowsFrames parts
    → IsRoom n (swept_left (frame_swept o parts)) (nvm_evicted o (state_of n parts))
evicted_shown n None parts e full some knows = absurd (let found = victim-found parts.nvm_clock (has_one parts.nvm_clock parts.frames some knows.all) full in cc)
evicted_shown n (Some v) parts e full some knows = record {
  place = refl;
  state = state_victim_left n (parts.map.frame_page v.place) v.place (frame_swept (Some v) parts).parts refl knows.agrees
      (subst (λ (count : ℕ). v.place < count) (sym knows.long) (victim_low parts.nvm_clock parts.frames v e knows.all));
}

room_shown : (n : ℕ) (o : Option ℕ) (parts : Parts) → lowest_empty parts.nvm_clock ≡ o → 1 ≤ parts.frames → KnowsFrames parts → IsRoom n (frame_room_by o parts) (nvm_room o (state_of n parts))
room_shown n (Some k) parts e some knows = record { place = refl; state = refl }
room_shown n None parts e some knows = evicted_shown n (victim parts.nvm_clock) parts refl e some knows

pub state_frame_room : (n : ℕ) (parts : Parts) → 1 ≤ parts.frames → KnowsFrames parts → IsRoom n (frame_room parts) (room_in_nvm (state_of n parts))
unfolding room_in_nvm
state_frame_room n parts some knows = room_shown n (lowest_empty parts.nvm_clock) parts refl some knows

pub state_installed : (n page k : ℕ) (dirty : Bool) (parts : Parts) → k < length parts.frame_dirty → state_of n (page_installed page k dirty parts) ≡ installed page k dirty (state_of n parts)
unfolding installed
state_installed n page k dirty parts low = same_state (record {
  plan = refl;
  frames = refl;
  access = refl;
  map = refl;
  resident = λ q. refl;
  dirty = λ q. refl;
  frame_dirty = mark_set parts.frame_dirty k dirty low;
  full_clock = refl;
  mini_clock = refl;
  nvm_clock = refl;
  queue = refl;
  drawn = refl;
  tally = refl;
})

-- ---- a copy may be dropped before room is made in NVM, or behind it

slot_swap : (a b : ℕ) (slot : Slot) (xs : Circle) → with_slot a slot (with_slot b slot xs) ≡ with_slot b slot (with_slot a slot xs)
slot_swap a b slot [] = refl
slot_swap a b slot (x ∷ xs) =
    ap (λ (s : Slot). (x.0, s) ∷ with_slot a slot (with_slot b slot xs)) (either (x.0 == a) (x.0 == b) x.1)
    ∙ ap (λ (t : Circle). (x.0, cond (x.0 == b) slot (cond (x.0 == a) slot x.1)) ∷ t) (slot_swap a b slot xs)
  where
    either : (p q : Bool) (old : Slot) → cond p slot (cond q slot old) ≡ cond q slot (cond p slot old)
    either true true old = refl
    either true false old = refl
    either false true old = refl
    either false false old = refl

removed_swap : (a b : Option ℕ) (xs : Circle) → removed_if a (removed_if b xs) ≡ removed_if b (removed_if a xs)
removed_swap None b xs = refl
removed_swap (Some i) None xs = refl
removed_swap (Some i) (Some j) xs = slot_swap i j Empty xs

-- the clock, and the owners, behind two pages that leave
clock_swap : (a a' b b' : Option ℕ) (xs : Circle) → a' ≡ a → b' ≡ b → removed_if a' (removed_if b xs) ≡ removed_if b' (removed_if a xs)
clock_swap a a' b b' xs e f = ap (λ (o : Option ℕ). removed_if o (removed_if b xs)) e ∙ removed_swap a b xs ∙ ap (λ (o : Option ℕ). removed_if o (removed_if a xs)) (sym f)

owner_swap : (a a' b b' : Option ℕ) (owner : ℕ → Option ℕ) → a' ≡ a → b' ≡ b → (k : ℕ) → freed a' (freed b owner) k ≡ freed b' (freed a owner) k
owner_swap a a' b b' owner e f k = ap (λ (o : Option ℕ). freed o (freed b owner) k) e ∙ freed-swap a b owner k ∙ ap (λ (o : Option ℕ). freed o (freed a owner) k) (sym f)

dropped_released : (q page : ℕ) (s : TierState) → q ≢ page → released (Some q) (dropped page s) ≡ dropped page (released (Some q) s)
dropped_released q page s apart = same_state (record {
  plan = refl;
  frames = refl;
  access = refl;
  map = same_map (record {
    place = changed-swap q page Absent Absent m.place apart;
    nvm = λ p. refl;
    full_page = owner_swap (full_of (m.place q)) (full_of (changed page Absent m.place q)) (full_of (m.place page)) (full_of (changed q Absent m.place page)) m.full_page (ap full_of at_q) (ap full_of at_page);
    mini_owner = owner_swap (mini_of (m.place q)) (mini_of (changed page Absent m.place q)) (mini_of (m.place page)) (mini_of (changed q Absent m.place page)) m.mini_owner (ap mini_of at_q) (ap mini_of at_page);
    frame_page = λ k. refl;
  });
  resident = changed-swap q page no_lines no_lines s.resident apart;
  dirty = changed-swap q page no_lines no_lines s.dirty apart;
  frame_dirty = λ k. ap (λ (set : ℕ). (frame_emptied q (stored_back (m.nvm q) (not (set == no_lines)) s)).frame_dirty k) (changed-other page no_lines s.dirty q apart);
  full_clock = clock_swap (full_of (m.place q)) (full_of (changed page Absent m.place q)) (full_of (m.place page)) (full_of (changed q Absent m.place page)) s.full_clock (ap full_of at_q) (ap full_of at_page);
  mini_clock = clock_swap (mini_of (m.place q)) (mini_of (changed page Absent m.place q)) (mini_of (m.place page)) (mini_of (changed q Absent m.place page)) s.mini_clock (ap mini_of at_q) (ap mini_of at_page);
  nvm_clock = refl;
  queue = refl;
  drawn = refl;
  tally = refl;
})
  where
    m : Placement
    m = s.map

    at_q : changed page Absent s.map.place q ≡ s.map.place q
    at_q = changed-other page Absent s.map.place q apart

    at_page : changed q Absent s.map.place page ≡ s.map.place page
    at_page = changed-other q Absent s.map.place page (λ same. apart (sym same))

released_swap : (o : Option ℕ) (page : ℕ) (s : TierState) → ((q : ℕ) → o ≡ Some q → q ≢ page) → released o (dropped page s) ≡ dropped page (released o s)
released_swap None page s apart = refl
released_swap (Some q) page s apart = dropped_released q page s (apart q refl)

module _ (page : ℕ) (s : TierState) (homeless : s.map.nvm page ≡ None) (agrees : Agrees s.map) where
  not_here : (k q : ℕ) → s.map.frame_page k ≡ Some q → q ≢ page
  not_here k q at same = absurd (let there : s.map.nvm q ≡ Some k = (agrees.nvm q k).1 at in let none = ap s.map.nvm same in cc)

  evicted_swap : (o : Option Swept) → (nvm_evicted o (dropped page s)).state ≡ dropped page (nvm_evicted o s).state
  evicted_swap None = refl
  evicted_swap (Some v) = released_swap (s.map.frame_page v.place) page (counting nvm_eviction (record s { nvm_clock = v.clock })) (not_here v.place)

  room_swap : (o : Option ℕ) → (nvm_room o (dropped page s)).state ≡ dropped page (nvm_room o s).state
  room_swap (Some k) = refl
  room_swap None = evicted_swap (victim s.nvm_clock)

  evicted_place : (o : Option Swept) → (nvm_evicted o (dropped page s)).place ≡ (nvm_evicted o s).place
  evicted_place None = refl
  evicted_place (Some v) = refl

  room_place : (o : Option ℕ) → (nvm_room o (dropped page s)).place ≡ (nvm_room o s).place
  room_place (Some k) = refl
  room_place None = evicted_place (victim s.nvm_clock)

  pub dropped_room : (room_in_nvm (dropped page s)).state ≡ dropped page (room_in_nvm s).state
  unfolding room_in_nvm
  dropped_room = room_swap (lowest_empty s.nvm_clock)

  pub dropped_room_place : (room_in_nvm (dropped page s)).place ≡ (room_in_nvm s).place
  unfolding room_in_nvm
  dropped_room_place = room_place (lowest_empty s.nvm_clock)
