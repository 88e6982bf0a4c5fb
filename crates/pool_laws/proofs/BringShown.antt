-- How a page comes to DRAM: the fields do what the rules do.
use Rattle.std.proofs.Common.{◌≡◌, ◌≢◌, ℕ, ◌<◌, ◌≤◌, false, List, get_or, refl, sym, ap, ◌∙◌, subst, arith}
use Rattle.std.specs.Prelude.{Option, Some, None}
use Rattle.std.proofs.lemmas.List.{get_or-set_same, get_or-set_other}
use Rattle.tier_map.specs.declared.place.Place.{Place}
use Rattle.tier_map.specs.declared.place.Place.TheVariants.{Absent, Full, Mini}
use Rattle.page_frame.specs.LineSets.{no_lines, all_lines}
use Rattle.page_frame.specs.Frames.{empty_frame, resident_lines, filled, lines_of_page, with_frame}
use Rattle.page_frame.proofs.ArenaLaws.{blank_mask}
use Rattle.page_frame.proofs.FillLaws.{page_mask}
use Rattle.migration_policy.specs.Draws.{generator_after}
use Rattle.tier_rules.specs.Plans.{Plan}
use Rattle.tier_rules.specs.State.{TierState, counting}
use Rattle.tier_rules.specs.Tallies.{one_fetch}
use Rattle.tier_rules.specs.NvmRoom.{room_in_nvm, installed, framed}
use Rattle.tier_rules.specs.FullRoom.{room_in_full}
use Rattle.tier_rules.specs.Bringing as rule
use Rattle.tier_rules.specs.Bringing.{DramRoom, room_in_dram, fetched, copied, brought_to, brought, brought_past}
use Rattle.tier_rules.specs.Parts.{Parts, copy_at, dirty_at}
use Rattle.part_laws.proofs.PartLaws.{free_full}
use Rattle.pool_laws.specs.States.{IsAfter, state_of, IsState}
use Rattle.tier_pool.specs.Places.{IsPlace}
use Rattle.tier_pool.specs.NvmRoom.{frame_room}
use Rattle.tier_pool.specs.FullRoom.{full_room}
use Rattle.tier_pool.specs.Bringing.{PartsPlace, IsFree, full_placed, block_fetched, place_filled, FetchedInto, fetched_to_nvm, placed_at, copied_to, BroughtTo, Brought, brought_through, dram_room}
use Rattle.tier_pool.specs.Standing.{IsSteady}
use Rattle.tier_pool.proofs.FullRoomLaws.{room_absent, full_room_free}
use Rattle.tier_pool.proofs.MiniRoomLaws.{dram_room_absent, dram_room_free}
use Rattle.tier_pool.proofs.ThroughLaws.{room_free_kept, free_with_nvm}
use Rattle.tier_pool.proofs.SteadyPieces.{steady_to}
use Rattle.tier_pool.proofs.SteadyRooms.{plan_frame_room, plan_full_room, plan_dram_room, steady_full_room, steady_dram_room, full_room_place, frame_room_place, steady_frame_room}
use Rattle.tier_pool.proofs.SteadyLaws.{steady_fetched_to_nvm, room_low, room_unframed}
use Rattle.pool_laws.proofs.StateLaws.{same_state, shown_at}
use Rattle.pool_laws.proofs.StoreShown.{resident_at, dirty_at_place, resident_now, dirty_now}
use Rattle.pool_laws.proofs.NvmShown.{state_frame_room, state_installed}
use Rattle.pool_laws.proofs.DrawsKept.{draws_frame_room, draws_placed}
use Rattle.pool_laws.proofs.DramShown.{state_is}
use Rattle.pool_laws.proofs.RoomShown.{ShowsPlace, state_full_room, state_dram_room}

seed_after : (n : ℕ) (old new : Parts) → new.draws ≡ old.draws → new.plan ≡ old.plan → IsAfter n old → new.draws ≡ generator_after new.plan.seed n
seed_after n old new draws plan after = draws ∙ after.draws ∙ ap (λ (p : Plan). generator_after p.seed n) (sym plan)

-- ---- a page that is fetched

pub state_fetched : (n page i : ℕ) (bytes : List ℕ) (parts : Parts) → parts.map.full_page i ≡ None → i < parts.plan.dram_frames → IsSteady parts
    → state_of n (full_placed page i (place_filled i bytes (block_fetched parts))) ≡ fetched page i (state_of n parts)
unfolding fetched
state_fetched n page i bytes parts free low s = same_state (record {
  plan = refl;
  frames = refl;
  access = refl;
  map = refl;
  resident = resident_at page parts new frames (λ q j other at. refl) (Full i) all_lines
      (let long = s.places.arena in ap resident_lines (get_or-set_same parts.arena i (filled (lines_of_page bytes)) empty_frame (omega arith)) ∙ sym (page_mask bytes));
  dirty = dirty_at_place page parts new frames (λ q j other at. refl) (Full i) no_lines (s.free.each (Full i) free).clean;
  frame_dirty = λ k. refl;
  full_clock = refl;
  mini_clock = refl;
  nvm_clock = refl;
  queue = refl;
  drawn = refl;
  tally = refl;
})
  where
    new : Parts
    new = full_placed page i (place_filled i bytes (block_fetched parts))

    frames : (q k : ℕ) → q ≢ page → parts.map.place q ≡ Full k
        → (get_or (with_frame i (filled (lines_of_page bytes)) parts.arena) k empty_frame ≡ get_or parts.arena k empty_frame) × (get_or parts.full_dirty k 0 ≡ get_or parts.full_dirty k 0)
    frames q k other at = (get_or-set_other parts.arena i k (filled (lines_of_page bytes)) empty_frame (λ same. free_full parts.map s.agrees i free q (at ∙ ap Full same)), refl)

pub shown_fetched : (n page i : ℕ) (old new : Parts) → FetchedInto page i old new → old.map.full_page i ≡ None → i < old.plan.dram_frames → IsAfter n old → IsSteady old
    → IsState new (fetched page i (state_of n old))
shown_fetched n page i old new is free low after s =
    subst (λ (parts : Parts). IsState parts (fetched page i (state_of n old))) (sym is.is)
    (shown_at n (full_placed page i (place_filled i is.bytes (block_fetched old))) (fetched page i (state_of n old)) (state_fetched n page i is.bytes old free low s) after.draws)

-- ---- a copy over a frame

pub state_copied : (n : ℕ) (place : Place) (page : ℕ) (parts : Parts) → parts.map.place page ≡ Absent → IsFree parts.map place → IsSteady parts
    → state_of n (copied_to place page parts) ≡ copied page place (state_of n parts)
unfolding copied
state_copied n Absent page parts absent free s = same_state (record {
  plan = refl;
  frames = refl;
  access = refl;
  map = refl;
  resident = resident_now page parts parts (λ q i other at. (refl, refl)) (λ q j other at. refl) no_lines (ap (λ (p : Place). resident_lines (copy_at p parts.arena parts.minis)) absent ∙ blank_mask);
  dirty = dirty_now page parts parts (λ q i other at. (refl, refl)) (λ q j other at. refl) no_lines (ap (λ (p : Place). dirty_at p parts.full_dirty parts.minis) absent);
  frame_dirty = λ k. refl;
  full_clock = refl;
  mini_clock = refl;
  nvm_clock = refl;
  queue = refl;
  drawn = refl;
  tally = refl;
})
state_copied n (Full i) page parts absent free s = same_state (record {
  plan = refl;
  frames = refl;
  access = refl;
  map = refl;
  resident = resident_at page parts parts (λ q k other at. (refl, refl)) (λ q j other at. refl) (Full i) no_lines (ap resident_lines (s.free.each (Full i) free).empty ∙ blank_mask);
  dirty = dirty_at_place page parts parts (λ q k other at. (refl, refl)) (λ q j other at. refl) (Full i) no_lines (s.free.each (Full i) free).clean;
  frame_dirty = λ k. refl;
  full_clock = refl;
  mini_clock = refl;
  nvm_clock = refl;
  queue = refl;
  drawn = refl;
  tally = refl;
})
state_copied n (Mini j) page parts absent free s = same_state (record {
  plan = refl;
  frames = refl;
  access = refl;
  map = refl;
  resident = resident_at page parts parts (λ q k other at. (refl, refl)) (λ q j other at. refl) (Mini j) no_lines (ap resident_lines (s.free.each (Mini j) free).empty ∙ blank_mask);
  dirty = dirty_at_place page parts parts (λ q k other at. (refl, refl)) (λ q j other at. refl) (Mini j) no_lines (s.free.each (Mini j) free).clean;
  frame_dirty = λ k. refl;
  full_clock = refl;
  mini_clock = refl;
  nvm_clock = refl;
  queue = refl;
  drawn = refl;
  tally = refl;
})

plan_placed : (place : Place) (page : ℕ) (parts : Parts) → (placed_at place page parts).plan ≡ parts.plan
plan_placed Absent page parts = refl
plan_placed (Full i) page parts = refl
plan_placed (Mini j) page parts = refl

pub shown_copied : (n : ℕ) (place : Place) (page : ℕ) (parts : Parts) → parts.map.place page ≡ Absent → IsFree parts.map place → IsAfter n parts → IsSteady parts
    → IsState (copied_to place page parts) (copied page place (state_of n parts))
shown_copied n place page parts absent free after s =
    shown_at n (copied_to place page parts) (copied page place (state_of n parts)) (state_copied n place page parts absent free s)
    (seed_after n parts (copied_to place page parts) (draws_placed place page _) (plan_placed place page _) after)

-- ---- a page that is fetched to a frame

pub state_fetched_to_nvm : (n page : ℕ) (parts : Parts) → 1 ≤ parts.frames → IsSteady parts → state_of n (fetched_to_nvm page parts) ≡ framed page (state_of n parts)
unfolding framed
state_fetched_to_nvm n page parts some s =
    let room = frame_room parts in
    let long = (steady_frame_room parts some s).places.frame_marks in
    let same = (plan_frame_room parts).frames in
    let low = frame_room_place parts some s in
    let shown = state_frame_room n parts some (record { agrees = s.agrees; all = s.places.frames; long = s.places.frame_marks }) in
    state_installed n page room.place false (block_fetched room.parts) (omega arith)
    ∙ ap (λ (k : ℕ). installed page k false (counting one_fetch (state_of n room.parts))) shown.place
    ∙ ap (λ (t : TierState). installed page (room_in_nvm (state_of n parts)).place false (counting one_fetch t)) shown.state

pub shown_fetched_to_nvm : (n page : ℕ) (parts : Parts) → 1 ≤ parts.frames → IsAfter n parts → IsSteady parts → IsState (fetched_to_nvm page parts) (framed page (state_of n parts))
shown_fetched_to_nvm n page parts some after s =
    shown_at n (fetched_to_nvm page parts) (framed page (state_of n parts)) (state_fetched_to_nvm n page parts some s)
    (seed_after n parts (fetched_to_nvm page parts) (draws_frame_room parts) (plan_frame_room parts).plan after)

-- ---- bringing

to_shown : (n : ℕ) (o : Option ℕ) (page : ℕ) (place : Place) (old new : Parts) → BroughtTo o page place old new → old.map.place page ≡ Absent → IsFree old.map place → IsPlace old.plan place
    → IsAfter n old → IsSteady old → IsState new (brought_to o page place (state_of n old))
to_shown n (Some k) page place old new is absent free low after s =
    subst (λ (parts : Parts). IsState parts (copied page place (state_of n old))) (sym is) (shown_copied n place page old absent free after s)
to_shown n None page (Full i) old new is absent free low after s = shown_fetched n page i old new is free low after s
to_shown n None page (Mini j) old new is absent free low after s = subst (λ (parts : Parts). IsState parts (state_of n old)) (sym is) (state_is n old after)
to_shown n None page Absent old new is absent free low after s = subst (λ (parts : Parts). IsState parts (state_of n old)) (sym is) (state_is n old after)

-- what is said of the state that the fields show is said of the state
pub of_state : (parts : Parts) (s : TierState) (P : TierState → Type 0) → IsState parts s → (IsAfter s.drawn parts → P (state_of s.drawn parts)) → P s
of_state parts s P shown said = subst P shown.is (said (record { draws = shown.draws }))

module _ (n page : ℕ) (parts : Parts) (absent : parts.map.place page ≡ Absent) (after : IsAfter n parts) (s : IsSteady parts) where
  shown_room : ShowsPlace (dram_room parts) (room_in_dram (state_of n parts))
  shown_room = state_dram_room n parts after (steady_to parts s)

  left : (dram_room parts).parts.map.place page ≡ Absent
  left = dram_room_absent parts (dram_room parts).parts (dram_room parts).place page refl absent

  free : IsFree (dram_room parts).parts.map (dram_room parts).place
  free = dram_room_free parts (dram_room parts).parts (dram_room parts).place refl s.standing.fulls s.standing.minis s.agrees s.standing.over

  brought_in : (new : Parts) → BroughtTo ((dram_room parts).parts.map.nvm page) page (dram_room parts).place (dram_room parts).parts new → IsState new (brought page (state_of n parts))
  unfolding brought
  brought_in new is =
      let room = dram_room parts in let shown = room_in_dram (state_of n parts) in
      subst (λ (place : Place). IsState new (brought_to (shown.state.map.nvm page) page place shown.state)) shown_room.place
      (of_state room.parts shown.state (λ t. IsState new (brought_to (t.map.nvm page) page room.place t)) shown_room.state
      (λ now. to_shown shown.state.drawn (room.parts.map.nvm page) page room.place room.parts new is left free
      (room_low parts room.parts room.place refl s) now (steady_dram_room parts s)))

  pub shown_brought : (at : Place) (new : Parts) → Brought page at parts new → IsState new (brought page (state_of n parts))
  shown_brought at new is = brought_in new (subst (λ (room : PartsPlace). BroughtTo (room.parts.map.nvm page) page room.place room.parts new) (sym is.made) is.is)

  pub shown_brought_through : parts.map.nvm page ≡ None → 1 ≤ parts.frames → (new : Parts) (at : Place) → brought_through page parts ≡ record { place = at; parts = new }
      → IsState new (rule.brought_through page (state_of n parts))
  unfolding rule.brought_through
  shown_brought_through homeless some new at is =
      let room = dram_room parts in let shown = room_in_dram (state_of n parts) in
      let frames = (plan_dram_room parts).frames in
      let up : 1 ≤ room.parts.frames = omega arith in
      let steady = steady_dram_room parts s in
      let unframed = room_unframed page parts absent homeless some s in
      let there = fetched_to_nvm page room.parts in
      subst (λ (x : PartsPlace). IsState x.parts (copied page shown.place (framed page shown.state))) is
      (subst (λ (place : Place). IsState (copied_to room.place page there) (copied page place (framed page shown.state))) shown_room.place
      (of_state room.parts shown.state (λ t. IsState (copied_to room.place page there) (copied page room.place (framed page t))) shown_room.state
      (λ now. of_state there (framed page (state_of shown.state.drawn room.parts)) (λ t. IsState (copied_to room.place page there) (copied page room.place t))
      (shown_fetched_to_nvm shown.state.drawn page room.parts up now steady)
      (λ then. shown_copied (framed page (state_of shown.state.drawn room.parts)).drawn room.place page there (room_absent page room.parts left)
      (free_with_nvm room.place (frame_room room.parts).parts.map there.map refl refl (room_free_kept room.place room.parts free)) then
      (steady_fetched_to_nvm page room.parts up unframed steady)))))

  pub shown_brought_past : (new : Parts) → FetchedInto page (full_room parts).place (full_room parts).parts new → IsState new (brought_past page (state_of n parts))
  unfolding brought_past
  shown_brought_past new is =
      let room = full_room parts in let shown = room_in_full (state_of n parts) in
      let shows = state_full_room n parts after (steady_to parts s) in
      subst (λ (i : ℕ). IsState new (fetched page i shown.state)) shows.place
      (of_state room.parts shown.state (λ t. IsState new (fetched page room.place t)) shows.state
      (λ now. shown_fetched shown.state.drawn page room.place room.parts new is
      (full_room_free parts room.parts room.place refl s.standing.fulls s.agrees)
      (subst (λ (plan : Plan). room.place < plan.dram_frames) (sym (plan_full_room parts).plan) (full_room_place parts s)) now (steady_full_room parts s)))
