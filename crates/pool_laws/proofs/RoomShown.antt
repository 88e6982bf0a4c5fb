-- Room in DRAM: the fields do what the rules do.
use Rattle.std.proofs.Common.{◌≡◌, ℕ, zero, suc, ◌≤◌, Bool, true, false, refl, sym, ap, ◌∙◌, subst, arith}
use Rattle.std.specs.Prelude.{Option, Some, None, ◌==◌, not}
use Rattle.tier_map.specs.declared.place.Place.{Place}
use Rattle.tier_map.specs.declared.place.Place.TheVariants.{Full, Mini}
use Rattle.tier_map.specs.Placement.{Placement}
use Rattle.page_frame.specs.LineSets.{no_lines}
use Rattle.migration_policy.specs.Draws.{generator_after}
use Rattle.clock_sweep.specs.Clock.{Swept, lowest_empty, victim}
use Rattle.std.proofs.lemmas.Bool.{eqb-true}
use Rattle.tier_rules.specs.Plans.{Plan}
use Rattle.tier_rules.specs.State.{TierState, Room, is_dirty}
use Rattle.tier_rules.specs.Storing.{stored_back, dropped}
use Rattle.tier_rules.specs.FullRoom as rule
use Rattle.tier_rules.specs.FullRoom.{Answer, draw, ask, answered, admission, given_up, full_evicted, room_in_full}
use Rattle.tier_rules.specs.Bringing as bring
use Rattle.tier_rules.specs.Bringing.{DramRoom, mini_evicted, room_in_mini, room_by, room_in_dram}
use Rattle.tier_rules.specs.Parts.{Parts, dirty_at}
use Rattle.tier_laws.proofs.StandLaws.{victim-found}
use Rattle.pool_laws.specs.States.{IsAfter, state_of, IsState}
use Rattle.tier_pool.specs.Places.{copy_dropped, copy_stored}
use Rattle.tier_pool.specs.NvmRoom.{PartsRoom}
use Rattle.tier_pool.specs.FullRoom.{PartsAnswer, admitted, moved_if, handed_by, full_dirty_at, full_left, full_swept, full_swept_left, full_room_by, full_room}
use Rattle.tier_pool.specs.Bringing.{PartsPlace, mini_given_up, mini_left, mini_swept, mini_swept_left, mini_room_by, mini_room, dram_room_by, dram_room}
use Rattle.tier_pool.proofs.FullRoomLaws.{admitted_map, is_full}
use Rattle.tier_pool.proofs.SteadyPieces.{SteadyBut}
use Rattle.tier_pool.proofs.SteadySteps.{but_full_swept, but_mini_swept}
use Rattle.tier_pool.proofs.SteadyRooms.{has_one, plan_admitted, plan_dropped, plan_stored, plan_given_up, but_admission, admitted_frames}
use Rattle.pool_laws.proofs.StateLaws.{shown_at}
use Rattle.pool_laws.proofs.StoreShown.{state_stored_dropped, state_given_up}
use Rattle.pool_laws.proofs.DrawsKept.{draws_stored, draws_dropped, draws_given_up}
use Rattle.tier_pool.proofs.MiniRoomLaws.{is_mini}
use Rattle.pool_laws.proofs.DramShown.{state_is, IsAnswer, admitted_shown, same_admission, frame_low, if_shown}

-- ---- the page of a full place leaves it

module _ {f m : Option ℕ} (n page i : ℕ) (parts : Parts) (here : parts.map.place page ≡ Full i) (after : IsAfter n parts) (s : SteadyBut f m None parts) where
  handed_shown : (o : Option ℕ) → parts.map.nvm page ≡ o
      → IsState (copy_dropped page (handed_by o page i parts)) (rule.handed_down o (is_dirty page (state_of n parts)) page (dropped page (state_of n parts)))
  handed_shown (Some k) framed =
      shown_at n (copy_dropped page (copy_stored (Full i) k parts)) _
      (state_stored_dropped n page k (Full i) parts here s.stands.agrees (frame_low page k parts framed s))
      (draws_dropped page (copy_stored (Full i) k parts) ∙ draws_stored (Full i) k parts ∙ after.draws
      ∙ ap (λ (plan : Plan). generator_after plan.seed n) (sym ((plan_dropped page (copy_stored (Full i) k parts)).plan ∙ (plan_stored (Full i) k parts).plan)))
  handed_shown None homeless = subst (IsState (copy_dropped page (moved_if given.yes dirty page i given.parts))) to_rule moved
    where
      dirty : Bool
      dirty = full_dirty_at i parts

      given : PartsAnswer
      given = admitted dirty page parts

      answer : Answer
      answer = admission dirty page (state_of n parts)

      shown : IsAnswer given answer (state_of n parts)
      shown = admitted_shown n parts after dirty page

      moved : IsState (copy_dropped page (moved_if given.yes dirty page i given.parts)) (rule.moved_if given.yes dirty page (dropped page (state_of answer.drawn given.parts)))
      moved = if_shown answer.drawn page i given.parts
          (ap (λ (x : Placement). x.place page) (admitted_map dirty page parts) ∙ here)
          (ap (λ (x : Placement). x.nvm page) (admitted_map dirty page parts) ∙ homeless)
          (record { draws = shown.draws })
          (but_admission (parts.frames == 0) (parts.plan.queue_len == 0) dirty page parts s) given.yes dirty
          (λ said. let some = admitted_frames dirty page parts said in let same = (plan_admitted dirty page parts).frames in omega arith)

      to_rule : rule.moved_if given.yes dirty page (dropped page (state_of answer.drawn given.parts))
          ≡ rule.handed_down None (is_dirty page (state_of n parts)) page (dropped page (state_of n parts))
      to_rule =
          ap (λ (b : Bool). rule.moved_if b dirty page (dropped page (state_of answer.drawn given.parts))) shown.said
          ∙ ap (λ (t : TierState). rule.moved_if answer.yes dirty page (dropped page t)) shown.state
          ∙ ap (λ (x : Answer). rule.moved_if x.yes dirty page (answered x (dropped page (state_of n parts)))) (sym (same_admission dirty page page (state_of n parts)))
          ∙ ap (λ (p : Place). rule.handed_down None (not (dirty_at p parts.full_dirty parts.minis == no_lines)) page (dropped page (state_of n parts))) (sym here)

left_shown : {f m : Option ℕ} (n : ℕ) (o : Option ℕ) (i : ℕ) (parts : Parts) → parts.map.full_page i ≡ o → IsAfter n parts → SteadyBut f m None parts → IsState (full_left o i parts) (given_up o (state_of n parts))
left_shown n None i parts e after s = state_is n parts after
left_shown n (Some page) i parts e after s =
    handed_shown n page i parts (is_full (parts.map.place page) i ((s.stands.agrees.full page i).1 e)) after s (parts.map.nvm page) refl

-- a room of the fields is that of the state
pub record ShowsRoom (room : PartsRoom) (shown : Room) : Type 0 where
  pub place : room.place ≡ shown.place
  pub state : IsState room.parts shown.state

pub record ShowsPlace (room : PartsPlace) (shown : DramRoom) : Type 0 where
  pub place : room.place ≡ shown.place
  pub state : IsState room.parts shown.state

-- ---- room for a full copy

module _ {m : Option ℕ} (n : ℕ) (parts : Parts) (after : IsAfter n parts) (s : SteadyBut None m None parts) where
  evicted_shown : (o : Option Swept) → victim parts.full_clock ≡ o → lowest_empty parts.full_clock ≡ None → ShowsRoom (full_swept_left (full_swept o parts)) (full_evicted o (state_of n parts))
  evicted_shown None e full = absurd (let found = victim-found parts.full_clock (has_one parts.full_clock parts.plan.dram_frames s.all.some s.all.all_fulls) full in cc)
  evicted_shown (Some v) e full =
      let swept = (full_swept (Some v) parts).parts in
      record { place = refl; state = left_shown n (swept.map.full_page v.place) v.place swept refl (record { draws = after.draws }) (but_full_swept v parts e s) }

  full_shown : (o : Option ℕ) → lowest_empty parts.full_clock ≡ o → ShowsRoom (full_room_by o parts) (rule.full_room o (state_of n parts))
  full_shown (Some i) e = record { place = refl; state = state_is n parts after }
  full_shown None e = evicted_shown (victim parts.full_clock) refl e

  pub state_full_room : ShowsRoom (full_room parts) (room_in_full (state_of n parts))
  unfolding room_in_full
  state_full_room = full_shown (lowest_empty parts.full_clock) refl

-- ---- room for a mini copy

mini_left_shown : {f m : Option ℕ} (n : ℕ) (o : Option ℕ) (j : ℕ) (parts : Parts) → parts.map.mini_owner j ≡ o → IsAfter n parts → SteadyBut f m None parts
    → IsState (mini_left o parts) (bring.mini_given_up o (state_of n parts))
mini_left_shown n None j parts e after s = state_is n parts after
mini_left_shown n (Some page) j parts e after s =
    shown_at n (mini_given_up (parts.map.nvm page) page parts) _ (ap (λ (o : Option ℕ). state_of n (mini_given_up o page parts)) over.1
    ∙ state_given_up n page over.0 parts s.stands.agrees (frame_low page over.0 parts over.1 s)
    ∙ sym (ap (λ (o : Option ℕ). stored_back o (is_dirty page (state_of n parts)) (dropped page (state_of n parts))) over.1))
    (ap (λ (o : Option ℕ). (mini_given_up o page parts).draws) over.1 ∙ draws_given_up page over.0 parts ∙ after.draws
    ∙ ap (λ (plan : Plan). generator_after plan.seed n) (sym (ap (λ (o : Option ℕ). (mini_given_up o page parts).plan) over.1 ∙ (plan_given_up page over.0 parts).plan)))
  where
    over : (k : ℕ) × (parts.map.nvm page ≡ Some k)
    over = s.stands.over.frame page j (is_mini (parts.map.place page) j ((s.stands.agrees.mini page j).1 e))

module _ {f : Option ℕ} (n : ℕ) (parts : Parts) (after : IsAfter n parts) (some : 1 ≤ parts.plan.minis) (s : SteadyBut f None None parts) where
  mini_evicted_shown : (o : Option Swept) → victim parts.mini_clock ≡ o → lowest_empty parts.mini_clock ≡ None → ShowsRoom (mini_swept_left (mini_swept o parts)) (mini_evicted o (state_of n parts))
  mini_evicted_shown None e full = absurd (let found = victim-found parts.mini_clock (has_one parts.mini_clock parts.plan.minis some s.all.all_minis) full in cc)
  mini_evicted_shown (Some v) e full =
      let swept = (mini_swept (Some v) parts).parts in
      record { place = refl; state = mini_left_shown n (swept.map.mini_owner v.place) v.place swept refl (record { draws = after.draws }) (but_mini_swept v parts e s) }

  mini_shown : (o : Option ℕ) → lowest_empty parts.mini_clock ≡ o → ShowsRoom (mini_room_by o parts) (bring.mini_room o (state_of n parts))
  mini_shown (Some j) e = record { place = refl; state = state_is n parts after }
  mini_shown None e = mini_evicted_shown (victim parts.mini_clock) refl e

  pub state_mini_room : ShowsRoom (mini_room parts) (room_in_mini (state_of n parts))
  unfolding room_in_mini
  state_mini_room = mini_shown (lowest_empty parts.mini_clock) refl

-- ---- room in DRAM

module _ (n : ℕ) (parts : Parts) (after : IsAfter n parts) (s : SteadyBut None None None parts) where
  dram_shown : (minis : ℕ) (no_minis : Bool) → parts.plan.minis ≡ minis → (minis == 0) ≡ no_minis → ShowsPlace (dram_room_by no_minis parts) (room_by minis (state_of n parts))
  dram_shown zero true is e = let room = state_full_room n parts after s in record { place = ap Full room.place; state = room.state }
  dram_shown zero false is e = absurd (let no : ⊥ = cc in no)
  dram_shown (suc minis) true is e = absurd (let no = eqb-true (suc minis) 0 e in omega arith)
  dram_shown (suc minis) false is e = let room = state_mini_room n parts after (omega arith) s in record { place = ap Mini room.place; state = room.state }

  pub state_dram_room : ShowsPlace (dram_room parts) (room_in_dram (state_of n parts))
  unfolding room_in_dram
  state_dram_room = dram_shown parts.plan.minis (parts.plan.minis == 0) refl refl
