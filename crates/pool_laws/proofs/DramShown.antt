-- Answers, and room in DRAM: the fields do what the rules do.
use Rattle.std.proofs.Common.{◌≡◌, ℕ, zero, suc, ◌<◌, ◌≤◌, Bool, true, false, length, refl, sym, ap, ◌∙◌, subst, arith}
use Rattle.std.specs.Prelude.{Option, Some, None, ◌==◌}
use Rattle.tier_map.specs.declared.place.Place.TheVariants.{Full}
use Rattle.rand_pcg.specs.Lcg.{Lcg}
use Rattle.rand_pcg.specs.Pcg.{pcg32}
use Rattle.migration_policy.specs.declared.policy.Question.{Question}
use Rattle.migration_policy.specs.declared.policy.Question.TheVariants.{NvmWrite}
use Rattle.migration_policy.specs.Policies.{rate}
use Rattle.migration_policy.specs.Draws.{says_yes, generator_after}
use Rattle.migration_policy.proofs.DrawLaws.{drawn_word, drawn_next}
use Rattle.clock_sweep.specs.Clock.{lowest_empty}
use Rattle.std.proofs.lemmas.Bool.{eqb-true}
use Rattle.tier_rules.specs.Plans.{Plan}
use Rattle.tier_rules.specs.Tallies.{one_pass}
use Rattle.tier_rules.specs.State.{TierState, counting}
use Rattle.tier_rules.specs.Storing.{dropped}
use Rattle.tier_rules.specs.NvmRoom.{room_in_nvm, installed}
use Rattle.tier_rules.specs.FullRoom as rule
use Rattle.tier_rules.specs.FullRoom.{Answer, draw, ask, answered, admission, given_up, full_evicted, room_in_full}
use Rattle.tier_rules.specs.Parts.{Parts}
use Rattle.tier_laws.proofs.StandLaws.{stand_le}
use Rattle.pool_laws.specs.States.{IsAfter, state_of, IsState}
use Rattle.tier_pool.specs.Places.{copy_dropped, copy_passed}
use Rattle.tier_pool.specs.NvmRoom.{PartsRoom, frame_room, page_installed}
use Rattle.tier_pool.specs.FullRoom.{PartsAnswer, drawn, queued, admission_by, admitted, moved_down, moved_if}
use Rattle.tier_pool.proofs.NvmRoomLaws.{room_free, room_homeless}
use Rattle.tier_pool.proofs.FullRoomLaws.{kept_by}
use Rattle.tier_pool.proofs.SteadyPieces.{SteadyBut}
use Rattle.tier_pool.proofs.SteadySteps.{but_installed}
use Rattle.tier_pool.proofs.SteadyRooms.{but_frame_room, frame_room_low, plan_frame_room, plan_dropped, plan_cleaned}
use Rattle.pool_laws.proofs.StateLaws.{shown_at}
use Rattle.pool_laws.proofs.StoreShown.{state_dropped, dropped_cleaned}
use Rattle.pool_laws.proofs.NvmShown.{IsRoom, KnowsFrames, state_frame_room, state_installed, dropped_room, dropped_room_place}
use Rattle.pool_laws.proofs.DrawsKept.{draws_cleaned, draws_dropped, draws_frame_room}

pub state_is : (n : ℕ) (parts : Parts) → IsAfter n parts → IsState parts (state_of n parts)
state_is n parts after = record { is = refl; draws = after.draws }

-- ---- answers

pub record IsAnswer (given : PartsAnswer) (answer : Answer) (s : TierState) : Type 0 where
  pub said : given.yes ≡ answer.yes
  pub state : state_of answer.drawn given.parts ≡ answered answer s
  pub draws : given.parts.draws ≡ generator_after given.parts.plan.seed answer.drawn

module _ (n : ℕ) (parts : Parts) (after : IsAfter n parts) where
  pub draw_shown : (question : Question) → IsAnswer (drawn question parts) (draw question (state_of n parts)) (state_of n parts)
  draw_shown question = record {
    said = ap (λ (g : Lcg). says_yes (rate parts.plan.rates question) (pcg32 g).0) after.draws ∙ ap (says_yes (rate parts.plan.rates question)) (drawn_word parts.plan.seed n);
    state = refl;
    draws = ap (λ (g : Lcg). (pcg32 g).1) after.draws ∙ drawn_next parts.plan.seed n;
  }

  pub no_shown : IsAnswer (record { yes = false; parts = parts }) (rule.plain_no (state_of n parts)) (state_of n parts)
  no_shown = record { said = refl; state = refl; draws = after.draws }

  ask_shown : (page : ℕ) → IsAnswer (queued page parts) (ask page (state_of n parts)) (state_of n parts)
  ask_shown page = record { said = refl; state = refl; draws = after.draws }

  admission_shown : (f len : ℕ) (no_frames no_queue dirty : Bool) (page : ℕ) → (f == 0) ≡ no_frames → (len == 0) ≡ no_queue
      → IsAnswer (admission_by no_frames no_queue dirty page parts) (rule.admission_by f len dirty page (state_of n parts)) (state_of n parts)
  admission_shown zero len true no_queue dirty page e h = no_shown
  admission_shown zero len false no_queue dirty page e h = absurd (let no : ⊥ = cc in no)
  admission_shown (suc f) len true no_queue dirty page e h = absurd (let no = eqb-true (suc f) 0 e in omega arith)
  admission_shown (suc f) zero false true false page e h = no_shown
  admission_shown (suc f) zero false true true page e h = draw_shown NvmWrite
  admission_shown (suc f) zero false false dirty page e h = absurd (let no : ⊥ = cc in no)
  admission_shown (suc f) (suc len) false true dirty page e h = absurd (let no = eqb-true (suc len) 0 h in omega arith)
  admission_shown (suc f) (suc len) false false dirty page e h = ask_shown page

  pub admitted_shown : (dirty : Bool) (page : ℕ) → IsAnswer (admitted dirty page parts) (admission dirty page (state_of n parts)) (state_of n parts)
  unfolding admission
  admitted_shown dirty page = admission_shown parts.frames parts.plan.queue_len (parts.frames == 0) (parts.plan.queue_len == 0) dirty page refl refl

admission_dropped : (f len : ℕ) (dirty : Bool) (page q : ℕ) (s : TierState) → rule.admission_by f len dirty page (dropped q s) ≡ rule.admission_by f len dirty page s
admission_dropped zero len dirty page q s = refl
admission_dropped (suc f) zero false page q s = refl
admission_dropped (suc f) zero true page q s = refl
admission_dropped (suc f) (suc len) dirty page q s = refl

pub same_admission : (dirty : Bool) (page q : ℕ) (s : TierState) → admission dirty page (dropped q s) ≡ admission dirty page s
unfolding admission
same_admission dirty page q s = admission_dropped s.frames s.plan.queue_len dirty page q s

-- ---- frames

pub frame_low : {f m : Option ℕ} (page k : ℕ) (parts : Parts) → parts.map.nvm page ≡ Some k → SteadyBut f m None parts → k < length parts.frame_dirty
frame_low page k parts framed s =
    let up = s.stands.nvm_clock.standing k page ((s.stands.agrees.nvm page k).0 framed) in
    let more = stand_le k parts.nvm_clock in
    let low = s.all.all_frames.within k (omega arith) in
    let long = s.long.frame_marks_long in
    omega arith

knows : {f m n : Option ℕ} (parts : Parts) → SteadyBut f m n parts → KnowsFrames parts
knows parts s = record { agrees = s.stands.agrees; all = s.all.all_frames; long = s.long.frame_marks_long }

-- ---- the page of a full place leaves it

swap_installed : (page k : ℕ) (dirty : Bool) (t : TierState) → dropped page (installed page k dirty t) ≡ installed page k dirty (dropped page t)
unfolding installed
swap_installed page k dirty t = refl

module _ {f m : Option ℕ} (n page i : ℕ) (parts : Parts) (here : parts.map.place page ≡ Full i) (homeless : parts.map.nvm page ≡ None) (after : IsAfter n parts) (s : SteadyBut f m None parts) where
  moved_shown : (dirty : Bool) → 1 ≤ parts.frames → IsState (copy_dropped page (moved_down dirty page i parts)) (rule.moved_down dirty page (dropped page (state_of n parts)))
  unfolding rule.moved_down
  moved_shown dirty some = shown_at n (copy_dropped page (moved_down dirty page i parts)) _ equal (draws_same ∙ after.draws ∙ ap (λ (plan : Plan). generator_after plan.seed n) (sym plan_same))
    where
      room : PartsRoom
      room = frame_room parts

      there : Parts
      there = page_installed page (frame_room parts).place dirty (frame_room parts).parts

      room_low : (frame_room parts).place < (frame_room parts).parts.frames
      room_low = subst (λ (count : ℕ). (frame_room parts).place < count) (sym (plan_frame_room parts).frames) (frame_room_low parts some s)

      steady_room : SteadyBut f m None (frame_room parts).parts
      steady_room = but_frame_room parts some s

      steady_there : SteadyBut f m None (page_installed page (frame_room parts).place dirty (frame_room parts).parts)
      steady_there = but_installed page (frame_room parts).place dirty (frame_room parts).parts
          (room_homeless parts (frame_room parts).parts (frame_room parts).place page refl homeless)
          (room_free parts (frame_room parts).parts (frame_room parts).place refl s.stands.nvm_clock s.stands.agrees) room_low steady_room

      still : (frame_room parts).parts.map.place page ≡ Full i
      still = kept_by (lowest_empty parts.nvm_clock) page parts s.stands.agrees homeless ∙ here

      shown : IsRoom n (frame_room parts) (room_in_nvm (state_of n parts))
      shown = state_frame_room n parts some (knows parts s)

      to_rule : (k : ℕ) (t u : TierState) → k ≡ (room_in_nvm u).place → t ≡ (room_in_nvm u).state → installed page k dirty t ≡ installed page (room_in_nvm u).place dirty (room_in_nvm u).state
      to_rule k t u place state = ap (λ (x : ℕ). installed page x dirty t) place ∙ ap (installed page (room_in_nvm u).place dirty) state

      equal : state_of n (copy_dropped page (moved_down dirty page i parts))
          ≡ installed page (room_in_nvm (dropped page (state_of n parts))).place dirty (room_in_nvm (dropped page (state_of n parts))).state
      equal =
          ap (state_of n) (dropped_cleaned (Full i) page there still)
          ∙ state_dropped n page there steady_there.stands.agrees
          ∙ ap (dropped page) (state_installed n page room.place dirty room.parts (subst (λ (count : ℕ). room.place < count) (sym steady_room.long.frame_marks_long) room_low))
          ∙ swap_installed page room.place dirty (state_of n room.parts)
          ∙ to_rule room.place (dropped page (state_of n room.parts)) (dropped page (state_of n parts))
          (shown.place ∙ sym (dropped_room_place page (state_of n parts) homeless s.stands.agrees))
          (ap (dropped page) shown.state ∙ sym (dropped_room page (state_of n parts) homeless s.stands.agrees))

      draws_same : (copy_dropped page (moved_down dirty page i parts)).draws ≡ parts.draws
      draws_same = draws_dropped page (moved_down dirty page i parts) ∙ draws_cleaned (Full i) there ∙ draws_frame_room parts

      plan_same : (copy_dropped page (moved_down dirty page i parts)).plan ≡ parts.plan
      plan_same = (plan_dropped page (moved_down dirty page i parts)).plan ∙ (plan_cleaned (Full i) there).plan ∙ (plan_frame_room parts).plan

  pub if_shown : (said dirty : Bool) → (said ≡ true → 1 ≤ parts.frames) → IsState (copy_dropped page (moved_if said dirty page i parts)) (rule.moved_if said dirty page (dropped page (state_of n parts)))
  if_shown true dirty some = moved_shown dirty (some refl)
  if_shown false true some =
      let passed = record parts { tally = one_pass parts.tally } in
      shown_at n (copy_dropped page (copy_passed (Full i) parts)) (counting one_pass (dropped page (state_of n parts)))
      (ap (state_of n) (dropped_cleaned (Full i) page passed here) ∙ state_dropped n page passed s.stands.agrees)
      (draws_dropped page (copy_passed (Full i) parts) ∙ after.draws ∙ ap (λ (plan : Plan). generator_after plan.seed n) (sym (plan_dropped page (copy_passed (Full i) parts)).plan))
  if_shown false false some =
      shown_at n (copy_dropped page parts) (dropped page (state_of n parts)) (state_dropped n page parts s.stands.agrees)
      (draws_dropped page parts ∙ after.draws ∙ ap (λ (plan : Plan). generator_after plan.seed n) (sym (plan_dropped page parts).plan))
