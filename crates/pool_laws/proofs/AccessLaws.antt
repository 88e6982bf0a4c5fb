-- No rule but the beginning of an access reads which access is open.
use Rattle.std.proofs.Common.{◌≡◌, ℕ, zero, suc, Bool, true, false, refl, ap, ◌∙◌}
use Rattle.std.specs.Prelude.{Option, Some, None}
use Rattle.tier_map.specs.declared.place.Place.{Place}
use Rattle.tier_map.specs.declared.place.Place.TheVariants.{Absent, Full, Mini}
use Rattle.clock_sweep.specs.Clock.{Swept, lowest_empty, victim, touched}
use Rattle.tier_rules.specs.Tallies.{dram_eviction, nvm_eviction, nvm_hit, one_fetch}
use Rattle.tier_rules.specs.Plans.{dram_question}
use Rattle.tier_rules.specs.State.{TierState, Room, counting, is_dirty}
use Rattle.tier_rules.specs.Storing.{dropped}
use Rattle.tier_rules.specs.NvmRoom.{released, nvm_evicted, nvm_room, room_in_nvm, installed, framed}
use Rattle.tier_rules.specs.FullRoom.{Answer, answered, draw, admission_by, admission, moved_down, moved_if, handed_down, given_up, full_evicted, full_room, room_in_full}
use Rattle.tier_rules.specs.Bringing.{DramRoom, fetched, mini_given_up, mini_evicted, mini_room, room_in_mini, room_by, room_in_dram, copied, brought_to, brought, brought_through, brought_past}
use Rattle.tier_rules.specs.Entering.{brought_if, framed_if, through_nvm, read_in, entered_at}

-- the state with this access open, and rooms in it
abbrev pub with : Option (ℕ × Bool) → TierState → TierState
with a s = record s { access = a }

abbrev room_with : Option (ℕ × Bool) → Room → Room
room_with a room = record { place = room.place; state = with a room.state }

abbrev dram_with : Option (ℕ × Bool) → DramRoom → DramRoom
dram_with a room = record { place = room.place; state = with a room.state }

module _ (a : Option (ℕ × Bool)) where
  with_released : (o : Option ℕ) (s : TierState) → released o (with a s) ≡ with a (released o s)
  with_released None s = refl
  with_released (Some page) s = refl

  with_nvm_evicted : (o : Option Swept) (s : TierState) → nvm_evicted o (with a s) ≡ room_with a (nvm_evicted o s)
  with_nvm_evicted None s = refl
  with_nvm_evicted (Some v) s =
      ap (λ (t : TierState). record { place = v.place; state = t }) (with_released (s.map.frame_page v.place) (counting nvm_eviction (record s { nvm_clock = v.clock })))

  with_nvm_room : (o : Option ℕ) (s : TierState) → nvm_room o (with a s) ≡ room_with a (nvm_room o s)
  with_nvm_room (Some k) s = refl
  with_nvm_room None s = with_nvm_evicted (victim s.nvm_clock) s

  with_room_in_nvm : (s : TierState) → room_in_nvm (with a s) ≡ room_with a (room_in_nvm s)
  unfolding room_in_nvm
  with_room_in_nvm s = with_nvm_room (lowest_empty s.nvm_clock) s

  with_installed : (page k : ℕ) (dirty : Bool) (s : TierState) → installed page k dirty (with a s) ≡ with a (installed page k dirty s)
  unfolding installed
  with_installed page k dirty s = refl

  with_framed : (page : ℕ) (s : TierState) → framed page (with a s) ≡ with a (framed page s)
  unfolding framed
  with_framed page s =
      ap (λ (room : Room). installed page room.place false (counting one_fetch room.state)) (with_room_in_nvm s)
      ∙ with_installed page (room_in_nvm s).place false (counting one_fetch (room_in_nvm s).state)

  with_moved_down : (dirty : Bool) (page : ℕ) (s : TierState) → moved_down dirty page (with a s) ≡ with a (moved_down dirty page s)
  unfolding moved_down
  with_moved_down dirty page s =
      ap (λ (room : Room). installed page room.place dirty room.state) (with_room_in_nvm s) ∙ with_installed page (room_in_nvm s).place dirty (room_in_nvm s).state

  with_moved_if : (said dirty : Bool) (page : ℕ) (s : TierState) → moved_if said dirty page (with a s) ≡ with a (moved_if said dirty page s)
  with_moved_if true dirty page s = with_moved_down dirty page s
  with_moved_if false true page s = refl
  with_moved_if false false page s = refl

  with_admission_by : (f len : ℕ) (dirty : Bool) (page : ℕ) (s : TierState) → admission_by f len dirty page (with a s) ≡ admission_by f len dirty page s
  with_admission_by zero len dirty page s = refl
  with_admission_by (suc f) zero false page s = refl
  with_admission_by (suc f) zero true page s = refl
  with_admission_by (suc f) (suc len) dirty page s = refl

  with_admission : (dirty : Bool) (page : ℕ) (s : TierState) → admission dirty page (with a s) ≡ admission dirty page s
  unfolding admission
  with_admission dirty page s = with_admission_by s.frames s.plan.queue_len dirty page s

  with_handed : (o : Option ℕ) (dirty : Bool) (page : ℕ) (s : TierState) → handed_down o dirty page (with a s) ≡ with a (handed_down o dirty page s)
  with_handed (Some k) dirty page s = refl
  with_handed None dirty page s =
      ap (λ (answer : Answer). moved_if answer.yes dirty page (answered answer (with a s))) (with_admission dirty page s)
      ∙ with_moved_if (admission dirty page s).yes dirty page (answered (admission dirty page s) s)

  with_given_up : (o : Option ℕ) (s : TierState) → given_up o (with a s) ≡ with a (given_up o s)
  with_given_up None s = refl
  with_given_up (Some page) s = with_handed (s.map.nvm page) (is_dirty page s) page (dropped page s)

  with_full_evicted : (o : Option Swept) (s : TierState) → full_evicted o (with a s) ≡ room_with a (full_evicted o s)
  with_full_evicted None s = refl
  with_full_evicted (Some v) s =
      ap (λ (t : TierState). record { place = v.place; state = t }) (with_given_up (s.map.full_page v.place) (counting dram_eviction (record s { full_clock = v.clock })))

  with_full_room : (o : Option ℕ) (s : TierState) → full_room o (with a s) ≡ room_with a (full_room o s)
  with_full_room (Some i) s = refl
  with_full_room None s = with_full_evicted (victim s.full_clock) s

  with_room_in_full : (s : TierState) → room_in_full (with a s) ≡ room_with a (room_in_full s)
  unfolding room_in_full
  with_room_in_full s = with_full_room (lowest_empty s.full_clock) s

  with_mini_given_up : (o : Option ℕ) (s : TierState) → mini_given_up o (with a s) ≡ with a (mini_given_up o s)
  with_mini_given_up None s = refl
  with_mini_given_up (Some page) s = refl

  with_mini_evicted : (o : Option Swept) (s : TierState) → mini_evicted o (with a s) ≡ room_with a (mini_evicted o s)
  with_mini_evicted None s = refl
  with_mini_evicted (Some v) s =
      ap (λ (t : TierState). record { place = v.place; state = t }) (with_mini_given_up (s.map.mini_owner v.place) (counting dram_eviction (record s { mini_clock = v.clock })))

  with_mini_room : (o : Option ℕ) (s : TierState) → mini_room o (with a s) ≡ room_with a (mini_room o s)
  with_mini_room (Some j) s = refl
  with_mini_room None s = with_mini_evicted (victim s.mini_clock) s

  with_room_in_mini : (s : TierState) → room_in_mini (with a s) ≡ room_with a (room_in_mini s)
  unfolding room_in_mini
  with_room_in_mini s = with_mini_room (lowest_empty s.mini_clock) s

  with_room_by : (minis : ℕ) (s : TierState) → room_by minis (with a s) ≡ dram_with a (room_by minis s)
  with_room_by zero s = ap (λ (room : Room). record { place = Full room.place; state = room.state }) (with_room_in_full s)
  with_room_by (suc minis) s = ap (λ (room : Room). record { place = Mini room.place; state = room.state }) (with_room_in_mini s)

  with_room_in_dram : (s : TierState) → room_in_dram (with a s) ≡ dram_with a (room_in_dram s)
  unfolding room_in_dram
  with_room_in_dram s = with_room_by s.plan.minis s

  with_copied : (page : ℕ) (place : Place) (s : TierState) → copied page place (with a s) ≡ with a (copied page place s)
  unfolding copied
  with_copied page place s = refl

  with_fetched : (page i : ℕ) (s : TierState) → fetched page i (with a s) ≡ with a (fetched page i s)
  unfolding fetched
  with_fetched page i s = refl

  with_brought_to : (o : Option ℕ) (page : ℕ) (place : Place) (s : TierState) → brought_to o page place (with a s) ≡ with a (brought_to o page place s)
  with_brought_to (Some k) page place s = with_copied page place s
  with_brought_to None page (Full i) s = with_fetched page i s
  with_brought_to None page (Mini j) s = refl
  with_brought_to None page Absent s = refl

  with_brought : (page : ℕ) (s : TierState) → brought page (with a s) ≡ with a (brought page s)
  unfolding brought
  with_brought page s =
      ap (λ (room : DramRoom). brought_to (room.state.map.nvm page) page room.place room.state) (with_room_in_dram s)
      ∙ with_brought_to ((room_in_dram s).state.map.nvm page) page (room_in_dram s).place (room_in_dram s).state

  with_brought_through : (page : ℕ) (s : TierState) → brought_through page (with a s) ≡ with a (brought_through page s)
  unfolding brought_through
  with_brought_through page s =
      ap (λ (room : DramRoom). copied page room.place (framed page room.state)) (with_room_in_dram s)
      ∙ ap (copied page (room_in_dram s).place) (with_framed page (room_in_dram s).state)
      ∙ with_copied page (room_in_dram s).place (framed page (room_in_dram s).state)

  with_brought_past : (page : ℕ) (s : TierState) → brought_past page (with a s) ≡ with a (brought_past page s)
  unfolding brought_past
  with_brought_past page s = ap (λ (room : Room). fetched page room.place room.state) (with_room_in_full s) ∙ with_fetched page (room_in_full s).place (room_in_full s).state

  with_brought_if : (said : Bool) (page : ℕ) (s : TierState) → brought_if said page (with a s) ≡ with a (brought_if said page s)
  with_brought_if true page s = with_brought page s
  with_brought_if false page s = refl

  with_framed_if : (said : Bool) (page : ℕ) (s : TierState) → framed_if said page (with a s) ≡ with a (framed_if said page s)
  with_framed_if true page s = with_brought_through page s
  with_framed_if false page s = with_framed page s

  with_read_in : (said : Bool) (page : ℕ) (writes : Bool) (s : TierState) → read_in said page writes (with a s) ≡ with a (read_in said page writes s)
  with_read_in false page writes s = with_brought_past page s
  with_read_in true page writes s = let answer = draw (dram_question writes) s in with_framed_if answer.yes page (answered answer s)

  with_through : (f page : ℕ) (writes : Bool) (s : TierState) → (let answer = through_nvm f (with a s) in read_in answer.yes page writes (answered answer (with a s)))
      ≡ with a (let answer = through_nvm f s in read_in answer.yes page writes (answered answer s))
  with_through zero page writes s = with_read_in false page writes s
  with_through (suc f) page writes s = let answer = through_nvm (suc f) s in with_read_in answer.yes page writes (answered answer s)

  pub with_entered_at : (place : Place) (o : Option ℕ) (page : ℕ) (writes : Bool) (s : TierState) → entered_at place o page writes (with a s) ≡ with a (entered_at place o page writes s)
  with_entered_at (Full i) o page writes s = refl
  with_entered_at (Mini j) o page writes s = refl
  with_entered_at Absent (Some k) page writes s =
      let t = counting nvm_hit (record s { nvm_clock = touched k s.nvm_clock }) in
      let answer = draw (dram_question writes) s in
      with_brought_if answer.yes page (answered answer t)
  with_entered_at Absent None page writes s = with_through s.frames page writes s
