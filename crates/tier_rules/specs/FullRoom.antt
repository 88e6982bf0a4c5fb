-- Room for a full copy, and what becomes of the page that has to leave.
use Rattle.std.specs.Prelude.{ℕ, zero, suc, Bool, true, false, List, Option, Some, None}
use Rattle.migration_policy.specs.declared.policy.Question.{Question}
use Rattle.migration_policy.specs.declared.policy.Question.TheVariants.{NvmWrite}
use Rattle.migration_policy.specs.Policies.{rate}
use Rattle.migration_policy.specs.Draws.{word, says_yes}
use Rattle.migration_policy.specs.Admission.{is_queued, asked}
use Rattle.clock_sweep.specs.Clock.{Swept, lowest_empty, victim}
use Rattle.tier_rules.specs.Tallies.{dram_eviction}
use Rattle.tier_rules.specs.State.{TierState, Room, counting, is_dirty}
use Rattle.tier_rules.specs.Storing.{stored_back, passed_through, dropped}
use Rattle.tier_rules.specs.NvmRoom.{room_in_nvm, installed}

-- An answer, and what it used up: the number of words drawn, and the queue.
pub record Answer : Type 0 where
  pub yes : Bool
  pub drawn : ℕ
  pub queue : List ℕ

-- no question was put
abbrev pub plain_no : TierState → Answer
plain_no s = record { yes = false; drawn = s.drawn; queue = s.queue }

-- one draw with the probability of this question
abbrev pub draw : Question → TierState → Answer
draw question s = record {
  yes = says_yes (rate s.plan.rates question) (word s.plan.seed s.drawn);
  drawn = suc s.drawn;
  queue = s.queue;
}

-- the admission queue is asked for a page
abbrev pub ask : ℕ → TierState → Answer
ask page s = record {
  yes = is_queued page s.queue;
  drawn = s.drawn;
  queue = asked s.plan.queue_len page s.queue;
}

-- the state after an answer
abbrev pub answered : Answer → TierState → TierState
answered answer s = record s { drawn = answer.drawn; queue = answer.queue }

-- by the number of NVM frames, the length of the queue, and whether the copy was dirty
abbrev pub admission_by : ℕ → ℕ → Bool → ℕ → TierState → Answer
admission_by zero len dirty page s = plain_no s
admission_by (suc f) zero false page s = plain_no s
admission_by (suc f) zero true page s = draw NvmWrite s
admission_by (suc f) (suc len) dirty page s = ask page s

-- Whether a page that has no NVM frame is admitted to NVM, by whether its copy was dirty.
unfoldable pub admission : Bool → ℕ → TierState → Answer
admission dirty page s = admission_by s.frames s.plan.queue_len dirty page s

-- The page gets an NVM frame, which is dirty where its copy was.
unfoldable pub moved_down : Bool → ℕ → TierState → TierState
moved_down dirty page s = let room = room_in_nvm s in installed page room.place dirty room.state

-- by the answer, and by whether the copy was dirty
abbrev pub moved_if : Bool → Bool → ℕ → TierState → TierState
moved_if true dirty page s = moved_down dirty page s
moved_if false true page s = passed_through s
moved_if false false page s = s

-- Where the lines of a dropped copy go: to its NVM frame, to a new one, to its home block, or nowhere.
abbrev pub handed_down : Option ℕ → Bool → ℕ → TierState → TierState
handed_down (Some k) dirty page s = stored_back (Some k) dirty s
handed_down None dirty page s = let answer = admission dirty page s in moved_if answer.yes dirty page (answered answer s)

abbrev pub given_up : Option ℕ → TierState → TierState
given_up None s = s
given_up (Some page) s = handed_down (s.map.nvm page) (is_dirty page s) page (dropped page s)

abbrev pub full_evicted : Option Swept → TierState → Room
full_evicted None s = record { place = 0; state = s }
full_evicted (Some v) s = record {
  place = v.place;
  state = given_up (s.map.full_page v.place) (counting dram_eviction (record s { full_clock = v.clock }));
}

abbrev pub full_room : Option ℕ → TierState → Room
full_room (Some i) s = record { place = i; state = s }
full_room None s = full_evicted (victim s.full_clock) s

-- Room for a full copy: the lowest empty place, or else that of a victim, which is evicted.
unfoldable pub room_in_full : TierState → Room
room_in_full s = full_room (lowest_empty s.full_clock) s
