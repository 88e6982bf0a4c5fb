-- Room for a full copy, and what becomes of the page that has to leave, by the fields.
use Rattle.std.specs.Prelude.{ℕ, Bool, true, false, not, ◌==◌, Option, Some, None}
use Rattle.rand_pcg.specs.Pcg.{pcg32}
use Rattle.migration_policy.specs.declared.policy.Question.{Question}
use Rattle.migration_policy.specs.declared.policy.Question.TheVariants.{NvmWrite}
use Rattle.migration_policy.specs.Policies.{rate}
use Rattle.migration_policy.specs.Draws.{says_yes}
use Rattle.migration_policy.specs.Admission.{is_queued, asked}
use Rattle.tier_map.specs.declared.place.Place.TheVariants.{Full}
use Rattle.page_frame.specs.LineSets.{no_lines}
use Rattle.clock_sweep.specs.Clock.{Swept, lowest_empty, victim}
use Rattle.tier_rules.specs.Tallies.{dram_eviction}
use Rattle.tier_rules.specs.Parts.{Parts, dirty_at}
use Rattle.tier_pool.specs.Places.{copy_dropped, copy_stored, copy_cleaned, copy_passed}
use Rattle.tier_pool.specs.NvmRoom.{PartsRoom, frame_room, page_installed}

-- an answer, and the fields after it
pub record PartsAnswer : Type 0 where
  pub yes : Bool
  pub parts : Parts

-- no question was put
abbrev pub plain_no : Parts → PartsAnswer
plain_no parts = record { yes = false; parts = parts }

-- one draw with the probability of this question
abbrev pub drawn : Question → Parts → PartsAnswer
drawn question parts = record {
  yes = says_yes (rate parts.plan.rates question) (pcg32 parts.draws).0;
  parts = record parts { draws = (pcg32 parts.draws).1 };
}

-- the admission queue was asked for a page
abbrev pub queued : ℕ → Parts → PartsAnswer
queued page parts = record {
  yes = is_queued page parts.queue;
  parts = record parts { queue = asked parts.plan.queue_len page parts.queue };
}

-- by whether the copy was dirty
abbrev pub drawn_if : Bool → Parts → PartsAnswer
drawn_if false parts = plain_no parts
drawn_if true parts = drawn NvmWrite parts

-- by whether there are no frames, whether there is no queue, and whether the copy was dirty
abbrev pub admission_by : Bool → Bool → Bool → ℕ → Parts → PartsAnswer
admission_by true no_queue dirty page parts = plain_no parts
admission_by false true dirty page parts = drawn_if dirty parts
admission_by false false dirty page parts = queued page parts

-- whether a page that has no frame is admitted to NVM
abbrev pub admitted : Bool → ℕ → Parts → PartsAnswer
admitted dirty page parts = admission_by (parts.frames == 0) (parts.plan.queue_len == 0) dirty page parts

-- the page of a full copy stands in a frame, which is dirty where the copy was
abbrev pub installed_in : PartsRoom → Bool → ℕ → ℕ → Parts
installed_in room dirty page i = copy_cleaned (Full i) (page_installed page room.place dirty room.parts)

abbrev pub moved_down : Bool → ℕ → ℕ → Parts → Parts
moved_down dirty page i parts = installed_in (frame_room parts) dirty page i

-- by the answer, and by whether the copy was dirty
abbrev pub moved_if : Bool → Bool → ℕ → ℕ → Parts → Parts
moved_if true dirty page i parts = moved_down dirty page i parts
moved_if false true page i parts = copy_passed (Full i) parts
moved_if false false page i parts = parts

abbrev pub moved_by : PartsAnswer → Bool → ℕ → ℕ → Parts
moved_by answer dirty page i = moved_if answer.yes dirty page i answer.parts

-- whether a full copy is dirty
abbrev pub full_dirty_at : ℕ → Parts → Bool
full_dirty_at i parts = not (dirty_at (Full i) parts.full_dirty parts.minis == no_lines)

-- where the lines of a full copy go: to its page's frame, to a new one, to its home block, or nowhere
abbrev pub handed_by : Option ℕ → ℕ → ℕ → Parts → Parts
handed_by (Some k) page i parts = copy_stored (Full i) k parts
handed_by None page i parts = moved_by (admitted (full_dirty_at i parts) page parts) (full_dirty_at i parts) page i

abbrev pub handed_down : ℕ → ℕ → Parts → Parts
handed_down page i parts = handed_by (parts.map.nvm page) page i parts

-- the page of a full place, if there is one, leaves it
abbrev pub full_left : Option ℕ → ℕ → Parts → Parts
full_left None i parts = parts
full_left (Some page) i parts = copy_dropped page (handed_down page i parts)

abbrev pub full_swept : Option Swept → Parts → PartsRoom
full_swept None parts = record { place = 0; parts = parts }
full_swept (Some v) parts = record { place = v.place; parts = record parts { full_clock = v.clock; tally = dram_eviction parts.tally } }

abbrev pub full_swept_left : PartsRoom → PartsRoom
full_swept_left room = record { place = room.place; parts = full_left (room.parts.map.full_page room.place) room.place room.parts }

abbrev pub full_room_by : Option ℕ → Parts → PartsRoom
full_room_by (Some i) parts = record { place = i; parts = parts }
full_room_by None parts = full_swept_left (full_swept (victim parts.full_clock) parts)

-- room for a full copy: the lowest empty place, or else that of a victim, which is evicted
abbrev pub full_room : Parts → PartsRoom
full_room parts = full_room_by (lowest_empty parts.full_clock) parts
