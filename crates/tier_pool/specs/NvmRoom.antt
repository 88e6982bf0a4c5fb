-- Room in NVM, and what stands there, by the fields.
use Rattle.std.specs.Prelude.{ℕ, Bool, false, Option, Some, None, slice_set}
use Rattle.tier_map.specs.Placement.{with_nvm, without_nvm}
use Rattle.clock_sweep.specs.Clock.{Swept, lowest_empty, victim, inserted}
use Rattle.tier_rules.specs.Tallies.{nvm_install, nvm_eviction}
use Rattle.tier_rules.specs.Parts.{Parts}
use Rattle.tier_pool.specs.Places.{copy_dropped, copy_stored}

-- a place that was made free, and the fields in which it is
pub record PartsRoom : Type 0 where
  pub place : ℕ
  pub parts : Parts

-- the page's copy is dropped, with its dirty lines stored back to its frame
abbrev pub copy_given_up : ℕ → ℕ → Parts → Parts
copy_given_up page k parts = copy_dropped page (copy_stored (parts.map.place page) k parts)

-- the page leaves its frame
abbrev pub frame_left : ℕ → ℕ → Parts → Parts
frame_left page k parts = record parts { map = without_nvm page parts.map; frame_dirty = slice_set parts.frame_dirty k false }

-- the page of a frame that is a victim, if there is one, leaves it, and its copy is dropped
abbrev pub victim_left : Option ℕ → ℕ → Parts → Parts
victim_left None k parts = parts
victim_left (Some page) k parts = frame_left page k (copy_given_up page k parts)

abbrev pub frame_swept : Option Swept → Parts → PartsRoom
frame_swept None parts = record { place = 0; parts = parts }
frame_swept (Some v) parts = record { place = v.place; parts = record parts { nvm_clock = v.clock; tally = nvm_eviction parts.tally } }

abbrev pub swept_left : PartsRoom → PartsRoom
swept_left room = record { place = room.place; parts = victim_left (room.parts.map.frame_page room.place) room.place room.parts }

abbrev pub frame_room_by : Option ℕ → Parts → PartsRoom
frame_room_by (Some k) parts = record { place = k; parts = parts }
frame_room_by None parts = swept_left (frame_swept (victim parts.nvm_clock) parts)

-- room in NVM: the lowest empty frame, or else that of a victim, which is released
abbrev pub frame_room : Parts → PartsRoom
frame_room parts = frame_room_by (lowest_empty parts.nvm_clock) parts

-- the page stands in a frame, which is dirty or not
abbrev pub page_installed : ℕ → ℕ → Bool → Parts → Parts
page_installed page k dirty parts = record parts {
  map = with_nvm page k parts.map;
  frame_dirty = slice_set parts.frame_dirty k dirty;
  nvm_clock = inserted k parts.nvm_clock;
  tally = nvm_install parts.tally;
}
