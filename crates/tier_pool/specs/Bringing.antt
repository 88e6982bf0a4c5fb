-- How a page comes to DRAM, by the fields.
use Rattle.std.specs.Prelude.{◌≡◌, ℕ, List, Option, Some, None, Bool, true, false, ◌==◌, ⊤}
use Rattle.tier_map.specs.declared.place.Place.{Place}
use Rattle.tier_map.specs.declared.place.Place.TheVariants.{Absent, Full, Mini}
use Rattle.tier_map.specs.Placement.{Placement, with_full, with_mini}
use Rattle.page_frame.specs.Frames.{filled, lines_of_page, with_frame}
use Rattle.clock_sweep.specs.Clock.{Swept, lowest_empty, victim, inserted}
use Rattle.tier_rules.specs.Tallies.{dram_eviction, dram_load, one_fetch}
use Rattle.tier_rules.specs.Parts.{Parts}
use Rattle.tier_pool.specs.FullRoom.{full_room}
use Rattle.tier_pool.specs.NvmRoom.{PartsRoom, copy_given_up, frame_room, page_installed}

-- the page's copy is in a full place, or in a mini place, with what lines stand there
abbrev pub full_placed : ℕ → ℕ → Parts → Parts
full_placed page i parts = record parts { map = with_full page i parts.map; full_clock = inserted i parts.full_clock }

abbrev pub mini_placed : ℕ → ℕ → Parts → Parts
mini_placed page j parts = record parts { map = with_mini page j parts.map; mini_clock = inserted j parts.mini_clock }

-- the page's home block was read
abbrev pub block_fetched : Parts → Parts
block_fetched parts = record parts { tally = one_fetch parts.tally }

-- the lines of these bytes stand in a full place
abbrev pub place_filled : ℕ → List ℕ → Parts → Parts
place_filled i bytes parts = record parts { arena = with_frame i (filled (lines_of_page bytes)) parts.arena }

-- the page was fetched into a full place: with some bytes, those of its home block
pub record FetchedInto (page i : ℕ) (old new : Parts) : Type 0 where
  pub bytes : List ℕ
  pub is : new ≡ full_placed page i (place_filled i bytes (block_fetched old))

abbrev pub mini_given_up : Option ℕ → ℕ → Parts → Parts
mini_given_up None page parts = parts
mini_given_up (Some k) page parts = copy_given_up page k parts

-- the page of a mini place, if there is one, leaves it
abbrev pub mini_left : Option ℕ → Parts → Parts
mini_left None parts = parts
mini_left (Some page) parts = mini_given_up (parts.map.nvm page) page parts

abbrev pub mini_swept : Option Swept → Parts → PartsRoom
mini_swept None parts = record { place = 0; parts = parts }
mini_swept (Some v) parts = record { place = v.place; parts = record parts { mini_clock = v.clock; tally = dram_eviction parts.tally } }

abbrev pub mini_swept_left : PartsRoom → PartsRoom
mini_swept_left room = record { place = room.place; parts = mini_left (room.parts.map.mini_owner room.place) room.parts }

abbrev pub mini_room_by : Option ℕ → Parts → PartsRoom
mini_room_by (Some j) parts = record { place = j; parts = parts }
mini_room_by None parts = mini_swept_left (mini_swept (victim parts.mini_clock) parts)

-- room for a mini copy: the lowest empty place, or else that of a victim, which is evicted
abbrev pub mini_room : Parts → PartsRoom
mini_room parts = mini_room_by (lowest_empty parts.mini_clock) parts

-- the page was fetched and stands in a clean frame
abbrev pub fetched_to_frame : ℕ → ℕ → Parts → Parts
fetched_to_frame page k parts = page_installed page k false (block_fetched parts)

abbrev pub fetched_to_nvm : ℕ → Parts → Parts
fetched_to_nvm page parts = let room = frame_room parts in fetched_to_frame page room.place room.parts

-- the page gets a copy over its frame, with what lines stand at the place
abbrev pub placed_at : Place → ℕ → Parts → Parts
placed_at Absent page parts = parts
placed_at (Full i) page parts = full_placed page i parts
placed_at (Mini j) page parts = mini_placed page j parts

abbrev pub copied_to : Place → ℕ → Parts → Parts
copied_to place page parts = placed_at place page (record parts { tally = dram_load parts.tally })

-- a place and the fields in which it is free
pub record PartsPlace : Type 0 where
  pub place : Place
  pub parts : Parts

abbrev pub full_place : PartsRoom → PartsPlace
full_place room = record { place = Full room.place; parts = room.parts }

abbrev pub mini_place : PartsRoom → PartsPlace
mini_place room = record { place = Mini room.place; parts = room.parts }

-- by whether there are mini places
abbrev pub dram_room_by : Bool → Parts → PartsPlace
dram_room_by true parts = full_place (full_room parts)
dram_room_by false parts = mini_place (mini_room parts)

-- room for a copy over a frame: a mini place, or a full one where there are no mini places
abbrev pub dram_room : Parts → PartsPlace
dram_room parts = dram_room_by (parts.plan.minis == 0) parts

-- no page has the place
abbrev pub IsFree : Placement → Place → Type 0
IsFree m Absent = ⊤
IsFree m (Full i) = m.full_page i ≡ None
IsFree m (Mini j) = m.mini_owner j ≡ None

-- by the frame that the page still has, and the room that was made
abbrev pub BroughtTo : Option ℕ → ℕ → Place → Parts → Parts → Type 0
BroughtTo (Some k) page place old new = new ≡ copied_to place page old
BroughtTo None page (Full i) old new = FetchedInto page i old new
BroughtTo None page (Mini j) old new = new ≡ old
BroughtTo None page Absent old new = new ≡ old

-- the page came to DRAM, and its copy is in this place
pub record Brought (page : ℕ) (at : Place) (old new : Parts) : Type 0 where
  pub room : PartsPlace
  pub made : dram_room old ≡ room
  pub place : at ≡ room.place
  pub is : BroughtTo (room.parts.map.nvm page) page room.place room.parts new

-- the page was fetched to a frame, and its copy over it is in this place
abbrev pub brought_through : ℕ → Parts → PartsPlace
brought_through page parts = let room = dram_room parts in
    record { place = room.place; parts = copied_to room.place page (fetched_to_nvm page room.parts) }
