-- How a page comes to DRAM.
use Rattle.std.specs.Prelude.{ℕ, zero, suc, Option, Some, None}
use Rattle.tier_map.specs.declared.place.Place.{Place}
use Rattle.tier_map.specs.declared.place.Place.TheVariants.{Absent, Full, Mini}
use Rattle.page_frame.specs.LineSets.{no_lines, all_lines}
use Rattle.tier_map.specs.Placement.{Placement, changed, full_of, mini_of, with_full, with_mini}
use Rattle.tier_rules.specs.Clocks.{inserted_if}
use Rattle.clock_sweep.specs.Clock.{Swept, lowest_empty, victim, inserted}
use Rattle.tier_rules.specs.Tallies.{one_fetch, dram_load, dram_eviction}
use Rattle.tier_rules.specs.State.{TierState, Room, counting, is_dirty}
use Rattle.tier_rules.specs.Storing.{stored_back, dropped}
use Rattle.tier_rules.specs.NvmRoom.{framed}
use Rattle.tier_rules.specs.FullRoom.{room_in_full}

-- Fetching: the page is read from its home block into full place i, whole and clean.
unfoldable pub fetched : ℕ → ℕ → TierState → TierState
fetched page i s = counting one_fetch (record s {
  map = with_full page i s.map;
  resident = changed page all_lines s.resident;
  dirty = changed page no_lines s.dirty;
  full_clock = inserted i s.full_clock;
})

abbrev pub mini_given_up : Option ℕ → TierState → TierState
mini_given_up None s = s
mini_given_up (Some page) s = stored_back (s.map.nvm page) (is_dirty page s) (dropped page s)

abbrev pub mini_evicted : Option Swept → TierState → Room
mini_evicted None s = record { place = 0; state = s }
mini_evicted (Some v) s = record {
  place = v.place;
  state = mini_given_up (s.map.mini_owner v.place) (counting dram_eviction (record s { mini_clock = v.clock }));
}

abbrev pub mini_room : Option ℕ → TierState → Room
mini_room (Some j) s = record { place = j; state = s }
mini_room None s = mini_evicted (victim s.mini_clock) s

-- Room for a mini copy: the lowest empty place, or else that of a victim, which is evicted.
unfoldable pub room_in_mini : TierState → Room
room_in_mini s = mini_room (lowest_empty s.mini_clock) s

-- room in DRAM, and the state in which it is
pub record DramRoom : Type 0 where
  pub place : Place
  pub state : TierState

abbrev pub room_by : ℕ → TierState → DramRoom
room_by zero s = let room = room_in_full s in record { place = Full room.place; state = room.state }
room_by (suc minis) s = let room = room_in_mini s in record { place = Mini room.place; state = room.state }

-- Room for a copy over an NVM frame: a mini page, or a full place where there are no mini pages.
unfoldable pub room_in_dram : TierState → DramRoom
room_in_dram s = room_by s.plan.minis s

abbrev pub placed : Place → ℕ → Placement → Placement
placed Absent page m = m
placed (Full i) page m = with_full page i m
placed (Mini j) page m = with_mini page j m

-- The page gets a copy over its NVM frame, with no line.
unfoldable pub copied : ℕ → Place → TierState → TierState
copied page place s = record s {
  map = placed place page s.map;
  resident = changed page no_lines s.resident;
  dirty = changed page no_lines s.dirty;
  full_clock = inserted_if (full_of place) s.full_clock;
  mini_clock = inserted_if (mini_of place) s.mini_clock;
  tally = dram_load s.tally;
}

-- by the NVM frame that the page still has, and the room that was made
abbrev pub brought_to : Option ℕ → ℕ → Place → TierState → TierState
brought_to (Some k) page place s = copied page place s
brought_to None page (Full i) s = fetched page i s
brought_to None page (Mini j) s = s
brought_to None page Absent s = s

-- A page in NVM comes to DRAM; it is fetched where it lost its frame while room was made.
unfoldable pub brought : ℕ → TierState → TierState
brought page s = let room = room_in_dram s in brought_to (room.state.map.nvm page) page room.place room.state

-- A page on SSD comes to DRAM through NVM.
unfoldable pub brought_through : ℕ → TierState → TierState
brought_through page s = let room = room_in_dram s in copied page room.place (framed page room.state)

-- A page on SSD comes to DRAM past NVM.
unfoldable pub brought_past : ℕ → TierState → TierState
brought_past page s = let room = room_in_full s in fetched page room.place room.state
