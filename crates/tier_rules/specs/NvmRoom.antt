-- Room in NVM, and what stands there.
use Rattle.std.specs.Prelude.{ℕ, Bool, false, Option, Some, None}
use Rattle.tier_map.specs.Placement.{changed, with_nvm}
use Rattle.clock_sweep.specs.Clock.{Swept, lowest_empty, victim, inserted}
use Rattle.tier_rules.specs.Tallies.{one_fetch, nvm_install, nvm_eviction}
use Rattle.tier_rules.specs.State.{TierState, Room, counting, is_dirty}
use Rattle.tier_rules.specs.Storing.{stored_back, dropped, frame_emptied}

-- The page leaves its NVM frame. Its DRAM copy goes first, with its dirty lines stored back.
abbrev pub released : Option ℕ → TierState → TierState
released None s = s
released (Some page) s = frame_emptied page (stored_back (s.map.nvm page) (is_dirty page s) (dropped page s))

abbrev pub nvm_evicted : Option Swept → TierState → Room
nvm_evicted None s = record { place = 0; state = s }
nvm_evicted (Some v) s = record {
  place = v.place;
  state = released (s.map.frame_page v.place) (counting nvm_eviction (record s { nvm_clock = v.clock }));
}

abbrev pub nvm_room : Option ℕ → TierState → Room
nvm_room (Some k) s = record { place = k; state = s }
nvm_room None s = nvm_evicted (victim s.nvm_clock) s

-- Room in NVM: the lowest empty frame, or else the frame of a victim, which is released.
unfoldable pub room_in_nvm : TierState → Room
room_in_nvm s = nvm_room (lowest_empty s.nvm_clock) s

-- The page is installed in frame k, which is dirty or not.
unfoldable pub installed : ℕ → ℕ → Bool → TierState → TierState
installed page k dirty s = counting nvm_install (record s {
  map = with_nvm page k s.map;
  frame_dirty = changed k dirty s.frame_dirty;
  nvm_clock = inserted k s.nvm_clock;
})

-- The page is fetched and installed as a clean frame.
unfoldable pub framed : ℕ → TierState → TierState
framed page s = let room = room_in_nvm s in installed page room.place false (counting one_fetch room.state)
