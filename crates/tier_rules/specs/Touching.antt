-- A touch of one line in an access.
use Rattle.std.specs.Prelude.{ℕ, Bool, true, false, nat_lt, Option, Some, None}
use Rattle.tier_map.specs.declared.place.Place.{Place}
use Rattle.tier_map.specs.declared.place.Place.TheVariants.{Absent, Full, Mini}
use Rattle.page_frame.specs.LineSets.{has_line, with_line, line_count}
use Rattle.tier_map.specs.Placement.{changed, mini_of, with_full, without_dram}
use Rattle.tier_rules.specs.Clocks.{removed_if}
use Rattle.clock_sweep.specs.Clock.{inserted}
use Rattle.tier_rules.specs.Tallies.{lines_loaded, one_promotion}
use Rattle.tier_rules.specs.State.{TierState, counting}
use Rattle.tier_rules.specs.FullRoom.{room_in_full}
use Rattle.tier_rules.specs.Bringing.{fetched}

-- a line is loaded from the NVM frame to the copy
abbrev pub loaded : ℕ → ℕ → TierState → TierState
loaded page l s = counting (lines_loaded 1) (record s { resident = changed page (with_line (s.resident page) l) s.resident })

-- the lines of the page's mini copy move to full place i
abbrev pub promoted : ℕ → ℕ → TierState → TierState
promoted page i s = counting one_promotion (record s {
  map = with_full page i (without_dram page s.map);
  mini_clock = removed_if (mini_of (s.map.place page)) s.mini_clock;
  full_clock = inserted i s.full_clock;
})

-- by the copy that the page still has once room i was made
abbrev pub promoted_to : Place → ℕ → ℕ → ℕ → TierState → TierState
promoted_to (Mini j) page l i s = loaded page l (promoted page i s)
promoted_to Absent page l i s = fetched page i s
promoted_to (Full h) page l i s = s

-- A mini page has no room for a further line: the copy becomes a full one, which then gets the line. The page is
-- fetched where it lost its frame, and with it its copy, while room was made.
unfoldable pub outgrown : ℕ → ℕ → TierState → TierState
outgrown page l s = let room = room_in_full s in promoted_to (room.state.map.place page) page l room.place room.state

-- by whether the line is there, and whether a mini page has room for it
abbrev pub mini_touched : Bool → Bool → ℕ → ℕ → TierState → TierState
mini_touched true fits page l s = s
mini_touched false true page l s = loaded page l s
mini_touched false false page l s = outgrown page l s

abbrev pub full_touched : Bool → ℕ → ℕ → TierState → TierState
full_touched true page l s = s
full_touched false page l s = loaded page l s

abbrev pub ready_at : Place → ℕ → ℕ → TierState → TierState
ready_at Absent page l s = s
ready_at (Full i) page l s = full_touched (has_line (s.resident page) l) page l s
ready_at (Mini j) page l s = mini_touched (has_line (s.resident page) l) (nat_lt (line_count (s.resident page)) 16) page l s

-- The line is resident in the page's copy. In place there is nothing to do.
unfoldable pub made_ready : ℕ → ℕ → TierState → TierState
made_ready page l s = ready_at (s.map.place page) page l s

abbrev pub marked_frame : Option ℕ → TierState → TierState
marked_frame None s = s
marked_frame (Some k) s = record s { frame_dirty = changed k true s.frame_dirty }

abbrev pub marked_line : ℕ → ℕ → TierState → TierState
marked_line page l s = record s { dirty = changed page (with_line (s.dirty page) l) s.dirty }

abbrev pub marked_at : Place → ℕ → ℕ → TierState → TierState
marked_at Absent page l s = marked_frame (s.map.nvm page) s
marked_at (Full i) page l s = marked_line page l s
marked_at (Mini j) page l s = marked_line page l s

-- A write is complete: the line is dirty in the copy, or in place the frame is.
unfoldable pub marked : ℕ → ℕ → TierState → TierState
marked page l s = marked_at (s.map.place page) page l s
