-- Places of copies, and what is changed at one.
use Rattle.std.specs.Prelude.{ℕ, ◌<◌, ⊤, Bool, true, false, ◌==◌, slice_set}
use Rattle.tier_map.specs.declared.place.Place.{Place}
use Rattle.tier_map.specs.declared.place.Place.TheVariants.{Absent, Full, Mini}
use Rattle.page_frame.specs.LineSets.{no_lines}
use Rattle.page_frame.specs.Frames.{empty_frame, with_frame}
use Rattle.mini_page.specs.MiniPages.{cleaned_mini, empty_mini, mini_changed, with_mini}
use Rattle.tier_map.specs.Placement.{without_dram}
use Rattle.clock_sweep.specs.Clock.{removed}
use Rattle.tier_rules.specs.Plans.{Plan}
use Rattle.tier_rules.specs.Tallies.{one_pass}
use Rattle.tier_rules.specs.Parts.{Parts, dirty_at}

-- the place is one that the plan has
abbrev pub IsPlace : Plan → Place → Type 0
IsPlace plan Absent = ⊤
IsPlace plan (Full i) = i < plan.dram_frames
IsPlace plan (Mini j) = j < plan.minis

-- no line of the copy at this place is dirty
abbrev pub copy_cleaned : Place → Parts → Parts
copy_cleaned Absent parts = parts
copy_cleaned (Full i) parts = record parts { full_dirty = slice_set parts.full_dirty i no_lines }
copy_cleaned (Mini j) parts = record parts { minis = mini_changed j cleaned_mini parts.minis }

-- nothing stands at this place
abbrev pub place_emptied : Place → Parts → Parts
place_emptied Absent parts = parts
place_emptied (Full i) parts = record parts {
  arena = with_frame i empty_frame parts.arena;
  full_dirty = slice_set parts.full_dirty i no_lines;
  full_clock = removed i parts.full_clock;
}
place_emptied (Mini j) parts = record parts {
  minis = with_mini j empty_mini parts.minis;
  mini_clock = removed j parts.mini_clock;
}

-- the page's copy is dropped
abbrev pub copy_dropped : ℕ → Parts → Parts
copy_dropped page parts = record (place_emptied (parts.map.place page) parts) { map = without_dram page parts.map }

-- the frame may differ from the home block of its page
abbrev pub frame_marked : ℕ → Parts → Parts
frame_marked k parts = record parts { frame_dirty = slice_set parts.frame_dirty k true }

-- by whether no line was dirty
abbrev pub stored_unless : Bool → Place → ℕ → Parts → Parts
stored_unless true place k parts = parts
stored_unless false place k parts = copy_cleaned place (frame_marked k parts)

-- the dirty lines of the copy are in its frame, which is dirty where there was one
abbrev pub copy_stored : Place → ℕ → Parts → Parts
copy_stored place k parts = stored_unless (dirty_at place parts.full_dirty parts.minis == no_lines) place k parts

-- the page of the copy passed through to its home block
abbrev pub copy_passed : Place → Parts → Parts
copy_passed place parts = copy_cleaned place (record parts { tally = one_pass parts.tally })
