-- How a copy leaves DRAM, and where its dirty lines go. A copy is dropped first; what is done with its lines is
-- then said by whether it was dirty.
use Rattle.std.specs.Prelude.{ℕ, Bool, false, ◌||◌, Option, Some, None}
use Rattle.page_frame.specs.LineSets.{no_lines}
use Rattle.tier_map.specs.Placement.{changed, full_of, mini_of, without_dram, without_nvm}
use Rattle.tier_rules.specs.Clocks.{removed_if}
use Rattle.tier_rules.specs.Tallies.{one_pass}
use Rattle.tier_rules.specs.State.{TierState, counting}

abbrev pub dirtied : Option ℕ → Bool → (ℕ → Bool) → ℕ → Bool
dirtied None dirty marks = marks
dirtied (Some k) dirty marks = changed k (marks k || dirty) marks

-- Storing back: the dirty lines of a copy are stored to its NVM frame, which is dirty where there was one.
abbrev pub stored_back : Option ℕ → Bool → TierState → TierState
stored_back frame dirty s = record s { frame_dirty = dirtied frame dirty s.frame_dirty }

-- Passing through: a page is written to its home block by the pass-through frame.
abbrev pub passed_through : TierState → TierState
passed_through s = counting one_pass s

-- The page's DRAM copy, full or mini, is dropped.
abbrev pub dropped : ℕ → TierState → TierState
dropped page s = record s {
  map = without_dram page s.map;
  resident = changed page no_lines s.resident;
  dirty = changed page no_lines s.dirty;
  full_clock = removed_if (full_of (s.map.place page)) s.full_clock;
  mini_clock = removed_if (mini_of (s.map.place page)) s.mini_clock;
}

abbrev pub undirtied : Option ℕ → (ℕ → Bool) → ℕ → Bool
undirtied None marks = marks
undirtied (Some k) marks = changed k false marks

-- The page's NVM frame is empty.
abbrev pub frame_emptied : ℕ → TierState → TierState
frame_emptied page s = record s { map = without_nvm page s.map; frame_dirty = undirtied (s.map.nvm page) s.frame_dirty }
