-- The state of the three tiers.
use Rattle.std.specs.Prelude.{ℕ, Bool, not, ◌==◌, List, Option}
use Rattle.tier_rules.specs.declared.tally.Tally.{Tally}
use Rattle.tier_map.specs.Placement.{Placement}
use Rattle.tier_rules.specs.Plans.{Plan}
use Rattle.clock_sweep.specs.Clock.{Circle}
use Rattle.page_frame.specs.LineSets.{no_lines}

-- `access` is the page of the open access and whether it writes. `resident` and `dirty` give the sets of
-- lines of a page's DRAM copy, both empty where it has none. `frame_dirty` says of an NVM frame whether it
-- may differ from the home block. `frames` is the number of NVM frames, and
-- `drawn` that of the words drawn so far.
pub record TierState : Type 0 where
  pub plan : Plan
  pub frames : ℕ
  pub access : Option (ℕ × Bool)
  pub map : Placement
  pub resident : ℕ → ℕ
  pub dirty : ℕ → ℕ
  pub frame_dirty : ℕ → Bool
  pub full_clock : Circle
  pub mini_clock : Circle
  pub nvm_clock : Circle
  pub queue : List ℕ
  pub drawn : ℕ
  pub tally : Tally

-- the state with something counted
abbrev pub counting : (Tally → Tally) → TierState → TierState
counting rise s = record s { tally = rise s.tally }

-- whether a page's DRAM copy is dirty
abbrev pub is_dirty : ℕ → TierState → Bool
is_dirty page s = not (s.dirty page == no_lines)

-- a place that was made free, and the state in which it is
pub record Room : Type 0 where
  pub place : ℕ
  pub state : TierState
