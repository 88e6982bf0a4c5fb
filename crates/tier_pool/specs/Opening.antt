-- How the tiers are made, by the fields.
use Rattle.std.specs.Prelude.{◌≡◌, ℕ, zero, suc, ◌<◌, true, false, Option, None, Some, List, [], replicate, slice_index, slice_set}
use Rattle.nvm_layout.specs.declared.geometry.Geometry.{Geometry}
use Rattle.migration_policy.specs.declared.policy.Policy.{Policy}
use Rattle.tier_pool.specs.declared.pool.TierPool.{TierPool}
use Rattle.page_frame.specs.LineSets.{no_lines}
use Rattle.page_frame.specs.Frames.{empty_frame}
use Rattle.mini_page.specs.MiniPages.{empty_mini}
use Rattle.clock_sweep.specs.Clock.{new_clock, inserted}
use Rattle.migration_policy.specs.Draws.{generator}
use Rattle.tier_map.specs.Placement.{nothing_placed, with_nvm}
use Rattle.tier_rules.specs.Plans.{Plan}
use Rattle.tier_rules.specs.Tallies.{zero_tally}
use Rattle.tier_rules.specs.Opening.{named_page}
use Rattle.tier_rules.specs.Parts.{Parts}

-- each entry names a page of so many, or none
abbrev pub NamesWithin : ℕ → List ℕ → Type 0
NamesWithin pages words = (k page : ℕ) → slice_index words k ≡ suc page → page < pages

-- the geometry and the policy of the tiers
pub record IsMadeFor (g : Geometry) (p : Policy) (made : TierPool) : Type 0 where
  pub geometry : made.geometry ≡ g
  pub policy : made.policy ≡ p

-- with no page placed
abbrev pub empty_parts : Plan → ℕ → Parts
empty_parts plan frames = record {
  plan = plan;
  frames = frames;
  access = None;
  arena = replicate plan.dram_frames empty_frame;
  full_dirty = replicate plan.dram_frames no_lines;
  minis = replicate plan.minis empty_mini;
  map = nothing_placed;
  frame_dirty = replicate frames false;
  full_clock = new_clock plan.dram_frames;
  mini_clock = new_clock plan.minis;
  nvm_clock = new_clock frames;
  queue = [];
  draws = generator plan.seed;
  tally = zero_tally;
}

-- the page, if there is one, has a frame that counts as dirty
abbrev pub entry_placed : Option ℕ → ℕ → Parts → Parts
entry_placed None k parts = parts
entry_placed (Some page) k parts = record parts {
  map = with_nvm page k parts.map;
  frame_dirty = slice_set parts.frame_dirty k true;
  nvm_clock = inserted k parts.nvm_clock;
}

-- the pages that the first so many words name have their frames
unfoldable pub entries_placed : ℕ → List ℕ → Parts → Parts
entries_placed zero words parts = parts
entries_placed (suc k) words parts = entry_placed (named_page (slice_index words k)) k (entries_placed k words parts)
