-- The fields of the tiers as plain data, and what their sizes are.
use Rattle.std.specs.Prelude.{◌≡◌, ℕ, Bool, Option, Some, None}
use Rattle.page_frame.specs.Arena.{frames_of}
use Rattle.mini_page.specs.Minis.{minis_of}
use Rattle.tier_map.specs.Contents.{placement_of}
use Rattle.tier_rules.specs.Plans.{plan_of}
use Rattle.tier_rules.specs.Parts.{Parts}
use Rattle.tier_pool.specs.declared.pool.Access.{Access}
use Rattle.tier_pool.specs.declared.pool.TierPool.{TierPool}

-- the page and kind of the open access
abbrev pub access_of : Option Access → Option (ℕ × Bool)
access_of None = None
access_of (Some access) = Some (access.page, access.writes)

-- the fields that the rules speak of
abbrev pub parts_of : TierPool → Parts
parts_of t = record {
  plan = plan_of t.policy;
  frames = t.geometry.frames;
  access = access_of t.access;
  arena = frames_of t.arena;
  full_dirty = t.full_dirty.items;
  minis = minis_of t.minis;
  map = placement_of t.map;
  frame_dirty = t.frame_dirty.items;
  full_clock = t.full_clock;
  mini_clock = t.mini_clock;
  nvm_clock = t.nvm_clock;
  queue = t.queue.pages;
  draws = t.draws;
  tally = t.tally;
}

-- what no call changes: the sizes, and the open access
pub record SameSizes (old new : TierPool) : Type 0 where
  pub geometry : new.geometry ≡ old.geometry
  pub policy : new.policy ≡ old.policy
  pub access : new.access ≡ old.access
