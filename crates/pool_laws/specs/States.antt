-- The state of the rules that the fields show.
use Rattle.std.specs.Prelude.{◌≡◌, ℕ, false, slice_index_or}
use Rattle.page_frame.specs.Frames.{resident_lines}
use Rattle.migration_policy.specs.Draws.{generator_after}
use Rattle.tier_rules.specs.State.{TierState}
use Rattle.tier_rules.specs.Parts.{Parts, copy_at, dirty_at}

-- the state, where so many words were drawn
abbrev pub state_of : ℕ → Parts → TierState
state_of drawn parts = record {
  plan = parts.plan;
  frames = parts.frames;
  access = parts.access;
  map = parts.map;
  resident = λ page. resident_lines (copy_at (parts.map.place page) parts.arena parts.minis);
  dirty = λ page. dirty_at (parts.map.place page) parts.full_dirty parts.minis;
  frame_dirty = λ k. slice_index_or parts.frame_dirty k false;
  full_clock = parts.full_clock;
  mini_clock = parts.mini_clock;
  nvm_clock = parts.nvm_clock;
  queue = parts.queue;
  drawn = drawn;
  tally = parts.tally;
}

-- the generator is that of so many words
pub record IsAfter (drawn : ℕ) (parts : Parts) : Type 0 where
  pub draws : parts.draws ≡ generator_after parts.plan.seed drawn

-- The fields show this state, and the generator is that of its words.
pub record IsState (parts : Parts) (s : TierState) : Type 0 where
  pub is : state_of s.drawn parts ≡ s
  pub draws : parts.draws ≡ generator_after parts.plan.seed s.drawn
