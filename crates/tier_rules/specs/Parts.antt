-- The fields of a manager of the tiers, and the state that they show.
use Rattle.std.specs.Prelude.{◌≡◌, ℕ, ◌<◌, Bool, false, List, slice_index, slice_index_or, Option, None, IsTrue, [], length, replicate, take, map, pred}
use Rattle.rand_pcg.specs.Lcg.{Lcg}
use Rattle.nvm_model.specs.declared.line.Line.{Line}
use Rattle.tier_rules.specs.declared.tally.Tally.{Tally}
use Rattle.tier_map.specs.declared.place.Place.{Place}
use Rattle.tier_map.specs.declared.place.Place.TheVariants.{Absent, Full, Mini}
use Rattle.page_frame.specs.LineSets.{no_lines, has_line}
use Rattle.mini_page.specs.MiniPages.{MiniPage, empty_mini}
use Rattle.page_frame.specs.Frames.{Frame, empty_frame, line_at, resident_lines}
use Rattle.tier_map.specs.Placement.{Placement}
use Rattle.tier_rules.specs.Plans.{Plan}
use Rattle.clock_sweep.specs.Clock.{Circle}
use Rattle.migration_policy.specs.Draws.{generator, generator_after}
use Rattle.tier_rules.specs.Tallies.{zero_tally}
use Rattle.tier_rules.specs.Opening.{opened, is_named}
use Rattle.tier_rules.specs.State.{TierState}
use Rattle.tier_rules.specs.Sound.{Sound}

-- The fields, each as its own contract shows it. `full_dirty` has the dirty lines of each full place.
pub record Parts : Type 0 where
  pub plan : Plan
  pub frames : ℕ
  pub access : Option (ℕ × Bool)
  pub arena : List Frame
  pub full_dirty : List ℕ
  pub minis : List MiniPage
  pub map : Placement
  pub frame_dirty : List Bool
  pub full_clock : Circle
  pub mini_clock : Circle
  pub nvm_clock : Circle
  pub queue : List ℕ
  pub draws : Lcg
  pub tally : Tally

-- the places of a page's copy, and its dirty lines
abbrev pub copy_at : Place → List Frame → List MiniPage → Frame
copy_at Absent arena minis = empty_frame
copy_at (Full i) arena minis = slice_index_or arena i empty_frame
copy_at (Mini j) arena minis = (slice_index_or minis j empty_mini).places

abbrev pub dirty_at : Place → List ℕ → List MiniPage → ℕ
dirty_at Absent full_dirty minis = no_lines
dirty_at (Full i) full_dirty minis = slice_index full_dirty i
dirty_at (Mini j) full_dirty minis = (slice_index_or minis j empty_mini).dirty

-- The fields show this state. It is determined by them but for what lies past the last frame.
pub record Shows (parts : Parts) (s : TierState) : Type 0 where
  pub plan : parts.plan ≡ s.plan
  pub frames : parts.frames ≡ s.frames
  pub access : parts.access ≡ s.access
  pub map : parts.map ≡ s.map
  pub resident : (page : ℕ) → s.resident page ≡ resident_lines (copy_at (s.map.place page) parts.arena parts.minis)
  pub dirty : (page : ℕ) → s.dirty page ≡ dirty_at (s.map.place page) parts.full_dirty parts.minis
  pub frame_dirty : (k : ℕ) → k < s.frames → slice_index_or parts.frame_dirty k false ≡ s.frame_dirty k
  pub full_clock : parts.full_clock ≡ s.full_clock
  pub mini_clock : parts.mini_clock ≡ s.mini_clock
  pub nvm_clock : parts.nvm_clock ≡ s.nvm_clock
  pub queue : parts.queue ≡ s.queue
  pub draws : parts.draws ≡ generator_after s.plan.seed s.drawn
  pub tally : parts.tally ≡ s.tally
  pub sound : Sound s

-- what stands at a line of a page's copy
abbrev pub copy_line : Parts → ℕ → ℕ → Option Line
copy_line parts page l = line_at (copy_at (parts.map.place page) parts.arena parts.minis) l

-- a set of lines, by page and line
abbrev pub LineSet : Type 0
LineSet = ℕ → ℕ → Bool

-- each dirty line of a copy is in the set
abbrev pub DirtyIsIn : LineSet → TierState → Type 0
DirtyIsIn set s = (page l : ℕ) → l < 64 → IsTrue (has_line (s.dirty page) l) → IsTrue (set page l)

-- the fields as they are made from the words of the frame table
abbrev pub opened_parts : Plan → List ℕ → Parts
opened_parts plan words = let s = opened plan words in record {
  plan = plan;
  frames = s.frames;
  access = None;
  arena = replicate plan.dram_frames empty_frame;
  full_dirty = replicate plan.dram_frames no_lines;
  minis = replicate plan.minis empty_mini;
  map = s.map;
  frame_dirty = map is_named (take (pred (length words)) words);
  full_clock = s.full_clock;
  mini_clock = s.mini_clock;
  nvm_clock = s.nvm_clock;
  queue = [];
  draws = generator plan.seed;
  tally = zero_tally;
}
