-- What holds of the fields between two calls.
use Rattle.std.specs.Prelude.{◌≡◌, ℕ, ◌<◌, ◌≤◌, Some, IsTrue, length}
use Rattle.nvm_model.specs.declared.line.Line.{Line}
use Rattle.tier_map.specs.declared.place.Place.{Place}
use Rattle.tier_map.specs.declared.place.Place.TheVariants.{Mini}
use Rattle.tier_map.specs.Placement.{Placement, Agrees}
use Rattle.page_frame.specs.LineSets.{no_lines, has_line}
use Rattle.page_frame.specs.Frames.{empty_frame, line_at}
use Rattle.tier_rules.specs.Clocks.{place_count}
use Rattle.clock_sweep.specs.Clock.{Circle}
use Rattle.tier_rules.specs.Sound.{Clocked}
use Rattle.tier_rules.specs.Parts.{Parts, copy_at, dirty_at}
use Rattle.tier_pool.specs.Bringing.{IsFree}
use Rattle.tier_pool.specs.Handing.{AreWhole}

-- each mini copy lies over a frame
pub record OverFrames (m : Placement) : Type 0 where
  pub frame : (page j : ℕ) → m.place page ≡ Mini j → (k : ℕ) × (m.nvm page ≡ Some k)

-- The clocks know the places that have a page, and a mini copy lies over a frame.
pub record IsStanding (parts : Parts) : Type 0 where
  pub fulls : Clocked parts.full_clock parts.map.full_page
  pub minis : Clocked parts.mini_clock parts.map.mini_owner
  pub frames : Clocked parts.nvm_clock parts.map.frame_page
  pub over : OverFrames parts.map

-- nothing stands at the place
pub record IsBare (parts : Parts) (place : Place) : Type 0 where
  pub empty : copy_at place parts.arena parts.minis ≡ empty_frame
  pub clean : dirty_at place parts.full_dirty parts.minis ≡ no_lines

-- nothing stands at a place that no page has
pub record AreBare (parts : Parts) : Type 0 where
  pub each : (place : Place) → IsFree parts.map place → IsBare parts place

-- a dirty line of a copy is resident
pub record AreThere (parts : Parts) : Type 0 where
  pub each : (place : Place) (l : ℕ) → l < 64 → IsTrue (has_line (dirty_at place parts.full_dirty parts.minis) l)
      → (value : Line) × (line_at (copy_at place parts.arena parts.minis) l ≡ Some value)

-- a copy has room for each line
pub record AreFrames (parts : Parts) : Type 0 where
  pub each : (place : Place) → length (copy_at place parts.arena parts.minis) ≡ 64

-- the clock has each place below this number, and no other
pub record HasAll (circle : Circle) (count : ℕ) : Type 0 where
  pub there : (i : ℕ) → i < count → 1 ≤ place_count i circle
  pub within : (i : ℕ) → 1 ≤ place_count i circle → i < count

-- The clocks have the places that there are, and the lists are as long.
pub record HasPlaces (parts : Parts) : Type 0 where
  pub fulls : HasAll parts.full_clock parts.plan.dram_frames
  pub minis : HasAll parts.mini_clock parts.plan.minis
  pub frames : HasAll parts.nvm_clock parts.frames
  pub arena : length parts.arena ≡ parts.plan.dram_frames
  pub marks : length parts.full_dirty ≡ parts.plan.dram_frames
  pub mini_pages : length parts.minis ≡ parts.plan.minis
  pub frame_marks : length parts.frame_dirty ≡ parts.frames
  pub some : 1 ≤ parts.plan.dram_frames

-- What each call of the tiers asks of the fields, and keeps.
pub record IsSteady (parts : Parts) : Type 0 where
  pub agrees : Agrees parts.map
  pub standing : IsStanding parts
  pub whole : AreWhole parts
  pub free : AreBare parts
  pub there : AreThere parts
  pub long : AreFrames parts
  pub places : HasPlaces parts
