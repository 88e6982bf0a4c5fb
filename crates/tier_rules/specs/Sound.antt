-- What holds in each state of the tiers that can be reached.
use Rattle.std.specs.Prelude.{◌≡◌, ℕ, ◌≤◌, Option, Some, None}
use Rattle.tier_map.specs.declared.place.Place.TheVariants.{Full, Mini}
use Rattle.page_frame.specs.LineSets.{all_lines}
use Rattle.tier_map.specs.Placement.{Placement, Agrees}
use Rattle.tier_rules.specs.Clocks.{IsClock, place_count, stand_count}
use Rattle.clock_sweep.specs.Clock.{Circle}
use Rattle.tier_rules.specs.State.{TierState}

-- whoever has a page stands in the clock, and no place is there twice
pub record Clocked (circle : Circle) (owner : ℕ → Option ℕ) : Type 0 where
  pub once : IsClock circle
  pub standing : (i page : ℕ) → owner i ≡ Some page → 1 ≤ stand_count i circle

abbrev pub HasPlace : Circle → Type 0
HasPlace circle = (i : ℕ) × (1 ≤ place_count i circle)

-- A page has at most one copy in DRAM and at most one NVM frame, and each place and each frame at most one page. A
-- mini copy always lies over an NVM frame. A full copy without an NVM frame has all lines.
pub record Held (m : Placement) (resident : ℕ → ℕ) : Type 0 where
  pub agrees : Agrees m
  pub over_frame : (page j : ℕ) → m.place page ≡ Mini j → (k : ℕ) × (m.nvm page ≡ Some k)
  pub whole : (page i : ℕ) → m.place page ≡ Full i → m.nvm page ≡ None → resident page ≡ all_lines

-- The same, with the clocks: each owner of a place stands there, and each tier that is used has a place.
pub record Sound (s : TierState) : Type 0 where
  pub held : Held s.map s.resident
  pub full_clock : Clocked s.full_clock s.map.full_page
  pub mini_clock : Clocked s.mini_clock s.map.mini_owner
  pub nvm_clock : Clocked s.nvm_clock s.map.frame_page
  pub some_full : HasPlace s.full_clock
  pub some_mini : 1 ≤ s.plan.minis → HasPlace s.mini_clock
  pub some_frame : 1 ≤ s.frames → HasPlace s.nvm_clock
