-- More of what holds in each state that can be reached: the sizes of the DRAM clocks, and the sets of lines.
use Rattle.std.specs.Prelude.{◌≡◌, ℕ, ◌<◌, ◌≤◌, IsTrue}
use Rattle.tier_map.specs.declared.place.Place.{Place}
use Rattle.tier_map.specs.declared.place.Place.TheVariants.{Absent}
use Rattle.page_frame.specs.LineSets.{no_lines, has_line}
use Rattle.tier_rules.specs.Plans.{Plan}
use Rattle.tier_rules.specs.Clocks.{place_count}
use Rattle.clock_sweep.specs.Clock.{Circle}
use Rattle.tier_rules.specs.State.{TierState}

-- Each place of a clock is below its size. A page without a copy has no dirty line, and a dirty line is resident.
pub record Fits (plan : Plan) (full_clock mini_clock : Circle) (place : ℕ → Place) (resident dirty : ℕ → ℕ) : Type 0 where
  pub full_size : (i : ℕ) → 1 ≤ place_count i full_clock → i < plan.dram_frames
  pub mini_size : (j : ℕ) → 1 ≤ place_count j mini_clock → j < plan.minis
  pub clean_absent : (page : ℕ) → place page ≡ Absent → dirty page ≡ no_lines
  pub there : (page l : ℕ) → IsTrue (has_line (dirty page) l) → IsTrue (has_line (resident page) l)

abbrev pub Fitting : TierState → Type 0
Fitting s = Fits s.plan s.full_clock s.mini_clock s.map.place s.resident s.dirty
