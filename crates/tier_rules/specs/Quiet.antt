-- When a touch makes no change of placement and no store to NVM.
use Rattle.std.specs.Prelude.{ℕ, Bool, true, false, ◌||◌, nat_lt}
use Rattle.tier_map.specs.declared.place.Place.{Place}
use Rattle.tier_map.specs.declared.place.Place.TheVariants.{Absent, Full, Mini}
use Rattle.page_frame.specs.LineSets.{has_line, line_count}
use Rattle.tier_rules.specs.State.{TierState}

abbrev pub quiet_at : Place → ℕ → ℕ → Bool
quiet_at Absent resident l = false
quiet_at (Full i) resident l = true
quiet_at (Mini j) resident l = has_line resident l || nat_lt (line_count resident) 16

abbrev pub is_quiet : ℕ → ℕ → TierState → Bool
is_quiet page l s = quiet_at (s.map.place page) (s.resident page) l
