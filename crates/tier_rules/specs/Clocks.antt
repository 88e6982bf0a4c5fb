-- More words on clocks: a change of a place that may be there, and how often a place stands.
use Rattle.std.specs.Prelude.{ℕ, ◌+◌, ◌≤◌, Bool, true, false, ◌==◌, ◌&&◌, [], ◌∷◌, Option, Some, None}
use Rattle.clock_sweep.specs.Clock.{Circle, stands, inserted, removed}

abbrev pub removed_if : Option ℕ → Circle → Circle
removed_if None circle = circle
removed_if (Some place) circle = removed place circle

abbrev pub inserted_if : Option ℕ → Circle → Circle
inserted_if None circle = circle
inserted_if (Some place) circle = inserted place circle

-- how often a place is in the circle, and how often it stands there
abbrev pub one_if : Bool → ℕ
one_if true = 1
one_if false = 0

abbrev pub place_count : ℕ → Circle → ℕ
place_count place [] = 0
place_count place (e ∷ circle) = one_if (e.0 == place) + place_count place circle

abbrev pub stand_count : ℕ → Circle → ℕ
stand_count place [] = 0
stand_count place (e ∷ circle) = one_if (e.0 == place && stands e.1) + stand_count place circle

-- each place is there at most once
abbrev pub IsClock : Circle → Type 0
IsClock circle = (place : ℕ) → place_count place circle ≤ 1
