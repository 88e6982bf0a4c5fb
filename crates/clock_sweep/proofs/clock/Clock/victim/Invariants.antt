use Rattle.std.proofs.Common.{◌≡◌, ℕ, ◌-◌, ◌≤◌, length}
use Rattle.std.specs.Prelude.{Option, Some, None}
use Rattle.clock_sweep.specs.Clock.{Swept, victim}
use Rattle.clock_sweep.proofs.ClockLaws.{later}
use Rattle.clock_sweep.proofs.clock.Clock.victim.Given as goal

-- how many steps a sweep takes
abbrev steps_of : Option Swept → ℕ
steps_of None = 0
steps_of (Some v) = v.steps

-- the steps so far, and the sweep from here, are the whole sweep
abbrev pub invariant-sweep : goal.invariant-sweep
invariant-sweep l = record {
  counted : l.initial.steps ≤ l.steps;
  rest : (v : Swept) × (victim l.self ≡ Some v) × (victim l.initial.self ≡ Some (later (l.steps - l.initial.steps) v));
  size : length l.self ≡ length l.initial.self;
}

abbrev pub decreases-sweep : goal.decreases-sweep
decreases-sweep l = steps_of (victim l.self)
