-- One touch of a line.
use Rattle.std.specs.Prelude.{ℕ, Bool, true, false}
use Rattle.tier_rules.specs.State.{TierState}
use Rattle.tier_rules.specs.Entering.{accessed}
use Rattle.tier_rules.specs.Touching.{made_ready, marked}

pub record Touch : Type 0 where
  pub page : ℕ
  pub line : ℕ
  pub writes : Bool

-- The touch up to the new value: the access is open, and the line is there.
unfoldable pub ready_step : Touch → TierState → TierState
ready_step touch s = made_ready touch.page touch.line (accessed touch.page touch.writes s)

abbrev pub completed : Bool → ℕ → ℕ → TierState → TierState
completed true page l s = marked page l s
completed false page l s = s

-- The whole touch.
unfoldable pub tier_step : Touch → TierState → TierState
tier_step touch s = completed touch.writes touch.page touch.line (ready_step touch s)
