-- A whole run, from its printed trace.
use Rattle.std.specs.Prelude.{ℕ, true, false, List, [], ◌∷◌}
use Rattle.tier_rules.specs.declared.trace.TraceLine.{TraceLine}
use Rattle.tier_rules.specs.declared.trace.TraceLine.TheVariants.{Read, Write, Settle, Clean, LogReads}
use Rattle.tier_rules.specs.Plans.{Plan}
use Rattle.migration_policy.specs.Policies.{Rates}
use Rattle.tier_rules.specs.Tallies.{log_lines_read}
use Rattle.tier_rules.specs.State.{TierState, counting}
use Rattle.tier_rules.specs.Entering.{rested}
use Rattle.tier_rules.specs.Step.{Touch, tier_step}
use Rattle.tier_rules.specs.Cleaning.{clean, settled}
use Rattle.tier_rules.specs.Opening.{opened}

abbrev pub read_of : ℕ → ℕ → Touch
read_of page l = record { page = page; line = l; writes = false }

abbrev pub write_of : ℕ → ℕ → Touch
write_of page l = record { page = page; line = l; writes = true }

-- what a line of the trace did
unfoldable pub traced : TraceLine → TierState → TierState
traced (Read page l) s = tier_step (read_of page l) s
traced (Write page l) s = tier_step (write_of page l) s
traced Settle s = settled s
traced (Clean n) s = clean n s
traced (LogReads n) s = counting (log_lines_read n) s

-- One line of the output of a run: of the trace, a reply, or the end of an epoch with the four
-- probabilities of the next one.
pub data Printed : Type 0 where
  trace : TraceLine → Printed
  reply : Printed
  epoch : Rates → Printed

-- the four probabilities change, and nothing else
abbrev pub with_rates : Rates → TierState → TierState
with_rates rates s = record s { plan = let plan = s.plan in record plan { rates = rates } }

unfoldable pub after_line : Printed → TierState → TierState
after_line (trace line) s = traced line s
after_line reply s = rested s
after_line (epoch rates) s = with_rates rates s

unfoldable pub after_lines : List Printed → TierState → TierState
after_lines [] s = s
after_lines (line ∷ lines) s = after_lines lines (after_line line s)

-- The state after a run whose printed lines are these, from the frame table's words.
unfoldable pub tier_run : Plan → List ℕ → List Printed → TierState
tier_run plan words lines = after_lines lines (opened plan words)
