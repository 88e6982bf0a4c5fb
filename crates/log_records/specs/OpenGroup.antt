-- The group of a log that has no end yet, as the records that stand from its first offset on.
use Rattle.std.specs.Prelude.{◌≡◌, ℕ, ◌-◌, ◌≤◌, List, []}
use Rattle.nvm_model.specs.declared.line.Line.{Line}
use Rattle.devices.specs.State.{State, current}
use Rattle.store_model.specs.Layout.{Sizes}
use Rattle.store_model.specs.Log.{no_log, grouped}
use Rattle.store_model.specs.Format.{Format, IsWhole, entries}
use Rattle.store_model.specs.Recovered.{log_line, from}
use Rattle.nvm_log.specs.Offsets.{Offsets}
use Rattle.log_records.specs.Heads.{Headed, HeadsOf, AreOfStore}

-- the log lines that reads give, out of the ring in which each stands; those behind the tail too
abbrev pub lines_in : Sizes → Offsets → State → ℕ → Line
lines_in g at s = log_line g at.drained (current s)

-- what stands before this offset
abbrev pub lines_before : Sizes → Offsets → ℕ → State → List Line
lines_before g at first s = from (lines_in g at s) at.start (first - at.start)

-- The open group begins at this offset: what stands before it has ended, and no entry of that is cut short. From there on these
-- records stand, up to all that is stored, each of a line of the store.
pub record OpenGroup (format : Format) (g : Sizes) (at : Offsets) (first : ℕ) (them : List Headed) (s : State) : Type 0 where
  pub begins : at.start ≤ first
  pub whole : IsWhole format 0 (lines_before g at first s)
  pub ended : (grouped no_log (entries format 0 (lines_before g at first s))).open_items ≡ []
  pub stand : HeadsOf format (lines_in g at s) first them at.written
  pub of_store : AreOfStore g them
