-- What a run told of its accesses.
use Rattle.std.specs.Prelude.{ℕ, zero, suc, List, [], ◌∷◌, ◌++◌, length, nat_lt, if◌then◌else◌}
use Rattle.tier_rules.specs.declared.trace.TraceLine.{TraceLine}
use Rattle.tier_rules.specs.declared.trace.TraceLine.TheVariants.{LogReads}
use Rattle.tier_manager.specs.declared.trace.Trace.{Trace}
use Rattle.tier_manager.specs.declared.tiers.Tiers.{Tiers}

-- the lines that were told since the trace was cleared, and how many there is room for
pub record Told : Type 0 where
  pub lines : List TraceLine
  pub room : ℕ

abbrev pub told_in : Trace → Told
told_in trace = record { lines = trace.lines.items; room = trace.room }

abbrev pub told_of : Tiers → Told
told_of t = told_in t.trace

-- nothing was told yet
abbrev pub nothing_told : ℕ → Told
nothing_told room = record { lines = []; room = room }

-- one line more, where there is room
abbrev pub told_with : TraceLine → Told → Told
told_with line told = record told { lines = if nat_lt (length told.lines) told.room then told.lines ++ line ∷ [] else told.lines }

-- lines of the log that were read, where there were any
abbrev pub log_reads_told : ℕ → Told → Told
log_reads_told zero told = told
log_reads_told (suc n) told = told_with (LogReads (suc n)) told
