-- Which touches of a run are printed: of each access the first of each line.
use Rattle.std.specs.Prelude.{ℕ, ◌<◌, Bool, true, false, ◌==◌, List, [], ◌∷◌, Option, Some, None}
use Rattle.std.specs.List.{list_any}
use Rattle.tier_rules.specs.declared.trace.TraceLine.TheVariants.{Read, Write, Settle, Clean, LogReads}
use Rattle.tier_rules.specs.Entering.{begins}
use Rattle.tier_rules.specs.Runs.{Printed, trace, reply, epoch}

-- the lines that were touched before in the access that goes on, or none where a new one begins
abbrev pub seen_before : Bool → List ℕ → List ℕ
seen_before true seen = []
seen_before false seen = seen

abbrev pub is_seen : ℕ → List ℕ → Bool
is_seen l seen = list_any (λ k. k == l) seen

abbrev pub printed_unless : Bool → Printed → List Printed → List Printed
printed_unless true line rest = rest
printed_unless false line rest = line ∷ rest

-- what is printed of a run of all touches, from an open access and the lines that it touched
unfoldable pub printed : Option (ℕ × Bool) → List ℕ → List Printed → List Printed
printed access seen [] = []
printed access seen (trace (Read page l) ∷ lines) =
    let before = seen_before (begins access page false) seen in
    printed_unless (is_seen l before) (trace (Read page l)) (printed (Some (page, false)) (l ∷ before) lines)
printed access seen (trace (Write page l) ∷ lines) =
    let before = seen_before (begins access page true) seen in
    printed_unless (is_seen l before) (trace (Write page l)) (printed (Some (page, true)) (l ∷ before) lines)
printed access seen (trace Settle ∷ lines) = trace Settle ∷ printed access seen lines
printed access seen (trace (Clean n) ∷ lines) = trace (Clean n) ∷ printed access seen lines
printed access seen (trace (LogReads n) ∷ lines) = trace (LogReads n) ∷ printed access seen lines
printed access seen (reply ∷ lines) = reply ∷ printed None [] lines
printed access seen (epoch rates ∷ lines) = epoch rates ∷ printed access seen lines

abbrev pub IsAtRest : Option (ℕ × Bool) → Type 0
IsAtRest None = Unit {0}
IsAtRest (Some now) = ⊥

-- each touched line is a line of a page, and copies are cleaned only where no access is open
abbrev pub IsRun : Option (ℕ × Bool) → List Printed → Type 0
IsRun access [] = Unit {0}
IsRun access (trace (Read page l) ∷ lines) = (l < 64) × IsRun (Some (page, false)) lines
IsRun access (trace (Write page l) ∷ lines) = (l < 64) × IsRun (Some (page, true)) lines
IsRun access (trace Settle ∷ lines) = IsAtRest access × IsRun access lines
IsRun access (trace (Clean n) ∷ lines) = IsAtRest access × IsRun access lines
IsRun access (trace (LogReads n) ∷ lines) = IsRun access lines
IsRun access (reply ∷ lines) = IsRun None lines
IsRun access (epoch rates ∷ lines) = IsRun access lines
