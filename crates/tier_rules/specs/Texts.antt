-- The texts of a tally and of a trace.
use Rattle.std.specs.Prelude.{codes, ℕ, List, [], ◌∷◌, map, decimal}
use Rattle.std.specs.List.{concat}
use Rattle.texts.specs.Lines.{ended, sentence}
use Rattle.tier_rules.specs.declared.tally.Tally.{Tally}
use Rattle.tier_rules.specs.Tallies.{named_counts}
use Rattle.tier_rules.specs.declared.trace.TraceLine.{TraceLine}
use Rattle.tier_rules.specs.declared.trace.TraceLine.TheVariants.{Read, Write, Settle, Clean, LogReads}

-- a line of a tally, with its line feed
abbrev pub count_text : List ℕ × ℕ → List ℕ
count_text count = ended (sentence (codes "#" ∷ count.0 ∷ decimal count.1 ∷ []))

-- a tally is twelve lines
unfoldable pub tally_text : Tally → List ℕ
tally_text t = concat (map count_text (named_counts t))

-- the words of a line of a trace
abbrev pub trace_words : TraceLine → List (List ℕ)
trace_words (Read page l) = codes "read" ∷ decimal page ∷ decimal l ∷ []
trace_words (Write page l) = codes "write" ∷ decimal page ∷ decimal l ∷ []
trace_words Settle = codes "settle" ∷ []
trace_words (Clean n) = codes "clean" ∷ decimal n ∷ []
trace_words (LogReads n) = codes "log" ∷ decimal n ∷ []

-- a line of a trace, with its line feed
unfoldable pub trace_text : TraceLine → List ℕ
trace_text line = ended (sentence (codes "+" ∷ trace_words line))
