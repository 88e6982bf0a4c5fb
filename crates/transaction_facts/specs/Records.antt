-- The records of an aim: those in the log and those that wait behind its tail, and what they become.
use Rattle.std.specs.Prelude.{◌≡◌, ◌⊎◌, ℕ, ◌+◌, ◌<◌, ◌≤◌, Bool, true, List, [], ◌∷◌, ◌++◌, length, slice_index_or, None}
use Rattle.nvm_model.specs.declared.line.Line.{Line}
use Rattle.devices.specs.State.{State}
use Rattle.store_model.specs.Layout.{Sizes, ring_lines}
use Rattle.store_model.specs.Log.{Words, Change, Entry, Log, extended, is_logged}
use Rattle.store_model.specs.Log.Entry.{commit}
use Rattle.store_model.specs.Format.{Format, entries, log_check, zero_line}
use Rattle.store_model.specs.Recovered.{replay}
use Rattle.store_model.specs.Put.{IsLine}
use Rattle.store_model.specs.Pending.{record_entries, with_records}
use Rattle.store_model.specs.StoreFacts.{Bookkeeping, IsWord, StoreFacts}
use Rattle.tier_facts.specs.Facts.{Aim, aim_sizes, log_in}

-- the log with the records behind its tail
abbrev pub log_ahead : Aim → Log
log_ahead aim = with_records (log_in aim) aim.pending

-- The lines behind the tail are those of the pending records, the ring has room for them, and they pass their checks. With
-- them the log gives the committed words to all that it names.
pub record Waiting (aim : Aim) : Type 0 where
  pub room : aim.super.tail + length aim.behind ≤ aim.super.drained + ring_lines (aim_sizes aim)
  pub are_lines : (k : ℕ) → k < length aim.behind → IsLine (slice_index_or aim.behind k zero_line)
  pub passes : (at : ℕ) → log_check aim.format (aim_sizes aim) at 0 aim.behind ≡ None
  pub holds : entries aim.format 0 aim.behind ≡ record_entries aim.pending
  pub right : (p l w : ℕ) → IsWord (aim_sizes aim) p l w → is_logged (log_ahead aim) p l w ≡ true
      → (homes : Words) → replay aim.format (log_ahead aim) homes p l w ≡ aim.kept p l w

-- With a commit besides it gives the current words: what holds but while an abort takes back the lines of its records.
pub record Records (aim : Aim) : Type 0 where
  pub waiting : Waiting aim
  pub ends : (p l w : ℕ) → IsWord (aim_sizes aim) p l w → is_logged (extended (log_ahead aim) commit) p l w ≡ true
      → (homes : Words) → replay aim.format (extended (log_ahead aim) commit) homes p l w ≡ aim.words p l w

-- The lines are those of one entry, and there is room for them.
pub record FitsBehind (aim : Aim) (lines : List Line) (e : Entry) : Type 0 where
  pub room : aim.super.tail + length aim.behind + length lines ≤ aim.super.drained + ring_lines (aim_sizes aim)
  pub are_lines : (k : ℕ) → k < length lines → IsLine (slice_index_or lines k zero_line)
  pub passes : (at : ℕ) → log_check aim.format (aim_sizes aim) at 0 lines ≡ None
  pub holds : entries aim.format 0 lines ≡ e ∷ []

-- ---- what the steps make of an aim

-- one record more waits, which has these lines
abbrev pub recorded : Change → List Line → Aim → Aim
recorded change lines aim = record aim { behind = aim.behind ++ lines; pending = aim.pending ++ change ∷ [] }

-- the records that waited are part of the log
abbrev pub hardened : Aim → Aim
hardened aim = record aim { super = record aim.super { tail = aim.super.tail + length aim.behind }; log = aim.log ++ aim.behind; behind = []; pending = [] }

-- and so is an end with these lines behind them
abbrev pub lengthened : List Line → Aim → Aim
lengthened lines aim = record aim {
  super = record aim.super { tail = aim.super.tail + length aim.behind + length lines };
  log = aim.log ++ (aim.behind ++ lines);
  behind = [];
  pending = [];
}

-- that of a commit: the current words are committed
abbrev pub ended : List Line → Aim → Aim
ended lines aim = record aim {
  super = record aim.super { tail = aim.super.tail + length aim.behind + length lines };
  log = aim.log ++ (aim.behind ++ lines);
  behind = [];
  pending = [];
  kept = aim.words;
}

-- the log up to this offset stands on the SSD
abbrev pub drained_to : ℕ → Aim → Aim
drained_to offset aim = record aim { super = record aim.super { drained = offset } }

-- the log is empty, and these lines are loose
abbrev pub emptied : (ℕ → ℕ → Bool) → Aim → Aim
emptied loose aim = record aim { super = record aim.super { start = aim.super.tail }; log = []; behind = []; pending = []; loose = loose }

-- ---- while a commit goes on

-- The facts of a store hold, and each image has the old committed words or the new ones.
pub record KeepsEither (format : Format) (g : Sizes) (old new : Words) (s : State) : Type 0 where
  pub keeps : Bookkeeping
  pub format_is : keeps.format ≡ format
  pub sizes : keeps.sizes ≡ g
  pub committed : (n : ℕ) → (keeps.committed n ≡ old) ⊎ (keeps.committed n ≡ new)
  pub facts : StoreFacts keeps s

abbrev pub HeldEither : Aim → State → Type 0
HeldEither aim s = KeepsEither aim.format (aim_sizes aim) aim.kept aim.words s
