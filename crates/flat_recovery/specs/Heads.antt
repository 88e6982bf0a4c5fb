-- What a line is found to be as a head of a log, and what is found of all heads.
use Rattle.std.specs.Prelude.{◌≡◌, ℕ, ◌-◌, IsTrue, Option, Some, None, Result, Ok, Err, IfErr}
use Rattle.nvm_model.specs.declared.line.Line.{Line}
use Rattle.devices.specs.World.{Standing, now}
use Rattle.damage.specs.declared.evidence.Evidence.{Evidence}
use Rattle.damage.specs.declared.evidence.Evidence.TheVariants as evidence
use Rattle.flat_nvm_layout.specs.Sizes.{sizes_of}
use Rattle.flat_nvm_log.specs.Heads.{Says}
use Rattle.flat_nvm_log.specs.declared.head.Head.{Head}
use Rattle.flat_nvm_log.specs.declared.head.Head.TheVariants as head
use Rattle.flat_nvm_log.specs.declared.log.Log.{Log}
use Rattle.flat_store_meaning.specs.Layout.{Sizes}
use Rattle.flat_store_meaning.specs.Format.{entry_check, log_check, LogFault}
use Rattle.flat_store_meaning.specs.Format.Format.{whole_lines}
use Rattle.flat_store_meaning.specs.Recovered.{from}
use Rattle.flat_recovery.specs.Reading.{lines_at}
use Rattle.flat_recovery.specs.declared.errors.OpenError.{OpenError}
use Rattle.flat_recovery.specs.declared.errors.OpenError.TheVariants.{Nvm, Ssd, NotAStore, TooSmall, LogEnded, Damaged, NoMemory}

abbrev pub head_lines : Head → ℕ
head_lines (head.Line page l) = 3
head_lines (head.End kind) = 1

-- A line at an offset of a log with this tail that fails a check, kept as evidence.
pub record FailsEntryCheck (g : Sizes) (tail at : ℕ) (line : Line) (kept : Evidence) : Type 0 where
  pub check : ℕ
  pub fails_it : entry_check whole_lines g line (tail - at - 1) ≡ Some check
  pub keeps : kept ≡ evidence.Log at line tail check

-- the line is a head where no check fails, and else the first that fails is told
abbrev pub IsJudged : Log → ℕ → Line → Result Head OpenError → Type 0
IsJudged log at line (Ok found) = (entry_check whole_lines (sizes_of log.geometry) line (log.tail - at - 1) ≡ None) × Says found line
IsJudged log at line (Err (Damaged kept)) = FailsEntryCheck (sizes_of log.geometry) log.tail at line kept
IsJudged log at line (Err Nvm) = ⊥
IsJudged log at line (Err Ssd) = ⊥
IsJudged log at line (Err NotAStore) = ⊥
IsJudged log at line (Err TooSmall) = ⊥
IsJudged log at line (Err LogEnded) = ⊥
IsJudged log at line (Err NoMemory) = ⊥

-- where it could not be loaded nothing is said of it
abbrev pub IsLoaded : Log → ℕ → Line → Result Head OpenError → Type 0
IsLoaded log at line (Ok found) = IsJudged log at line (Ok found)
IsLoaded log at line (Err (Damaged kept)) = IsJudged log at line (Err (Damaged kept))
IsLoaded log at line (Err Nvm) = Unit {0}
IsLoaded log at line (Err Ssd) = ⊥
IsLoaded log at line (Err NotAStore) = ⊥
IsLoaded log at line (Err TooSmall) = ⊥
IsLoaded log at line (Err LogEnded) = ⊥
IsLoaded log at line (Err NoMemory) = ⊥

-- A line was loaded, which is the one that a told device holds, and judged.
pub record ReadsHead (log : Log) (at : ℕ) (old : Standing) (result : Result Head OpenError) : Type 0 where
  pub line : Line
  pub held : IsTrue old.told → line ≡ lines_at (sizes_of log.geometry) log.start (now old) at
  pub judged : IsLoaded log at line result

-- a line of the log that fails a check, at whatever offset
pub record IsLogEvidence (g : Sizes) (tail : ℕ) (kept : Evidence) : Type 0 where
  pub offset : ℕ
  pub line : Line
  pub fault : FailsEntryCheck g tail offset line kept

-- the first head that fails a check, and that check
pub record IsFirstFault (found : Option LogFault) (line_at : ℕ → Line) (tail : ℕ) (kept : Evidence) : Type 0 where
  pub fault : LogFault
  pub first : found ≡ Some fault
  pub keeps : kept ≡ evidence.Log fault.offset (line_at fault.offset) tail fault.check

-- why a log is not read: evidence fails its check
abbrev pub KeepsEvidence : Sizes → ℕ → OpenError → Type 0
KeepsEvidence g tail (Damaged kept) = IsLogEvidence g tail kept
KeepsEvidence g tail Nvm = Unit {0}
KeepsEvidence g tail Ssd = ⊥
KeepsEvidence g tail NotAStore = ⊥
KeepsEvidence g tail TooSmall = ⊥
KeepsEvidence g tail LogEnded = ⊥
KeepsEvidence g tail NoMemory = ⊥

abbrev pub KeepsFault : {T : Type 0} → Sizes → ℕ → Result T OpenError → Type 0
KeepsFault g tail result = IfErr result (λ why. KeepsEvidence g tail why)

-- and where the device is told, it is the first fault; none is found where the log is read
abbrev pub IsFoundFault : Option LogFault → (ℕ → Line) → ℕ → OpenError → Type 0
IsFoundFault found line_at tail (Damaged kept) = IsFirstFault found line_at tail kept
IsFoundFault found line_at tail Nvm = Unit {0}
IsFoundFault found line_at tail Ssd = Unit {0}
IsFoundFault found line_at tail NotAStore = Unit {0}
IsFoundFault found line_at tail TooSmall = Unit {0}
IsFoundFault found line_at tail LogEnded = Unit {0}
IsFoundFault found line_at tail NoMemory = Unit {0}

abbrev pub FindsFault : {T : Type 0} → Option LogFault → (ℕ → Line) → ℕ → Result T OpenError → Type 0
FindsFault found line_at tail (Ok done) = found ≡ None
FindsFault found line_at tail (Err why) = IsFoundFault found line_at tail why

-- the first check of a head that fails in a log whose lines are these
abbrev pub fault_in : Log → (ℕ → Line) → Option LogFault
fault_in log line_at = log_check whole_lines (sizes_of log.geometry) log.start 0 (from line_at log.start (log.tail - log.start))

pub record ChecksLog {T : Type 0} (log : Log) (old : Standing) (result : Result T OpenError) : Type 0 where
  pub keeps : KeepsFault (sizes_of log.geometry) log.tail result
  pub finds : IsTrue old.told → FindsFault (fault_in log (lines_at (sizes_of log.geometry) log.start (now old))) (lines_at (sizes_of log.geometry) log.start (now old)) log.tail result
