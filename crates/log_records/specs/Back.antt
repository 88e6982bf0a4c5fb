-- What a record that is read back gives, and why that stops.
use Rattle.std.specs.Prelude.{◌≡◌, ℕ, ◌+◌, ◌<◌, ◌≤◌, min, not, ◌||◌, ◌==◌, nat_lt, nat_le, if◌then◌else◌, List, [], ◌∷◌, ◌++◌, Option, Some, None, IsTrue, Result, Ok, Err, IfOk, IfErr, OnOk}
use Rattle.nvm_model.specs.declared.line.Line.{Line}
use Rattle.devices.specs.State.{current}
use Rattle.devices.specs.World.{Standing, Rose, last_count, now}
use Rattle.damage.specs.declared.evidence.Evidence.{Evidence}
use Rattle.damage.specs.declared.evidence.Evidence.TheVariants as evidence
use Rattle.line_pages.specs.declared.stop.Stop.{Stop}
use Rattle.line_pages.specs.declared.stop.Stop.TheVariants.{Nvm, Ssd, Damaged}
use Rattle.store_model.specs.Layout.{Sizes, pages}
use Rattle.store_model.specs.Log.{Change}
use Rattle.store_model.specs.Format.{word_in}
use Rattle.store_model.specs.Format.Format.{whole_lines}
use Rattle.store_model.specs.Recovered.{log_line}
use Rattle.nvm_layout.specs.Sizes.{sizes_of}
use Rattle.nvm_log.specs.declared.log.Log.{Log}
use Rattle.log_records.specs.Heads.{Headed, HeadsOf, AreOfStore}
use Rattle.log_records.specs.declared.back.PageLine.{PageLine}
use Rattle.log_records.specs.declared.back.BeforeImage.{BeforeImage}

-- the log lines that reads give, out of the ring in which each stands
abbrev pub lines_now : Log → Standing → ℕ → Line
lines_now log d = log_line (sizes_of log.geometry) log.drained (current (now d))

-- The first of checks 7 and 8 that a line fails where the head of a record is to stand: its kind is not that of a record, so that
-- the end of a group fails it too; its page is none of the store's, or its line not below 64.
abbrev pub record_check : Sizes → Line → Option ℕ
record_check g head =
    if not (word_in head 0 == 1) then Some 7
    else if nat_le (pages g) (word_in head 1) || nat_le 64 (word_in head 2) then Some 8
    else None

-- the head of a record names this line of the store
pub record NamesPlace (g : Sizes) (head : Line) (place : PageLine) : Type 0 where
  pub passes : record_check g head ≡ None
  pub page : word_in head 1 ≡ place.page
  pub line : word_in head 2 ≡ place.line
  pub page_in : place.page < pages g
  pub line_in : place.line < 64

-- a head is read where no check fails, and else the first that fails is told
abbrev pub IsPlace : Sizes → Line → Result PageLine ℕ → Type 0
IsPlace g head (Ok place) = NamesPlace g head place
IsPlace g head (Err check) = record_check g head ≡ Some check

-- The evidence is the line at this offset of the log, which fails the check that it names.
pub record IsDamage (log : Log) (offset : ℕ) (old : Standing) (kept : Evidence) : Type 0 where
  pub line : Line
  pub check : ℕ
  pub keeps : kept ≡ evidence.Log offset line log.tail check
  pub fails : record_check (sizes_of log.geometry) line ≡ Some check
  pub held : IsTrue old.told → line ≡ lines_now log old offset

-- a fault of that device was counted, or the head at this offset is damaged
abbrev pub StopsFor : Log → ℕ → Standing → Standing → Stop → Type 0
StopsFor log head old new Nvm = Rose old.nvm_faults new.nvm_faults
StopsFor log head old new Ssd = Rose old.ssd_faults new.ssd_faults
StopsFor log head old new (Damaged kept) = IsDamage log head old kept

-- each stop has its cause, and no fault is passed over
pub record BackCause {T : Type 0} (log : Log) (head : ℕ) (old new : Standing) (result : Result T Stop) : Type 0 where
  pub failed : IfErr result (StopsFor log head old new)
  pub nvm : OnOk result (new.nvm_faults ≡ old.nvm_faults)
  pub ssd : OnOk result (new.ssd_faults ≡ old.ssd_faults)

-- the count of blocks that were read, after the line at this offset: one more where it stands in the ring on the SSD
abbrev pub counted : Log → ℕ → ℕ → ℕ
counted log offset count = if nat_lt offset log.drained then min (count + 1) last_count else count

-- what is found at the head of a record, and whether a block was read for it
pub record FindsPlace {E : Type 0} (log : Log) (head : ℕ) (old new : Standing) (result : Result PageLine E) : Type 0 where
  pub value : IsTrue old.told → IfOk result (NamesPlace (sizes_of log.geometry) (lines_now log old head))
  pub inside : IfOk result (λ place. (place.page < pages (sizes_of log.geometry)) × (place.line < 64))
  pub reads : OnOk result (new.block_reads ≡ counted log head old.block_reads)

-- The last of these records is found: those before it stand up to its head.
pub record IsLast (line_at : ℕ → Line) (first : ℕ) (them : List Headed) (found : BeforeImage) : Type 0 where
  pub earlier : List Headed
  pub change : Change
  pub all : them ≡ earlier ++ record { head = found.head; change = change } ∷ []
  pub page : change.page ≡ found.page
  pub line : change.line ≡ found.line
  pub value : change.before ≡ found.value
  pub stand : HeadsOf whole_lines line_at first earlier found.head

-- what is found is the last of these records, and nothing where there is none
abbrev pub FindsLast : (ℕ → Line) → ℕ → List Headed → Option BeforeImage → Type 0
FindsLast line_at first them None = them ≡ []
FindsLast line_at first them (Some found) = IsLast line_at first them found

-- A record of three lines that ends here was found, of a line of the store, by two lines; or there is no room for one.
pub record IsFound (log : Log) (first end : ℕ) (old new : Standing) (found : BeforeImage) : Type 0 where
  pub begins : first ≤ found.head
  pub ends : found.head + 3 ≡ end
  pub page : found.page < pages (sizes_of log.geometry)
  pub line : found.line < 64
  pub reads : new.block_reads ≡ counted log (found.head + 1) (counted log found.head old.block_reads)

abbrev pub IsBack : Log → ℕ → ℕ → Standing → Standing → Option BeforeImage → Type 0
IsBack log first end old new None = (end < first + 3) × (new ≡ old)
IsBack log first end old new (Some found) = IsFound log first end old new found

-- no damage
abbrev pub IsUndamaged : Stop → Type 0
IsUndamaged Nvm = Unit {0}
IsUndamaged Ssd = Unit {0}
IsUndamaged (Damaged kept) = ⊥

-- Whatever records stand from the first offset up to the second: the last of them is found, and where they are of lines of the
-- store no damage is told.
pub record ReadsBack (log : Log) (first end : ℕ) (old new : Standing) (result : Result (Option BeforeImage) Stop) : Type 0 where
  pub value : IsTrue old.told → (them : List Headed) → HeadsOf whole_lines (lines_now log old) first them end → IfOk result (FindsLast (lines_now log old) first them)
  pub sound : IsTrue old.told → (them : List Headed) → HeadsOf whole_lines (lines_now log old) first them end → AreOfStore (sizes_of log.geometry) them → IfErr result IsUndamaged
  pub found : IfOk result (IsBack log first end old new)
