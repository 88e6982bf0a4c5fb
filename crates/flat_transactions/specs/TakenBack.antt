-- What an abort reads of the open group, and what it makes of the devices while it takes back the lines of its records.
use Rattle.std.specs.Prelude.{◌≡◌, ℕ, ◌+◌, ◌<◌, ◌≤◌, not, ◌||◌, ◌==◌, nat_le, if◌then◌else◌, Option, Some, None, IsTrue, Result, Ok, Err, IfOk, IfErr, OnOk}
use Rattle.nvm_model.specs.declared.line.Line.{Line}
use Rattle.devices.specs.State.{current, fresh}
use Rattle.devices.specs.World.{Standing, MakesAll, Rose, now}
use Rattle.line_pages.specs.Lines.{Lines}
use Rattle.damage.specs.declared.evidence.Evidence.{Evidence}
use Rattle.damage.specs.declared.evidence.Evidence.TheVariants as evidence
use Rattle.line_pages.specs.declared.stop.Stop.{Stop}
use Rattle.line_pages.specs.declared.stop.Stop.TheVariants.{Nvm, Ssd, Damaged}
use Rattle.flat_store_meaning.specs.Layout.{Sizes, pages}
use Rattle.flat_store_meaning.specs.Log.{Change}
use Rattle.flat_store_meaning.specs.Format.{word_in}
use Rattle.flat_store_meaning.specs.Recovered.{log_line}
use Rattle.flat_store_meaning.specs.Append.{head_line}
use Rattle.flat_store_meaning.specs.InPlace.{store_calls}
use Rattle.flat_store_laws.specs.OpenGroup.{IsOfStore}
use Rattle.flat_store_laws.specs.ShownPages.{committed_in}
use Rattle.flat_store_laws.specs.Steps.{MayLeave, HoldsFacts}
use Rattle.flat_store_laws.specs.Undoing.{TakingBack}
use Rattle.flat_transactions.specs.declared.undo.PageLine.{PageLine}

-- The first of checks 7 and 8 that a line fails where an abort reads it: its kind is not that of a record, so that the end of
-- a group fails it too; its page is none of the store's, or its line not below 64.
abbrev pub record_check : Sizes → Line → Option ℕ
record_check g head =
    if not (word_in head 0 == 1) then Some 7
    else if nat_le (pages g) (word_in head 1) || nat_le 64 (word_in head 2) then Some 8
    else None

-- the head of a record names this line of the store
pub record NamesPlace (g : Sizes) (head : Line) (place : PageLine) : Type 0 where
  pub passes : record_check g head ≡ None
  pub page : word_in head 1 ≡ place.page
  pub line : word_in head 2 ≡ place.line
  pub page_in : place.page < pages g
  pub line_in : place.line < 64

-- a head is read where no check fails, and else the first that fails is told
abbrev pub IsPlace : Sizes → Line → Result PageLine ℕ → Type 0
IsPlace g head (Ok place) = NamesPlace g head place
IsPlace g head (Err check) = record_check g head ≡ Some check

-- The evidence is a line of the log between these offsets that fails the check which it names.
pub record IsDamage (g : Sizes) (start tail : ℕ) (old : Standing) (kept : Evidence) : Type 0 where
  pub offset : ℕ
  pub line : Line
  pub check : ℕ
  pub keeps : kept ≡ evidence.Log offset line tail check
  pub above : start ≤ offset
  pub below : offset < tail
  pub fails : record_check g line ≡ Some check
  pub held : IsTrue old.told → line ≡ log_line g start (current (now old)) offset

-- a fault of the NVM was counted, or a line of the log is damaged; the disk is not used
abbrev pub StopsFor : Sizes → ℕ → ℕ → Standing → Standing → Stop → Type 0
StopsFor g start tail old new Nvm = Rose old.nvm_faults new.nvm_faults
StopsFor g start tail old new Ssd = ⊥
StopsFor g start tail old new (Damaged kept) = IsDamage g start tail old kept

-- Each stop has its cause, no fault is passed over, and no block is read.
pub record AbortCause {T : Type 0} (g : Sizes) (start tail : ℕ) (old new : Standing) (result : Result T Stop) : Type 0 where
  pub failed : IfErr result (StopsFor g start tail old new)
  pub nvm : OnOk result (new.nvm_faults ≡ old.nvm_faults)
  pub ssd : OnOk result (new.ssd_faults ≡ old.ssd_faults)
  pub reads : new.block_reads ≡ old.block_reads

-- nothing but a fault of the NVM
abbrev pub IsNvm : Stop → Type 0
IsNvm why = why ≡ Nvm

-- the log's lines are what they were
pub record SameLog (g : Sizes) (start : ℕ) (old new : Standing) : Type 0 where
  pub lines : (offset : ℕ) → log_line g start (current (now new)) offset ≡ log_line g start (current (now old)) offset

-- a record of a line of the store stands there in the log: its head, and behind it the line before
pub record StandsAt (g : Sizes) (line_at : ℕ → Line) (offset : ℕ) (change : Change) : Type 0 where
  pub of_store : IsOfStore g change
  pub head : line_at offset ≡ head_line 1 change.page change.line 0
  pub before : line_at (offset + 1) ≡ change.before

-- The place is that of the record at this offset; where one of the store stands there, nothing but the NVM stops it.
pub record FindsPlace (g : Sizes) (start offset : ℕ) (old : Standing) (result : Result PageLine Stop) : Type 0 where
  pub found : IfOk result (NamesPlace g (log_line g start (current (now old)) offset))
  pub stops : (change : Change) → StandsAt g (log_line g start (current (now old))) offset change → IfErr result IsNvm

-- The log stays. Where a record of the store stands at this offset, its line before is put in its place, and nothing but the
-- NVM stops it.
pub record TakesLine {T : Type 0} (g : Sizes) (start offset : ℕ) (old new : Standing) (result : Result T Stop) : Type 0 where
  pub log : OnOk result (SameLog g start old new)
  pub stops : (change : Change) → StandsAt g (log_line g start (current (now old))) offset change → IfErr result IsNvm
  pub makes : (change : Change) → StandsAt g (log_line g start (current (now old))) offset change
      → MakesAll (store_calls g change.page change.line change.before) old new result

-- As one reads the devices: the first k records are left where the call answers ok, and the committed lines stay.
pub record BackRead {T : Type 0} (g : Sizes) (start tail first k : ℕ) (old new : Standing) (result : Result T Stop) : Type 0 where
  pub stops : IfErr result IsNvm
  pub left : OnOk result (TakingBack g start tail first k (fresh (current (now new))))
  pub committed : committed_in (now new) ≡ committed_in (now old)

-- The same whatever a crash leaves, which at each moment is nothing but the committed lines; and at each moment the facts of
-- a store hold.
pub record BackSteady {T : Type 0} (g : Sizes) (start tail first k : ℕ) (old new : Standing) (result : Result T Stop) : Type 0 where
  pub left : OnOk result (TakingBack g start tail first k (now new))
  pub during : (m : ℕ) → old.clock < m → m ≤ new.clock → (lines : Lines) → MayLeave g new m lines → lines ≡ committed_in (now old)
  pub held : (m : ℕ) → old.clock < m → m ≤ new.clock → HoldsFacts g (new.at m)

-- Of the records of the group that is open from `first` on, n are still to be taken back before, and k behind it.
pub record TakesBack {T : Type 0} (g : Sizes) (start tail first n k : ℕ) (old new : Standing) (result : Result T Stop) : Type 0 where
  pub read : TakingBack g start tail first n (fresh (current (now old))) → BackRead g start tail first k old new result
  pub steady : TakingBack g start tail first n (now old) → BackSteady g start tail first k old new result
