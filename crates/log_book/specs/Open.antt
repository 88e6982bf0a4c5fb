-- What holds of a store and its open group between two calls, and on the way of a write, an abort and a checkpoint.
use Rattle.std.specs.Prelude.{◌≡◌, ℕ, ◌<◌, ◌≤◌, List, [], ◌∷◌, ◌++◌, Option, Some, None, Result, Ok, Err, IfOk}
use Rattle.nvm_model.specs.declared.line.Line.{Line}
use Rattle.devices.specs.State.{State}
use Rattle.store_model.specs.Log.{Change}
use Rattle.store_model.specs.Format.{word_in}
use Rattle.device_calls.specs.Leads.{Given}
use Rattle.line_pages.specs.declared.stop.Stop.{Stop}
use Rattle.log_records.specs.Heads.{Headed, HeadsOf, AreOfStore, changes_of}
use Rattle.log_records.specs.OpenGroup.{OpenGroup, lines_in}
use Rattle.log_records.specs.declared.back.BeforeImage.{BeforeImage}
use Rattle.tier_facts.specs.Data.{Data}
use Rattle.transaction_facts.specs.Books.{BookData, Goal, Holds, HoldsRecorded, HoldsSettled, goal_with, goal_committed}
use Rattle.transaction_facts.specs.Aborts.{HoldsBack, IsBack, goal_aborted}
use Rattle.log_book.specs.LogData.{LogData, store_of}

-- the records of the open group, which begins at this offset, are these
abbrev pub IsOpenGroup : BookData → ℕ → List Headed → State → Type 0
IsOpenGroup b first them s = OpenGroup b.format b.tiers.sizes b.log first them s

-- The store holds, and its open group begins at this offset.
pub record HoldsOpen (first : ℕ) (b : BookData) (goal : Goal) (s : State) : Type 0 where
  pub holds : Holds b goal s
  pub them : List Headed
  pub group : IsOpenGroup b first them s

-- The record of a write stands behind the tail, and the line is yet to be written.
pub record RecordedOpen (page line : ℕ) (value : Line) (first : ℕ) (b : BookData) (goal : Goal) (s : State) : Type 0 where
  pub recorded : HoldsRecorded page line value b goal s
  pub them : List Headed
  pub group : IsOpenGroup b first them s

-- Of the open group the records `left` stand up to this offset, and those behind it were taken back.
pub record BackOpen (first end : ℕ) (b : BookData) (goal : Goal) (s : State) : Type 0 where
  pub all : List Headed
  pub group : IsOpenGroup b first all s
  pub is_back : IsBack (changes_of all) goal
  pub left : List Headed
  pub taken : List Change
  pub split : changes_of all ≡ changes_of left ++ taken
  pub stand : HeadsOf b.format (lines_in b.tiers.sizes b.log s) first left end
  pub of_store : AreOfStore b.tiers.sizes left
  pub within : end ≤ b.log.written
  pub back : HoldsBack (changes_of all) taken b goal s

-- The last of those that are left is read back.
pub record FoundOpen (found : BeforeImage) (first : ℕ) (b : BookData) (goal : Goal) (s : State) : Type 0 where
  pub all : List Headed
  pub group : IsOpenGroup b first all s
  pub is_back : IsBack (changes_of all) goal
  pub earlier : List Headed
  pub change : Change
  pub taken : List Change
  pub split : changes_of all ≡ changes_of earlier ++ (change ∷ taken)
  pub stand : HeadsOf b.format (lines_in b.tiers.sizes b.log s) first earlier found.head
  pub of_store : AreOfStore b.tiers.sizes earlier
  pub within : found.head ≤ b.log.written
  pub page : change.page ≡ found.page
  pub line : change.line ≡ found.line
  pub value : change.before ≡ found.value
  pub mask : change.mask ≡ 255
  pub back : HoldsBack (changes_of all) taken b goal s

-- All of them were taken back.
pub record DoneOpen (first : ℕ) (b : BookData) (goal : Goal) (s : State) : Type 0 where
  pub all : List Headed
  pub group : IsOpenGroup b first all s
  pub is_back : IsBack (changes_of all) goal
  pub back : HoldsBack (changes_of all) (changes_of all) b goal s

-- Every home is durable and current besides, and no record is open.
pub record SettledOpen (first : ℕ) (b : BookData) (goal : Goal) (s : State) : Type 0 where
  pub settled : HoldsSettled b goal s
  pub group : IsOpenGroup b first [] s

-- ---- by the plain data of a log

-- the line that was answered is the current one
pub record IsNow (page line : ℕ) (result : Result Line Stop) (goal : Goal) : Type 0 where
  pub words : IfOk result (λ found. (w : ℕ) → w < 8 → word_in found w ≡ goal.words page line w)

abbrev pub OpenIn : Data → LogData → Goal → State → Type 0
OpenIn tiers book = HoldsOpen book.first (store_of tiers book)

abbrev pub CommittedIn : Data → LogData → Goal → State → Type 0
CommittedIn tiers book goal = OpenIn tiers book (goal_committed goal)

abbrev pub AbortedIn : Data → LogData → Goal → State → Type 0
AbortedIn tiers book goal = OpenIn tiers book (goal_aborted goal)

abbrev pub ReadyIn : ℕ → ℕ → Result Line Stop → Data → LogData → Goal → State → Type 0
ReadyIn page line result tiers book = Given (IsNow page line result) (OpenIn tiers book)

abbrev pub RecordedIn : ℕ → ℕ → Line → Data → LogData → Goal → State → Type 0
RecordedIn page line value tiers book = RecordedOpen page line value book.first (store_of tiers book)

abbrev pub SettledIn : Data → LogData → Goal → State → Type 0
SettledIn tiers book = SettledOpen book.first (store_of tiers book)

-- a line was written: the current words are those with it
abbrev pub WrittenIn : ℕ → ℕ → Line → Data → LogData → Goal → State → Type 0
WrittenIn page line value tiers book goal = OpenIn tiers book (goal_with page line value goal)

abbrev pub BackIn : ℕ → Data → LogData → Goal → State → Type 0
BackIn end tiers book = BackOpen book.first end (store_of tiers book)

abbrev pub FoundIn : BeforeImage → Data → LogData → Goal → State → Type 0
FoundIn found tiers book = FoundOpen found book.first (store_of tiers book)

abbrev pub DoneIn : Data → LogData → Goal → State → Type 0
DoneIn tiers book = DoneOpen book.first (store_of tiers book)

-- what was read back
abbrev pub FoundOr : Option BeforeImage → Data → LogData → Goal → State → Type 0
FoundOr None tiers book = DoneIn tiers book
FoundOr (Some found) tiers book = FoundIn found tiers book

abbrev pub ReadBackIn : Result (Option BeforeImage) Stop → Data → LogData → Goal → State → Type 0
ReadBackIn (Ok found) tiers book = FoundOr found tiers book
ReadBackIn (Err why) tiers book = λ goal s. Unit {0}
