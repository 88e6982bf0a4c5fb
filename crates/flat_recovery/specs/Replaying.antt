-- What the parts of a replay store, by the log that a told device holds.
use Rattle.std.specs.Prelude.{◌≡◌, ℕ, ◌+◌, ◌*◌, ◌<◌, ◌≤◌, List, [], ◌∷◌, ◌++◌, IsTrue, Result, IfOk, IfErr}
use Rattle.devices.specs.State.{Call}
use Rattle.devices.specs.State.Call.{store_line}
use Rattle.devices.specs.World.{Standing, MakesAll, now}
use Rattle.nvm_model.specs.declared.line.Line.{Line}
use Rattle.flat_nvm_layout.specs.Sizes.{sizes_of}
use Rattle.flat_nvm_log.specs.Entries.{end_entry}
use Rattle.flat_nvm_log.specs.declared.log.Log.{Log}
use Rattle.flat_nvm_log.specs.declared.record.EndKind.{EndKind}
use Rattle.flat_store_meaning.specs.Layout.{Sizes, frame_line}
use Rattle.flat_store_meaning.specs.Log.{Change, Entry, grouped, no_log}
use Rattle.flat_store_meaning.specs.Log.Item.{write, cut}
use Rattle.flat_store_meaning.specs.Log.Entry.{item, commit, abort}
use Rattle.flat_store_meaning.specs.Format.{word_in}
use Rattle.flat_recovery.specs.Calls.{redo_calls, undo_calls, ending_calls, replay_calls}
use Rattle.flat_recovery.specs.Reading.{lines_at, entries_from, entry_at, changes_at, PassFrom, IsRecordAt, AreRecords}
use Rattle.flat_recovery.specs.declared.replaying.Group.{Group}
use Rattle.flat_recovery.specs.declared.replaying.Side.{Side}
use Rattle.flat_recovery.specs.declared.replaying.Side.TheVariants.{Before, After}
use Rattle.flat_recovery.specs.declared.errors.OpenError.{OpenError}
use Rattle.flat_recovery.specs.declared.errors.OpenError.TheVariants.{Nvm}

abbrev pub group_end : Group → ℕ
group_end group = group.first + 3 * group.count

abbrev pub side_line : Side → ℕ
side_line Before = 1
side_line After = 2

-- the lines of the log, as one reads them
abbrev pub held_lines : Log → Standing → ℕ → Line
held_lines log d = lines_at (sizes_of log.geometry) log.start (now d)

-- the records of a group
abbrev pub group_changes : (ℕ → Line) → Group → List Change
group_changes f group = changes_at f group.first group.count

-- The calls were made, up to the first that failed, and only a fault stops them.
pub record MakesCalls {T : Type 0} (calls : List Call) (old new : Standing) (result : Result T OpenError) : Type 0 where
  pub makes : MakesAll calls old new result
  pub only : IfErr result (λ why. why ≡ Nvm)

pub record CopiesLine {T : Type 0} (log : Log) (at place : ℕ) (old new : Standing) (result : Result T OpenError) : Type 0 where
  pub writes : IsTrue old.told → MakesCalls (store_line place (held_lines log old at) ∷ []) old new result

-- where a record stands, one of its lines is stored in the place that it names
pub record StoresRecord {T : Type 0} (log : Log) (at : ℕ) (side : Side) (old new : Standing) (result : Result T OpenError) : Type 0 where
  pub writes : IsTrue old.told → IsRecordAt (sizes_of log.geometry) (held_lines log old) log.tail at
      → MakesCalls (store_line (frame_line (sizes_of log.geometry) (word_in (held_lines log old at) 1) (word_in (held_lines log old at) 2)) (held_lines log old (at + side_line side)) ∷ []) old new result

-- where records stand, their lines are stored
pub record RedoesGroup {T : Type 0} (log : Log) (group : Group) (old new : Standing) (result : Result T OpenError) : Type 0 where
  pub writes : IsTrue old.told → AreRecords (sizes_of log.geometry) (held_lines log old) log.tail group.first group.count
      → MakesCalls (redo_calls (sizes_of log.geometry) (group_changes (held_lines log old) group)) old new result

pub record UndoesGroup {T : Type 0} (log : Log) (group : Group) (old new : Standing) (result : Result T OpenError) : Type 0 where
  pub writes : IsTrue old.told → AreRecords (sizes_of log.geometry) (held_lines log old) log.tail group.first group.count
      → MakesCalls (undo_calls (sizes_of log.geometry) (group_changes (held_lines log old) group)) old new result

pub record EndsGroup {T : Type 0} (log : Log) (group : Group) (kind : EndKind) (old new : Standing) (result : Result T OpenError) : Type 0 where
  pub writes : IsTrue old.told → AreRecords (sizes_of log.geometry) (held_lines log old) log.tail group.first group.count
      → MakesCalls (ending_calls (sizes_of log.geometry) (group_changes (held_lines log old) group) (end_entry kind)) old new result

-- the records that are left open with an entry more
abbrev pub open_changes : List Change → Entry → List Change
open_changes cs (item (write c)) = cs ++ c ∷ []
open_changes cs (item (cut n)) = cs
open_changes cs commit = []
open_changes cs abort = []

-- The group that is open behind an entry: what is left of the log is what stood there without this entry.
pub record IsNext (g : Sizes) (f : ℕ → Line) (tail : ℕ) (group next : Group) : Type 0 where
  pub first : entries_from f tail (group_end group) ≡ entry_at f (group_end group) ∷ entries_from f tail (group_end next)
  pub passes : PassFrom g f tail (group_end next)
  pub records : AreRecords g f tail next.first next.count
  pub left_open : group_changes f next ≡ open_changes (group_changes f group) (entry_at f (group_end group))

-- Where records stand, and no check fails behind them, the entry behind them is taken.
pub record TakesEntry (log : Log) (group : Group) (old new : Standing) (result : Result Group OpenError) : Type 0 where
  pub writes : IsTrue old.told → AreRecords (sizes_of log.geometry) (held_lines log old) log.tail group.first group.count
      → PassFrom (sizes_of log.geometry) (held_lines log old) log.tail (group_end group)
      → MakesCalls (ending_calls (sizes_of log.geometry) (group_changes (held_lines log old) group) (entry_at (held_lines log old) (group_end group))) old new result
  pub next : IsTrue old.told → AreRecords (sizes_of log.geometry) (held_lines log old) log.tail group.first group.count
      → PassFrom (sizes_of log.geometry) (held_lines log old) log.tail (group_end group)
      → IfOk result (λ made. IsNext (sizes_of log.geometry) (held_lines log old) log.tail group made)

-- whatever the device is, the next group ends further on, and within the log
pub record EndsLater (log : Log) (group next : Group) : Type 0 where
  pub above : log.start ≤ next.first
  pub later : group_end group < group_end next
  pub below : group_end next ≤ log.tail

abbrev pub IsBehind : Log → Group → Result Group OpenError → Type 0
IsBehind log group result = IfOk result (λ next. EndsLater log group next)

-- where no check fails, the whole log is replayed
pub record ReplaysLog {T : Type 0} (log : Log) (old new : Standing) (result : Result T OpenError) : Type 0 where
  pub writes : IsTrue old.told → 0 < log.geometry.log_blocks → PassFrom (sizes_of log.geometry) (held_lines log old) log.tail log.start
      → MakesCalls (replay_calls (sizes_of log.geometry) (grouped no_log (entries_from (held_lines log old) log.tail log.start))) old new result
