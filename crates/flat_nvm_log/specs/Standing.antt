-- When the log in memory is that of the devices, and what its calls make of the log and of the facts of an open store.
use Rattle.std.specs.Prelude.{◌≡◌, ℕ, ◌<◌, true, false, [], None, IsTrue, Result, OnOk, slice_index}
use Rattle.devices.specs.State.{State, Image, Leaves, current}
use Rattle.devices.specs.World.{Standing, now}
use Rattle.flat_nvm_layout.specs.Sizes.{sizes_of}
use Rattle.flat_store_meaning.specs.Layout.{pages}
use Rattle.flat_store_meaning.specs.Log.{Entry, names, named_in, changes}
use Rattle.flat_store_meaning.specs.Format.Format.{whole_lines}
use Rattle.flat_store_meaning.specs.Recovered.{super_of, log_of}
use Rattle.flat_store_meaning.specs.Put.{CanPut}
use Rattle.flat_store_meaning.specs.StoreFacts.{Bookkeeping, IsWord, StoreFacts, EndsRight}
use Rattle.flat_store_meaning.specs.AtEnd.{CanExtend, PutsLast, Empties, KeepsFacts, HomesHoldAll, IsConstant, putting, committing, committed_now, starting}
use Rattle.flat_nvm_log.specs.Entries.{change_of}
use Rattle.flat_nvm_log.specs.declared.log.Log.{Log}
use Rattle.flat_nvm_log.specs.declared.record.LineRecord.{LineRecord}
use Rattle.flat_nvm_log.specs.declared.record.EndKind.{EndKind}
use Rattle.flat_nvm_log.specs.declared.record.EndKind.TheVariants.{Commit, Abort}

-- the superblock that loads give has these sizes, this start and this tail
pub record IsLogOf (log : Log) (s : State) : Type 0 where
  pub sizes : (super_of (current s)).sizes ≡ sizes_of log.geometry
  pub start : (super_of (current s)).start ≡ log.start
  pub tail : (super_of (current s)).tail ≡ log.tail

-- Where the log is durable and has room for n lines, at each moment the groups are the old ones or those with the entry
-- last, in every image; where the call answers ok they are the latter, and the log in memory is that of the devices.
pub record PutsEntry {T E : Type 0} (log new_log : Log) (n : ℕ) (entry : Entry) (old new : Standing) (result : Result T E) : Type 0 where
  pub puts : IsTrue old.told → IsLogOf log (now old) → CanExtend whole_lines (now old) n → PutsLast whole_lines entry old new result
  pub stands : IsTrue old.told → IsLogOf log (now old) → CanPut (now old) n → OnOk result (IsLogOf new_log (now new))

-- The same where the log is emptied: it has the old groups or none.
pub record EmptiesLog {T E : Type 0} (log new_log : Log) (old new : Standing) (result : Result T E) : Type 0 where
  pub empties : IsTrue old.told → IsLogOf log (now old) → CanPut (now old) 0 → Empties whole_lines old new result
  pub stands : IsTrue old.told → IsLogOf log (now old) → CanPut (now old) 0 → OnOk result (IsLogOf new_log (now new))

-- The facts of an open store hold, no gate is being changed, and the log in memory is that of the devices.
pub record HasFacts (log : Log) (b : Bookkeeping) (s : State) : Type 0 where
  pub log_of_it : IsLogOf log s
  pub facts : StoreFacts b s
  pub still : b.changing ≡ None
  pub format : b.format ≡ whole_lines

-- A record of a line of the store may be put: each word that it names, and that no record of the open group names yet,
-- has its committed word as before value.
pub record CanRecord (log : Log) (change : LineRecord) (b : Bookkeeping) (s : State) : Type 0 where
  pub has : HasFacts log b s
  pub page : change.page < pages b.sizes
  pub line : change.line < 64
  pub constant : IsConstant b s 3
  pub before : (j : Image) → Leaves s j → (p l w : ℕ) → IsWord b.sizes p l w → names (change_of change) p l w ≡ true
      → named_in (changes (log_of b.format j).open_items) p l w ≡ false → b.committed (super_of (current s)).tail p l w ≡ slice_index change.before.words w

-- The end of a commit may be put: the groups with it last replay to the current words.
pub record CanCommit (log : Log) (b : Bookkeeping) (s : State) : Type 0 where
  pub has : HasFacts log b s
  pub nothing : b.pending ≡ []
  pub ends : EndsRight b s

-- The end of an abort may be put.
pub record CanAbort (log : Log) (b : Bookkeeping) (s : State) : Type 0 where
  pub has : HasFacts log b s
  pub constant : IsConstant b s 1

-- The log may be emptied: the home of each word that it names is durable, its current and its committed word.
pub record CanEmpty (log : Log) (b : Bookkeeping) (s : State) : Type 0 where
  pub has : HasFacts log b s
  pub nothing : b.pending ≡ []
  pub homes : HomesHoldAll b s

-- Then the facts hold at each moment, with the gate that is being changed, and where the call answers ok with none.
abbrev pub RecordKeeps : {T E : Type 0} → Log → LineRecord → Standing → Standing → Result T E → Type 0
RecordKeeps log change old new result = (b : Bookkeeping) → IsTrue old.told → CanRecord log change b (now old) → KeepsFacts (putting b (now old) 3) b old new result

-- After a commit the current words are the committed ones; after an abort they stay.
abbrev pub EndKeeps : {T E : Type 0} → EndKind → Log → Standing → Standing → Result T E → Type 0
EndKeeps Commit log old new result = (b : Bookkeeping) → IsTrue old.told → CanCommit log b (now old) → KeepsFacts (committing b (now old)) (committed_now b) old new result
EndKeeps Abort log old new result = (b : Bookkeeping) → IsTrue old.told → CanAbort log b (now old) → KeepsFacts (putting b (now old) 1) b old new result

abbrev pub StartKeeps : {T E : Type 0} → Log → Standing → Standing → Result T E → Type 0
StartKeeps log old new result = (b : Bookkeeping) → IsTrue old.told → CanEmpty log b (now old) → KeepsFacts (starting b (now old)) b old new result
