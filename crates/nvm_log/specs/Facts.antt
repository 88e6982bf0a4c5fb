-- What the calls of a log keep of the facts of an open store.
use Rattle.std.specs.Prelude.{◌≡◌, ℕ, ◌+◌, ◌<◌, true, List, [], ◌++◌, length, Some, None, IsTrue, Result, OnOk}
use Rattle.nvm_model.specs.declared.line.Line.{Line}
use Rattle.devices.specs.State.{State, Image, Leaves, current}
use Rattle.devices.specs.World.{Standing, Moments, now}
use Rattle.store_model.specs.Layout.{Sizes, pages}
use Rattle.store_model.specs.Log.{is_logged}
use Rattle.store_model.specs.Format.{Format, word_in}
use Rattle.store_model.specs.Format.Format.{whole_lines}
use Rattle.store_model.specs.Recovered.{super_of, home, log_of}
use Rattle.store_model.specs.StoreFacts.{Gate, Bookkeeping, IsWord, StoreFacts, committed_from}
use Rattle.store_model.specs.Seen.{changing_to}
use Rattle.store_model.specs.Pending.{PendingStands, EndsRight, HasBefore, IsConstant, pending_with, none_pending}
use Rattle.nvm_layout.specs.Sizes.{sizes_of}
use Rattle.nvm_log.specs.Entries.{change_of, record_lines}
use Rattle.nvm_log.specs.Offsets.{Offsets, offsets_of}
use Rattle.nvm_log.specs.Standing.{IsLogOf}
use Rattle.nvm_log.specs.declared.log.Log.{Log}
use Rattle.nvm_log.specs.declared.record.LineRecord.{LineRecord}
use Rattle.nvm_log.specs.declared.record.EndKind.{EndKind}
use Rattle.nvm_log.specs.declared.record.EndKind.TheVariants.{Commit, Abort}

-- The facts hold, no gate is being changed, the log in memory is that of the devices, and these lines of the pending
-- records stand behind its tail, up to `written`.
pub record HasFacts (format : Format) (g : Sizes) (at : Offsets) (b : Bookkeeping) (lines : List Line) (s : State) : Type 0 where
  pub log_is : IsLogOf g at s
  pub facts : StoreFacts b s
  pub still : b.changing ≡ None
  pub format_is : b.format ≡ format
  pub stands : PendingStands b s lines
  pub count : at.tail + length lines ≡ at.written

-- At each moment the facts hold with the gate that is being changed, and where the call answers ok with none.
pub record Keeps {T E : Type 0} (format : Format) (g : Sizes) (at : Offsets) (during after : Bookkeeping) (lines : List Line) (old new : Standing) (result : Result T E) : Type 0 where
  pub part : Moments old new (StoreFacts during)
  pub whole : OnOk result (HasFacts format g at after lines (now new))

-- A record may be stored: its line is one of the store's, and each word that it names, and that no record of the open
-- group and no pending record names yet, has its committed word as before value.
pub record CanRecord (change : LineRecord) (b : Bookkeeping) (s : State) : Type 0 where
  pub page : change.page < pages b.sizes
  pub line : change.line < 64
  pub before : HasBefore b s (change_of change)

-- The log may be emptied: nothing is pending; the home of each word that it names is its current and its committed word, in
-- every image; and where a copy in DRAM has such a word, that is the current one.
pub record CanEmpty (b : Bookkeeping) (s : State) : Type 0 where
  pub nothing : b.pending ≡ []
  pub homes : (j : Image) → Leaves s j → (p l w : ℕ) → IsWord b.sizes p l w → is_logged (log_of b.format j) p l w ≡ true
      → (home j p l w ≡ b.current p l w) × (home j p l w ≡ b.committed (super_of j).tail p l w)
  pub copies : (p l w : ℕ) (line : Line) → IsWord b.sizes p l w → is_logged (log_of b.format (current s)) p l w ≡ true → b.copy p l ≡ Some line
      → word_in line w ≡ b.current p l w

-- The clauses of the four calls, of whatever the store keeps.
abbrev pub RecordKeeps : {T E : Type 0} → Log → Log → LineRecord → Standing → Standing → Result T E → Type 0
RecordKeeps log new_log change old new result =
    (b : Bookkeeping) (lines : List Line) → IsTrue old.told → HasFacts whole_lines (sizes_of log.geometry) (offsets_of log) b lines (now old) → CanRecord change b (now old)
    → Keeps whole_lines (sizes_of new_log.geometry) (offsets_of new_log) b (pending_with b (change_of change)) (lines ++ record_lines change) old new result

abbrev pub HardenKeeps : {T E : Type 0} → Log → Log → Standing → Standing → Result T E → Type 0
HardenKeeps log new_log old new result =
    (b : Bookkeeping) (lines : List Line) → IsTrue old.told → HasFacts whole_lines (sizes_of log.geometry) (offsets_of log) b lines (now old) → IsConstant b log.tail log.written
    → Keeps whole_lines (sizes_of new_log.geometry) (offsets_of new_log) (changing_to b Gate.tail log.tail log.written b.committed) (none_pending b) [] old new result

-- The end of a commit may be put where the log with the pending records and it last gives the current words; that of an
-- abort where the committed words are the same for the old and the new tail.
abbrev pub CanEnd : EndKind → Log → Bookkeeping → State → Type 0
CanEnd Commit log b s = EndsRight b s
CanEnd Abort log b s = IsConstant b log.tail (log.written + 1)

-- While the end of a commit is put, the current words are committed in an image with the new tail.
abbrev pub ending : EndKind → Log → Bookkeeping → Bookkeeping
ending Commit log b = changing_to b Gate.tail log.tail (log.written + 1) (committed_from (log.written + 1) b.current b.committed)
ending Abort log b = changing_to b Gate.tail log.tail (log.written + 1) b.committed

-- then nothing is pending, and after a commit the current words are the committed ones
abbrev pub ended : EndKind → Bookkeeping → Bookkeeping
ended Commit b = record b { committed = λ n. b.current; pending = [] }
ended Abort b = none_pending b

abbrev pub EndKeeps : {T E : Type 0} → EndKind → Log → Log → Standing → Standing → Result T E → Type 0
EndKeeps kind log new_log old new result =
    (b : Bookkeeping) (lines : List Line) → IsTrue old.told → HasFacts whole_lines (sizes_of log.geometry) (offsets_of log) b lines (now old) → CanEnd kind log b (now old)
    → Keeps whole_lines (sizes_of new_log.geometry) (offsets_of new_log) (ending kind log b) (ended kind b) [] old new result

abbrev pub StartKeeps : {T E : Type 0} → Log → Log → Standing → Standing → Result T E → Type 0
StartKeeps log new_log old new result =
    (b : Bookkeeping) → IsTrue old.told → HasFacts whole_lines (sizes_of log.geometry) (offsets_of log) b [] (now old) → CanEmpty b (now old)
    → Keeps whole_lines (sizes_of new_log.geometry) (offsets_of new_log) (changing_to b Gate.start log.start log.tail b.committed) b [] old new result
