-- Records that are stored behind the tail, and made part of the log together.
use Rattle.std.specs.Prelude.{◌≡◌, ℕ, ◌+◌, ◌<◌, ◌≤◌, true, false, List, [], ◌∷◌, ◌++◌, length, slice_index, slice_index_or, None}
use Rattle.nvm_model.specs.declared.line.Line.{Line}
use Rattle.devices.specs.State.{State, Image, Leaves, current, Call}
use Rattle.devices.specs.State.Call.{fence}
use Rattle.store_model.specs.Layout.{Sizes, ring_line, ring_lines}
use Rattle.store_model.specs.Log.{Words, Change, Entry, Log, grouped, extended, names, named_in, changes, is_logged}
use Rattle.store_model.specs.Log.Item.{write}
use Rattle.store_model.specs.Log.Entry.{item, commit}
use Rattle.store_model.specs.Format.{entries, log_check, word_in, zero_line}
use Rattle.store_model.specs.Recovered.{super_of, log_of, replay}
use Rattle.store_model.specs.Put.{put_calls, tail_calls, IsLine, IsFlushed, CanPut}
use Rattle.store_model.specs.StoreFacts.{Bookkeeping, IsWord}

-- these records as entries
abbrev pub record_entries : List Change → List Entry
record_entries [] = []
record_entries (change ∷ changes) = item (write change) ∷ record_entries changes

-- a log with these records last
abbrev pub with_records : Log → List Change → Log
with_records log changes = grouped log (record_entries changes)

-- a fence makes durable what stands flushed behind the tail, and then the tail gets its new value
abbrev pub harden_calls : ℕ → List Call
harden_calls tail = fence ∷ tail_calls tail

-- lines are stored and flushed from this offset on, behind those that stand there, and then all of them become the log's
abbrev pub end_calls : Sizes → ℕ → List Line → List Call
end_calls g offset lines = put_calls g offset lines ++ harden_calls (offset + length lines)

-- These lines stand flushed behind the tail, where the ring has room, and pass their checks. So each of their words has
-- the stored value as newest version, with the mark on it, and at most older versions besides: one fence leaves it alone.
pub record IsBehind (b : Bookkeeping) (s : State) (lines : List Line) : Type 0 where
  pub room : (super_of (current s)).tail + length lines ≤ (super_of (current s)).drained + ring_lines b.sizes
  pub flushed : (k w : ℕ) → k < length lines → w < 8
      → IsFlushed (s.nvm (ring_line b.sizes ((super_of (current s)).tail + k)) w) (word_in (slice_index_or lines k zero_line) w)
  pub are_lines : (k : ℕ) → k < length lines → IsLine (slice_index_or lines k zero_line)
  pub passes : (at : ℕ) → log_check b.format b.sizes at 0 lines ≡ None

-- The lines of the pending records stand behind the tail, and with these records last the log gives the committed words
-- to all that it names.
pub record PendingStands (b : Bookkeeping) (s : State) (lines : List Line) : Type 0 where
  pub behind : IsBehind b s lines
  pub holds : entries b.format 0 lines ≡ record_entries b.pending
  pub right : (j : Image) → Leaves s j → (p l w : ℕ) → IsWord b.sizes p l w → is_logged (with_records (log_of b.format j) b.pending) p l w ≡ true
      → (homes : Words) → replay b.format (with_records (log_of b.format j) b.pending) homes p l w ≡ b.committed (super_of (current s)).tail p l w

-- With the pending records and a commit last the log gives the current words to all that it names.
abbrev pub EndsRight : Bookkeeping → State → Type 0
EndsRight b s = (j : Image) → Leaves s j → (p l w : ℕ) → IsWord b.sizes p l w → is_logged (extended (with_records (log_of b.format j) b.pending) commit) p l w ≡ true
    → (homes : Words) → replay b.format (extended (with_records (log_of b.format j) b.pending) commit) homes p l w ≡ b.current p l w

-- one record more is pending
abbrev pub pending_with : Bookkeeping → Change → Bookkeeping
pending_with b change = record b { pending = b.pending ++ change ∷ [] }

-- nothing is pending any more
abbrev pub none_pending : Bookkeeping → Bookkeeping
none_pending b = record b { pending = [] }

-- The lines of one entry can be stored behind n lines that stand behind the tail.
pub record CanPutEntry (b : Bookkeeping) (s : State) (n : ℕ) (lines : List Line) (e : Entry) : Type 0 where
  pub room : (super_of (current s)).tail + n + length lines ≤ (super_of (current s)).drained + ring_lines b.sizes
  pub are_lines : (k : ℕ) → k < length lines → IsLine (slice_index_or lines k zero_line)
  pub passes : (at : ℕ) → log_check b.format b.sizes at 0 lines ≡ None
  pub holds : entries b.format 0 lines ≡ e ∷ []

-- Each word that the record names, and that no record of the open group and no pending record names yet, has its
-- committed word as before value.
abbrev pub HasBefore : Bookkeeping → State → Change → Type 0
HasBefore b s change = (j : Image) → Leaves s j → (p l w : ℕ) → IsWord b.sizes p l w → names change p l w ≡ true
    → named_in (changes (with_records (log_of b.format j) b.pending).open_items) p l w ≡ false
    → b.committed (super_of (current s)).tail p l w ≡ slice_index change.before.words w

-- the committed words are the same for two tails
abbrev pub IsConstant : Bookkeeping → ℕ → ℕ → Type 0
IsConstant b old new = (p l w : ℕ) → b.committed new p l w ≡ b.committed old p l w

-- The same of the devices alone, for the layer that knows the log and no pages: the gates and the log are durable, the ring has
-- room for these lines, and they stand flushed behind the tail.
pub record StandsFlushed (s : State) (lines : List Line) : Type 0 where
  pub can : CanPut s (length lines)
  pub flushed : (k w : ℕ) → k < length lines → w < 8
      → IsFlushed (s.nvm (ring_line (super_of (current s)).sizes ((super_of (current s)).tail + k)) w) (word_in (slice_index_or lines k zero_line) w)
  pub are_lines : (k : ℕ) → k < length lines → IsLine (slice_index_or lines k zero_line)
