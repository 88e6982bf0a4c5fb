-- All that a store keeps between its calls, beside the devices.
use Rattle.std.specs.Prelude.{◌≡◌, ℕ, true, false, ◌+◌, List, [], slice_index, None, IsTrue, Result, OnOk}
use Rattle.nvm_model.specs.declared.line.Line.{Line}
use Rattle.devices.specs.State.{State, current}
use Rattle.store_model.specs.Log.{Change, names}
use Rattle.store_model.specs.Format.{word_in}
use Rattle.store_model.specs.Recovered.{log_lines}
use Rattle.store_model.specs.Copies.{with_line}
use Rattle.devices.specs.World.{Standing, Moments, now}
use Rattle.store_model.specs.Layout.{entry_line, entry_word}
use Rattle.store_model.specs.StoreFacts.{Gate, Bookkeeping, IsWord, StoreFacts}
use Rattle.store_model.specs.Seen.{CanClear, changing_to}
use Rattle.store_model.specs.Pending.{PendingStands, EndsRight}
use Rattle.store_model.specs.Shown.{ShowsCurrent, HomesFlushed}

-- The facts hold and no gate is being changed; these lines of pending records stand behind the tail; with them and a commit
-- last the log gives the current words; so do the copies and the homes of what has none; and a fence makes all homes durable.
pub record Kept (b : Bookkeeping) (s : State) (lines : List Line) : Type 0 where
  pub facts : StoreFacts b s
  pub still : b.changing ≡ None
  pub stands : PendingStands b s lines
  pub ends : EndsRight b s
  pub shows : ShowsCurrent b s
  pub flushed : HomesFlushed b s

-- What of it holds also while a record stands whose line was not changed yet, and while an abort takes back what was
-- written: nothing is pending, and it is not said what a commit would give.
pub record KeptShown (b : Bookkeeping) (s : State) : Type 0 where
  pub facts : StoreFacts b s
  pub still : b.changing ≡ None
  pub alone : b.pending ≡ []
  pub shows : ShowsCurrent b s
  pub flushed : HomesFlushed b s

-- All of it, where nothing is pending.
pub record KeptAlone (b : Bookkeeping) (s : State) : Type 0 where
  pub shown : KeptShown b s
  pub ends : EndsRight b s

-- A step that changes neither the current words nor the log.
pub record Moves (b : Bookkeeping) (old new : State) : Type 0 where
  pub shown : KeptShown b new
  pub log : log_lines (current new) ≡ log_lines (current old)

-- A record of a write to a line: what it names has the current values before and the new ones after, and what it doesn't
-- name is current.
pub record RecordsLine (b : Bookkeeping) (page line : ℕ) (new : Line) (change : Change) : Type 0 where
  pub page_is : change.page ≡ page
  pub line_is : change.line ≡ line
  pub before : (w : ℕ) → IsWord b.sizes page line w → names change page line w ≡ true → slice_index change.before.words w ≡ b.current page line w
  pub after : (w : ℕ) → IsWord b.sizes page line w → names change page line w ≡ true → slice_index change.after.words w ≡ word_in new w
  pub rest : (w : ℕ) → IsWord b.sizes page line w → names change page line w ≡ false → word_in new w ≡ b.current page line w

-- the line is the current one from then on
abbrev pub after_record : Bookkeeping → ℕ → ℕ → Line → Bookkeeping
after_record b page line new = record b { current = with_line b.current page line new }

-- At each moment of a call the facts hold with the gate that is being changed, and where it answers ok with none.
pub record KeepsFacts {T E : Type 0} (during after : Bookkeeping) (old new : Standing) (result : Result T E) : Type 0 where
  pub part : Moments old new (StoreFacts during)
  pub whole : OnOk result (StoreFacts after (now new))

-- What a call that clears the entry of a frame promises, whatever the store keeps.
pub record ClearsEntry {T E : Type 0} (line word : ℕ) (old new : Standing) (result : Result T E) : Type 0 where
  pub keeps : IsTrue old.told → (b : Bookkeeping) (k page : ℕ) → line ≡ entry_line k → word ≡ entry_word k → StoreFacts b (now old) → b.changing ≡ None → CanClear b (now old) k page
      → KeepsFacts (changing_to b (Gate.frame k) (page + 1) 0 b.committed) b old new result
