-- What an entry at the end of the log, or a new start, makes of a device, at each moment and when it is done.
use Rattle.std.specs.Prelude.{◌≡◌, ◌⊎◌, ℕ, ◌+◌, true, Result, OnOk, Some}
use Rattle.nvm_model.specs.declared.line.Line.{Line}
use Rattle.devices.specs.State.{State, Image, Leaves, current}
use Rattle.devices.specs.World.{Standing, Moments, now}
use Rattle.flat_store_meaning.specs.Layout.{Sizes}
use Rattle.flat_store_meaning.specs.Log.{Words, Log, Entry, no_log, extended, is_logged}
use Rattle.flat_store_meaning.specs.Log.Entry.{commit}
use Rattle.flat_store_meaning.specs.Format.Format.{whole_lines}
use Rattle.flat_store_meaning.specs.Format.{Format, IsWhole, word_in}
use Rattle.flat_store_meaning.specs.Recovered.{super_of, log_lines, log_of, home, replay}
use Rattle.flat_store_meaning.specs.InOrder.{HomeStands}
use Rattle.flat_store_meaning.specs.Put.{CanPut}
use Rattle.flat_store_meaning.specs.StoreFacts.Gate.{start}
use Rattle.flat_store_meaning.specs.StoreFacts.{Bookkeeping, IsWord, StoreFacts, moving, committed_from}

-- every image has this log
abbrev pub HasLog : Format → Log → State → Type 0
HasLog format log s = (i : Image) → Leaves s i → log_of format i ≡ log

-- each image has this log, or this log with the entry last
abbrev pub HasEither : Format → Log → Entry → State → Type 0
HasEither format log entry s = (i : Image) → Leaves s i → (log_of format i ≡ log) ⊎ (log_of format i ≡ extended log entry)

-- The gates and the log are durable, n lines are free, and no entry is cut short.
pub record CanExtend (format : Format) (s : State) (n : ℕ) : Type 0 where
  pub can : CanPut s n
  pub whole : IsWhole format 0 (log_lines (current s))

-- At each moment the groups are the old ones or those with the entry last, in every image, and where the call answers
-- ok they are the latter.
pub record PutsLast {T E : Type 0} (format : Format) (entry : Entry) (old new : Standing) (result : Result T E) : Type 0 where
  pub part : Moments old new (HasEither format (log_of format (current (now old))) entry)
  pub whole : OnOk result (HasLog format (extended (log_of format (current (now old))) entry) (now new))

-- At each moment the facts hold with the gate that is being changed, and where the call answers ok with none.
pub record KeepsFacts {T E : Type 0} (during after : Bookkeeping) (old new : Standing) (result : Result T E) : Type 0 where
  pub part : Moments old new (StoreFacts during)
  pub whole : OnOk result (StoreFacts after (now new))

-- while n lines are put at the end the tail changes, and the committed words stay
abbrev pub putting : Bookkeeping → State → ℕ → Bookkeeping
putting b s n = moving b (super_of (current s)).tail ((super_of (current s)).tail + n) b.committed

-- while the end of a commit is put there, the current words are committed in an image with the new tail
abbrev pub committing : Bookkeeping → State → Bookkeeping
committing b s = moving b (super_of (current s)).tail ((super_of (current s)).tail + 1) (committed_from ((super_of (current s)).tail + 1) b.current b.committed)

-- when it is done they are, in every image
abbrev pub committed_now : Bookkeeping → Bookkeeping
committed_now b = record b { committed = λ n. b.current }

-- the committed words don't depend on which of the two tails an image has
abbrev pub IsConstant : Bookkeeping → State → ℕ → Type 0
IsConstant b s n = (p l w : ℕ) → b.committed ((super_of (current s)).tail + n) p l w ≡ b.committed (super_of (current s)).tail p l w

-- At each moment each image has the old log or an empty one, and where the call answers ok every image has an empty one.
pub record Empties {T E : Type 0} (format : Format) (old new : Standing) (result : Result T E) : Type 0 where
  pub part : Moments old new (λ s. (i : Image) → Leaves s i → (log_of format i ≡ log_of format (current (now old))) ⊎ (log_of format i ≡ no_log))
  pub whole : OnOk result (HasLog format no_log (now new))

-- while the log is emptied the start changes
abbrev pub starting : Bookkeeping → State → Bookkeeping
starting b s = record b { changing = Some (record { gate = start; old = (super_of (current s)).start; new = (super_of (current s)).tail }) }

-- The home of each word that the log names is durable, and its current and its committed word, in every image, and the
-- copies in DRAM are the homes.
pub record HomesHoldAll (b : Bookkeeping) (s : State) : Type 0 where
  pub homes : (j : Image) → Leaves s j → (p l w : ℕ) → IsWord b.sizes p l w → is_logged (log_of b.format j) p l w ≡ true
      → HomeStands b.sizes s p l w × (home j p l w ≡ b.current p l w) × (home j p l w ≡ b.committed (super_of j).tail p l w)
  pub copies : (j : Image) → Leaves s j → (p l w : ℕ) (line : Line) → IsWord b.sizes p l w → b.copy p l ≡ Some line → word_in line w ≡ home j p l w

-- With a commit last the log gives these words to all that it names.
abbrev pub LogEnds : Sizes → Log → Words → Type 0
LogEnds g log words = (p l w : ℕ) → IsWord g p l w → is_logged (extended log commit) p l w ≡ true → (homes : Words) → replay whole_lines (extended log commit) homes p l w ≡ words p l w
