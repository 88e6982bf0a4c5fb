-- Lines that are put at the end of the log, and a log that is emptied: the calls, and what they need.
use Rattle.std.specs.Prelude.{◌≡◌, ℕ, ◌+◌, ◌<◌, ◌≤◌, List, [], ◌∷◌, ◌++◌, length}
use Rattle.nvm_model.specs.declared.line.Line.{Line}
use Rattle.devices.specs.State.{State, current, Call}
use Rattle.nvm_model.specs.Word.{IsSingle}
use Rattle.nvm_model.specs.Memory.{line_of}
use Rattle.devices.specs.State.Call.{store_word, store_line, flush, fence}
use Rattle.flat_store_meaning.specs.Layout.{Sizes, ring_line, ring_lines}
use Rattle.flat_store_meaning.specs.Format.{word_in}
use Rattle.flat_store_meaning.specs.Recovered.{super_of}
use Rattle.flat_store_meaning.specs.InOrder.{IsNamed, LineStands}

-- each line is stored in the ring and flushed
abbrev pub put_calls : Sizes → ℕ → List Line → List Call
put_calls g offset [] = []
put_calls g offset (line ∷ lines) = store_line (ring_line g offset) line ∷ flush (ring_line g offset) ∷ put_calls g (offset + 1) lines

-- a fence, and then the tail, durable
abbrev pub tail_calls : ℕ → List Call
tail_calls tail = store_word 3 0 tail ∷ flush 3 ∷ fence ∷ []

abbrev pub append_calls : Sizes → ℕ → List Line → List Call
append_calls g tail lines = (put_calls g tail lines ++ fence ∷ []) ++ tail_calls (tail + length lines)

-- the start becomes this offset, durable
abbrev pub start_calls : ℕ → List Call
start_calls to = store_word 1 0 to ∷ flush 1 ∷ fence ∷ []

-- a line of eight words
abbrev pub IsLine : Line → Type 0
IsLine line = line_of (word_in line) ≡ line

-- The gates and the log are durable, and n lines are free in the ring.
pub record CanPut (s : State) (n : ℕ) : Type 0 where
  pub superblock : (l w : ℕ) → IsNamed l w → IsSingle (s.nvm l w)
  pub log : (offset : ℕ) → (super_of (current s)).start ≤ offset → offset < (super_of (current s)).tail → LineStands (super_of (current s)) s offset
  pub ring : 0 < (super_of (current s)).sizes.log_blocks
  pub started : (super_of (current s)).start ≤ (super_of (current s)).tail
  pub drained : (super_of (current s)).drained ≤ (super_of (current s)).tail
  pub room : (super_of (current s)).tail + n ≤ (super_of (current s)).drained + ring_lines (super_of (current s)).sizes

-- the ring line of one of the n offsets from this one on
abbrev pub IsFree : Sizes → ℕ → ℕ → ℕ → Type 0
IsFree g offset n line = (o : ℕ) × (offset ≤ o) × (o < offset + n) × (line ≡ ring_line g o)
