-- A line that is stored in its place: the calls, and what they need.
use Rattle.std.specs.Prelude.{◌≡◌, ℕ, ◌<◌, false, List, [], ◌∷◌}
use Rattle.nvm_model.specs.declared.line.Line.{Line}
use Rattle.devices.specs.State.{State, Image, Leaves, Call}
use Rattle.devices.specs.State.Call.{store_line, flush}
use Rattle.flat_store_meaning.specs.Layout.{Sizes, frame_line}
use Rattle.flat_store_meaning.specs.Log.{is_logged}
use Rattle.flat_store_meaning.specs.Format.{Format, word_in}
use Rattle.flat_store_meaning.specs.Recovered.{home, log_of}
use Rattle.flat_store_meaning.specs.Put.{CanPut}

-- A line of a page is stored in its frame and flushed, with no fence.
abbrev pub store_calls : Sizes → ℕ → ℕ → Line → List Call
store_calls g page l line = store_line (frame_line g page l) line ∷ flush (frame_line g page l) ∷ []

-- The gates and the log are durable, and each word in which the line differs from the home is one that the log names.
pub record CanStore (format : Format) (s : State) (page l : ℕ) (line : Line) : Type 0 where
  pub can : CanPut s 0
  pub in_page : l < 64
  pub words : (i : Image) → Leaves s i → (w : ℕ) → w < 8 → is_logged (log_of format i) page l w ≡ false → word_in line w ≡ home i page l w
