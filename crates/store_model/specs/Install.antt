-- A page that is put into an empty frame: the calls, and what they need.
use Rattle.std.specs.Prelude.{◌≡◌, ◌≢◌, ℕ, ◌+◌, ◌<◌, ◌≤◌, false, List, [], ◌∷◌, ◌++◌, length, slice_index_or}
use Rattle.nvm_model.specs.declared.line.Line.{Line}
use Rattle.devices.specs.State.{State, Image, Leaves, current, Call}
use Rattle.devices.specs.State.Call.{store_word, store_line, flush, fence, write_block, sync}
use Rattle.store_model.specs.Layout.{Sizes, pages, frame_line, entry_line, entry_word, page_block}
use Rattle.store_model.specs.Log.{is_logged}
use Rattle.store_model.specs.Format.{Format, word_in, zero_line}
use Rattle.store_model.specs.Recovered.{super_of, entry_at, home, log_of, block_word}
use Rattle.store_model.specs.Put.{CanPut}

-- each line is stored in the frame and flushed
abbrev pub frame_calls : Sizes → ℕ → ℕ → List Line → List Call
frame_calls g k l [] = []
frame_calls g k l (line ∷ lines) = store_line (frame_line g k l) line ∷ flush (frame_line g k l) ∷ frame_calls g k (l + 1) lines

-- a fence, and then the entry, durable
abbrev pub entry_calls : ℕ → ℕ → List Call
entry_calls k entry = store_word (entry_line k) (entry_word k) entry ∷ flush (entry_line k) ∷ fence ∷ []

abbrev pub install_calls : Sizes → ℕ → ℕ → List Line → List Call
install_calls g k page lines = (frame_calls g k 0 lines ++ fence ∷ []) ++ entry_calls k (page + 1)

-- The gates and the log are durable, the frame is empty, no frame has the page, and outside of what the log names the
-- lines are its home.
pub record CanInstall (format : Format) (s : State) (k page : ℕ) (lines : List Line) : Type 0 where
  pub can : CanPut s 0
  pub in_store : page < pages (super_of (current s)).sizes
  pub frame : k ≤ (super_of (current s)).sizes.frames
  pub empty : entry_at (current s) k ≡ 0
  pub unnamed : (n : ℕ) → n ≤ (super_of (current s)).sizes.frames → entry_at (current s) n ≢ page + 1
  pub whole : length lines ≡ 64
  pub homes : (i : Image) → Leaves s i → (l w : ℕ) → l < 64 → w < 8 → is_logged (log_of format i) page l w ≡ false
      → word_in (slice_index_or lines l zero_line) w ≡ home i page l w

-- A page that is given up by its frame: its home block is written and synced, and then the entry is cleared.
abbrev pub release_calls : Sizes → ℕ → ℕ → List ℕ → List Call
release_calls g k page bytes = (write_block (page_block g page) bytes ∷ sync ∷ []) ++ entry_calls k 0

-- The gates and the log are durable, the frame has the page and no other has it, and outside of what the log names the
-- bytes are its home.
pub record CanRelease (format : Format) (s : State) (k page : ℕ) (bytes : List ℕ) : Type 0 where
  pub can : CanPut s 0
  pub frame : k ≤ (super_of (current s)).sizes.frames
  pub named : entry_at (current s) k ≡ page + 1
  pub alone : (n : ℕ) → n ≤ (super_of (current s)).sizes.frames → n ≢ k → entry_at (current s) n ≢ page + 1
  pub homes : (i : Image) → Leaves s i → (l w : ℕ) → l < 64 → w < 8 → is_logged (log_of format i) page l w ≡ false
      → block_word bytes l w ≡ home i page l w

-- A line of a frame is stored and flushed, with no fence.
abbrev pub store_calls : Sizes → ℕ → ℕ → Line → List Call
store_calls g k l line = store_line (frame_line g k l) line ∷ flush (frame_line g k l) ∷ []

-- The gates and the log are durable, the frame has the page, and each word in which the line differs from the home is
-- one that the log names.
pub record CanStore (format : Format) (s : State) (k page l : ℕ) (line : Line) : Type 0 where
  pub can : CanPut s 0
  pub frame : k ≤ (super_of (current s)).sizes.frames
  pub in_page : l < 64
  pub named : entry_at (current s) k ≡ page + 1
  pub words : (i : Image) → Leaves s i → (w : ℕ) → w < 8 → is_logged (log_of format i) page l w ≡ false → word_in line w ≡ home i page l w
