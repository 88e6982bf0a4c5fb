-- What holds of the devices while a store is open whose pages all stand in frames of NVM.
use Rattle.std.specs.Prelude.{◌≡◌, ℕ, [], None}
use Rattle.devices.specs.State.{State, current}
use Rattle.flat_store_meaning.specs.Layout.{Sizes, frame_line}
use Rattle.flat_store_meaning.specs.Log.{Words}
use Rattle.flat_store_meaning.specs.Format.{magic}
use Rattle.flat_store_meaning.specs.Format.Format.{whole_lines}
use Rattle.flat_store_meaning.specs.Recovered.{Super, super_of}
use Rattle.flat_store_meaning.specs.StoreFacts.{Bookkeeping, IsWord, StoreFacts, EndsRight}

-- what such a store keeps between its calls: these words are the current ones, and those are committed
abbrev pub keeping : Sizes → Words → Words → Bookkeeping
keeping g words kept = record { format = whole_lines; sizes = g; changing = None; current = words; committed = λ n. kept; pending = []; copy = λ p l. None }

-- the superblock of a store of these sizes whose log stands between two offsets
abbrev pub super_with : Sizes → ℕ → ℕ → Super
super_with g start tail = record { magic_word = magic whole_lines; sizes = g; start = start; drained = start; tail = tail }

-- The log stands from one offset to another, and the facts hold of the current and the committed words, whatever these
-- are. The newest words of the frames are the current ones, each marked, and with a commit last the log gives them too.
pub record OpenFacts (g : Sizes) (start tail : ℕ) (s : State) : Type 0 where
  pub words : Words
  pub kept : Words
  pub super_words : super_of (current s) ≡ super_with g start tail
  pub facts : StoreFacts (keeping g words kept) s
  pub newest : (p l w : ℕ) → IsWord g p l w → (s.nvm (frame_line g p l) w).newest ≡ words p l w
  pub flushed : (p l w : ℕ) → IsWord g p l w → (s.nvm (frame_line g p l) w).kept ≡ 0
  pub ends : EndsRight (keeping g words kept) s
