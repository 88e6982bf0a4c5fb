-- What holds while an abort takes back the lines of the open group.
use Rattle.std.specs.Prelude.{◌≡◌, ℕ, drop}
use Rattle.devices.specs.State.{State, current}
use Rattle.flat_store_meaning.specs.Layout.{Sizes, frame_line}
use Rattle.flat_store_meaning.specs.Log.{Words, undone}
use Rattle.flat_store_meaning.specs.Recovered.{super_of}
use Rattle.flat_store_meaning.specs.StoreFacts.{IsWord, StoreFacts}
use Rattle.flat_store_laws.specs.OpenFacts.{keeping, super_with}
use Rattle.flat_store_laws.specs.OpenGroup.{OpenGroup}

-- The facts of an open store with these current and committed words, but for what a commit would give.
pub record Undoing (g : Sizes) (start tail : ℕ) (words kept : Words) (s : State) : Type 0 where
  pub super_words : super_of (current s) ≡ super_with g start tail
  pub facts : StoreFacts (keeping g words kept) s
  pub newest : (p l w : ℕ) → IsWord g p l w → (s.nvm (frame_line g p l) w).newest ≡ words p l w
  pub flushed : (p l w : ℕ) → IsWord g p l w → (s.nvm (frame_line g p l) w).kept ≡ 0

-- An abort is about to take back the first k records of the open group, last first: those behind were taken back. When all
-- are, the current words are the committed ones.
pub record TakingBack (g : Sizes) (start tail first k : ℕ) (s : State) : Type 0 where
  pub words : Words
  pub kept : Words
  pub group : OpenGroup g start first (current s)
  pub undoing : Undoing g start tail (undone (drop k group.group) words) kept s
  pub back : (p l w : ℕ) → IsWord g p l w → undone group.group words p l w ≡ kept p l w
