-- What a stretch of calls may add: the stores and the writes that it may make, and the images on the way.
use Rattle.std.specs.Prelude.{◌≡◌, ◌⊎◌, ℕ, ◌<◌, List, [], ◌∷◌, slice_index, IsTrue}
use Rattle.nvm_model.specs.Word.{IsVersion, IsSingle}
use Rattle.devices.specs.State.{State, Image, Call}
use Rattle.devices.specs.State.Call.{store_word, store_line, flush, fence, write_block, sync}

-- The new state has no version but the old ones and those that may be stored, a word of one version keeps it where
-- nothing may be stored, and no other block than those that may be written has changed or become unsettled.
pub record Grows (stores : ℕ → ℕ → ℕ → Type 0) (writes : ℕ → Type 0) (old new : State) : Type 0 where
  pub words : (l w v : ℕ) → IsVersion (new.nvm l w) v → IsVersion (old.nvm l w) v ⊎ stores l w v
  pub singles : (l w : ℕ) → IsSingle (old.nvm l w) → IsSingle (new.nvm l w) ⊎ ((v : ℕ) × stores l w v)
  pub blocks : (b : ℕ) → writes b ⊎ ((IsTrue (old.ssd b).settled → IsTrue (new.ssd b).settled) × ((new.ssd b).bytes ≡ (old.ssd b).bytes))

-- An image that a crash may leave after such stores and writes: each word has an old version or a value that may be
-- stored, and each settled block that may not be written has its bytes.
pub record Reaches (stores : ℕ → ℕ → ℕ → Type 0) (writes : ℕ → Type 0) (s : State) (i : Image) : Type 0 where
  pub words : (l w : ℕ) → IsVersion (s.nvm l w) (i.nvm l w) ⊎ stores l w (i.nvm l w)
  pub blocks : (b : ℕ) → writes b ⊎ (IsTrue (s.ssd b).settled → i.ssd b ≡ (s.ssd b).bytes)

-- the call stores and writes nothing else
abbrev pub IsWithin : (ℕ → ℕ → ℕ → Type 0) → (ℕ → Type 0) → Call → Type 0
IsWithin stores writes (store_word line word value) = stores line word value
IsWithin stores writes (store_line line value) = (w : ℕ) → w < 8 → stores line w (slice_index value.words w)
IsWithin stores writes (flush line) = Unit {0}
IsWithin stores writes fence = Unit {0}
IsWithin stores writes (write_block block bytes) = writes block
IsWithin stores writes sync = Unit {0}

abbrev pub AreWithin : (ℕ → ℕ → ℕ → Type 0) → (ℕ → Type 0) → List Call → Type 0
AreWithin stores writes [] = Unit {0}
AreWithin stores writes (call ∷ calls) = IsWithin stores writes call × AreWithin stores writes calls

-- nothing is stored, nothing is written
abbrev pub no_store : ℕ → ℕ → ℕ → Type 0
no_store l w v = ⊥

abbrev pub no_write : ℕ → Type 0
no_write b = ⊥
