-- The words of a line, changed one after the other.
use Rattle.std.specs.Prelude.{◌≡◌, ◌⊎◌, ℕ, ◌+◌, ◌<◌, ◌≤◌, true, false, List, get_or, length}
use Rattle.nvm_model.specs.declared.versions.Versions.{Versions}
use Rattle.nvm_model.specs.Word.{Word}
use Rattle.nvm_model.specs.Held.{Held, helds_of, rooms_of, word_in, touched, blank, AreUpTo}

-- So many of the words from one place on were changed and touched, and all others stand as they were.
pub record Progress (interval : ℕ) (change : ℕ → Word → Word) (first count : ℕ) (old new : List Held) : Type 0 where
  pub done : (k : ℕ) → k < count → get_or new (first + k) blank ≡ touched interval (change k (word_in interval (get_or old (first + k) blank)))
  pub rest : (j : ℕ) → (j < first) ⊎ (first + count ≤ j) → get_or new j blank ≡ get_or old j blank
  pub size : length new ≡ length old
  pub up_to : AreUpTo interval old → AreUpTo interval new

-- each of the words from one place up to another can take one more version
abbrev pub HaveRoom : ℕ → ℕ → ℕ → List Versions → Type 0
HaveRoom first low high words = (k : ℕ) → low ≤ k → k < high → get_or (rooms_of words) (first + k) false ≡ true

-- So many of the words from one place on were made to have room, and no word has changed.
pub record Reserved (first count : ℕ) (old new : List Versions) : Type 0 where
  pub held : helds_of new ≡ helds_of old
  pub size : length new ≡ length old
  pub room : HaveRoom first 0 count new

-- So many of the words have a new version, and the others still have room.
pub record Storing (interval : ℕ) (change : ℕ → Word → Word) (first count : ℕ) (old new : List Versions) : Type 0 where
  pub progress : Progress interval change first count (helds_of old) (helds_of new)
  pub size : length new ≡ length old
  pub room : HaveRoom first count 8 new

-- So many of the words were changed.
pub record Changing (interval : ℕ) (change : ℕ → Word → Word) (first count : ℕ) (old new : List Versions) : Type 0 where
  pub progress : Progress interval change first count (helds_of old) (helds_of new)
  pub size : length new ≡ length old
