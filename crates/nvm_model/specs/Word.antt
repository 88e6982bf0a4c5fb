-- One word of NVM by its versions, and what each call makes of it.
use Rattle.std.specs.Prelude.{◌≡◌, ◌⊎◌, ℕ, suc, List, [], ◌∷◌, take}

-- The newest version, and those before it, the latest of them first. The mark stands this many versions behind the
-- newest; a fence keeps the versions from the mark on.
pub record Word : Type 0 where
  pub newest : ℕ
  pub older : List ℕ
  pub kept : ℕ

-- a store appends a version, and the mark stays where it is
abbrev pub stored : ℕ → Word → Word
stored value word = record { newest = value; older = word.newest ∷ word.older; kept = suc word.kept }

-- a flush sets the mark to the last version
abbrev pub marked : Word → Word
marked word = record word { kept = 0 }

-- a fence drops what stands before the mark
abbrev pub trimmed : Word → Word
trimmed word = record word { older = take word.kept word.older }

-- a word of one version, with the mark on it
abbrev pub single : ℕ → Word
single value = record { newest = value; older = []; kept = 0 }

-- one of these numbers
abbrev pub Among : List ℕ → ℕ → Type 0
Among [] value = ⊥
Among (x ∷ xs) value = (value ≡ x) ⊎ Among xs value

-- a version of the word
abbrev pub IsVersion : Word → ℕ → Type 0
IsVersion word value = Among (word.newest ∷ word.older) value

-- the word has one version
abbrev pub IsSingle : Word → Type 0
IsSingle word = word.older ≡ []

-- the versions of the word are all equal
abbrev pub IsSteady : Word → Type 0
IsSteady word = (value : ℕ) → IsVersion word value → value ≡ word.newest

-- the last number of a list that begins with x
abbrev pub last_of : ℕ → List ℕ → ℕ
last_of x [] = x
last_of x (y ∷ ys) = last_of y ys

-- the oldest version of a word
abbrev pub oldest : Word → ℕ
oldest word = last_of word.newest word.older
