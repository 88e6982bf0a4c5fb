-- What the fields of one word stand for.
use Rattle.std.specs.Prelude.{ℕ, ◌≤◌, Bool, true, false, List, map, nat_lt}
use Rattle.std.specs.List.{All}
use Rattle.std.specs.VecDeque.{deque_len, deque_capacity}
use Rattle.nvm_model.specs.declared.versions.Versions.{Versions}
use Rattle.nvm_model.specs.Word.{Word, trimmed, single}

-- A word as it was left at its last touch, and the number of the fence interval of that touch.
pub record Held : Type 0 where
  pub word : Word
  pub interval : ℕ

-- what stands in the fields, and in those of a list
abbrev pub held_of : Versions → Held
held_of versions = record { word = record { newest = versions.newest; older = versions.older.items; kept = versions.kept }; interval = versions.interval }

abbrev pub helds_of : List Versions → List Held
helds_of words = map held_of words

-- the word once fences have dropped what stands before its mark, or else as it is
abbrev pub trimmed_if : Bool → Word → Word
trimmed_if true word = trimmed word
trimmed_if false word = word

-- the word in a fence interval: a fence has been there since a touch in an earlier one
abbrev pub word_in : ℕ → Held → Word
word_in interval held = trimmed_if (nat_lt held.interval interval) held.word

abbrev pub words_in : ℕ → List Held → List Word
words_in interval helds = map (word_in interval) helds

-- a word that is touched in an interval
abbrev pub touched : ℕ → Word → Held
touched interval word = record { word = word; interval = interval }

-- a new word
abbrev pub blank : Held
blank = touched 0 (single 0)

-- each word was last touched in this fence interval or in an earlier one
abbrev pub AreUpTo : ℕ → List Held → Type 0
AreUpTo interval helds = All (λ held. held.interval ≤ interval) helds

-- whether a version can be added without new memory
abbrev pub has_room : Versions → Bool
has_room versions = nat_lt (deque_len versions.older) (deque_capacity versions.older)

abbrev pub rooms_of : List Versions → List Bool
rooms_of words = map has_room words
