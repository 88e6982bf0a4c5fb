-- The words of the command line.
use Rattle.std.specs.Prelude.{codes, ℕ, nat_le, List, [], ◌∷◌, ◌++◌, length, take, Option, Some, None, bytes_eq, if◌then◌else◌}
use Rattle.spitfire_app.specs.declared.words.Task.{Task}
use Rattle.spitfire_app.specs.declared.words.Task.TheVariants.{Format, Run}

-- the task of one word
abbrev pub named : List ℕ → Option Task
named word = if bytes_eq word (codes "format") then Some Format else if bytes_eq word (codes "run") then Some Run else None

-- the task that the words name
abbrev pub task_of : List (List ℕ) → Option Task
task_of (word ∷ []) = named word
task_of _ = None

-- the words with one more: three are kept at most, and 32 bytes of each
abbrev pub pushed : List (List ℕ) → List ℕ → List (List ℕ)
pushed words word = if nat_le 3 (length words) then words else words ++ take 32 word ∷ []
