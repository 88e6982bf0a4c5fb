-- Which version of each word a choice leaves, and the image that it makes of a memory.
use Rattle.std.specs.Prelude.{ℕ, Bool, true, false, ◌+◌, ◌*◌, ◌%◌, List, map, if◌then◌else◌, ◌==◌}
use Rattle.std.specs.List.{range_with_len}
use Rattle.nvm_model.specs.declared.line.Line.{Line}
use Rattle.nvm_model.specs.declared.line.Choice.{Choice}
use Rattle.nvm_model.specs.declared.line.Choice.TheVariants.{Oldest, Newest, Alternating}
use Rattle.nvm_model.specs.Word.{Word, oldest}
use Rattle.nvm_model.specs.Memory.{Memory, line_of}

-- whether a choice leaves the oldest version of the word of this number, and not the last one
abbrev pub takes_oldest : Choice → ℕ → Bool
takes_oldest Oldest number = true
takes_oldest Newest number = false
takes_oldest Alternating number = number % 2 == 0

-- the version of a word that a choice leaves; a word's number is eight times its line plus its place in the line
abbrev pub chosen : Choice → ℕ → ℕ → Word → ℕ
chosen choice line place word = if takes_oldest choice (8 * line + place) then oldest word else word.newest

-- a line of the image that a choice leaves of a memory
abbrev pub chosen_line : Choice → Memory → ℕ → Line
chosen_line choice memory line = line_of (λ w. chosen choice line w (memory line w))

-- so many lines of that image, in order
abbrev pub image_of : Choice → Memory → ℕ → List Line
image_of choice memory lines = map (chosen_line choice memory) (range_with_len 0 lines)
