-- All words of NVM, named by their line and their place in the line, and what each call makes of them.
use Rattle.std.specs.Prelude.{ℕ, [], ◌∷◌, slice_index, if◌then◌else◌, ◌==◌, nat_lt}
use Rattle.nvm_model.specs.declared.line.Line.{Line}
use Rattle.nvm_model.specs.Word.{Word, stored, marked, trimmed, single}

abbrev pub Memory : Type 0
Memory = ℕ → ℕ → Word

-- every word is 0, with one version
abbrev pub zeros : Memory
zeros line word = single 0

-- the eight words of a line
abbrev pub line_of : (ℕ → ℕ) → Line
line_of word = record { words = word 0 ∷ word 1 ∷ word 2 ∷ word 3 ∷ word 4 ∷ word 5 ∷ word 6 ∷ word 7 ∷ [] }

-- what a load gives: the last version of each word
abbrev pub newest_line : Memory → ℕ → Line
newest_line memory line = line_of (λ w. (memory line w).newest)

-- a store of one word
abbrev pub with_word : ℕ → ℕ → ℕ → Memory → Memory
with_word line word value memory = λ l w. if l == line then (if w == word then stored value (memory l w) else memory l w) else memory l w

-- a store of the eight words of a line
abbrev pub with_line : ℕ → Line → Memory → Memory
with_line line value memory = λ l w. if l == line then (if nat_lt w 8 then stored (slice_index value.words w) (memory l w) else memory l w) else memory l w

-- a flush of a line
abbrev pub with_marks : ℕ → Memory → Memory
with_marks line memory = λ l w. if l == line then marked (memory l w) else memory l w

-- a fence
abbrev pub fenced_memory : Memory → Memory
fenced_memory memory = λ l w. trimmed (memory l w)
