-- A table of forms: each first word, with the reader of what follows it.
use Rattle.std.specs.Prelude.{ℕ, nat_le, List, [], ◌∷◌, map, length, Option, None, bytes_eq, if◌then◌else◌}
use Rattle.texts.specs.Lines.{is_silent, lines}
use Rattle.texts.specs.Fields.{cut}

abbrev pub longest_line : ℕ
longest_line = 1024

-- a first word, with the reader of what follows it
abbrev pub Form : Type 0 → Type 0
Form C = List ℕ × (Option (List ℕ) → Option C)

module _ {C : Type 0} where
  -- what the reader of this word makes of what follows it
  abbrev pub by_word : List (Form C) → List ℕ → Option (List ℕ) → Option C
  by_word [] word left = None
  by_word (form ∷ forms) word left = if bytes_eq word form.0 then form.1 left else by_word forms word left

  -- the command that a line is, where it is of a form and not too long
  abbrev pub read_by : List (Form C) → List ℕ → Option C
  read_by forms line = if nat_le (length line) longest_line then by_word forms (cut line).0 (cut line).1 else None

  -- the commands of one line: none where it is silent
  abbrev pub asked_by : List (Form C) → List ℕ → List (Option C)
  asked_by forms line = if is_silent line then [] else read_by forms line ∷ []

  -- the commands of a script: of each line that is not silent, in order
  abbrev pub commands_by : List (Form C) → List ℕ → List (Option C)
  commands_by forms bytes = map (read_by forms) (lines bytes)
