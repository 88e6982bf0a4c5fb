-- The lines of pages.
use Rattle.std.specs.Prelude.{◌≡◌, ℕ, ◌^◌, ◌<◌, length, slice_index, ◌==◌, ◌&&◌, if◌then◌else◌}
use Rattle.nvm_model.specs.declared.line.Line.{Line}

-- the lines of all pages, by page and line
abbrev pub Lines : Type 0
Lines = ℕ → ℕ → Line

-- the same lines but for one
abbrev pub with_line : ℕ → ℕ → Line → Lines → Lines
with_line page line value lines p l = if (p == page) && (l == line) then value else lines p l

-- a line that a device can hold: eight words, each of eight bytes
pub record IsLine (line : Line) : Type 0 where
  pub eight : length line.words ≡ 8
  pub fit : (w : ℕ) → slice_index line.words w < 2 ^ 64
