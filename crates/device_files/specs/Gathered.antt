-- What it is that a line is gathered.
use Rattle.std.specs.Prelude.{◌≡◌, ℕ, ◌<◌, List, get_or, take}
use Rattle.nvm_model.specs.declared.line.Line.{Line}
use Rattle.device_files.specs.declared.gathered.Gathered.{Gathered}
use Rattle.device_files.specs.declared.placed_line.PlacedLine.{PlacedLine}
use Rattle.device_files.specs.PlacedLines.{no_place}

-- the line stands among the gathered ones, with this value
pub record IsGathered (gathered : Gathered) (line : ℕ) (value : Line) : Type 0 where
  pub at : ℕ
  pub below : at < gathered.count
  pub stands : get_or gathered.lines at no_place ≡ record { line = line; value = value }

-- no line is gathered
abbrev pub IsEmpty : Gathered → Type 0
IsEmpty gathered = gathered.count ≡ 0

-- the gathered lines, in the order in which they were stored first
abbrev pub gathered_lines : Gathered → List PlacedLine
gathered_lines gathered = take gathered.count gathered.lines
