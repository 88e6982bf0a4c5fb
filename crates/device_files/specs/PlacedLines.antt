-- What holds of the first ones of a list of lines.
use Rattle.std.specs.Prelude.{◌≢◌, ℕ, ◌<◌, List, [], get_or}
use Rattle.device_files.specs.declared.placed_line.PlacedLine.{PlacedLine}
use Rattle.device_files.specs.FileWorld.{told_lines}

-- what stands at no place of a list
unfoldable pub no_place : PlacedLine
no_place = record { line = 0; value = record { words = [] } }

-- no line stands twice among the first ones
pub record AreDistinct (count : ℕ) (lines : List PlacedLine) : Type 0 where
  pub each : (i j : ℕ) → i < j → j < count → (get_or lines i no_place).line ≢ (get_or lines j no_place).line

-- the first ones are lines of the NVM
pub record ArePlaced (count : ℕ) (lines : List PlacedLine) : Type 0 where
  pub each : (i : ℕ) → i < count → (get_or lines i no_place).line < told_lines
