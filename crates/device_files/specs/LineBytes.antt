-- Where lines and blocks stand in their files, and the bytes of a line.
use Rattle.std.specs.Prelude.{◌≡◌, ℕ, ◌*◌, List, [], ◌∷◌, flat_map, Option, Some, IfSome}
use Rattle.byteorder.specs.Endian.{little_bytes}
use Rattle.nvm_model.specs.declared.line.Line.{Line}
use Rattle.device_files.specs.declared.placed_line.PlacedLine.{PlacedLine}
use Rattle.device_files.specs.Positioned.{with_bytes}

-- the first byte of a line
abbrev pub line_start : ℕ → ℕ
line_start line = 64 * line

-- the first byte of a block
abbrev pub block_start : ℕ → ℕ
block_start block = 4096 * block

-- the bytes of a line: those of its words, each the lowest first
abbrev pub line_bytes : Line → List ℕ
line_bytes line = flat_map (little_bytes 8) line.words

-- the bytes of a file after a line was written where it stands
abbrev pub with_line : PlacedLine → List ℕ → List ℕ
with_line placed xs = with_bytes (line_start placed.line) (line_bytes placed.value) xs

-- the bytes of a file after these lines were written where they stand, from the first to the last
abbrev pub with_lines : List PlacedLine → List ℕ → List ℕ
with_lines [] xs = xs
with_lines (placed ∷ rest) xs = with_lines rest (with_line placed xs)

-- where the bytes of a file are known, these lines were written where they stand, and no other byte changed
pub record WritesLines (lines : List PlacedLine) (old new : Option (List ℕ)) : Type 0 where
  pub each : IfSome old (λ xs. new ≡ Some (with_lines lines xs))
