-- The bytes of a run of neighbouring lines, which one write takes.
use Rattle.std.specs.Prelude.{◌≡◌, ℕ, ◌*◌, List, Option, IfSome, IsSomeAnd, take}
use Rattle.device_files.specs.declared.run.Run.{Run}
use Rattle.device_files.specs.declared.placed_line.PlacedLine.{PlacedLine}
use Rattle.device_files.specs.LineBytes.{line_start, with_line, with_lines}
use Rattle.device_files.specs.Positioned.{with_bytes}

-- the bytes of its lines, one behind the other
abbrev pub run_bytes : Run → List ℕ
run_bytes run = take (64 * run.count) run.bytes

-- the bytes of a file after the run was written where it stands
abbrev pub with_run : Run → List ℕ → List ℕ
with_run run xs = with_bytes (line_start run.first) (run_bytes run) xs

-- Of a file and a run that is still to be written, one line more is written, or is in the run.
pub record Adds (placed : PlacedLine) (old_run new_run : Run) (old new : Option (List ℕ)) : Type 0 where
  pub each : IfSome old (λ xs. IsSomeAnd new (λ ys. with_run new_run ys ≡ with_line placed (with_run old_run xs)))

-- Once the run is written too, these lines are.
pub record Pends (lines : List PlacedLine) (run : Run) (old new : Option (List ℕ)) : Type 0 where
  pub each : IfSome old (λ xs. IsSomeAnd new (λ ys. with_run run ys ≡ with_lines lines xs))
