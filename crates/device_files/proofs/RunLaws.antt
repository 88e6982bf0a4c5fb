-- What is written line by line, and what a run of lines is.
use Rattle.std.proofs.Common.{◌≡◌, ℕ, ◌+◌, ◌*◌, ◌≤◌, List, [], ◌∷◌, ◌++◌, length, take, refl, sym, ap, ◌∙◌, arith, length-take-le}
use Rattle.std.specs.Prelude.{Option, Some, None}
use Rattle.device_files.specs.declared.placed_line.PlacedLine.{PlacedLine}
use Rattle.device_files.specs.declared.run.Run.{Run}
use Rattle.device_files.specs.Positioned.{with_bytes, WritesBytes}
use Rattle.device_files.specs.LineBytes.{line_start, with_line, with_lines, WritesLines}
use Rattle.device_files.specs.Run.{run_bytes, with_run, Adds, Pends}
use Rattle.device_files.proofs.PositionLaws.{with_bytes_more}

-- a run of no lines writes nothing
pub with_run-empty : (run : Run) (xs : List ℕ) → run.count ≡ 0 → with_run run xs ≡ xs
with_run-empty run xs empty = ap (λ (n : ℕ). with_bytes (line_start run.first) (take (64 * n) run.bytes) xs) empty

-- a run that takes one line more
pub run_more : (first count line : ℕ) (old new bytes : List ℕ) (xs : List ℕ) → length old ≡ 64 * count → first + count ≡ line → new ≡ old ++ bytes
    → with_bytes (line_start first) new xs ≡ with_bytes (line_start line) bytes (with_bytes (line_start first) old xs)
run_more first count line old new bytes xs size next is =
    let place : line_start first + length old ≡ line_start line = omega arith in
    ap (λ (l : List ℕ). with_bytes (line_start first) l xs) is ∙ sym (with_bytes_more (line_start first) old bytes xs)
    ∙ ap (λ (n : ℕ). with_bytes n bytes (with_bytes (line_start first) old xs)) place

pub length-run_bytes : (run : Run) → run.count ≤ 64 → length run.bytes ≡ 4096 → length (run_bytes run) ≡ 64 * run.count
length-run_bytes run bound size = length-take-le (64 * run.count) run.bytes (omega arith)

-- where nothing is written, nothing changes
pub writes_none : (start : ℕ) (bytes : List ℕ) (known : Option (List ℕ)) → bytes ≡ [] → WritesBytes start bytes known known
writes_none start bytes None none = record { each = tt }
writes_none start bytes (Some xs) none = record { each = ap (λ (l : List ℕ). Some (with_bytes start l xs)) (sym none) }

-- the run takes the line
pub adds_pushed : (placed : PlacedLine) (old new : Run) (known : Option (List ℕ)) → ((xs : List ℕ) → with_run new xs ≡ with_line placed (with_run old xs))
    → Adds placed old new known known
adds_pushed placed old new None taken = record { each = tt }
adds_pushed placed old new (Some xs) taken = record { each = taken xs }

-- the run is written, and begins with the line
pub adds_written : (placed : PlacedLine) (old refused empty new : Run) (before after : Option (List ℕ))
    → ((xs : List ℕ) → with_run refused xs ≡ with_run old xs) → WritesBytes (line_start refused.first) (run_bytes refused) before after
    → empty.count ≡ 0 → ((xs : List ℕ) → with_run new xs ≡ with_line placed (with_run empty xs)) → Adds placed old new before after
adds_written placed old refused empty new None after same written none taken = record { each = tt }
adds_written placed old refused empty new (Some xs) None same written none taken =
    let lost : None ≡ Some (with_run refused xs) = written.each in
    let no : ⊥ = cc in
    absurd no
adds_written placed old refused empty new (Some xs) (Some ys) same written none taken =
    let done : Some ys ≡ Some (with_run refused xs) = written.each in
    let ys_is : ys ≡ with_run refused xs = cc in
    record { each = taken ys ∙ ap (with_line placed) (with_run-empty empty ys none ∙ ys_is ∙ same xs) }

-- one line more behind others
pub with_lines-more : (lines : List PlacedLine) (placed : PlacedLine) (xs : List ℕ) → with_lines (lines ++ placed ∷ []) xs ≡ with_line placed (with_lines lines xs)
with_lines-more [] placed xs = refl
with_lines-more (first ∷ rest) placed xs = with_lines-more rest placed (with_line first xs)

pub pends_none : (run : Run) (known : Option (List ℕ)) → run.count ≡ 0 → Pends [] run known known
pends_none run None empty = record { each = tt }
pends_none run (Some xs) empty = record { each = with_run-empty run xs empty }

pub pends_more : (lines more : List PlacedLine) (placed : PlacedLine) (run new_run : Run) (old now new : Option (List ℕ)) → more ≡ lines ++ placed ∷ []
    → Pends lines run old now → Adds placed run new_run now new → Pends more new_run old new
pends_more lines more placed run new_run None now new is before next = record { each = tt }
pends_more lines more placed run new_run (Some xs) None new is before next = absurd before.each
pends_more lines more placed run new_run (Some xs) (Some ys) None is before next = absurd next.each
pends_more lines more placed run new_run (Some xs) (Some ys) (Some zs) is before next =
    record { each = next.each ∙ ap (with_line placed) before.each ∙ sym (with_lines-more lines placed xs) ∙ ap (λ (l : List PlacedLine). with_lines l xs) (sym is) }

-- at the end the run is written too
pub pends_done : (lines : List PlacedLine) (run : Run) (old now new : Option (List ℕ)) → Pends lines run old now
    → WritesBytes (line_start run.first) (run_bytes run) now new → WritesLines lines old new
pends_done lines run None now new before next = record { each = tt }
pends_done lines run (Some xs) None new before next = absurd before.each
pends_done lines run (Some xs) (Some ys) new before next = record { each = next.each ∙ ap (λ (l : List ℕ). Some l) before.each }
