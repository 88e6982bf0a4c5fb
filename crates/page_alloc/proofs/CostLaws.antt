-- How many lines calls touch.
use Rattle.std.proofs.Common.{◌≡◌, ℕ, ◌+◌, ◌*◌, ◌%◌, ◌≤◌, true, List, [], ◌∷◌, length, Result, Ok, Err, OnOk, ap, arith}
use Rattle.nvm_model.specs.declared.line.Line.{Line}
use Rattle.line_pages.specs.declared.stop.Stop.{Stop}
use Rattle.line_pages.specs.Touch.{touch_of}
use Rattle.line_pages.specs.Standing.{Standing, Reads, Writes}
use Rattle.line_pages.specs.Cost.{lines_of, AddsLines, Costs}
use Rattle.line_pages.proofs.CostLaws.{AddsLines-refl, AddsLines-weaker, one_line, length-lines_of}

pub costs_none : {A : Type 0} (most : ℕ) (s : Standing A) → Costs most s s
costs_none most s = AddsLines-refl s (omega arith)

-- a write touches one line
pub costs_write : {A : Type 0} {T : Type 0} (page line : ℕ) (value : Line) {old new : Standing A} (result : Result T Stop) → Writes page line value old new result → OnOk result (Costs 1 old new)
costs_write page line value {old = old} (Ok v) w = record { added = touch_of old.access page line true ∷ []; touches = w.touch.touches; fact = omega arith }
costs_write page line value (Err e) w = tt

-- so does a read
pub costs_read : {A T E : Type 0} {page line : ℕ} {old new : Standing A} (found : T) → Reads {T = T} {E = E} page line old new (Ok found) → Costs 1 old new
costs_read found reads = AddsLines-weaker (λ x is. omega (arith, ap (length {A = ℕ}) is)) (one_line found reads)

-- and one of two bytes in a line
pub costs_half : {A : Type 0} {old new : Standing A} (place : ℕ) → place % 64 ≤ 62 → AddsLines (λ lines. lines ≡ lines_of place 2) old new → Costs 1 old new
costs_half place within adds = AddsLines-weaker (λ x is. omega (arith, ap (length {A = ℕ}) is, length-lines_of place 2, within)) adds
