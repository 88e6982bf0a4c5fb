-- What calls cost: the lines that they touch.
use Rattle.std.specs.Prelude.{◌≡◌, ℕ, zero, suc, ◌+◌, ◌-◌, ◌/◌, ◌≤◌, List, [], ◌∷◌, ◌++◌, map, length}
use Rattle.line_pages.specs.Touch.{Touch}
use Rattle.line_pages.specs.Standing.{Standing}

-- n lines in a row
abbrev pub lines_from : ℕ → ℕ → List ℕ
lines_from first zero = []
lines_from first (suc n) = first ∷ lines_from (suc first) n

-- the lines that `size` bytes of a page from a place on lie in, in order
unfoldable pub lines_of : ℕ → ℕ → List ℕ
lines_of place size = lines_from (place / 64) ((place + size + 63) / 64 - place / 64)

-- a fact about the lines of all touches that were added, in order
pub record AddsLines {A : Type 0} (Fact : List ℕ → Type 0) (old new : Standing A) : Type 0 where
  pub added : List Touch
  pub touches : new.touches ≡ old.touches ++ added
  pub fact : Fact (map (λ (t : Touch). t.line) added)

-- at most so many touches
abbrev pub Costs : {A : Type 0} → ℕ → Standing A → Standing A → Type 0
Costs most old new = AddsLines (λ lines. length lines ≤ most) old new
