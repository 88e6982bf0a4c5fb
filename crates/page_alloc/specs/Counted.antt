-- Lists of pages, counted, and pages that stay.
use Rattle.std.specs.Prelude.{◌≡◌, ℕ, ◌+◌, ◌≤◌, List, [], ◌∷◌, ◌==◌, if◌then◌else◌}
use Rattle.line_pages.specs.Lines.{Lines}

-- how often the number stands in the list
abbrev pub times : ℕ → List ℕ → ℕ
times n [] = 0
times n (x ∷ xs) = (if x == n then 1 else 0) + times n xs

-- the lines of these pages are the same
abbrev pub SameOn : List ℕ → Lines → Lines → Type 0
SameOn pages old new = (n : ℕ) → 1 ≤ times n pages → new n ≡ old n
