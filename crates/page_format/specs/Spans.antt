-- The keys that each child of an inner page covers.
use Rattle.std.specs.Prelude.{◌≡◌, ℕ, ◌-◌, ◌<◌, ◌≤◌, List, [], ◌∷◌, length, get_or}
use Rattle.page_format.specs.Node.{Child}

-- a child with the lowest and the highest key that it may have
pub record Span : Type 0 where
  pub page : ℕ
  pub low : ℕ
  pub high : ℕ

-- a child reaches up to the key before the next child's, the last one up to the page's high bound
abbrev pub reach : List Child → ℕ → ℕ
reach [] high = high
reach (next ∷ rest) high = next.0 - 1

abbrev pub spans : List Child → ℕ → List Span
spans [] high = []
spans (child ∷ rest) high = record { page = child.1; low = child.0; high = reach rest high } ∷ spans rest high

-- up to which key the child before a place reaches
pub record Reaches (cs : List Child) (next high most : ℕ) : Type 0 where
  pub next_is : next < length cs → (d : Child) → most ≡ (get_or cs next d).0 - 1
  pub last_is : length cs ≤ next → most ≡ high
