-- What the search for the next row needs.
use Rattle.std.specs.Prelude.{◌≡◌, ℕ, zero, suc, ◌+◌, ◌*◌, List, ◌∷◌, ◌++◌, Option, Some, None}
use Rattle.rows.specs.Rows.{Row}
use Rattle.page_format.specs.Spans.{reach}
use Rattle.page_format.specs.Node.{Child}

-- a child reaches up to this key
pub record Reaches (cs : List Child) (most high : ℕ) : Type 0 where
  pub xs : List Child
  pub ys : List Child
  pub s : Child
  pub is : cs ≡ xs ++ (s ∷ ys)
  pub up_to : reach ys most ≡ high

-- the accesses that the search begins at most, and two
abbrev pub most_visits : ℕ → ℕ
most_visits zero = 3
most_visits (suc level) = 2 * most_visits level

-- the first number where there is no row, the second where there is one
abbrev pub lines_for : ℕ → ℕ → Option Row → ℕ
lines_for none some None = none
lines_for none some (Some row) = some

-- The most lines that the search for the next row touches under a page of a level. Where there is none, it goes down
-- once. Where there is one, it may go down a second time behind a child that has none.
abbrev pub next_lines : ℕ → Option Row → ℕ
next_lines level row = lines_for (10 * level + 29) (20 * level + 69) row

-- From the page's own low bound on it goes down once, to the first row.
abbrev pub first_lines : ℕ → ℕ
first_lines level = 10 * level + 40
