-- When the entries of a page are cut in two, and where.
use Rattle.std.specs.Prelude.{◌≡◌, ◌<◌, ◌≤◌, ℕ, List, [], ◌∷◌, ◌++◌, length, Option, None, Some}
use Rattle.rows.specs.Rows.{Row}
use Rattle.page_format.specs.Room.{leaf_room, inner_room}
use Rattle.page_format.specs.Node.{Child}
use Rattle.page_format.specs.Sound.{row_bytes}
use Rattle.page_edit.specs.Cut.{IsCut, children_left}

-- the first of some entries has this key
abbrev pub BeginsWith : {X : Type 0} → ℕ → List (ℕ × X) → Type 0
BeginsWith key [] = ⊥
BeginsWith key (entry ∷ rest) = entry.0 ≡ key

-- Rows that one leaf has no room for, in two parts: the left one is the shortest that has half of the bytes or more, and the
-- separator is the first key of the right one.
pub record CutsRows (all left right : List Row) (separator : ℕ) : Type 0 where
  pub over : leaf_room < row_bytes all
  pub parts : IsCut all left right
  pub first : BeginsWith separator right

-- Children that one page has no room for, in two parts: of n the left one has (n + 1) / 2, and the separator is the first key of
-- the right one.
pub record CutsChildren (all left right : List Child) (separator : ℕ) : Type 0 where
  pub over : inner_room < length all
  pub whole : left ++ right ≡ all
  pub half : length left ≡ children_left (length all)
  pub first : BeginsWith separator right

-- The rows of two neighbours after a join: the left one has all of them where it has room for them, else they are cut.
abbrev pub JoinsRows : List Row → List Row → List Row → Option ℕ → Type 0
JoinsRows all left right None = (left ≡ all) × (row_bytes all ≤ leaf_room)
JoinsRows all left right (Some separator) = CutsRows all left right separator

-- the same of children
abbrev pub JoinsChildren : List Child → List Child → List Child → Option ℕ → Type 0
JoinsChildren all left right None = (left ≡ all) × (length all ≤ inner_room)
JoinsChildren all left right (Some separator) = CutsChildren all left right separator
