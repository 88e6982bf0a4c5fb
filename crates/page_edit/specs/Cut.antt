-- How the rows of a leaf, and the children of an inner page, are divided.
use Rattle.std.specs.Prelude.{◌≡◌, ℕ, suc, ◌+◌, ◌-◌, ◌*◌, ◌/◌, ◌<◌, ◌≤◌, List, [], ◌∷◌, ◌++◌, length, sum, take, ◌==◌, if◌then◌else◌}
use Rattle.rows.specs.Rows.{Row}
use Rattle.page_format.specs.Room.{sizes}
use Rattle.page_format.specs.Sound.{row_bytes}

-- how many of the sizes, from the front, it takes until twice their sum is at least `goal`
abbrev pub needed : ℕ → List ℕ → ℕ
needed goal [] = 0
needed goal (size ∷ rest) = if goal == 0 then 0 else suc (needed (goal - 2 * size) rest)

-- the number of rows of the left part: the shortest prefix whose bytes, doubled, reach the total
unfoldable pub rows_left : List Row → ℕ
rows_left rows = needed (sum (sizes rows)) (sizes rows)

-- The first n are the fewest whose bytes, doubled, reach the total.
pub record IsShortestHalf (xs : List ℕ) (n : ℕ) : Type 0 where
  pub within : n ≤ length xs
  pub reaches : sum xs ≤ 2 * sum (take n xs)
  pub shorter : (m : ℕ) → m < n → 2 * sum (take m xs) < sum xs

-- Rows cut in two: the parts are all of them in their order, and the left one is the shortest that has half of the bytes or more.
pub record IsCut (all left right : List Row) : Type 0 where
  pub whole : left ++ right ≡ all
  pub shortest : IsShortestHalf (sizes all) (length left)

-- how full each part is where the rows do not fit in one leaf
pub record IsFilled (rows : List Row) : Type 0 where
  pub least : 1525 ≤ row_bytes rows
  pub most : row_bytes rows ≤ 3179

-- the number of children of the left part
unfoldable pub children_left : ℕ → ℕ
children_left n = (n + 1) / 2
