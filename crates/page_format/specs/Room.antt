-- The bytes that rows take in a leaf, and what a page has room for.
use Rattle.std.specs.Prelude.{ℕ, ◌+◌, List, length, map}
use Rattle.rows.specs.Rows.{Row}

-- the bytes that a row takes in a leaf: its slot, its key and its value
abbrev pub row_size : Row → ℕ
row_size row = 12 + length row.1

abbrev pub sizes : List Row → List ℕ
sizes rows = map row_size rows

-- the most bytes of rows and the most children that a page has room for, and the fewest below a root
abbrev pub leaf_room : ℕ
leaf_room = 4032

abbrev pub leaf_floor : ℕ
leaf_floor = 1344

abbrev pub inner_room : ℕ
inner_room = 240

abbrev pub inner_floor : ℕ
inner_floor = 80
