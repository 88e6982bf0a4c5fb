-- Tables as their user has them, and the look-up of one by its name.
use Rattle.std.specs.Prelude.{ℕ, Bool, true, false, List, [], ◌∷◌, None, Option, Some, if◌then◌else◌, bytes_eq}
use Rattle.rows.specs.Rows.{Row}

-- a table as its user has it: its name and its rows
abbrev pub Table : Type 0
Table = List ℕ × List Row

-- whether a table has the name
abbrev pub is_known : List ℕ → List Table → Bool
is_known name [] = false
is_known name (table ∷ rest) = if bytes_eq table.0 name then true else is_known name rest

-- the rows of the first table with the name
abbrev pub rows_of : List ℕ → List Table → Option (List Row)
rows_of name [] = None
rows_of name (table ∷ rest) = if bytes_eq table.0 name then Some table.1 else rows_of name rest

-- the tables with other rows in the first one with the name
abbrev pub with_rows : List ℕ → List Row → List Table → List Table
with_rows name rows [] = []
with_rows name rows (table ∷ rest) = if bytes_eq table.0 name then (table.0, rows) ∷ rest else table ∷ with_rows name rows rest
