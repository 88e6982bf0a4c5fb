-- What commands do to tables.
use Rattle.std.specs.Prelude.{ℕ, nat_le, Bool, ◌&&◌, List, [], ◌∷◌, ◌++◌, filter, is_some, unwrap_or}
use Rattle.std.specs.List.{AllByRecursion}
use Rattle.rows.specs.Value.{IsValue}
use Rattle.rows.specs.Rows.{Row, row_get, keys, last_key, Ascends}
use Rattle.rows.specs.Tables.{Table}
use Rattle.rows.specs.Tables.{rows_of}
use Rattle.texts.specs.Numbers.{IsKey}

-- whether a row has the key
abbrev pub has_row : ℕ → List Row → Bool
has_row key rows = is_some (row_get key rows)

-- the rows from one key to another, both included
abbrev pub row_range : ℕ → ℕ → List Row → List Row
row_range low high rows = filter (λ (row : Row). nat_le low row.0 && nat_le row.0 high) rows

-- the rows of the table of a name, none where there is no such table
abbrev pub rows_or_none : List ℕ → List Table → List Row
rows_or_none name tables = unwrap_or (rows_of name tables) []

-- one more table, without rows
abbrev pub with_table : List ℕ → List Table → List Table
with_table name tables = tables ++ (name, []) ∷ []

-- a row has a key of 64 bits and a value that a script can write
abbrev pub IsRow : Row → Type 0
IsRow row = IsKey row.0 × IsValue row.1

abbrev pub AreRows : List Row → Type 0
AreRows rows = AllByRecursion IsRow rows

abbrev pub AreTables : List Table → Type 0
AreTables tables = AllByRecursion (λ (t : Table). AreRows t.1) tables

-- the keys of each table ascend
abbrev pub AreOrdered : List Table → Type 0
AreOrdered tables = AllByRecursion (λ (t : Table). Ascends 0 last_key (keys t.1)) tables
