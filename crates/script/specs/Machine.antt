-- The plain machine: whole lists of rows, changed by whole transactions. It has no pages and no log.
use Rattle.std.specs.Prelude.{ℕ, ◌+◌, Bool, false, not, ◌&&◌, nat_le, List, [], ◌∷◌, ◌++◌, length, map, Option, Some, None, is_some, option_map, if◌then◌else◌}
use Rattle.rows.specs.Rows.{Row, row_get, row_put, row_delete}
use Rattle.rows.specs.declared.limits.Limits.{Limits}
use Rattle.rows.specs.Tables.{Table}
use Rattle.rows.specs.Tables.{rows_of, is_known, with_rows}
use Rattle.script.specs.Tables.{has_row, row_range, rows_or_none, with_table}
use Rattle.script.specs.declared.command.Command.{Command}
use Rattle.script.specs.declared.command.Command.TheVariants as command
use Rattle.script.specs.declared.command.Reason.{Reason}
use Rattle.script.specs.declared.command.Reason.TheVariants as reason
use Rattle.script.specs.declared.command.Reply.{Reply}
use Rattle.script.specs.declared.command.Reply.TheVariants as reply
use Rattle.script.specs.declared.command.Reply.TheVariants.{Fine, Found, Absent, Finish, Committed, Aborted, Refused}

-- how many tables, rows in a table and writes in a transaction there may be
pub record Bounds : Type 0 where
  pub tables : ℕ
  pub rows : ℕ
  pub writes : ℕ

abbrev pub bounds_of : Limits → ℕ → Bounds
bounds_of limits writes = record { tables = limits.tables; rows = limits.rows; writes = writes }

-- an open transaction: its copy of the tables, and how many writes it has had
pub record Open : Type 0 where
  pub tables : List Table
  pub writes : ℕ

pub record State : Type 0 where
  pub tables : List Table
  pub transaction : Option Open
  pub commits : ℕ

-- what stands at the start of a run
abbrev pub opening : List Table → State
opening tables = record { tables = tables; transaction = None; commits = 0 }

-- the tables that a command sees
abbrev pub tables_of_open : List Table → Option Open → List Table
tables_of_open tables None = tables
tables_of_open tables (Some o) = o.tables

abbrev pub current : State → List Table
current s = tables_of_open s.tables s.transaction

abbrev pub writes_so_far : Option Open → ℕ
writes_so_far None = 0
writes_so_far (Some o) = o.writes

-- ---- the refusals

-- `transaction`: one is open where none may be, or none where one must be
abbrev pub transaction_wrong : Command → Bool → Bool
transaction_wrong command.Begin is_open = is_open
transaction_wrong command.Checkpoint is_open = is_open
transaction_wrong (command.Create t) is_open = not is_open
transaction_wrong (command.Put t k v) is_open = not is_open
transaction_wrong (command.Del t k) is_open = not is_open
transaction_wrong command.Commit is_open = not is_open
transaction_wrong command.Abort is_open = not is_open
transaction_wrong _ is_open = false

-- `table`: the name is unknown, or for `create` already there
abbrev pub table_wrong : Command → List Table → Bool
table_wrong (command.Create t) tables = is_known t tables
table_wrong (command.Put t k v) tables = not (is_known t tables)
table_wrong (command.Del t k) tables = not (is_known t tables)
table_wrong (command.Get t k) tables = not (is_known t tables)
table_wrong (command.Scan t low high) tables = not (is_known t tables)
table_wrong _ tables = false

-- `writes`: a `create`, `put` or `del` in a transaction that has had the most writes
abbrev pub writes_spent : ℕ → Command → ℕ → Bool
writes_spent most (command.Create t) writes = nat_le most writes
writes_spent most (command.Put t k v) writes = nat_le most writes
writes_spent most (command.Del t k) writes = nat_le most writes
writes_spent most _ writes = false

-- `tables`: a `create` where the most names exist
abbrev pub tables_spent : ℕ → Command → List Table → Bool
tables_spent most (command.Create t) tables = nat_le most (length tables)
tables_spent most _ tables = false

-- `full`: a `put` of a new key in a table of the most rows
abbrev pub is_full : ℕ → ℕ → Option (List Row) → Bool
is_full most key None = false
is_full most key (Some rows) = nat_le most (length rows) && not (has_row key rows)

abbrev pub rows_spent : ℕ → Command → List Table → Bool
rows_spent most (command.Put t k v) tables = is_full most k (rows_of t tables)
rows_spent most _ tables = false

-- the first of some tests that holds
abbrev pub first_true : {A : Type 0} → List (Bool × A) → Option A
first_true [] = None
first_true (test ∷ tests) = if test.0 then Some test.1 else first_true tests

-- the tests of a command in their order, each with its reason
abbrev pub refusals : Bounds → State → Command → List (Bool × Reason)
refusals bounds s c =
    (transaction_wrong c (is_some s.transaction), reason.Transaction)
    ∷ (table_wrong c (current s), reason.Table)
    ∷ (writes_spent bounds.writes c (writes_so_far s.transaction), reason.Writes)
    ∷ (tables_spent bounds.tables c (current s), reason.Tables)
    ∷ (rows_spent bounds.rows c (current s), reason.Full) ∷ []

-- why a command is refused: the first test that holds
abbrev pub refusal : Bounds → State → Command → Option Reason
refusal bounds s c = first_true (refusals bounds s c)

-- ---- what an accepted command does

-- one write more, which leaves these tables
abbrev pub written : List Table → State → State
written tables s = record s { transaction = option_map (λ (o : Open). record { tables = tables; writes = o.writes + 1 }) s.transaction }

-- the rows that a command sees in a table
abbrev pub rows_in : List ℕ → State → List Row
rows_in name s = rows_or_none name (current s)

abbrev pub found : Option (List ℕ) → Reply
found None = Absent
found (Some v) = Found v

abbrev pub scanned : List Row → List Reply
scanned rows = map (λ (row : Row). reply.Row row.0 row.1) rows ++ Finish (length rows) ∷ []

abbrev pub accepted : State → Command → State × List Reply
accepted s command.Begin = (record s { transaction = Some (record { tables = s.tables; writes = 0 }) }, Fine ∷ [])
accepted s (command.Create t) = (written (with_table t (current s)) s, Fine ∷ [])
accepted s (command.Put t k v) = (written (with_rows t (row_put k v (rows_in t s)) (current s)) s, Fine ∷ [])
accepted s (command.Del t k) =
    if has_row k (rows_in t s) then (written (with_rows t (row_delete k (rows_in t s)) (current s)) s, Fine ∷ [])
    else (s, Absent ∷ [])
accepted s (command.Get t k) = (s, found (row_get k (rows_in t s)) ∷ [])
accepted s (command.Scan t low high) = (s, scanned (row_range low high (rows_in t s)))
accepted s command.Commit = (record { tables = current s; transaction = None; commits = s.commits + 1 }, Committed (s.commits + 1) ∷ [])
accepted s command.Abort = (record s { transaction = None }, Aborted ∷ [])
accepted s command.Checkpoint = (s, Fine ∷ [])
accepted s command.Drain = (s, Fine ∷ [])
accepted s (command.Clean n) = (s, Fine ∷ [])

-- ---- a step

abbrev pub judged : Option Reason → State → Command → State × List Reply
judged None s c = accepted s c
judged (Some r) s c = (s, Refused r ∷ [])

-- a line of no form is refused as `line`; a refusal changes nothing
abbrev pub step : Bounds → State → Option Command → State × List Reply
step bounds s None = (s, Refused reason.Form ∷ [])
step bounds s (Some c) = judged (refusal bounds s c) s c
