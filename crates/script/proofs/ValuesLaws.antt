-- Every row of a run is one that a script can write, and so is every reply.
use Rattle.std.proofs.Common.{ℕ, ◌+◌, Bool, true, false, cond, List, [], ◌∷◌, ◌++◌, length, Option, Some, None}
use Rattle.std.specs.Prelude.{map, filter, option_map, unwrap_or, IfSome, bytes_eq, nat_lt, nat_le, ◌==◌, ◌&&◌, if◌then◌else◌}
use Rattle.std.specs.List.{AllByRecursion}
use Rattle.rows.specs.Value.{IsValue}
use Rattle.rows.specs.Rows.{Row, row_get, row_put, row_delete}
use Rattle.script.specs.Tables.{has_row, row_range}
use Rattle.rows.specs.Tables.{Table}
use Rattle.rows.specs.Tables.{rows_of, with_rows}
use Rattle.script.specs.Tables.{with_table, IsRow, AreRows, AreTables}
use Rattle.script.specs.Grammar.{IsCommand}
use Rattle.texts.specs.Runs.{replies}
use Rattle.script.specs.Machine.{Bounds, Open, State, current, tables_of_open, refusal, accepted, judged, step, rows_in, written, found}
use Rattle.script.specs.Script.{machine}
use Rattle.script.specs.declared.command.Command.{Command}
use Rattle.script.specs.declared.command.Command.TheVariants.{Create, Begin, Put, Del, Get, Scan, Commit, Abort, Checkpoint, Drain, Clean}
use Rattle.script.specs.declared.command.Reason.{Reason}
use Rattle.script.specs.declared.command.Reply.{Reply}
use Rattle.script.specs.declared.command.Reply.TheVariants as reply
use Rattle.script.specs.declared.command.Reply.TheVariants.{Fine, Absent, Finish}
use Rattle.script.specs.Replies.{IsReply}

All-append : {A : Type 0} (P : A → Type 0) (xs ys : List A) → AllByRecursion P xs → AllByRecursion P ys → AllByRecursion P (xs ++ ys)
All-append P [] ys h k = k
All-append P (x ∷ xs) ys h k = (h.0, All-append P xs ys h.1 k)

All-filter : {A : Type 0} (P : A → Type 0) (test : A → Bool) (xs : List A) → AllByRecursion P xs → AllByRecursion P (filter test xs)
All-filter P test [] h = tt
All-filter P test (x ∷ xs) h =
    elim (test x) as (λ b. AllByRecursion P (cond b (x ∷ filter test xs) (filter test xs))) [ true ↦ (h.0, All-filter P test xs h.1) | false ↦ All-filter P test xs h.1 ]

AreRows-cond : (b : Bool) (xs ys : List Row) → AreRows xs → AreRows ys → AreRows (cond b xs ys)
AreRows-cond true xs ys h k = h
AreRows-cond false xs ys h k = k

pub AreRows-put : (key : ℕ) (value : List ℕ) (rows : List Row) → IsRow (key, value) → AreRows rows → AreRows (row_put key value rows)
AreRows-put key value [] r h = (r, tt)
AreRows-put key value (row ∷ rows) r h =
    AreRows-cond (nat_lt row.0 key) (row ∷ row_put key value rows) (if row.0 == key then (key, value) ∷ rows else (key, value) ∷ row ∷ rows) (h.0, AreRows-put key value rows r h.1)
    (AreRows-cond (row.0 == key) ((key, value) ∷ rows) ((key, value) ∷ row ∷ rows) (r, h.1) (r, h))

pub AreRows-delete : (key : ℕ) (rows : List Row) → AreRows rows → AreRows (row_delete key rows)
AreRows-delete key [] h = tt
AreRows-delete key (row ∷ rows) h = AreRows-cond (row.0 == key) rows (row ∷ row_delete key rows) h.1 (h.0, AreRows-delete key rows h.1)

pub IsValue-get : (key : ℕ) (rows : List Row) → AreRows rows → IfSome (row_get key rows) IsValue
IsValue-get key [] h = tt
IsValue-get key (row ∷ rows) h =
    elim (row.0 == key) as (λ b. IfSome (cond b (Some row.1) (row_get key rows)) IsValue) [ true ↦ h.0.1 | false ↦ IsValue-get key rows h.1 ]

pub AreRows-rows_of : (name : List ℕ) (tables : List Table) → AreTables tables → IfSome (rows_of name tables) AreRows
AreRows-rows_of name [] h = tt
AreRows-rows_of name (t ∷ tables) h =
    elim (bytes_eq t.0 name) as (λ b. IfSome (cond b (Some t.1) (rows_of name tables)) AreRows) [ true ↦ h.0 | false ↦ AreRows-rows_of name tables h.1 ]

pub AreTables-with_rows : (name : List ℕ) (rows : List Row) (tables : List Table) → AreRows rows → AreTables tables → AreTables (with_rows name rows tables)
AreTables-with_rows name rows [] r h = tt
AreTables-with_rows name rows (t ∷ tables) r h =
    elim (bytes_eq t.0 name) as (λ b. AreTables (cond b ((t.0, rows) ∷ tables) (t ∷ with_rows name rows tables))) [ true ↦ (r, h.1) | false ↦ (h.0, AreTables-with_rows name rows tables r h.1) ]

pub AreTables-with_table : (name : List ℕ) (tables : List Table) → AreTables tables → AreTables (with_table name tables)
AreTables-with_table name tables h = All-append (λ (t : Table). AreRows t.1) tables ((name, []) ∷ []) h (tt, tt)

-- ---- states

pub record IsState (s : State) : Type 0 where
  pub tables : AreTables s.tables
  pub copy : IfSome s.transaction (λ o. AreTables o.tables)

AreTables-tables_of_open : (tables : List Table) (o : Option Open) → AreTables tables → IfSome o (λ o. AreTables o.tables) → AreTables (tables_of_open tables o)
AreTables-tables_of_open tables None h k = h
AreTables-tables_of_open tables (Some o) h k = k

pub AreTables-current : (s : State) → IsState s → AreTables (current s)
AreTables-current s h = AreTables-tables_of_open s.tables s.transaction h.tables h.copy

AreRows-or : (o : Option (List Row)) → IfSome o AreRows → AreRows (unwrap_or o [])
AreRows-or None h = tt
AreRows-or (Some rows) h = h

AreRows-rows_in : (t : List ℕ) (s : State) → IsState s → AreRows (rows_in t s)
AreRows-rows_in t s h = AreRows-or (rows_of t (current s)) (AreRows-rows_of t (current s) (AreTables-current s h))

IsState-written : (tables : List Table) (s : State) → AreTables tables → IsState s → IsState (written tables s)
IsState-written tables s k h = record { tables = h.tables; copy = copied s.transaction }
  where
    copied : (o : Option Open) → IfSome (option_map (λ (o : Open). let r : Open = record { tables = tables; writes = o.writes + 1 } in r) o) (λ o. AreTables o.tables)
    copied None = tt
    copied (Some o) = k

-- a write to a table that a state has
IsState-rows : (t : List ℕ) (rows : List Row) (s : State) → AreRows rows → IsState s → IsState (written (with_rows t rows (current s)) s)
IsState-rows t rows s r h = IsState-written (with_rows t rows (current s)) s (AreTables-with_rows t rows (current s) r (AreTables-current s h)) h

-- what a step leaves and replies
pub record IsResult (r : State × List Reply) : Type 0 where
  pub state : IsState r.0
  pub replies : AllByRecursion IsReply r.1

IsResult-cond : (b : Bool) (x y : State × List Reply) → IsResult x → IsResult y → IsResult (cond b x y)
IsResult-cond true x y h k = h
IsResult-cond false x y h k = k

IsReply-found : (o : Option (List ℕ)) → IfSome o IsValue → IsReply (found o)
IsReply-found None h = tt
IsReply-found (Some v) h = h

IsReply-rows : (rows : List Row) → AreRows rows → AllByRecursion IsReply (map (λ (row : Row). reply.Row row.0 row.1) rows)
IsReply-rows [] h = tt
IsReply-rows (row ∷ rows) h = (h.0.1, IsReply-rows rows h.1)

pub IsResult-accepted : (s : State) (c : Command) → IsState s → IsCommand c → IsResult (accepted s c)
IsResult-accepted s (Create t) h c = record { state = IsState-written (with_table t (current s)) s (AreTables-with_table t (current s) (AreTables-current s h)) h; replies = (tt, tt) }
IsResult-accepted s Begin h c = record { state = record { tables = h.tables; copy = h.tables }; replies = (tt, tt) }
IsResult-accepted s (Put t k v) h c = record { state = IsState-rows t (row_put k v (rows_in t s)) s (AreRows-put k v (rows_in t s) (c.1, c.2) (AreRows-rows_in t s h)) h; replies = (tt, tt) }
IsResult-accepted s (Del t k) h c =
    IsResult-cond (has_row k (rows_in t s)) (written (with_rows t (row_delete k (rows_in t s)) (current s)) s, Fine ∷ []) (s, Absent ∷ [])
    (record { state = IsState-rows t (row_delete k (rows_in t s)) s (AreRows-delete k (rows_in t s) (AreRows-rows_in t s h)) h; replies = (tt, tt) })
    (record { state = h; replies = (tt, tt) })
IsResult-accepted s (Get t k) h c = record { state = h; replies = (IsReply-found (row_get k (rows_in t s)) (IsValue-get k (rows_in t s) (AreRows-rows_in t s h)), tt) }
IsResult-accepted s (Scan t low high) h c = record {
  state = h;
  replies = All-append IsReply (map (λ (row : Row). reply.Row row.0 row.1) (row_range low high (rows_in t s))) (Finish (length (row_range low high (rows_in t s))) ∷ [])
      (IsReply-rows (row_range low high (rows_in t s)) (All-filter IsRow (λ (row : Row). nat_le low row.0 && nat_le row.0 high) (rows_in t s) (AreRows-rows_in t s h))) (tt, tt);
}
IsResult-accepted s Commit h c = record { state = record { tables = AreTables-current s h; copy = tt }; replies = (tt, tt) }
IsResult-accepted s Abort h c = record { state = record { tables = h.tables; copy = tt }; replies = (tt, tt) }
IsResult-accepted s Checkpoint h c = record { state = h; replies = (tt, tt) }
IsResult-accepted s Drain h c = record { state = h; replies = (tt, tt) }
IsResult-accepted s (Clean n) h c = record { state = h; replies = (tt, tt) }

IsResult-judged : (o : Option Reason) (s : State) (c : Command) → IsState s → IsCommand c → IsResult (judged o s c)
IsResult-judged None s c h k = IsResult-accepted s c h k
IsResult-judged (Some r) s c h k = record { state = h; replies = (tt, tt) }

pub IsResult-step : (bounds : Bounds) (s : State) (c : Option Command) → IsState s → IfSome c IsCommand → IsResult (step bounds s c)
IsResult-step bounds s None h k = record { state = h; replies = (tt, tt) }
IsResult-step bounds s (Some c) h k = IsResult-judged (refusal bounds s c) s c h k

-- the replies of a run
pub IsReply-replies : (bounds : Bounds) (s : State) (cs : List (Option Command)) → IsState s → AllByRecursion (λ c. IfSome c IsCommand) cs → AllByRecursion IsReply (replies (machine bounds) s cs)
IsReply-replies bounds s [] h k = tt
IsReply-replies bounds s (c ∷ cs) h k =
    let r = IsResult-step bounds s c h k.0 in
    All-append IsReply (step bounds s c).1 (replies (machine bounds) (step bounds s c).0 cs) r.replies (IsReply-replies bounds (step bounds s c).0 cs r.state k.1)
