-- The rows of each table stand in the order of their keys, and so they do after each step; so a scan replies in that order.
use Rattle.std.proofs.Common.{ℕ, ◌+◌, ◌≤◌, Bool, true, false, cond, List, [], ◌∷◌, arith, Option, Some, None}
use Rattle.std.specs.Prelude.{option_map, unwrap_or, IfSome, bytes_eq, nat_le, ◌&&◌}
use Rattle.std.specs.List.{AllByRecursion}
use Rattle.rows.specs.Rows.{Row, keys, last_key, Ascends, row_put, row_delete}
use Rattle.rows.proofs.RowLaws.{Ascends-put, Ascends-delete, Ascends-lower}
use Rattle.rows.specs.Tables.{Table}
use Rattle.rows.specs.Tables.{rows_of, with_rows}
use Rattle.texts.specs.Runs as run
use Rattle.script.specs.Tables.{has_row, row_range, with_table, AreOrdered}
use Rattle.script.specs.Grammar.{IsCommand}
use Rattle.script.specs.Machine.{Bounds, State, Open, current, tables_of_open, refusal, accepted, judged, step, rows_in, written}
use Rattle.script.specs.Script.{machine}
use Rattle.script.specs.declared.command.Command.{Command}
use Rattle.script.specs.declared.command.Command.TheVariants.{Create, Begin, Put, Del, Get, Scan, Commit, Abort, Checkpoint, Drain, Clean}
use Rattle.script.specs.declared.command.Reason.{Reason}
use Rattle.script.specs.declared.command.Reply.{Reply}
use Rattle.script.specs.declared.command.Reply.TheVariants.{Fine, Absent}

-- the rows of a range ascend as all rows do
pub Ascends-range : (low high least most : ℕ) (rows : List Row) → Ascends least most (keys rows) → Ascends least most (keys (row_range low high rows))
Ascends-range low high least most [] up = tt
Ascends-range low high least most (row ∷ rows) up =
    elim (nat_le low row.0 && nat_le row.0 high) as (λ b. Ascends least most (keys (cond b (row ∷ row_range low high rows) (row_range low high rows)))) [
      | true ↦ (up.0, up.1, Ascends-range low high (row.0 + 1) most rows up.2)
      | false ↦ Ascends-lower least (row.0 + 1) most (keys (row_range low high rows)) (let first : least ≤ row.0 = up.0 in omega arith) (Ascends-range low high (row.0 + 1) most rows up.2)
    ]

abbrev Ordered : List Row → Type 0
Ordered rows = Ascends 0 last_key (keys rows)

Ordered-rows_of : (name : List ℕ) (tables : List Table) → AreOrdered tables → IfSome (rows_of name tables) Ordered
Ordered-rows_of name [] h = tt
Ordered-rows_of name (t ∷ tables) h =
    elim (bytes_eq t.0 name) as (λ b. IfSome (cond b (Some t.1) (rows_of name tables)) Ordered) [ true ↦ h.0 | false ↦ Ordered-rows_of name tables h.1 ]

Ordered-or : (o : Option (List Row)) → IfSome o Ordered → Ordered (unwrap_or o [])
Ordered-or None h = tt
Ordered-or (Some rows) h = h

AreOrdered-with_rows : (name : List ℕ) (rows : List Row) (tables : List Table) → Ordered rows → AreOrdered tables → AreOrdered (with_rows name rows tables)
AreOrdered-with_rows name rows [] r h = tt
AreOrdered-with_rows name rows (t ∷ tables) r h =
    elim (bytes_eq t.0 name) as (λ b. AreOrdered (cond b ((t.0, rows) ∷ tables) (t ∷ with_rows name rows tables))) [ true ↦ (r, h.1) | false ↦ (h.0, AreOrdered-with_rows name rows tables r h.1) ]

AreOrdered-with_table : (name : List ℕ) (tables : List Table) → AreOrdered tables → AreOrdered (with_table name tables)
AreOrdered-with_table name [] h = (tt, tt)
AreOrdered-with_table name (t ∷ tables) h = (h.0, AreOrdered-with_table name tables h.1)

-- ---- states

pub record IsOrdered (s : State) : Type 0 where
  pub tables : AreOrdered s.tables
  pub copy : IfSome s.transaction (λ o. AreOrdered o.tables)

AreOrdered-open : (tables : List Table) (o : Option Open) → AreOrdered tables → IfSome o (λ o. AreOrdered o.tables) → AreOrdered (tables_of_open tables o)
AreOrdered-open tables None h k = h
AreOrdered-open tables (Some o) h k = k

AreOrdered-current : (s : State) → IsOrdered s → AreOrdered (current s)
AreOrdered-current s h = AreOrdered-open s.tables s.transaction h.tables h.copy

-- the rows that a command sees
pub Ordered-rows_in : (t : List ℕ) (s : State) → IsOrdered s → Ordered (rows_in t s)
Ordered-rows_in t s h = Ordered-or (rows_of t (current s)) (Ordered-rows_of t (current s) (AreOrdered-current s h))

IsOrdered-written : (tables : List Table) (s : State) → AreOrdered tables → IsOrdered s → IsOrdered (written tables s)
IsOrdered-written tables s k h = record { tables = h.tables; copy = copied s.transaction }
  where
    copied : (o : Option Open) → IfSome (option_map (λ (o : Open). let r : Open = record { tables = tables; writes = o.writes + 1 } in r) o) (λ o. AreOrdered o.tables)
    copied None = tt
    copied (Some o) = k

IsOrdered-rows : (t : List ℕ) (rows : List Row) (s : State) → Ordered rows → IsOrdered s → IsOrdered (written (with_rows t rows (current s)) s)
IsOrdered-rows t rows s r h = IsOrdered-written (with_rows t rows (current s)) s (AreOrdered-with_rows t rows (current s) r (AreOrdered-current s h)) h

IsOrdered-cond : (b : Bool) (x y : State × List Reply) → IsOrdered x.0 → IsOrdered y.0 → IsOrdered (cond b x y).0
IsOrdered-cond true x y h k = h
IsOrdered-cond false x y h k = k

IsOrdered-accepted : (s : State) (c : Command) → IsOrdered s → IsCommand c → IsOrdered (accepted s c).0
IsOrdered-accepted s (Create t) h c = IsOrdered-written (with_table t (current s)) s (AreOrdered-with_table t (current s) (AreOrdered-current s h)) h
IsOrdered-accepted s Begin h c = record { tables = h.tables; copy = h.tables }
IsOrdered-accepted s (Put t k v) h c =
    let small : k ≤ last_key = omega (arith, c.1) in
    IsOrdered-rows t (row_put k v (rows_in t s)) s (Ascends-put 0 last_key k v (rows_in t s) (omega arith) small (Ordered-rows_in t s h)) h
IsOrdered-accepted s (Del t k) h c =
    IsOrdered-cond (has_row k (rows_in t s)) (written (with_rows t (row_delete k (rows_in t s)) (current s)) s, Fine ∷ []) (s, Absent ∷ [])
    (IsOrdered-rows t (row_delete k (rows_in t s)) s (Ascends-delete 0 last_key k (rows_in t s) (Ordered-rows_in t s h)) h) h
IsOrdered-accepted s Commit h c = record { tables = AreOrdered-current s h; copy = tt }
IsOrdered-accepted s Abort h c = record { tables = h.tables; copy = tt }
IsOrdered-accepted s (Get t k) h c = h
IsOrdered-accepted s (Scan t low high) h c = h
IsOrdered-accepted s Checkpoint h c = h
IsOrdered-accepted s Drain h c = h
IsOrdered-accepted s (Clean n) h c = h

IsOrdered-judged : (o : Option Reason) (s : State) (c : Command) → IsOrdered s → IsCommand c → IsOrdered (judged o s c).0
IsOrdered-judged None s c h k = IsOrdered-accepted s c h k
IsOrdered-judged (Some r) s c h k = h

pub IsOrdered-step : (bounds : Bounds) (s : State) (c : Option Command) → IsOrdered s → IfSome c IsCommand → IsOrdered (step bounds s c).0
IsOrdered-step bounds s None h k = h
IsOrdered-step bounds s (Some c) h k = IsOrdered-judged (refusal bounds s c) s c h k

pub IsOrdered-run : (bounds : Bounds) (s : State) (cs : List (Option Command)) → IsOrdered s → AllByRecursion (λ c. IfSome c IsCommand) cs → IsOrdered (run.state_after (machine bounds) s cs)
IsOrdered-run bounds s [] h k = h
IsOrdered-run bounds s (c ∷ cs) h k = IsOrdered-run bounds (step bounds s c).0 cs (IsOrdered-step bounds s c h k.0) k.1
