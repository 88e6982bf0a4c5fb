-- A command that is not refused has a write left.
use Rattle.std.proofs.Common.{◌≡◌, ◌<◌, ◌≤◌, Bool, true, false, List, [], ◌∷◌, refl, sym, ◌∙◌, arith, None}
use Rattle.std.proofs.lemmas.Bool.{leb-false}
use Rattle.std.specs.Prelude.{nat_le, is_some}
use Rattle.script.specs.Machine.{Bounds, State, first_true, refusal, transaction_wrong, table_wrong, writes_spent, tables_spent, rows_spent, current, writes_so_far}
use Rattle.script.specs.declared.command.Reason.TheVariants.{Transaction, Table, Writes, Tables, Full}
use Rattle.script.specs.declared.command.Command.{Command}

-- where none of the tests holds, the third one does not
third_none : {A : Type 0} (x y z : Bool) (p q r : A) (tests : List (Bool × A)) → first_true ((x, p) ∷ (y, q) ∷ (z, r) ∷ tests) ≡ None → z ≡ false
third_none true y z p q r tests h = absurd cc
third_none false true z p q r tests h = absurd cc
third_none false false true p q r tests h = absurd cc
third_none false false false p q r tests h = refl

not_spent : (bounds : Bounds) (s : State) (c : Command) → refusal bounds s c ≡ None → writes_spent bounds.writes c (writes_so_far s.transaction) ≡ false
not_spent bounds s c h =
    third_none (transaction_wrong c (is_some s.transaction)) (table_wrong c (current s)) (writes_spent bounds.writes c (writes_so_far s.transaction)) Transaction Table Writes
    ((tables_spent bounds.tables c (current s), Tables) ∷ (rows_spent bounds.rows c (current s), Full) ∷ []) h

-- a command that writes, and is not refused
pub write_left : (bounds : Bounds) (s : State) (c : Command) → refusal bounds s c ≡ None → bounds.writes ≤ 4294967295 →
    writes_spent bounds.writes c (writes_so_far s.transaction) ≡ nat_le bounds.writes (writes_so_far s.transaction) → writes_so_far s.transaction < 4294967295
write_left bounds s c h few e =
    let left : writes_so_far s.transaction < bounds.writes = leb-false bounds.writes (writes_so_far s.transaction) (sym e ∙ not_spent bounds s c h) in
    omega arith
