use Rattle.std.proofs.Common.{◌≡◌, ◌∙◌, sym, ap, Some, None, set}
use Rattle.std.specs.List.{position}
use Rattle.rows.specs.Rows.{row_put}
use Rattle.rows.specs.Tables.{Table}
use Rattle.script.specs.Tables.{rows_or_none}
use Rattle.plain_machine.specs.Plain.{is_table}
use Rattle.plain_machine.proofs.TablesLaws.{changed_at, changed_none, on_ok}
use Rattle.plain_machine.proofs.tables.put.Goals as goal

pub returns-in_default-clause-put : goal.returns-in_default-clause-put
returns-in_default-clause-put c =
    let none : position (is_table c.args.name.now) c.args.tables.now.items ≡ None = ap (position (is_table c.args.name.now)) (sym c.deref.ensures.value) ∙ sym c.in_default.ensures in
    changed_none c.args.name.now c.args.tables.now.items (row_put c.args.key c.args.value (rows_or_none c.args.name.now c.args.tables.now.items)) none

pub returns-clause-put : goal.returns-clause-put
returns-clause-put c =
    let at : position (is_table c.args.name.now) c.args.tables.now.items ≡ Some c.in-Some.at = ap (position (is_table c.args.name.now)) (sym c.deref.ensures.value) ∙ sym c.in-Some.ensures in
    let table : Table = c.index_mut.result.now in
    on_ok c.put.result (λ e. ap (set c.args.tables.now.items c.in-Some.at) e ∙ changed_at c.args.name.now c.args.tables.now.items (row_put c.args.key c.args.value) c.in-Some.at table at c.index_mut.ensures.value) c.put.ensures.put
