use Rattle.std.proofs.Common.{◌≡◌, ◌∙◌, sym, ap, Some, None, set}
use Rattle.std.specs.List.{position}
use Rattle.rows.specs.Rows.{row_delete}
use Rattle.rows.specs.Tables.{Table}
use Rattle.script.specs.Tables.{rows_or_none}
use Rattle.plain_machine.specs.Plain.{is_table}
use Rattle.plain_machine.proofs.TablesLaws.{changed_at, changed_none}
use Rattle.plain_machine.proofs.tables.delete.Goals as goal

pub returns-in-Some : goal.returns-in-Some
returns-in-Some c =
    let at : position (is_table c.args.name.now) c.args.tables.now.items ≡ Some c.in-Some.at = ap (position (is_table c.args.name.now)) (sym c.deref.ensures.value) ∙ sym c.in-Some.ensures in
    let table : Table = c.index_mut.result.now in
    ap (set c.args.tables.now.items c.in-Some.at) c.delete.ensures ∙ changed_at c.args.name.now c.args.tables.now.items (row_delete c.args.key) c.in-Some.at table at c.index_mut.ensures.value

pub returns-in_default : goal.returns-in_default
returns-in_default c =
    let none : position (is_table c.args.name.now) c.args.tables.now.items ≡ None = ap (position (is_table c.args.name.now)) (sym c.deref.ensures.value) ∙ sym c.in_default.ensures in
    changed_none c.args.name.now c.args.tables.now.items (row_delete c.args.key (rows_or_none c.args.name.now c.args.tables.now.items)) none
