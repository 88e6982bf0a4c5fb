use Rattle.std.proofs.Common.{◌∙◌, sym, ap}
use Rattle.rows.specs.Tables.{Table}
use Rattle.plain_machine.proofs.TablesLaws.{rows_at, rows_none}
use Rattle.plain_machine.proofs.tables.rows_of.Goals as goal

pub returns-in-Some : goal.returns-in-Some
returns-in-Some c =
    let table : Table = c.index-tables-at.result in
    c.rows.ensures ∙ ap (λ (t : Table). t.1) c.index-tables-at.is ∙ sym (rows_at c.args.name.now c.args.tables.now c.in-Some.at table (sym c.in-Some.ensures))

pub returns-in-None : goal.returns-in-None
returns-in-None c = sym (rows_none c.args.name.now c.args.tables.now (sym c.in-None.ensures))
