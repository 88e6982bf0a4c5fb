use Rattle.std.proofs.Common.{sym, ◌∙◌}
use Rattle.plain_machine.proofs.TablesLaws.{known_by}
use Rattle.plain_machine.proofs.tables.has_table.Goals as goal

pub returns : goal.returns
returns c = c.is_some.ensures ∙ known_by c.args.name.now c.args.tables.now c.table_at.result (sym c.table_at.ensures)
