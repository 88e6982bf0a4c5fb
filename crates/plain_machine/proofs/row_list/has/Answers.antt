use Rattle.std.proofs.Common.{sym, ◌∙◌}
use Rattle.plain_machine.proofs.RowsLaws.{has_by}
use Rattle.plain_machine.proofs.row_list.has.Goals as goal

pub returns : goal.returns
returns c = c.is_some.ensures ∙ has_by c.args.key c.args.rows.now c.row_at.result (sym c.row_at.ensures)
