use Rattle.std.proofs.Common.{◌≡◌, ◌∙◌, sym, ap, Some, None}
use Rattle.std.specs.List.{position}
use Rattle.plain_machine.specs.Plain.{is_key}
use Rattle.plain_machine.proofs.RowsLaws.{delete_at, delete_none}
use Rattle.plain_machine.proofs.row_list.delete.Goals as goal

pub returns-in-Some : goal.returns-in-Some
returns-in-Some c =
    let at : position (is_key c.args.key) c.args.rows.now.items ≡ Some c.in-Some.at = ap (position (is_key c.args.key)) (sym c.deref.ensures.value) ∙ sym c.in-Some.ensures in
    c.remove-row.ensures.items ∙ sym (delete_at c.args.key c.args.rows.now.items c.in-Some.at at)

pub returns-in_default : goal.returns-in_default
returns-in_default c =
    let none : position (is_key c.args.key) c.args.rows.now.items ≡ None = ap (position (is_key c.args.key)) (sym c.deref.ensures.value) ∙ sym c.in_default.ensures in
    sym (delete_none c.args.key c.args.rows.now.items none)
