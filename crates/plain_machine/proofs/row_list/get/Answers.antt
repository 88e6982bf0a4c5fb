use Rattle.std.proofs.Common.{◌≡◌, ◌∙◌, sym, ap, Some, get_or, List, ℕ}
use Rattle.rows.specs.Rows.{Row}
use Rattle.plain_machine.proofs.RowsLaws.{get_at, get_none}
use Rattle.plain_machine.proofs.row_list.get.Goals as goal

pub returns-in_err-at : goal.returns-in_err-at
returns-in_err-at c = c.from_residual.ensures ∙ sym (get_none c.args.key c.args.rows.now (sym c.in_err-at.ensures))

pub returns : goal.returns
returns c =
    let row : Row = c.index-rows-at.result in
    let value : c.row.inside.value ≡ (get_or c.args.rows.now c.in_ok-at.at row).1 = ap (λ (r : Row). r.1) (c.row.view_is ∙ c.index-rows-at.is) in
    ap (λ (v : List ℕ). Some v) (c.copy.ensures ∙ value) ∙ sym (get_at c.args.key c.args.rows.now c.in_ok-at.at row (sym c.in_ok-at.ensures))
