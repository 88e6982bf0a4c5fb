use Rattle.std.proofs.Common.{◌≡◌, ◌∙◌, sym, ap, subst, Some, None, get_or, List, OnOk}
use Rattle.std.specs.List.{position}
use Rattle.rows.specs.Rows.{Row}
use Rattle.plain_machine.specs.Plain.{not_below}
use Rattle.plain_machine.proofs.RowsLaws.{put_at_same, put_at_other, put_at_none}
use Rattle.plain_machine.proofs.row_list.put.Goals as goal

pub returns-in_default-clause-put : goal.returns-in_default-clause-put
returns-in_default-clause-put c =
    let none : position (not_below c.args.key) c.args.rows.now.items ≡ None = ap (position (not_below c.args.key)) (sym c.deref.ensures.value) ∙ sym c.in_default.ensures in
    subst (λ (rows : List Row). OnOk c.push.result (c.push.new.rows.items ≡ rows)) (sym (put_at_none c.args.key c.args.rows.now.items c.args.value none)) c.push.ensures.pushed

pub returns-then-found-key-clause-put : goal.returns-then-found-key-clause-put
returns-then-found-key-clause-put c =
    let at : position (not_below c.args.key) c.args.rows.now.items ≡ Some c.in-Some.at = ap (position (not_below c.args.key)) (sym c.deref.ensures.value) ∙ sym c.in-Some.ensures in
    let row : Row = c.index-found.result.now in
    let found : c.found.inside.key ≡ (get_or c.args.rows.now.items c.in-Some.at row).0 = ap (λ (r : Row). r.0) (c.found.view_is ∙ c.index-found.ensures) in
    sym (put_at_same c.args.key c.args.rows.now.items c.args.value c.in-Some.at row at (sym found ∙ c.if-found-key.true))

pub returns-clause-put : goal.returns-clause-put
returns-clause-put c =
    let at : position (not_below c.args.key) c.args.rows.now.items ≡ Some c.in-Some.at = ap (position (not_below c.args.key)) (sym c.deref.ensures.value) ∙ sym c.in-Some.ensures in
    let row : Row = c.index-found.result.now in
    let found : c.found.inside.key ≡ (get_or c.args.rows.now.items c.in-Some.at row).0 = ap (λ (r : Row). r.0) (c.found.view_is ∙ c.index-found.ensures) in
    c.in-Ok.ensures.items ∙ sym (put_at_other c.args.key c.args.rows.now.items c.args.value c.in-Some.at row at (λ same. c.if-found-key.false (found ∙ same)))
