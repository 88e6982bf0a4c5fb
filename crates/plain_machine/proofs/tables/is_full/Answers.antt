use Rattle.std.proofs.Common.{◌≡◌, ◌∙◌, sym, ap, List}
use Rattle.std.specs.Prelude.{◌&&◌, not, nat_le, length}
use Rattle.rows.specs.Rows.{Row}
use Rattle.rows.specs.Tables.{Table}
use Rattle.script.specs.Machine.{is_full}
use Rattle.script.specs.Tables.{has_row}
use Rattle.plain_machine.proofs.TablesLaws.{found_at, found_none}
use Rattle.plain_machine.proofs.tables.is_full.Goals as goal

pub returns-in-Some : goal.returns-in-Some
returns-in-Some c =
    let table : Table = c.index-tables-at.result in
    let rows : c.rows.result.now ≡ _ = c.rows.ensures ∙ ap (λ (t : Table). t.1) c.index-tables-at.is in
    c.is_full.ensures ∙ ap (λ (rs : List Row). nat_le c.args.most (length rs) && not (has_row c.args.key rs)) rows
    ∙ sym (ap (is_full c.args.most c.args.key) (found_at c.args.name.now c.args.tables.now c.in-Some.at table (sym c.in-Some.ensures)))

pub returns-in-None : goal.returns-in-None
returns-in-None c = sym (ap (is_full c.args.most c.args.key) (found_none c.args.name.now c.args.tables.now (sym c.in-None.ensures)))
