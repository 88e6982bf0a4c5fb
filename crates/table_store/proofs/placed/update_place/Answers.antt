use Rattle.std.proofs.Common.{sym, ◌∙◌}
use Rattle.table_store.proofs.PlaceLaws.{stays_entered}
use Rattle.table_store.proofs.placed.update_place.Goals as goal

pub returns-then-stays-clause-after : goal.returns-then-stays-clause-after
returns-then-stays-clause-after g c = λ told there.
    stays_entered (g.P.Pages.standing c.args.pages.now).current c.args.place.now c.args.root.now c.args.rows (sym c.stays.ensures ∙ c.if-stays.true) there
