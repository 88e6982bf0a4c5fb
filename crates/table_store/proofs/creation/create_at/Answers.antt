use Rattle.table_store.proofs.CreateLaws.{made_is, no_slot_is, made_by, no_slot_by}
use Rattle.table_store.proofs.creation.create_at.Goals as goal

pub returns-then-at-limits-clause-created : goal.returns-then-at-limits-clause-created
returns-then-at-limits-clause-created g c = λ told at_is unknown store.
    let old = g.P.Pages.standing c.args.pages.now in
    no_slot_is c.args.limits.now old.count old.current old.current c.args.name.now c.args.at at_is unknown c.requires.at c.if-at-limits.true

pub returns-clause-created : goal.returns-clause-created
returns-clause-created g c = λ told at_is unknown store.
    let old = g.P.Pages.standing c.args.pages.now in
    made_is c.args.limits.now old.count old.current (g.P.Pages.standing c.add_table.new.pages).current c.args.name.now c.args.at at_is unknown c.if-at-limits.false (c.in_ok-add_table.ensures.makes told at_is unknown store)

pub returns-then-at-limits-clause-known : goal.returns-then-at-limits-clause-known
returns-then-at-limits-clause-known g c = λ told at_is unknown.
    no_slot_by c.args.limits.now (g.P.Pages.standing c.args.pages.now).current c.args.name.now c.args.at at_is unknown c.if-at-limits.true

pub returns-clause-known : goal.returns-clause-known
returns-clause-known g c = λ told at_is unknown.
    made_by c.args.limits.now (g.P.Pages.standing c.args.pages.now).current c.args.name.now c.args.at at_is unknown c.if-at-limits.false
