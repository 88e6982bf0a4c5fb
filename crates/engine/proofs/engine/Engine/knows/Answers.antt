use Rattle.std.proofs.Common.{◌∙◌, ap, refl, rules, Ok, List}
use Rattle.line_pages.proofs.StandingLaws.{page_keeps}
use Rattle.rows.specs.Tables.{Table}
use Rattle.rows.specs.Tables.{is_known}
use Rattle.script.specs.Machine.{State}
use Rattle.engine.proofs.CommandLaws.{on_device, does_fails, does_stays, cause_fails, store_shown}
use Rattle.engine.proofs.RestLaws.{reads_name, reads_stays}
use Rattle.engine.proofs.RefusalLaws.{stays_kept}
use Rattle.engine.proofs.engine.Engine.knows.Goals as goal

pub returns-in_err-known-clause-does : goal.returns-in_err-known-clause-does
returns-in_err-known-clause-does g c =
    let a = g.W.Devices.standing c.args.world.now in
    on_device g.W.Devices.standing (λ (s : State). s) c.args.self.now a _ _ c.has_table.new.pages.dev.now c.from_residual.result (search rules)
    (does_fails c.args.self.now a (g.W.Devices.standing c.has_table.new.pages.dev.now) c.has_table.new.pages.book.now c.has_table.new.work c.requires
    (rw (c.over-store.ensures.same.0, c.over-store.ensures.same.1) at c.has_table.ensures.call.continues) (ap (λ x. (g.W.Devices.standing x).clock) c.over-store.ensures.before)
    _ c.from_residual.result c.in_err-known.field-0.0 c.from_residual.ensures
    (λ told s shows. ((rw (c.over-store.ensures.same.0, c.over-store.ensures.same.1) at c.in_err-known.ensures.sound) told (store_shown c.args.self.now a s c.requires shows))))

pub returns-in_err-known-clause-cause : goal.returns-in_err-known-clause-cause
returns-in_err-known-clause-cause g c =
    cause_fails g.W.Devices.standing _ _ c.args.self.now.book c.has_table.new.pages.book.now (g.W.Devices.standing c.args.world.now) _ c.has_table.new.pages.dev.now _ _ _ _ _ _ c.from_residual.result c.in_err-known.field-0.0 (search rules) c.from_residual.ensures
    (rw c.over-store.ensures.same.0 at c.in_err-known.ensures.fails)
    (rw (c.over-store.ensures.same.0, c.over-store.ensures.same.1) at c.in_err-known.ensures.cause)

pub returns-clause-does : goal.returns-clause-does
returns-clause-does g c =
    let a = g.W.Devices.standing c.args.world.now in
    on_device g.W.Devices.standing (λ (s : State). s) c.args.self.now a _ _ c.has_table.new.pages.dev.now (Ok c.in_ok-known.known) (search rules)
    (does_stays c.args.self.now a (g.W.Devices.standing c.has_table.new.pages.dev.now) c.has_table.new.pages.book.now c.has_table.new.work c.requires
    (rw (c.over-store.ensures.same.0, c.over-store.ensures.same.1) at c.has_table.ensures.call.continues) (ap (λ x. (g.W.Devices.standing x).clock) c.over-store.ensures.before)
    c.in_ok-known.ensures.call.ready.0 (page_keeps (rw (c.over-store.ensures.same.0, c.over-store.ensures.same.1) at c.in_ok-known.ensures.reads)) (λ (s : State). s) c.in_ok-known.known
    (rw (c.over-store.ensures.same.0, c.over-store.ensures.same.1) at c.in_ok-known.ensures.call.steady) (λ told s shows. refl))

pub returns-clause-known : goal.returns-clause-known
returns-clause-known g c = λ told s shows.
    (rw (c.over-store.ensures.same.0, c.over-store.ensures.same.1) at c.in_ok-known.ensures.known) told ∙ ap (λ (T : List Table). is_known c.args.name.now T) shows.seen.tables_are

pub returns-in_err-known-clause-reads : goal.returns-in_err-known-clause-reads
returns-in_err-known-clause-reads g c =
    reads_name _ _ _ _ c.from_residual.result c.from_residual.ensures.0
    (cause_fails g.W.Devices.standing _ _ c.args.self.now.book c.has_table.new.pages.book.now (g.W.Devices.standing c.args.world.now) _ c.has_table.new.pages.dev.now _ _ _ _ _ _ c.from_residual.result c.in_err-known.field-0.0 (search rules) c.from_residual.ensures
    (rw c.over-store.ensures.same.0 at c.in_err-known.ensures.fails)
    (rw (c.over-store.ensures.same.0, c.over-store.ensures.same.1) at c.in_err-known.ensures.cause))

pub returns-clause-reads : goal.returns-clause-reads
returns-clause-reads g c =
    reads_stays g.W.Devices.standing c.args.self.now (g.W.Devices.standing c.args.world.now) _ c.has_table.new.pages.dev.now c.has_table.new.pages.book.now c.has_table.new.work c.in_ok-known.known (search rules)
    (rw (c.over-store.ensures.same.0, c.over-store.ensures.same.1) at c.has_table.ensures.call.continues) (ap (λ x. (g.W.Devices.standing x).clock) c.over-store.ensures.before)
    (page_keeps (rw (c.over-store.ensures.same.0, c.over-store.ensures.same.1) at c.in_ok-known.ensures.reads))

pub returns-clause-stays : goal.returns-clause-stays
returns-clause-stays g c =
    stays_kept g.W.Devices.standing c.args.self.now (g.W.Devices.standing c.args.world.now) _ c.has_table.new.pages.dev.now c.has_table.new.pages.book.now c.has_table.new.work (search rules)
    (rw (c.over-store.ensures.same.0, c.over-store.ensures.same.1) at c.has_table.ensures.call.continues) (ap (λ x. (g.W.Devices.standing x).clock) c.over-store.ensures.before)
    (page_keeps (rw (c.over-store.ensures.same.0, c.over-store.ensures.same.1) at c.in_ok-known.ensures.reads))
