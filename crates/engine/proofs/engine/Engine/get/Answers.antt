use Rattle.std.proofs.Common.{◌∙◌, ap, rules, Ok, Some, List, ◌∷◌, [], sym}
use Rattle.rows.specs.Tables.{Table}
use Rattle.rows.specs.Tables.{rows_of}
use Rattle.table_store.specs.Getting.{got_of}
use Rattle.script.specs.declared.command.Command.TheVariants.{Get}
use Rattle.script.specs.declared.command.Reply.{Reply}
use Rattle.engine.specs.Holds.{bounds_in}
use Rattle.engine.specs.declared.scan.Step.TheVariants as step
use Rattle.engine.specs.Engine.{engine_sizes}
use Rattle.engine.specs.Steps.{after_command}
use Rattle.engine.proofs.TableLaws.{get_gives}
use Rattle.engine.proofs.CommandLaws.{on_device, does_fails, does_stays, cause_fails, store_shown}
use Rattle.engine.proofs.RestLaws.{reads_row, reads_stays}
use Rattle.engine.proofs.RefusalLaws.{stays_kept, refused_any}
use Rattle.engine.proofs.engine.Engine.get.Goals as goal

pub returns-in_err-got-clause-does : goal.returns-in_err-got-clause-does
returns-in_err-got-clause-does g c =
    let a = g.W.Devices.standing c.args.world.now in
    on_device g.W.Devices.standing (after_command c.args.self.now (Some (Get c.args.name.now c.args.key))) c.args.self.now a _ _ c.get.new.pages.dev.now c.from_residual.result (search rules)
    (does_fails c.args.self.now a (g.W.Devices.standing c.get.new.pages.dev.now) c.get.new.pages.book.now c.get.new.work c.requires
    (rw (c.over-store.ensures.same.0, c.over-store.ensures.same.1) at c.get.ensures.call.continues) (ap (λ x. (g.W.Devices.standing x).clock) c.over-store.ensures.before)
    _ c.from_residual.result c.in_err-got.field-0.0 c.from_residual.ensures
    (λ told s shows. ((rw (c.over-store.ensures.same.0, c.over-store.ensures.same.1) at c.in_err-got.ensures.sound) told (store_shown c.args.self.now a s c.requires shows))))

pub returns-clause-does : goal.returns-clause-does
returns-clause-does g c =
    let a = g.W.Devices.standing c.args.world.now in
    on_device g.W.Devices.standing (after_command c.args.self.now (Some (Get c.args.name.now c.args.key))) c.args.self.now a _ _ c.get.new.pages.dev.now (Ok (step.Said c.reply_to.result)) (search rules)
    (does_stays c.args.self.now a (g.W.Devices.standing c.get.new.pages.dev.now) c.get.new.pages.book.now c.get.new.work c.requires
    (rw (c.over-store.ensures.same.0, c.over-store.ensures.same.1) at c.get.ensures.call.continues) (ap (λ x. (g.W.Devices.standing x).clock) c.over-store.ensures.before)
    c.in_ok-got.ensures.call.ready.0 (rw (c.over-store.ensures.same.0, c.over-store.ensures.same.1) at c.in_ok-got.ensures.keeps) _ (step.Said c.reply_to.result)
    (rw (c.over-store.ensures.same.0, c.over-store.ensures.same.1) at c.in_ok-got.ensures.call.steady)
    (λ told s shows. ap (λ p. p.0) (get_gives (bounds_in (engine_sizes c.args.self.now)) s c.args.name.now c.args.key c.in_ok-got.got
    ((rw (c.over-store.ensures.same.0, c.over-store.ensures.same.1) at c.in_ok-got.ensures.value) told (store_shown c.args.self.now a s c.requires shows) ∙ ap (λ (T : List Table). got_of c.args.key (rows_of c.args.name.now T)) shows.seen.tables_are))))

pub returns-clause-replies : goal.returns-clause-replies
returns-clause-replies g c = λ told s shows.
    let a = g.W.Devices.standing c.args.world.now in
    ap (λ p. p.1) (get_gives (bounds_in (engine_sizes c.args.self.now)) s c.args.name.now c.args.key c.in_ok-got.got
    ((rw (c.over-store.ensures.same.0, c.over-store.ensures.same.1) at c.in_ok-got.ensures.value) told (store_shown c.args.self.now a s c.requires shows) ∙ ap (λ (T : List Table). got_of c.args.key (rows_of c.args.name.now T)) shows.seen.tables_are))
    ∙ ap (λ (x : Reply). x ∷ []) (sym c.reply_to.ensures)

pub returns-in_err-got-clause-cause : goal.returns-in_err-got-clause-cause
returns-in_err-got-clause-cause g c =
    cause_fails g.W.Devices.standing _ _ c.args.self.now.book c.get.new.pages.book.now (g.W.Devices.standing c.args.world.now) _ c.get.new.pages.dev.now _ _ _ _ _ _ c.from_residual.result c.in_err-got.field-0.0 (search rules) c.from_residual.ensures
    (rw c.over-store.ensures.same.0 at c.in_err-got.ensures.fails)
    (rw (c.over-store.ensures.same.0, c.over-store.ensures.same.1) at c.in_err-got.ensures.cause)

pub returns-in_err-got-clause-reads : goal.returns-in_err-got-clause-reads
returns-in_err-got-clause-reads g c =
    reads_row _ _ _ _ c.from_residual.result c.from_residual.ensures.0
    (cause_fails g.W.Devices.standing _ _ c.args.self.now.book c.get.new.pages.book.now (g.W.Devices.standing c.args.world.now) _ c.get.new.pages.dev.now _ _ _ _ _ _ c.from_residual.result c.in_err-got.field-0.0 (search rules) c.from_residual.ensures
    (rw c.over-store.ensures.same.0 at c.in_err-got.ensures.fails)
    (rw (c.over-store.ensures.same.0, c.over-store.ensures.same.1) at c.in_err-got.ensures.cause))

pub returns-clause-reads : goal.returns-clause-reads
returns-clause-reads g c =
    reads_stays g.W.Devices.standing c.args.self.now (g.W.Devices.standing c.args.world.now) _ c.get.new.pages.dev.now c.get.new.pages.book.now c.get.new.work (step.Said c.reply_to.result) (search rules)
    (rw (c.over-store.ensures.same.0, c.over-store.ensures.same.1) at c.get.ensures.call.continues) (ap (λ x. (g.W.Devices.standing x).clock) c.over-store.ensures.before)
    (rw (c.over-store.ensures.same.0, c.over-store.ensures.same.1) at c.in_ok-got.ensures.keeps)

pub returns-clause-refused : goal.returns-clause-refused
returns-clause-refused g c =
    refused_any c.args.self.now (g.W.Devices.standing c.args.world.now) _ _ c.reply_to.result
    (stays_kept g.W.Devices.standing c.args.self.now (g.W.Devices.standing c.args.world.now) _ c.get.new.pages.dev.now c.get.new.pages.book.now c.get.new.work (search rules)
    (rw (c.over-store.ensures.same.0, c.over-store.ensures.same.1) at c.get.ensures.call.continues) (ap (λ x. (g.W.Devices.standing x).clock) c.over-store.ensures.before)
    (rw (c.over-store.ensures.same.0, c.over-store.ensures.same.1) at c.in_ok-got.ensures.keeps))
