use Rattle.std.proofs.Common.{◌∙◌, ap, rules, Ok, Some, sym}
use Rattle.flat_transactions.specs.OpenStore.{current_lines}
use Rattle.flat_transactions.specs.Order.{pages}
use Rattle.rows.specs.Rows.{row_put}
use Rattle.script.specs.declared.command.Command.TheVariants as command
use Rattle.script.specs.declared.command.Reason.TheVariants as reason
use Rattle.script.specs.declared.command.Reply.TheVariants as reply
use Rattle.table_store.specs.Changed.{IsChangeDamage}
use Rattle.engine.specs.declared.scan.Step.TheVariants as step
use Rattle.engine.specs.Engine.{engine_sizes, engine_lines}
use Rattle.engine.specs.Steps.{after_command}
use Rattle.engine.proofs.CommandLaws.{on_device, does_fails, does_stays, does_writes, cause_fails_at, store_shown}
use Rattle.engine.proofs.RefusalLaws.{stays_kept}
use Rattle.engine.proofs.AnswerLaws.{stepped, enough_pages, put_writes, put_holds, put_no_room, put_no_table}
use Rattle.engine.proofs.engine.Engine.put_row.Goals as goal

pub returns-in_err-put-clause-does : goal.returns-in_err-put-clause-does
returns-in_err-put-clause-does g c =
    let a = g.W.Devices.standing c.args.world.now in
    on_device g.W.Devices.standing (after_command c.args.self.now (Some (command.Put c.args.name.now c.args.key c.args.value.now))) c.args.self.now a _ _ c.put.new.pages.dev.now c.from_residual.result (search rules)
    (does_fails c.args.self.now a (g.W.Devices.standing c.put.new.pages.dev.now) c.put.new.pages.book.now c.put.new.work c.requires.stands
    (rw (c.over-store.ensures.same.0, c.over-store.ensures.same.1) at c.put.ensures.call.continues) (ap (λ x. (g.W.Devices.standing x).clock) c.over-store.ensures.before)
    _ c.from_residual.result c.in_err-put.field-0.0 c.from_residual.ensures
    (λ told s shows. ((rw (c.over-store.ensures.same.0, c.over-store.ensures.same.1) at c.in_err-put.ensures.sound) told (store_shown c.args.self.now a s c.requires.stands shows) (enough_pages c.args.self.now a c.requires.stands))))

pub returns-in_err-put-clause-cause : goal.returns-in_err-put-clause-cause
returns-in_err-put-clause-cause g c =
    let a = g.W.Devices.standing c.args.world.now in
    let engine = c.args.self.now in
    cause_fails_at g.W.Devices.standing _ (λ lines e. IsChangeDamage a.told engine.limits (pages (engine_sizes engine)) (engine_lines engine a) lines c.put.new.work.page e) engine.book c.put.new.pages.book.now a _ c.put.new.pages.dev.now _ _ _ _ _ _
    c.from_residual.result c.in_err-put.field-0.0 (search rules) c.from_residual.ensures
    (rw c.over-store.ensures.same.0 at c.in_err-put.ensures.fails)
    (rw (c.over-store.ensures.same.0, c.over-store.ensures.same.1) at c.in_err-put.ensures.cause)

pub returns-in-TableFull-clause-does : goal.returns-in-TableFull-clause-does
returns-in-TableFull-clause-does g c =
    let a = g.W.Devices.standing c.args.world.now in
    on_device g.W.Devices.standing (after_command c.args.self.now (Some (command.Put c.args.name.now c.args.key c.args.value.now))) c.args.self.now a _ _ c.put.new.pages.dev.now (Ok (step.Said (reply.Refused reason.Full))) (search rules)
    (does_stays c.args.self.now a (g.W.Devices.standing c.put.new.pages.dev.now) c.put.new.pages.book.now c.put.new.work c.requires.stands
    (rw (c.over-store.ensures.same.0, c.over-store.ensures.same.1) at c.put.ensures.call.continues) (ap (λ x. (g.W.Devices.standing x).clock) c.over-store.ensures.before)
    c.in_ok-put.ensures.call.ready.0 (rw (c.over-store.ensures.same.0, c.over-store.ensures.same.1, c.in-TableFull.is) at c.in_ok-put.ensures.keeps) (after_command c.args.self.now (Some (command.Put c.args.name.now c.args.key c.args.value.now))) (step.Said (reply.Refused reason.Full))
    (rw (c.over-store.ensures.same.0, c.over-store.ensures.same.1) at c.in_ok-put.ensures.call.steady)
    (λ told s shows. ap (λ p. p.0) (put_no_room c.args.self.now a c.requires.stands s shows c.requires.is_open c.requires.more c.args.name.now c.args.key c.args.value.now (sym c.in-TableFull.is ∙ ((rw (c.over-store.ensures.same.0, c.over-store.ensures.same.1) at c.in_ok-put.ensures.answer) told (store_shown c.args.self.now a s c.requires.stands shows))))))

pub returns-in-TableFull-clause-replies : goal.returns-in-TableFull-clause-replies
returns-in-TableFull-clause-replies g c = λ told s shows.
    let a = g.W.Devices.standing c.args.world.now in
    ap (λ p. p.1) (put_no_room c.args.self.now a c.requires.stands s shows c.requires.is_open c.requires.more c.args.name.now c.args.key c.args.value.now (sym c.in-TableFull.is ∙ ((rw (c.over-store.ensures.same.0, c.over-store.ensures.same.1) at c.in_ok-put.ensures.answer) told (store_shown c.args.self.now a s c.requires.stands shows))))

pub returns-in-NoTable-clause-does : goal.returns-in-NoTable-clause-does
returns-in-NoTable-clause-does g c =
    let a = g.W.Devices.standing c.args.world.now in
    on_device g.W.Devices.standing (after_command c.args.self.now (Some (command.Put c.args.name.now c.args.key c.args.value.now))) c.args.self.now a _ _ c.put.new.pages.dev.now (Ok (step.Said (reply.Refused reason.Table))) (search rules)
    (does_stays c.args.self.now a (g.W.Devices.standing c.put.new.pages.dev.now) c.put.new.pages.book.now c.put.new.work c.requires.stands
    (rw (c.over-store.ensures.same.0, c.over-store.ensures.same.1) at c.put.ensures.call.continues) (ap (λ x. (g.W.Devices.standing x).clock) c.over-store.ensures.before)
    c.in_ok-put.ensures.call.ready.0 (rw (c.over-store.ensures.same.0, c.over-store.ensures.same.1, c.in-NoTable.is) at c.in_ok-put.ensures.keeps) (after_command c.args.self.now (Some (command.Put c.args.name.now c.args.key c.args.value.now))) (step.Said (reply.Refused reason.Table))
    (rw (c.over-store.ensures.same.0, c.over-store.ensures.same.1) at c.in_ok-put.ensures.call.steady)
    (λ told s shows. ap (λ p. p.0) (put_no_table c.args.self.now a c.requires.stands s shows c.requires.is_open c.requires.more c.args.name.now c.args.key c.args.value.now (sym c.in-NoTable.is ∙ ((rw (c.over-store.ensures.same.0, c.over-store.ensures.same.1) at c.in_ok-put.ensures.answer) told (store_shown c.args.self.now a s c.requires.stands shows))))))

pub returns-in-NoTable-clause-replies : goal.returns-in-NoTable-clause-replies
returns-in-NoTable-clause-replies g c = λ told s shows.
    let a = g.W.Devices.standing c.args.world.now in
    ap (λ p. p.1) (put_no_table c.args.self.now a c.requires.stands s shows c.requires.is_open c.requires.more c.args.name.now c.args.key c.args.value.now (sym c.in-NoTable.is ∙ ((rw (c.over-store.ensures.same.0, c.over-store.ensures.same.1) at c.in_ok-put.ensures.answer) told (store_shown c.args.self.now a s c.requires.stands shows))))

pub returns-in-Done-clause-does : goal.returns-in-Done-clause-does
returns-in-Done-clause-does g c =
    let a = g.W.Devices.standing c.args.world.now in
    on_device g.W.Devices.standing (after_command c.args.self.now (Some (command.Put c.args.name.now c.args.key c.args.value.now))) c.args.self.now a _ _ c.put.new.pages.dev.now (Ok (step.Said reply.Fine)) (search rules)
    (does_writes c.args.self.now a (g.W.Devices.standing c.put.new.pages.dev.now) c.put.new.pages.book.now c.put.new.work c.requires.stands
    (rw (c.over-store.ensures.same.0, c.over-store.ensures.same.1) at c.put.ensures.call.continues) (ap (λ x. (g.W.Devices.standing x).clock) c.over-store.ensures.before)
    c.next_write.new.self.book.now c.in_ok-put.ensures.call.ready.0 c.requires.is_open c.requires.more c.next_write.ensures.next (rw c.next_write.ensures.device at c.next_write.ensures.ready)
    (after_command c.args.self.now (Some (command.Put c.args.name.now c.args.key c.args.value.now))) (step.Said reply.Fine) (stepped c.args.name.now (row_put c.args.key c.args.value.now))
    (λ steady. (rw c.next_write.ensures.device at c.next_write.ensures.steady) ((rw (c.over-store.ensures.same.0, c.over-store.ensures.same.1) at c.in_ok-put.ensures.call.steady) steady))
    (λ told s shows. ap (λ p. p.0) (put_writes c.args.self.now a c.requires.stands s shows c.requires.is_open c.requires.more c.args.name.now c.args.key c.args.value.now (sym c.in-Done.is ∙ ((rw (c.over-store.ensures.same.0, c.over-store.ensures.same.1) at c.in_ok-put.ensures.answer) told (store_shown c.args.self.now a s c.requires.stands shows)))))
    (λ told s shows. put_holds c.args.self.now a c.requires.stands s shows c.requires.is_open c.requires.more c.args.name.now c.args.key c.args.value.now (current_lines c.put.new.pages.book.now (g.W.Devices.standing c.put.new.pages.dev.now)) (sym c.in-Done.is ∙ ((rw (c.over-store.ensures.same.0, c.over-store.ensures.same.1) at c.in_ok-put.ensures.answer) told (store_shown c.args.self.now a s c.requires.stands shows))) ((rw (c.over-store.ensures.same.0, c.over-store.ensures.same.1, c.in-Done.is) at c.in_ok-put.ensures.changed) told (store_shown c.args.self.now a s c.requires.stands shows))))

pub returns-in-Done-clause-replies : goal.returns-in-Done-clause-replies
returns-in-Done-clause-replies g c = λ told s shows.
    let a = g.W.Devices.standing c.args.world.now in
    ap (λ p. p.1) (put_writes c.args.self.now a c.requires.stands s shows c.requires.is_open c.requires.more c.args.name.now c.args.key c.args.value.now (sym c.in-Done.is ∙ ((rw (c.over-store.ensures.same.0, c.over-store.ensures.same.1) at c.in_ok-put.ensures.answer) told (store_shown c.args.self.now a s c.requires.stands shows))))

pub returns-in-TableFull-clause-refused : goal.returns-in-TableFull-clause-refused
returns-in-TableFull-clause-refused g c =
    stays_kept g.W.Devices.standing c.args.self.now (g.W.Devices.standing c.args.world.now) _ c.put.new.pages.dev.now c.put.new.pages.book.now c.put.new.work (search rules)
    (rw (c.over-store.ensures.same.0, c.over-store.ensures.same.1) at c.put.ensures.call.continues) (ap (λ x. (g.W.Devices.standing x).clock) c.over-store.ensures.before)
    (rw (c.over-store.ensures.same.0, c.over-store.ensures.same.1, c.in-TableFull.is) at c.in_ok-put.ensures.keeps)

pub returns-in-NoTable-clause-refused : goal.returns-in-NoTable-clause-refused
returns-in-NoTable-clause-refused g c =
    stays_kept g.W.Devices.standing c.args.self.now (g.W.Devices.standing c.args.world.now) _ c.put.new.pages.dev.now c.put.new.pages.book.now c.put.new.work (search rules)
    (rw (c.over-store.ensures.same.0, c.over-store.ensures.same.1) at c.put.ensures.call.continues) (ap (λ x. (g.W.Devices.standing x).clock) c.over-store.ensures.before)
    (rw (c.over-store.ensures.same.0, c.over-store.ensures.same.1, c.in-NoTable.is) at c.in_ok-put.ensures.keeps)
