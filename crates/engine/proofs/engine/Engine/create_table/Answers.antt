use Rattle.std.proofs.Common.{ap, rules, Ok, Some}
use Rattle.flat_transactions.specs.OpenStore.{current_lines}
use Rattle.script.specs.Machine.{current}
use Rattle.script.specs.Tables.{with_table}
use Rattle.script.specs.declared.command.Command.TheVariants as command
use Rattle.script.specs.declared.command.Reason.TheVariants as reason
use Rattle.script.specs.declared.command.Reply.TheVariants as reply
use Rattle.engine.specs.declared.scan.Step.TheVariants as step
use Rattle.engine.specs.Steps.{after_command}
use Rattle.engine.proofs.CommandLaws.{on_device, does_fails, does_stays, does_writes, cause_fails, store_shown}
use Rattle.engine.proofs.RefusalLaws.{stays_kept}
use Rattle.engine.proofs.AnswerLaws.{enough_pages, create_writes, make_holds, create_there, create_no_more}
use Rattle.engine.proofs.engine.Engine.create_table.Goals as goal

pub returns-in_err-create-clause-does : goal.returns-in_err-create-clause-does
returns-in_err-create-clause-does g c =
    let a = g.W.Devices.standing c.args.world.now in
    on_device g.W.Devices.standing (after_command c.args.self.now (Some (command.Create c.args.name.now))) c.args.self.now a _ _ c.create.new.pages.dev.now c.from_residual.result (search rules)
    (does_fails c.args.self.now a (g.W.Devices.standing c.create.new.pages.dev.now) c.create.new.pages.book.now c.create.new.work c.requires.stands
    (rw (c.over-store.ensures.same.0, c.over-store.ensures.same.1) at c.create.ensures.call.continues) (ap (λ x. (g.W.Devices.standing x).clock) c.over-store.ensures.before)
    _ c.from_residual.result c.in_err-create.field-0.0 c.from_residual.ensures
    (λ told s shows. ((rw (c.over-store.ensures.same.0, c.over-store.ensures.same.1) at c.in_err-create.ensures.sound) told (store_shown c.args.self.now a s c.requires.stands shows) (enough_pages c.args.self.now a c.requires.stands))))

pub returns-in_err-create-clause-cause : goal.returns-in_err-create-clause-cause
returns-in_err-create-clause-cause g c =
    cause_fails g.W.Devices.standing _ _ c.args.self.now.book c.create.new.pages.book.now (g.W.Devices.standing c.args.world.now) _ c.create.new.pages.dev.now _ _ _ _ _ _ c.from_residual.result c.in_err-create.field-0.0 (search rules) c.from_residual.ensures
    (rw c.over-store.ensures.same.0 at c.in_err-create.ensures.fails)
    (rw (c.over-store.ensures.same.0, c.over-store.ensures.same.1) at c.in_err-create.ensures.cause)

pub returns-in-Present-clause-does : goal.returns-in-Present-clause-does
returns-in-Present-clause-does g c =
    let a = g.W.Devices.standing c.args.world.now in
    on_device g.W.Devices.standing (after_command c.args.self.now (Some (command.Create c.args.name.now))) c.args.self.now a _ _ c.create.new.pages.dev.now (Ok (step.Said (reply.Refused reason.Table))) (search rules)
    (does_stays c.args.self.now a (g.W.Devices.standing c.create.new.pages.dev.now) c.create.new.pages.book.now c.create.new.work c.requires.stands
    (rw (c.over-store.ensures.same.0, c.over-store.ensures.same.1) at c.create.ensures.call.continues) (ap (λ x. (g.W.Devices.standing x).clock) c.over-store.ensures.before)
    c.in_ok-create.ensures.call.ready.0 (rw (c.over-store.ensures.same.0, c.over-store.ensures.same.1, c.in-Present.is) at c.in_ok-create.ensures.keeps) (after_command c.args.self.now (Some (command.Create c.args.name.now))) (step.Said (reply.Refused reason.Table))
    (rw (c.over-store.ensures.same.0, c.over-store.ensures.same.1) at c.in_ok-create.ensures.call.steady)
    (λ told s shows. ap (λ p. p.0) (create_there c.args.self.now a c.requires.stands s shows c.requires.is_open c.requires.more c.args.name.now ((rw (c.over-store.ensures.same.0, c.over-store.ensures.same.1, c.in-Present.is) at c.in_ok-create.ensures.created) told (store_shown c.args.self.now a s c.requires.stands shows)))))

pub returns-in-Present-clause-replies : goal.returns-in-Present-clause-replies
returns-in-Present-clause-replies g c = λ told s shows.
    let a = g.W.Devices.standing c.args.world.now in
    ap (λ p. p.1) (create_there c.args.self.now a c.requires.stands s shows c.requires.is_open c.requires.more c.args.name.now ((rw (c.over-store.ensures.same.0, c.over-store.ensures.same.1, c.in-Present.is) at c.in_ok-create.ensures.created) told (store_shown c.args.self.now a s c.requires.stands shows)))

pub returns-in-NoSlot-clause-does : goal.returns-in-NoSlot-clause-does
returns-in-NoSlot-clause-does g c =
    let a = g.W.Devices.standing c.args.world.now in
    on_device g.W.Devices.standing (after_command c.args.self.now (Some (command.Create c.args.name.now))) c.args.self.now a _ _ c.create.new.pages.dev.now (Ok (step.Said (reply.Refused reason.Tables))) (search rules)
    (does_stays c.args.self.now a (g.W.Devices.standing c.create.new.pages.dev.now) c.create.new.pages.book.now c.create.new.work c.requires.stands
    (rw (c.over-store.ensures.same.0, c.over-store.ensures.same.1) at c.create.ensures.call.continues) (ap (λ x. (g.W.Devices.standing x).clock) c.over-store.ensures.before)
    c.in_ok-create.ensures.call.ready.0 (rw (c.over-store.ensures.same.0, c.over-store.ensures.same.1, c.in-NoSlot.is) at c.in_ok-create.ensures.keeps) (after_command c.args.self.now (Some (command.Create c.args.name.now))) (step.Said (reply.Refused reason.Tables))
    (rw (c.over-store.ensures.same.0, c.over-store.ensures.same.1) at c.in_ok-create.ensures.call.steady)
    (λ told s shows. ap (λ p. p.0) (create_no_more c.args.self.now a c.requires.stands s shows c.requires.is_open c.requires.more c.args.name.now ((rw (c.over-store.ensures.same.0, c.over-store.ensures.same.1, c.in-NoSlot.is) at c.in_ok-create.ensures.created) told (store_shown c.args.self.now a s c.requires.stands shows)).0 ((rw (c.over-store.ensures.same.0, c.over-store.ensures.same.1, c.in-NoSlot.is) at c.in_ok-create.ensures.created) told (store_shown c.args.self.now a s c.requires.stands shows)).1)))

pub returns-in-NoSlot-clause-replies : goal.returns-in-NoSlot-clause-replies
returns-in-NoSlot-clause-replies g c = λ told s shows.
    let a = g.W.Devices.standing c.args.world.now in
    ap (λ p. p.1) (create_no_more c.args.self.now a c.requires.stands s shows c.requires.is_open c.requires.more c.args.name.now ((rw (c.over-store.ensures.same.0, c.over-store.ensures.same.1, c.in-NoSlot.is) at c.in_ok-create.ensures.created) told (store_shown c.args.self.now a s c.requires.stands shows)).0 ((rw (c.over-store.ensures.same.0, c.over-store.ensures.same.1, c.in-NoSlot.is) at c.in_ok-create.ensures.created) told (store_shown c.args.self.now a s c.requires.stands shows)).1)

pub returns-in-Made-clause-does : goal.returns-in-Made-clause-does
returns-in-Made-clause-does g c =
    let a = g.W.Devices.standing c.args.world.now in
    on_device g.W.Devices.standing (after_command c.args.self.now (Some (command.Create c.args.name.now))) c.args.self.now a _ _ c.create.new.pages.dev.now (Ok (step.Said reply.Fine)) (search rules)
    (does_writes c.args.self.now a (g.W.Devices.standing c.create.new.pages.dev.now) c.create.new.pages.book.now c.create.new.work c.requires.stands
    (rw (c.over-store.ensures.same.0, c.over-store.ensures.same.1) at c.create.ensures.call.continues) (ap (λ x. (g.W.Devices.standing x).clock) c.over-store.ensures.before)
    c.next_write.new.self.book.now c.in_ok-create.ensures.call.ready.0 c.requires.is_open c.requires.more c.next_write.ensures.next (rw c.next_write.ensures.device at c.next_write.ensures.ready)
    (after_command c.args.self.now (Some (command.Create c.args.name.now))) (step.Said reply.Fine) (λ s. with_table c.args.name.now (current s))
    (λ steady. (rw c.next_write.ensures.device at c.next_write.ensures.steady) ((rw (c.over-store.ensures.same.0, c.over-store.ensures.same.1) at c.in_ok-create.ensures.call.steady) steady))
    (λ told s shows. ap (λ p. p.0) (create_writes c.args.self.now a c.requires.stands s shows c.requires.is_open c.requires.more c.args.name.now ((rw (c.over-store.ensures.same.0, c.over-store.ensures.same.1, c.in-Made.is) at c.in_ok-create.ensures.created) told (store_shown c.args.self.now a s c.requires.stands shows)).0 ((rw (c.over-store.ensures.same.0, c.over-store.ensures.same.1, c.in-Made.is) at c.in_ok-create.ensures.created) told (store_shown c.args.self.now a s c.requires.stands shows)).1))
    (λ told s shows. make_holds c.args.self.now a c.requires.stands s shows (current_lines c.create.new.pages.book.now (g.W.Devices.standing c.create.new.pages.dev.now)) c.args.name.now ((rw (c.over-store.ensures.same.0, c.over-store.ensures.same.1, c.in-Made.is) at c.in_ok-create.ensures.created) told (store_shown c.args.self.now a s c.requires.stands shows)).2))

pub returns-in-Made-clause-replies : goal.returns-in-Made-clause-replies
returns-in-Made-clause-replies g c = λ told s shows.
    let a = g.W.Devices.standing c.args.world.now in
    ap (λ p. p.1) (create_writes c.args.self.now a c.requires.stands s shows c.requires.is_open c.requires.more c.args.name.now ((rw (c.over-store.ensures.same.0, c.over-store.ensures.same.1, c.in-Made.is) at c.in_ok-create.ensures.created) told (store_shown c.args.self.now a s c.requires.stands shows)).0 ((rw (c.over-store.ensures.same.0, c.over-store.ensures.same.1, c.in-Made.is) at c.in_ok-create.ensures.created) told (store_shown c.args.self.now a s c.requires.stands shows)).1)

pub returns-in-Present-clause-refused : goal.returns-in-Present-clause-refused
returns-in-Present-clause-refused g c =
    stays_kept g.W.Devices.standing c.args.self.now (g.W.Devices.standing c.args.world.now) _ c.create.new.pages.dev.now c.create.new.pages.book.now c.create.new.work (search rules)
    (rw (c.over-store.ensures.same.0, c.over-store.ensures.same.1) at c.create.ensures.call.continues) (ap (λ x. (g.W.Devices.standing x).clock) c.over-store.ensures.before)
    (rw (c.over-store.ensures.same.0, c.over-store.ensures.same.1, c.in-Present.is) at c.in_ok-create.ensures.keeps)

pub returns-in-NoSlot-clause-refused : goal.returns-in-NoSlot-clause-refused
returns-in-NoSlot-clause-refused g c =
    stays_kept g.W.Devices.standing c.args.self.now (g.W.Devices.standing c.args.world.now) _ c.create.new.pages.dev.now c.create.new.pages.book.now c.create.new.work (search rules)
    (rw (c.over-store.ensures.same.0, c.over-store.ensures.same.1) at c.create.ensures.call.continues) (ap (λ x. (g.W.Devices.standing x).clock) c.over-store.ensures.before)
    (rw (c.over-store.ensures.same.0, c.over-store.ensures.same.1, c.in-NoSlot.is) at c.in_ok-create.ensures.keeps)
