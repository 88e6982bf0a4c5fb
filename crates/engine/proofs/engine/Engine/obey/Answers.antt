-- Each command by its own call.
use Rattle.std.proofs.Common.{inl, inr}
use Rattle.script.specs.declared.command.Command.TheVariants as command
use Rattle.engine.proofs.StepLaws.{obeys_by, unread}
use Rattle.engine.proofs.engine.Engine.obey.Goals as goal

pub returns-in-Create : goal.returns-in-Create
returns-in-Create g c =
    obeys_by _ c.args.command.now (command.Create c.in-Create.name) c.args.self.now (g.W.Devices.standing c.args.world.now) c.create.new.self (g.W.Devices.standing c.create.new.world) c.create.result c.in-Create.is
    c.create.ensures.does c.create.ensures.replies c.create.ensures.begun c.create.ensures.refused (λ e h. inr (inl h)) c.create.ensures.cause (λ is. unread is)

pub returns-in-Begin : goal.returns-in-Begin
returns-in-Begin g c =
    obeys_by _ c.args.command.now command.Begin c.args.self.now (g.W.Devices.standing c.args.world.now) c.begin.new.self (g.W.Devices.standing c.begin.new.world) c.begin.result c.in-Begin.is
    c.begin.ensures.does c.begin.ensures.replies c.begin.ensures.begun c.begin.ensures.refused (λ e h. h) c.begin.ensures.cause (λ is. c.begin.ensures.reads)

pub returns-in-Put : goal.returns-in-Put
returns-in-Put g c =
    obeys_by _ c.args.command.now (command.Put c.in-Put.name c.in-Put.key c.in-Put.value) c.args.self.now (g.W.Devices.standing c.args.world.now) c.put.new.self (g.W.Devices.standing c.put.new.world) c.put.result c.in-Put.is
    c.put.ensures.does c.put.ensures.replies c.put.ensures.begun c.put.ensures.refused (λ e h. inr (inr (inl h))) c.put.ensures.cause (λ is. unread is)

pub returns-in-Del : goal.returns-in-Del
returns-in-Del g c =
    obeys_by _ c.args.command.now (command.Del c.in-Del.name c.in-Del.key) c.args.self.now (g.W.Devices.standing c.args.world.now) c.del.new.self (g.W.Devices.standing c.del.new.world) c.del.result c.in-Del.is
    c.del.ensures.does c.del.ensures.replies c.del.ensures.begun c.del.ensures.refused (λ e h. inr (inr (inl h))) c.del.ensures.cause (λ is. unread is)

pub returns-in-Get : goal.returns-in-Get
returns-in-Get g c =
    obeys_by _ c.args.command.now (command.Get c.in-Get.name c.in-Get.key) c.args.self.now (g.W.Devices.standing c.args.world.now) c.get.new.self (g.W.Devices.standing c.get.new.world) c.get.result c.in-Get.is
    c.get.ensures.does c.get.ensures.replies c.get.ensures.begun c.get.ensures.refused (λ e h. inl h) c.get.ensures.cause (λ is. c.get.ensures.reads)

pub returns-in-Commit : goal.returns-in-Commit
returns-in-Commit g c =
    obeys_by _ c.args.command.now command.Commit c.args.self.now (g.W.Devices.standing c.args.world.now) c.commit.new.self (g.W.Devices.standing c.commit.new.world) c.commit.result c.in-Commit.is
    c.commit.ensures.does c.commit.ensures.replies c.commit.ensures.begun c.commit.ensures.refused (λ e h. h) c.commit.ensures.cause (λ is. c.commit.ensures.reads)

pub returns-in-Abort : goal.returns-in-Abort
returns-in-Abort g c =
    obeys_by _ c.args.command.now command.Abort c.args.self.now (g.W.Devices.standing c.args.world.now) c.abort.new.self (g.W.Devices.standing c.abort.new.world) c.abort.result c.in-Abort.is
    c.abort.ensures.does c.abort.ensures.replies c.abort.ensures.begun c.abort.ensures.refused (λ e h. inr (inr (inr h))) c.abort.ensures.cause (λ is. c.abort.ensures.reads)

pub returns-in-Checkpoint : goal.returns-in-Checkpoint
returns-in-Checkpoint g c =
    obeys_by _ c.args.command.now command.Checkpoint c.args.self.now (g.W.Devices.standing c.args.world.now) c.checkpoint.new.self (g.W.Devices.standing c.checkpoint.new.world) c.checkpoint.result c.in-Checkpoint.is
    c.checkpoint.ensures.does c.checkpoint.ensures.replies c.checkpoint.ensures.begun c.checkpoint.ensures.refused (λ e h. h) c.checkpoint.ensures.cause (λ is. c.checkpoint.ensures.reads)

pub returns-in-Drain : goal.returns-in-Drain
returns-in-Drain g c =
    obeys_by _ c.args.command.now command.Drain c.args.self.now (g.W.Devices.standing c.args.world.now) c.drain.new.self (g.W.Devices.standing c.drain.new.world) c.drain.result c.in-Drain.is
    c.drain.ensures.does c.drain.ensures.replies c.drain.ensures.begun c.drain.ensures.refused (λ e h. h) c.drain.ensures.cause (λ is. c.drain.ensures.reads)

pub returns-in-Clean : goal.returns-in-Clean
returns-in-Clean g c =
    obeys_by _ c.args.command.now (command.Clean c.in-Clean.frames) c.args.self.now (g.W.Devices.standing c.args.world.now) c.clean.new.self (g.W.Devices.standing c.clean.new.world) c.clean.result c.in-Clean.is
    c.clean.ensures.does c.clean.ensures.replies c.clean.ensures.begun c.clean.ensures.refused (λ e h. h) c.clean.ensures.cause (λ is. c.clean.ensures.reads)

pub returns-in-Scan : goal.returns-in-Scan
returns-in-Scan g c =
    obeys_by _ c.args.command.now (command.Scan c.in-Scan.name c.in-Scan.from c.in-Scan.to) c.args.self.now (g.W.Devices.standing c.args.world.now) c.scan.new.self (g.W.Devices.standing c.scan.new.world) c.scan.result c.in-Scan.is
    c.scan.ensures.does c.scan.ensures.replies c.scan.ensures.begun c.scan.ensures.refused (λ e h. inl (inl h.0, λ told. inl (h.1 told))) c.scan.ensures.cause (λ is. c.scan.ensures.reads)
