use Rattle.std.proofs.Common.{◌∙◌, ap, Bool}
use Rattle.script.specs.Machine.{State}
use Rattle.script.specs.declared.command.Reason.{Reason}
use Rattle.script.specs.declared.command.Reply.TheVariants as reply
use Rattle.engine.specs.declared.scan.Step.TheVariants as step
use Rattle.engine.specs.Commands.{shown, reason_of}
use Rattle.engine.proofs.CommandLaws.{does_ok, does_err, cause_err}
use Rattle.engine.proofs.engine.Engine.refuse_write.Goals as goal

pub returns-in_err-known-clause-does : goal.returns-in_err-known-clause-does
returns-in_err-known-clause-does g c =
    does_err (λ (s : State). s) c.args.self.now (g.W.Devices.standing c.args.world.now) c.knows.new.self (g.W.Devices.standing c.knows.new.world) c.from_residual.result c.in_err-known.field-0.0 c.from_residual.ensures c.in_err-known.ensures.does

pub returns-in_err-known-clause-cause : goal.returns-in_err-known-clause-cause
returns-in_err-known-clause-cause g c =
    cause_err _ (shown c.args.self.now (g.W.Devices.standing c.args.world.now)) (shown c.knows.new.self (g.W.Devices.standing c.knows.new.world)) c.from_residual.result c.in_err-known.field-0.0 c.from_residual.ensures c.in_err-known.ensures.cause

pub returns-clause-does : goal.returns-clause-does
returns-clause-does g c =
    does_ok (λ (s : State). s) c.args.self.now (g.W.Devices.standing c.args.world.now) c.knows.new.self (g.W.Devices.standing c.knows.new.world) c.in_ok-known.known (step.Said (reply.Refused c.spent_reason.result)) c.in_ok-known.ensures.does

pub returns-clause-refused : goal.returns-clause-refused
returns-clause-refused g c = λ told s shows.
    ap (λ (r : Reason). step.Said (reply.Refused r)) c.spent_reason.ensures ∙ ap (λ (k : Bool). step.Said (reply.Refused (reason_of k c.args.creates))) (c.in_ok-known.ensures.known told s shows)
