use Rattle.std.proofs.Common.{ap, sym, inl, Some, arith, false}
use Rattle.rows.specs.Tables.{is_known}
use Rattle.script.specs.Machine.{State, current}
use Rattle.script.specs.declared.command.Command.TheVariants as command
use Rattle.script.specs.declared.command.Reply.TheVariants as reply
use Rattle.engine.specs.Commands.{reason_of}
use Rattle.engine.specs.Steps.{after_command}
use Rattle.engine.proofs.DoesLaws.{does_same}
use Rattle.engine.proofs.CommandLaws.{replies_by}
use Rattle.engine.proofs.RefusalLaws.{refused_all}
use Rattle.engine.proofs.AnswerLaws.{del_spent}
use Rattle.engine.specs.Causes.{IsNameDamage, IsNewRowsDamage}
use Rattle.engine.specs.Engine.{evidence_bytes}
use Rattle.engine.proofs.CauseLaws.{causes_weaker}
use Rattle.engine.proofs.engine.Engine.del.Goals as goal

pub returns-then-accepted-self-clause-does : goal.returns-then-accepted-self-clause-does
returns-then-accepted-self-clause-does g c =
    does_same (λ (s : State). s) (after_command c.args.self.now (Some (command.Del c.args.name.now c.args.key))) c.args.self.now (g.W.Devices.standing c.args.world.now) c.refuse_write.new.self (g.W.Devices.standing c.refuse_write.new.world) c.refuse_write.result
    c.refuse_write.ensures.does (λ told s shows. sym (ap (λ p. p.0) (del_spent c.args.self.now (g.W.Devices.standing c.args.world.now) c.requires.stands s shows c.requires.is_open (omega (arith, c.if-accepted-self.true, c.accepted.ensures)) c.args.name.now c.args.key)))

pub returns-then-accepted-self-clause-replies : goal.returns-then-accepted-self-clause-replies
returns-then-accepted-self-clause-replies g c = λ told s shows.
    replies_by (current s) c.refuse_write.result (reply.Refused (reason_of (is_known c.args.name.now (current s)) false)) _ (ap (λ p. p.1) (del_spent c.args.self.now (g.W.Devices.standing c.args.world.now) c.requires.stands s shows c.requires.is_open (omega (arith, c.if-accepted-self.true, c.accepted.ensures)) c.args.name.now c.args.key)) (c.refuse_write.ensures.refused told s shows)

pub returns-then-accepted-self-clause-cause : goal.returns-then-accepted-self-clause-cause
returns-then-accepted-self-clause-cause g c =
    causes_weaker (IsNameDamage c.args.self.now (g.W.Devices.standing c.args.world.now) (evidence_bytes c.refuse_write.new.self)) (IsNewRowsDamage c.args.self.now (g.W.Devices.standing c.args.world.now) c.refuse_write.new.self (g.W.Devices.standing c.refuse_write.new.world) (evidence_bytes c.refuse_write.new.self)) _ _ c.refuse_write.result
    (λ e h. (inl h.0, inl h.1)) c.refuse_write.ensures.cause

pub returns-then-accepted-self-clause-refused : goal.returns-then-accepted-self-clause-refused
returns-then-accepted-self-clause-refused g c =
    refused_all c.args.self.now (g.W.Devices.standing c.args.world.now) c.refuse_write.new.self (g.W.Devices.standing c.refuse_write.new.world) c.refuse_write.result c.refuse_write.ensures.stays
