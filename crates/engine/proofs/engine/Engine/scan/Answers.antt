use Rattle.std.proofs.Common.{ap, sym, Some, Ok, ◌∙◌, false}
use Rattle.script.specs.Machine.{State, rows_in}
use Rattle.script.specs.declared.command.Command.TheVariants as command
use Rattle.script.specs.declared.command.Reason.TheVariants as reason
use Rattle.script.specs.declared.command.Reply.TheVariants as reply
use Rattle.engine.specs.declared.scan.Step.TheVariants as step
use Rattle.engine.specs.Holds.{bounds_in}
use Rattle.engine.specs.Engine.{engine_sizes}
use Rattle.engine.specs.Steps.{after_command}
use Rattle.engine.proofs.DoesLaws.{does_same}
use Rattle.engine.proofs.CommandLaws.{does_ok, does_err}
use Rattle.engine.proofs.TableLaws.{scan_stays, scan_unknown, scan_known, scanned_from}
use Rattle.engine.proofs.RestLaws.{reads_ok, reads_err}
use Rattle.engine.proofs.engine.Engine.scan.Goals as goal

pub returns-in_err-knows-clause-does : goal.returns-in_err-knows-clause-does
returns-in_err-knows-clause-does g c =
    does_same (λ (s : State). s) (after_command c.args.self.now (Some (command.Scan c.args.name.now c.args.from c.args.to))) c.args.self.now (g.W.Devices.standing c.args.world.now) c.knows.new.self (g.W.Devices.standing c.knows.new.world) c.from_residual.result
    (does_err (λ (s : State). s) c.args.self.now (g.W.Devices.standing c.args.world.now) c.knows.new.self (g.W.Devices.standing c.knows.new.world) c.from_residual.result c.in_err-knows.field-0.0 c.from_residual.ensures c.in_err-knows.ensures.does)
    (λ told s shows. sym (scan_stays (bounds_in (engine_sizes c.args.self.now)) s c.args.name.now c.args.from c.args.to))

pub returns-then-not-branch-clause-does : goal.returns-then-not-branch-clause-does
returns-then-not-branch-clause-does g c =
    does_same (λ (s : State). s) (after_command c.args.self.now (Some (command.Scan c.args.name.now c.args.from c.args.to))) c.args.self.now (g.W.Devices.standing c.args.world.now) c.knows.new.self (g.W.Devices.standing c.knows.new.world) (Ok (step.Said (reply.Refused reason.Table)))
    (does_ok (λ (s : State). s) c.args.self.now (g.W.Devices.standing c.args.world.now) c.knows.new.self (g.W.Devices.standing c.knows.new.world) c.in_ok-knows.field-0 (step.Said (reply.Refused reason.Table)) c.in_ok-knows.ensures.does)
    (λ told s shows. sym (scan_stays (bounds_in (engine_sizes c.args.self.now)) s c.args.name.now c.args.from c.args.to))

pub returns-then-not-branch-clause-replies : goal.returns-then-not-branch-clause-replies
returns-then-not-branch-clause-replies g c = λ told s shows.
    ap (λ p. p.1) (scan_unknown (bounds_in (engine_sizes c.args.self.now)) s c.args.name.now c.args.from c.args.to (sym (c.in_ok-knows.ensures.known told s shows) ∙ c.if-not-branch.true))

pub returns-clause-does : goal.returns-clause-does
returns-clause-does g c =
    does_same (λ (s : State). s) (after_command c.args.self.now (Some (command.Scan c.args.name.now c.args.from c.args.to))) c.args.self.now (g.W.Devices.standing c.args.world.now) c.knows.new.self (g.W.Devices.standing c.knows.new.world) (Ok (step.Scanning (record { name = c.copy.result; from = c.args.from; to = c.args.to; count = 0; over = false })))
    (does_ok (λ (s : State). s) c.args.self.now (g.W.Devices.standing c.args.world.now) c.knows.new.self (g.W.Devices.standing c.knows.new.world) c.in_ok-knows.field-0 (step.Scanning (record { name = c.copy.result; from = c.args.from; to = c.args.to; count = 0; over = false })) c.in_ok-knows.ensures.does)
    (λ told s shows. sym (scan_stays (bounds_in (engine_sizes c.args.self.now)) s c.args.name.now c.args.from c.args.to))

pub returns-clause-replies : goal.returns-clause-replies
returns-clause-replies g c = λ told s shows.
    rw c.copy.ensures (
    ap (λ p. p.1) (scan_known (bounds_in (engine_sizes c.args.self.now)) s c.args.name.now c.args.from c.args.to (sym (c.in_ok-knows.ensures.known told s shows) ∙ c.if-not-branch.false))
    ∙ scanned_from (rows_in c.args.name.now s) c.args.from c.args.to)

pub returns-in_err-knows-clause-reads : goal.returns-in_err-knows-clause-reads
returns-in_err-knows-clause-reads g c = reads_err _ _ _ _ c.from_residual.result c.in_err-knows.field-0.0 c.from_residual.ensures c.in_err-knows.ensures.reads

pub returns-then-not-branch-clause-reads : goal.returns-then-not-branch-clause-reads
returns-then-not-branch-clause-reads g c = reads_ok _ _ _ _ c.in_ok-knows.field-0 _ c.in_ok-knows.ensures.reads

pub returns-clause-reads : goal.returns-clause-reads
returns-clause-reads g c = reads_ok _ _ _ _ c.in_ok-knows.field-0 _ c.in_ok-knows.ensures.reads
