-- An open transaction is aborted, and else nothing is done.
use Rattle.std.proofs.Common.{sym, ◌∙◌}
use Rattle.engine.specs.Answers.{closed}
use Rattle.engine.proofs.StepLaws.{closed_still, closed_aborted, does_ok, does_err}
use Rattle.engine.proofs.RestLaws.{reads_still, reads_ok, reads_err}
use Rattle.engine.proofs.engine.Engine.close.Goals as goal

pub returns-in_err-abort-clause-does : goal.returns-in_err-abort-clause-does
returns-in_err-abort-clause-does g c =
    does_err closed c.args.self.now (g.W.Devices.standing c.args.world.now) c.abort.new.self (g.W.Devices.standing c.abort.new.world) c.from_residual.result c.in_err-abort.field-0.0 c.from_residual.ensures
    (closed_aborted c.args.self.now (g.W.Devices.standing c.args.world.now) c.abort.new.self (g.W.Devices.standing c.abort.new.world) _ (sym c.is_open.ensures ∙ c.if-is_open.true) c.in_err-abort.ensures.does)

pub returns-in_ok-abort-clause-does : goal.returns-in_ok-abort-clause-does
returns-in_ok-abort-clause-does g c =
    does_ok closed c.args.self.now (g.W.Devices.standing c.args.world.now) c.abort.new.self (g.W.Devices.standing c.abort.new.world) _ tt
    (closed_aborted c.args.self.now (g.W.Devices.standing c.args.world.now) c.abort.new.self (g.W.Devices.standing c.abort.new.world) _ (sym c.is_open.ensures ∙ c.if-is_open.true) c.in_ok-abort.ensures.does)

pub returns-else-is_open-clause-does : goal.returns-else-is_open-clause-does
returns-else-is_open-clause-does g c = closed_still c.args.self.now (g.W.Devices.standing c.args.world.now) c.requires.ready (sym c.is_open.ensures ∙ c.if-is_open.false)

pub returns-in_err-abort-clause-reads : goal.returns-in_err-abort-clause-reads
returns-in_err-abort-clause-reads g c = reads_err _ _ _ _ c.from_residual.result c.in_err-abort.field-0.0 c.from_residual.ensures c.in_err-abort.ensures.reads

pub returns-in_ok-abort-clause-reads : goal.returns-in_ok-abort-clause-reads
returns-in_ok-abort-clause-reads g c = reads_ok _ _ _ _ _ tt c.in_ok-abort.ensures.reads

pub returns-else-is_open-clause-reads : goal.returns-else-is_open-clause-reads
returns-else-is_open-clause-reads g c = reads_still _ _ tt
