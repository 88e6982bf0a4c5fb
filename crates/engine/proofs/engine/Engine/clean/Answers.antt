-- The store's call, which changes neither a line nor the transaction.
use Rattle.std.proofs.Common.{refl}
use Rattle.flat_transactions.proofs.OpenStoreLaws.{call_sizes}
use Rattle.engine.proofs.TransactionLaws.{quiet_does, does_stopped, fault_is}
use Rattle.engine.proofs.CauseLaws.{stops_fault}
use Rattle.engine.proofs.RestLaws.{reads_fault, reads_kept}
use Rattle.engine.proofs.engine.Engine.clean.Goals as goal

pub returns-in_err-clean-clause-does : goal.returns-in_err-clean-clause-does
returns-in_err-clean-clause-does g c =
    does_stopped _ c.args.self.now (g.W.Devices.standing c.args.world.now) (record c.args.self.now { book = c.clean.new.book }) (g.W.Devices.standing c.clean.new.dev) c.from_residual.result c.in_err-clean.field-0.0
    c.from_residual.ensures c.requires (call_sizes c.args.self.now.book (g.W.Devices.standing c.args.world.now) c.clean.new.book (g.W.Devices.standing c.clean.new.dev) c.in_err-clean.ensures.call) c.in_err-clean.ensures.call.goes c.in_err-clean.ensures.call.during
    (λ told s shows. fault_is (g.W.Devices.standing c.args.world.now) (g.W.Devices.standing c.clean.new.dev) c.in_err-clean.field-0.0 c.in_err-clean.ensures.cause.failed)

pub returns-in_err-clean-clause-cause : goal.returns-in_err-clean-clause-cause
returns-in_err-clean-clause-cause g c = stops_fault _ c.args.self.now.book c.clean.new.book (g.W.Devices.standing c.args.world.now) (g.W.Devices.standing c.clean.new.dev) c.from_residual.result c.in_err-clean.field-0.0 c.from_residual.ensures c.in_err-clean.ensures.cause

pub returns-in_err-clean-clause-reads : goal.returns-in_err-clean-clause-reads
returns-in_err-clean-clause-reads g c =
    reads_fault c.args.self.now (g.W.Devices.standing c.args.world.now) (record c.args.self.now { book = c.clean.new.book }) (g.W.Devices.standing c.clean.new.dev) c.from_residual.result c.in_err-clean.field-0.0 c.from_residual.ensures c.in_err-clean.ensures.cause.failed

pub returns-clause-does : goal.returns-clause-does
returns-clause-does g c =
    quiet_does c.args.self.now (g.W.Devices.standing c.args.world.now) c.requires c.clean.new.book (g.W.Devices.standing c.clean.new.dev) c.in_ok-clean.ensures.call c.in_ok-clean.ensures.keeps _ _
    c.in_ok-clean.ensures.lines c.in_ok-clean.ensures.ready c.in_ok-clean.ensures.steady (λ told s is. refl)

pub returns-clause-reads : goal.returns-clause-reads
returns-clause-reads g c = reads_kept _ _ _ _ _ c.in_ok-clean.ensures.lines
