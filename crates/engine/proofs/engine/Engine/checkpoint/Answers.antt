-- The store's call, as the plain machine sees it.
use Rattle.flat_transactions.proofs.OpenStoreLaws.{call_sizes}
use Rattle.engine.proofs.TransactionLaws.{checkpoint_does, checkpoint_replies, does_stopped, fault_is}
use Rattle.engine.proofs.CauseLaws.{stops_fault}
use Rattle.engine.proofs.RestLaws.{reads_fault, reads_kept}
use Rattle.engine.proofs.engine.Engine.checkpoint.Goals as goal

pub returns-in_err-checkpoint-clause-does : goal.returns-in_err-checkpoint-clause-does
returns-in_err-checkpoint-clause-does g c =
    does_stopped _ c.args.self.now (g.W.Devices.standing c.args.world.now) (record c.args.self.now { book = c.checkpoint.new.book }) (g.W.Devices.standing c.checkpoint.new.dev) c.from_residual.result c.in_err-checkpoint.field-0.0
    c.from_residual.ensures c.requires.ready (call_sizes c.args.self.now.book (g.W.Devices.standing c.args.world.now) c.checkpoint.new.book (g.W.Devices.standing c.checkpoint.new.dev) c.in_err-checkpoint.ensures.call) c.in_err-checkpoint.ensures.call.goes c.in_err-checkpoint.ensures.call.during
    (λ told s shows. fault_is (g.W.Devices.standing c.args.world.now) (g.W.Devices.standing c.checkpoint.new.dev) c.in_err-checkpoint.field-0.0 c.in_err-checkpoint.ensures.cause.failed)

pub returns-clause-does : goal.returns-clause-does
returns-clause-does g c =
    checkpoint_does c.args.self.now (g.W.Devices.standing c.args.world.now) c.requires.ready c.checkpoint.new.book (g.W.Devices.standing c.checkpoint.new.dev) c.requires.closed c.in_ok-checkpoint.ensures.call
    c.in_ok-checkpoint.ensures.lines c.in_ok-checkpoint.ensures.checkpoints c.in_ok-checkpoint.ensures.ready c.in_ok-checkpoint.ensures.steady

pub returns-clause-replies : goal.returns-clause-replies
returns-clause-replies g c =
    checkpoint_replies c.args.self.now (g.W.Devices.standing c.args.world.now) c.requires.ready c.checkpoint.new.book (g.W.Devices.standing c.checkpoint.new.dev) c.requires.closed

pub returns-in_err-checkpoint-clause-cause : goal.returns-in_err-checkpoint-clause-cause
returns-in_err-checkpoint-clause-cause g c =
    stops_fault _ c.args.self.now.book c.checkpoint.new.book (g.W.Devices.standing c.args.world.now) (g.W.Devices.standing c.checkpoint.new.dev) c.from_residual.result c.in_err-checkpoint.field-0.0 c.from_residual.ensures c.in_err-checkpoint.ensures.cause

pub returns-in_err-checkpoint-clause-reads : goal.returns-in_err-checkpoint-clause-reads
returns-in_err-checkpoint-clause-reads g c =
    reads_fault c.args.self.now (g.W.Devices.standing c.args.world.now) (record c.args.self.now { book = c.checkpoint.new.book }) (g.W.Devices.standing c.checkpoint.new.dev) c.from_residual.result c.in_err-checkpoint.field-0.0 c.from_residual.ensures c.in_err-checkpoint.ensures.cause.failed

pub returns-clause-reads : goal.returns-clause-reads
returns-clause-reads g c = reads_kept _ _ _ _ _ c.in_ok-checkpoint.ensures.lines
