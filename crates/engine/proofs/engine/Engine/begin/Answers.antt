-- The store's call, as the plain machine sees it.
use Rattle.flat_transactions.proofs.OpenStoreLaws.{call_sizes}
use Rattle.engine.proofs.TransactionLaws.{begin_does, begin_replies, does_stopped, fault_is}
use Rattle.engine.proofs.CauseLaws.{stops_fault}
use Rattle.engine.proofs.RestLaws.{reads_fault, reads_kept}
use Rattle.engine.proofs.engine.Engine.begin.Goals as goal

pub returns-in_err-begin-clause-does : goal.returns-in_err-begin-clause-does
returns-in_err-begin-clause-does g c =
    does_stopped _ c.args.self.now (g.W.Devices.standing c.args.world.now) (record c.args.self.now { book = c.begin.new.book }) (g.W.Devices.standing c.begin.new.dev) c.from_residual.result c.in_err-begin.field-0.0
    c.from_residual.ensures c.requires.ready (call_sizes c.args.self.now.book (g.W.Devices.standing c.args.world.now) c.begin.new.book (g.W.Devices.standing c.begin.new.dev) c.in_err-begin.ensures.call) c.in_err-begin.ensures.call.goes c.in_err-begin.ensures.call.during
    (λ told s shows. fault_is (g.W.Devices.standing c.args.world.now) (g.W.Devices.standing c.begin.new.dev) c.in_err-begin.field-0.0 c.in_err-begin.ensures.cause.failed)

pub returns-clause-does : goal.returns-clause-does
returns-clause-does g c =
    begin_does c.args.self.now (g.W.Devices.standing c.args.world.now) c.requires.ready c.begin.new.book (g.W.Devices.standing c.begin.new.dev) c.requires.closed c.in_ok-begin.ensures.call
    c.in_ok-begin.ensures.lines c.in_ok-begin.ensures.begins c.in_ok-begin.ensures.ready c.in_ok-begin.ensures.steady

pub returns-clause-replies : goal.returns-clause-replies
returns-clause-replies g c =
    begin_replies c.args.self.now (g.W.Devices.standing c.args.world.now) c.requires.ready c.begin.new.book (g.W.Devices.standing c.begin.new.dev) c.requires.closed c.in_ok-begin.ensures.call

pub returns-in_err-begin-clause-cause : goal.returns-in_err-begin-clause-cause
returns-in_err-begin-clause-cause g c =
    stops_fault _ c.args.self.now.book c.begin.new.book (g.W.Devices.standing c.args.world.now) (g.W.Devices.standing c.begin.new.dev) c.from_residual.result c.in_err-begin.field-0.0 c.from_residual.ensures c.in_err-begin.ensures.cause

pub returns-in_err-begin-clause-reads : goal.returns-in_err-begin-clause-reads
returns-in_err-begin-clause-reads g c =
    reads_fault c.args.self.now (g.W.Devices.standing c.args.world.now) (record c.args.self.now { book = c.begin.new.book }) (g.W.Devices.standing c.begin.new.dev) c.from_residual.result c.in_err-begin.field-0.0 c.from_residual.ensures c.in_err-begin.ensures.cause.failed

pub returns-clause-reads : goal.returns-clause-reads
returns-clause-reads g c = reads_kept _ _ _ _ _ c.in_ok-begin.ensures.lines
