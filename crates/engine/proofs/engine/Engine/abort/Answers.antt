-- The store's call, as the plain machine sees it.
use Rattle.flat_transactions.proofs.OpenStoreLaws.{call_sizes}
use Rattle.engine.proofs.TransactionLaws.{abort_does, abort_replies, does_stopped}
use Rattle.engine.proofs.CauseLaws.{stops_abort}
use Rattle.engine.proofs.RestLaws.{reads_abort, reads_aborted}
use Rattle.engine.proofs.engine.Engine.abort.Goals as goal

pub returns-in_err-abort-clause-does : goal.returns-in_err-abort-clause-does
returns-in_err-abort-clause-does g c =
    does_stopped _ c.args.self.now (g.W.Devices.standing c.args.world.now) (record c.args.self.now { book = c.abort.new.book }) (g.W.Devices.standing c.abort.new.dev) c.from_residual.result c.in_err-abort.field-0.0
    c.from_residual.ensures c.requires.ready (call_sizes c.args.self.now.book (g.W.Devices.standing c.args.world.now) c.abort.new.book (g.W.Devices.standing c.abort.new.dev) c.in_err-abort.ensures.call) c.in_err-abort.ensures.call.goes c.in_err-abort.ensures.call.during
    (λ told s shows. c.in_err-abort.ensures.sound told)

pub returns-clause-does : goal.returns-clause-does
returns-clause-does g c =
    abort_does c.args.self.now (g.W.Devices.standing c.args.world.now) c.requires.ready c.abort.new.book (g.W.Devices.standing c.abort.new.dev) c.requires.is_open c.in_ok-abort.ensures.call
    c.in_ok-abort.ensures.lines c.in_ok-abort.ensures.ends c.in_ok-abort.ensures.ready c.in_ok-abort.ensures.steady

pub returns-clause-replies : goal.returns-clause-replies
returns-clause-replies g c =
    abort_replies c.args.self.now (g.W.Devices.standing c.args.world.now) c.requires.ready c.abort.new.book (g.W.Devices.standing c.abort.new.dev) c.requires.is_open

pub returns-in_err-abort-clause-cause : goal.returns-in_err-abort-clause-cause
returns-in_err-abort-clause-cause g c =
    stops_abort _ c.args.self.now.book c.abort.new.book (g.W.Devices.standing c.args.world.now) (g.W.Devices.standing c.abort.new.dev) c.from_residual.result c.in_err-abort.field-0.0 c.from_residual.ensures
    (λ e h. h) c.in_err-abort.ensures.sound c.in_err-abort.ensures.cause

pub returns-in_err-abort-clause-reads : goal.returns-in_err-abort-clause-reads
returns-in_err-abort-clause-reads g c =
    reads_abort c.args.self.now (g.W.Devices.standing c.args.world.now) (record c.args.self.now { book = c.abort.new.book }) (g.W.Devices.standing c.abort.new.dev) c.args.self.now.book c.from_residual.result c.in_err-abort.field-0.0 c.from_residual.ensures c.in_err-abort.ensures.cause.failed

pub returns-clause-reads : goal.returns-clause-reads
returns-clause-reads g c = reads_aborted _ _ _ _ _ c.in_ok-abort.ensures.lines
