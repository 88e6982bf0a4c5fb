-- The store's call, as the plain machine sees it.
use Rattle.engine.proofs.TransactionLaws.{commit_does, commit_replies, commit_stopped, fault_is}
use Rattle.engine.proofs.CauseLaws.{stops_fault}
use Rattle.engine.proofs.RestLaws.{reads_fault, reads_committed}
use Rattle.engine.proofs.engine.Engine.commit.Goals as goal

pub returns-in_err-commit-clause-does : goal.returns-in_err-commit-clause-does
returns-in_err-commit-clause-does g c =
    commit_stopped c.args.self.now (g.W.Devices.standing c.args.world.now) c.requires.ready c.commit.new.book (g.W.Devices.standing c.commit.new.dev) c.requires.is_open c.from_residual.result c.in_err-commit.field-0.0 c.from_residual.ensures
    c.in_err-commit.ensures.call (fault_is (g.W.Devices.standing c.args.world.now) (g.W.Devices.standing c.commit.new.dev) c.in_err-commit.field-0.0 c.in_err-commit.ensures.cause.failed)

pub returns-clause-does : goal.returns-clause-does
returns-clause-does g c =
    commit_does c.args.self.now (g.W.Devices.standing c.args.world.now) c.requires.ready c.commit.new.book (g.W.Devices.standing c.commit.new.dev) c.requires.is_open c.in_ok-commit.ensures.call
    c.in_ok-commit.ensures.lines c.in_ok-commit.ensures.ends c.in_ok-commit.ensures.ready c.in_ok-commit.ensures.steady

pub returns-clause-replies : goal.returns-clause-replies
returns-clause-replies g c =
    commit_replies c.args.self.now (g.W.Devices.standing c.args.world.now) c.requires.ready c.commit.new.book (g.W.Devices.standing c.commit.new.dev) c.requires.is_open

pub returns-in_err-commit-clause-cause : goal.returns-in_err-commit-clause-cause
returns-in_err-commit-clause-cause g c =
    stops_fault _ c.args.self.now.book c.commit.new.book (g.W.Devices.standing c.args.world.now) (g.W.Devices.standing c.commit.new.dev) c.from_residual.result c.in_err-commit.field-0.0 c.from_residual.ensures c.in_err-commit.ensures.cause

pub returns-in_err-commit-clause-reads : goal.returns-in_err-commit-clause-reads
returns-in_err-commit-clause-reads g c =
    reads_fault c.args.self.now (g.W.Devices.standing c.args.world.now) (record c.args.self.now { book = c.commit.new.book }) (g.W.Devices.standing c.commit.new.dev) c.from_residual.result c.in_err-commit.field-0.0 c.from_residual.ensures c.in_err-commit.ensures.cause.failed

pub returns-clause-reads : goal.returns-clause-reads
returns-clause-reads g c = reads_committed _ _ _ _ _ c.in_ok-commit.ensures.lines
