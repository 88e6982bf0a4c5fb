-- The open access ends, and then an open transaction is aborted.
use Rattle.engine.specs.Answers.{closed}
use Rattle.engine.proofs.StepLaws.{does_after_rest, undoing_after_rest}
use Rattle.engine.proofs.RestLaws.{reads_after_rest}
use Rattle.engine.proofs.engine.Engine.finish.Goals as goal

pub returns-clause-does : goal.returns-clause-does
returns-clause-does g c =
    does_after_rest c.args.self.now c.rest.new.self c.rest.ensures.same closed (g.W.Devices.standing c.args.world.now) c.close.new.self (g.W.Devices.standing c.close.new.world) c.close.result c.close.ensures.does

pub returns-clause-cause : goal.returns-clause-cause
returns-clause-cause g c =
    undoing_after_rest c.args.self.now c.rest.new.self c.rest.ensures.same (g.W.Devices.standing c.args.world.now) c.close.new.self (g.W.Devices.standing c.close.new.world) c.close.result c.close.ensures.cause

pub returns-clause-reads : goal.returns-clause-reads
returns-clause-reads g c =
    reads_after_rest c.args.self.now (g.W.Devices.standing c.args.world.now) c.close.new.self (g.W.Devices.standing c.close.new.world) c.rest.new.self c.close.result c.rest.ensures.same c.close.ensures.reads
