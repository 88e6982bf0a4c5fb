-- The book over the parts of a recovery is ready.
use Rattle.crash_tests.proofs.OpenLaws.{recovered_ready}
use Rattle.crash_tests.proofs.tests.opened.Goals as goal

pub returns-clause-ready : goal.returns-clause-ready
returns-clause-ready g c =
    recovered_ready c.in_ok-parts.parts c.new.result (g.D.Devices.standing c.args.dev.now) (g.D.Devices.standing c.recover.new.dev) c.in_ok-parts.ensures.goes c.in_ok-parts.ensures.parts c.new.ensures c.in_ok-parts.ensures.recovered
