use Rattle.devices.proofs.StartLaws.{fresh_as}
use Rattle.devices.proofs.mem_world.MemWorld.new.Goals as goal

pub returns-clause-fresh : goal.returns-clause-fresh
returns-clause-fresh c = fresh_as c.in_ok-past.past c.args.settings.now c.args.script.now c.over.result c.in_ok-past.ensures.starts c.over.ensures.fresh
