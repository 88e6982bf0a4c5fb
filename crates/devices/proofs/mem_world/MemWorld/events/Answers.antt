use Rattle.devices.proofs.CountLaws.{moment_all}
use Rattle.devices.proofs.mem_world.MemWorld.events.Goals as goal

pub returns-clause-all : goal.returns-clause-all
returns-clause-all c = moment_all _ _ c.args.self.now.counted
