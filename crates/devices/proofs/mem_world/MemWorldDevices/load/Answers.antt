use Rattle.devices.proofs.CountLaws.{by_more}
use Rattle.devices.proofs.mem_world.MemWorldDevices.load.Goals as goal

pub invariant_of-self : goal.invariant_of-self
invariant_of-self c = record { sound = c.args.self.now.sound; counted = by_more c.args.self.now.past.entries.items c.args.self.now.events c.begin.new.events c.begin.ensures.more_events c.args.self.now.counted }
