use Rattle.devices.proofs.StartLaws.{sound_start}
use Rattle.devices.proofs.past.Past.over.Goals as goal

pub returns-clause-sound : goal.returns-clause-sound
returns-clause-sound c = sound_start _ c.requires c.new.ensures.items c.new-2.ensures.items c.new-3.ensures.items
