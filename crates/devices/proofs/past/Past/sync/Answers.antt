use Rattle.std.proofs.Common.{refl}
use Rattle.devices.specs.declared.step.Step.TheVariants.{Sync}
use Rattle.devices.proofs.PastLaws.{sound_kept}
use Rattle.devices.proofs.past.Past.sync.Goals as goal

pub returns-clause-sound : goal.returns-clause-sound
returns-clause-sound c =
    sound_kept c.args.self.now _ c.requires {step = Sync} (record { stands = record { lines = refl; blocks = refl; base = refl }; entries = c.in_ok-note.ensures.ok; sent = refl; sendings = refl }) refl c.requires.size c.requires.words c.requires.pages
