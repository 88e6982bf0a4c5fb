use Rattle.std.proofs.Common.{refl}
use Rattle.std.proofs.lemmas.Bool.{lt-ltb}
use Rattle.devices.specs.declared.step.Step.TheVariants.{Flush}
use Rattle.devices.specs.Past.{standing_state}
use Rattle.devices.proofs.PastLaws.{sound_kept}
use Rattle.devices.proofs.ContentLaws.{AreNewest, newest_flushed}
use Rattle.devices.proofs.past.Past.flush.Goals as goal

pub returns-clause-sound : goal.returns-clause-sound
returns-clause-sound c =
    let old = c.args.self.now in
    let are : AreNewest old.lines _ _ = newest_flushed _ _ (standing_state old) (record { size = c.requires.sound.size; words = c.requires.sound.words }) c.args.line in
    sound_kept old _ c.requires.sound {step = Flush c.args.line} (record { stands = record { lines = refl; blocks = refl; base = refl }; entries = c.in_ok-note.ensures.ok; sent = refl; sendings = refl }) (lt-ltb c.args.line c.args.self.now.lines c.requires.line) are.size are.words c.requires.sound.pages
