use Rattle.std.proofs.Common.{refl, ◌≡◌, true}
use Rattle.std.specs.Prelude.{nat_lt, ◌&&◌}
use Rattle.std.proofs.lemmas.Bool.{lt-ltb}
use Rattle.devices.specs.declared.step.Step.TheVariants.{StoreWord}
use Rattle.devices.specs.Past.{standing_state}
use Rattle.devices.proofs.PastLaws.{sound_kept}
use Rattle.devices.proofs.ContentLaws.{AreNewest, newest_word_stored}
use Rattle.devices.proofs.past.Past.store_word.Goals as goal

pub returns-clause-sound : goal.returns-clause-sound
returns-clause-sound c =
    let old = c.args.self.now in
    let are : AreNewest old.lines _ _ = newest_word_stored _ _ (standing_state old) (record { size = c.requires.sound.size; words = c.requires.sound.words }) c.args.line c.args.word c.args.value c.index_mut.result.now c.set_word.new.line c.requires.line c.requires.word c.index_mut.ensures.value c.set_word.ensures.this c.set_word.ensures.others in
    let in_range : (nat_lt c.args.line old.lines && nat_lt c.args.word 8) ≡ true = rw (lt-ltb c.args.line old.lines c.requires.line, lt-ltb c.args.word 8 c.requires.word) refl in
    sound_kept old _ c.requires.sound {step = StoreWord c.args.line c.args.word c.args.value} (record { stands = record { lines = refl; blocks = refl; base = refl }; entries = c.in_ok-note.ensures.ok; sent = refl; sendings = refl }) in_range are.size are.words c.requires.sound.pages
