use Rattle.std.proofs.Common.{refl, sym, ◌≡◌, ◌∙◌, ap, subst, List, [], ◌∷◌, ◌++◌}
use Rattle.std.specs.Prelude.{Some}
use Rattle.std.specs.Ordering.{nat_cmp}
use Rattle.std.specs.BTreeMap.{Updates}
use Rattle.std.proofs.lemmas.Bool.{lt-ltb}
use Rattle.devices.specs.declared.step.Entry.{Entry}
use Rattle.devices.specs.declared.step.Step.TheVariants.{WriteBlock}
use Rattle.devices.specs.Past.{standing_state}
use Rattle.devices.proofs.PastLaws.{sound_kept}
use Rattle.devices.proofs.ContentLaws.{pages_written}
use Rattle.devices.proofs.past.Past.write_block.Goals as goal

pub returns-clause-sound : goal.returns-clause-sound
returns-clause-sound c =
    let old = c.args.self.now in
    let sound = c.requires.sound in
    let page = c.in-Ok.page in
    let entry : Entry = record { event = c.args.event; step = WriteBlock c.args.block page } in
    let bytes : c.copy-2.result ≡ page.value = c.copy-2.ensures.value ∙ sym c.copy.ensures.value ∙ sym c.in-Ok.ensures.ok in
    let updates : Updates nat_cmp old.current.ssd c.insert.new.self c.args.block (Some page.value) = subst (λ bs. Updates nat_cmp old.current.ssd c.insert.new.self c.args.block (Some bs)) bytes c.in-Ok-insert.ensures.updates in
    sound_kept old _ sound {step = WriteBlock c.args.block page}
    (record { stands = record { lines = refl; blocks = refl; base = refl }; entries = c.push_reserved.ensures.items ∙ ap (λ (es : List Entry). es ++ entry ∷ []) c.reserve.ensures.items; sent = refl; sendings = refl })
    (lt-ltb c.args.block old.current.ssd_blocks c.requires.block) sound.size sound.words (pages_written old.current.ssd c.insert.new.self (standing_state old) c.args.block page.value sound.pages updates)
