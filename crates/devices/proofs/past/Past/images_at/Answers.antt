use Rattle.std.proofs.Common.{◌≡◌, refl, subst, true, take, ap, ◌∙◌, ℕ, List}
use Rattle.nvm_model.specs.Contents.{memory_of}
use Rattle.nvm_model.specs.Choose.{image_of as chosen_lines}
use Rattle.devices.specs.declared.images.Images.{Images}
use Rattle.devices.specs.declared.step.Entry.{Entry}
use Rattle.devices.specs.Past.{is_within}
use Rattle.devices.specs.Replay.{are_within, AreLeftOf}
use Rattle.devices.proofs.LeavingLaws.{all_take, fits_within, is_left}
use Rattle.devices.proofs.past.Past.images_at.Goals as goal

pub left_blocks-requires-clause-fit : goal.left_blocks-requires-clause-fit
left_blocks-requires-clause-fit c =
    let self = c.args.self.now in
    let first : are_within self.lines self.current.ssd_blocks (take c.args.moment self.entries.items) ≡ true = all_take (λ (e : Entry). is_within self.lines self.current.ssd_blocks e.step) self.entries.items c.args.moment c.requires.sound.within in
    rw (c.in_ok-made.ensures.disk_size, c.deref.ensures.value) (fits_within self.lines self.current.ssd_blocks (take c.args.moment self.entries.items) first)

pub returns : goal.returns
returns c =
    let self = c.args.self.now in
    let made = c.in_ok-made.made in
    let entries : List Entry = take c.args.moment self.entries.items in
    let images : Images = record { nvm = c.in_ok-image_by.field-0; ssd_blocks = self.current.ssd_blocks; ssd = c.in_ok-left_blocks.field-0 } in
    let left : AreLeftOf self.base.ssd entries made.ssd c.args.ssd images.ssd = subst (λ (es : List Entry). AreLeftOf self.base.ssd (take c.args.moment es) made.ssd c.args.ssd images.ssd) c.deref.ensures.value c.in_ok-left_blocks.ensures in
    is_left self.base entries self.lines self.current.ssd_blocks made.nvm made.ssd c.args.nvm c.args.ssd images c.requires.sound.base_size
    (all_take (λ (e : Entry). is_within self.lines self.current.ssd_blocks e.step) self.entries.items c.args.moment c.requires.sound.within)
    c.in_ok-made.ensures.state _ c.in_ok-made.ensures.synced c.in_ok-made.ensures.disk_size (c.in_ok-image_by.ensures ∙ ap (λ (n : ℕ). chosen_lines c.args.nvm (memory_of made.nvm) n) c.in_ok-made.ensures.lines) refl left
