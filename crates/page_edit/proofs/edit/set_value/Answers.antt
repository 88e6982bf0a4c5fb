use Rattle.std.proofs.Common.{◌≡◌, ◌+◌, ◌∙◌, ap, sym, arith, length, slice_range, ℕ}
use Rattle.rows.specs.Rows.{Row}
use Rattle.page_format.specs.Sound.{slot_of}
use Rattle.line_pages.proofs.NumberLaws.{u64_at-same, same_part}
use Rattle.page_format.proofs.SlotLemmas.{row_at}
use Rattle.page_edit.proofs.InsertLemmas.{slot_of-same}
use Rattle.page_edit.proofs.SetLemmas.{Sets, sound_set, rows_set}
use Rattle.page_edit.proofs.edit.set_value.Goals as goal
use Rattle.page_edit.proofs.edit.set_value.Goals.{After-set_part}

sets : (c : After-set_part) → Sets c.args.at c.args.value.now c.args.page.now c.set_part.new.self
sets c =
    let old = c.args.page.now in
    let new = c.set_part.new.self in
    let slot = slot_of old c.args.at in
    let place : c.place_of-place.result ≡ slot.place = c.place_of-place.ensures.place in
    let inside = c.place_of-place.ensures.inside in
    let one = c.set_part.ensures in
    let end : c.place_of-place.result + 8 + length c.args.value.now ≡ slot.place + slot.size = omega (arith, place, c.requires.length) in
    let from : c.place_of-place.result + 8 ≡ slot.place + 8 = omega (arith, place) in
    let sound = c.requires.sound in
    record {
      kind = u64_at-same 0 (c.place_of-place.result + 8) 0 old new one.before (omega arith) (omega (arith, place, inside.above, sound.below_heap));
      level = u64_at-same 0 (c.place_of-place.result + 8) 16 old new one.before (omega arith) (omega (arith, place, inside.above, sound.below_heap));
      count = u64_at-same 0 (c.place_of-place.result + 8) 8 old new one.before (omega arith) (omega (arith, place, inside.above, sound.below_heap));
      heap = u64_at-same 0 (c.place_of-place.result + 8) 24 old new one.before (omega arith) (omega (arith, place, inside.above, sound.below_heap));
      each = λ k low. slot_of-same 0 (c.place_of-place.result + 8) k old new one.before (omega arith) (omega (arith, place, inside.above, sound.below_heap, low));
      key = u64_at-same 0 (c.place_of-place.result + 8) slot.place old new one.before (omega arith) (omega (arith, place));
      put = ap (λ (n : ℕ). slice_range new n (slot.place + slot.size)) (sym from) ∙ ap (λ (n : ℕ). slice_range new (c.place_of-place.result + 8) n) (sym end) ∙ one.value;
      before = same_part 0 slot.place 0 (c.place_of-place.result + 8) old new one.before (omega arith) (omega (arith, place));
      after = same_part (slot.place + slot.size) 4096 (c.place_of-place.result + 8 + length c.args.value.now) 4096 old new one.after (omega (arith, end)) (omega arith);
      size = one.size;
    }

pub returns-clause-rows : goal.returns-clause-rows
returns-clause-rows c = λ d. rows_set c.args.at _ c.args.value.now c.args.page.now c.set_part.new.self (sets c) c.requires.at c.requires.sound (ap (λ (row : Row). row.0) (row_at c.args.page.now c.args.at d c.requires.at))

pub returns-clause-sound : goal.returns-clause-sound
returns-clause-sound c = sound_set c.args.at c.args.value.now c.args.page.now c.set_part.new.self (sets c) c.requires.sound

pub returns-clause-before : goal.returns-clause-before
returns-clause-before c = same_part 0 ((slot_of c.args.page.now c.args.at).place + 8) 0 (c.place_of-place.result + 8) _ _ c.set_part.ensures.before (omega arith) (omega (arith, c.place_of-place.ensures.place))

pub returns-clause-after : goal.returns-clause-after
returns-clause-after c = (sets c).after
