use Rattle.std.proofs.Common.{◌+◌, ◌*◌, ◌∙◌, arith, refl}
use Rattle.line_pages.proofs.NumberLaws.{u16_at-same, same_then, same_part}
use Rattle.page_edit.proofs.edit.put_slot.Goals as goal

pub returns-clause-slot : goal.returns-clause-slot
returns-clause-slot c =
    let at = 64 + 4 * c.args.at in
    let place = u16_at-same 0 (at + 2) at c.set_page_half.new.page c.set_page_half-2.new.page c.set_page_half-2.ensures.before (omega arith) (omega arith) ∙ c.set_page_half.ensures.value in
    rw (place, c.set_page_half-2.ensures.value) refl

pub returns-clause-after : goal.returns-clause-after
returns-clause-after c =
    let past = 68 + 4 * c.args.count in
    same_then past 4096 c.args.page.now c.shift.new.self c.set_page_half-2.new.page (c.shift.ensures.after past (omega arith))
    (same_then past 4096 c.shift.new.self c.set_page_half.new.page c.set_page_half-2.new.page
    (same_part past 4096 (64 + 4 * c.args.at + 2) 4096 _ _ c.set_page_half.ensures.after (omega (arith, c.requires.at)) (omega arith))
    (same_part past 4096 (64 + 4 * c.args.at + 2 + 2) 4096 _ _ c.set_page_half-2.ensures.after (omega (arith, c.requires.at)) (omega arith)))
