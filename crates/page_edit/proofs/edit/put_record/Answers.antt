use Rattle.std.proofs.Common.{◌≡◌, ◌+◌, ◌∙◌, arith, length, refl}
use Rattle.line_pages.proofs.NumberLaws.{u64_at-same}
use Rattle.page_edit.proofs.edit.put_record.Goals as goal

pub returns-clause-row : goal.returns-clause-row
returns-clause-row c =
    let key = u64_at-same 0 (c.args.place + 8) c.args.place c.set_page_word.new.page c.set_part.new.self c.set_part.ensures.before (omega arith) (omega arith) ∙ c.set_page_word.ensures.value in
    let end : c.args.place + (8 + length c.args.value.now) ≡ c.args.place + 8 + length c.args.value.now = omega arith in
    rw (key, end, c.set_part.ensures.value) refl
