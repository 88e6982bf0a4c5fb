use Rattle.std.proofs.Common.{◌+◌, ◌*◌, arith}
use Rattle.line_pages.proofs.NumberLaws.{same_then, same_part, moved_then}
use Rattle.page_edit.proofs.edit.drop_slot.Goals as goal

pub returns-clause-drops : goal.returns-clause-drops
returns-clause-drops c =
    let old = c.args.page.now in
    let a = c.shift.new.self in
    let new = c.set_page_word.new.page in
    let at = c.args.at in
    let n = c.args.count in
    let one = c.shift.ensures in
    let two = c.set_page_word.ensures in
    let past = one.after (60 + 4 * n) (omega arith) in
    record {
      count_is = omega (arith, two.value);
      kind = same_then 0 8 old a new (same_part 0 8 0 (64 + 4 * at) _ _ one.before (omega arith) (omega arith)) two.before;
      header = same_then 16 64 old a new (same_part 16 64 0 (64 + 4 * at) _ _ one.before (omega arith) (omega arith)) (same_part 16 64 16 4096 _ _ two.after (omega arith) (omega arith));
      before = same_then 64 (64 + 4 * at) old a new (same_part 64 (64 + 4 * at) 0 (64 + 4 * at) _ _ one.before (omega arith) (omega arith)) (same_part 64 (64 + 4 * at) 16 4096 _ _ two.after (omega arith) (omega arith));
      moved = moved_then (68 + 4 * at) (64 + 4 * n) (64 + 4 * at) 16 4096 old a new one.moved two.after (omega arith) (omega arith);
      after = same_then (60 + 4 * n) 4096 old a new past (same_part (60 + 4 * n) 4096 16 4096 _ _ two.after (omega arith) (omega arith));
    }
