use Rattle.std.proofs.Common.{◌+◌, ◌*◌, ◌∙◌, length, ap, arith}
use Rattle.page_format.specs.Node.{entry_count}
use Rattle.line_pages.proofs.NumberLaws.{u64_at-same, same_then, same_part}
use Rattle.page_edit.proofs.ChildLemmas.{entry-same, entry-moved, moved_part, children_more}
use Rattle.page_edit.proofs.entries.push_children.Goals as goal
use Rattle.std.proofs.lemmas.List.Edits.{length-between}

pub returns-clause-children : goal.returns-clause-children
returns-clause-children c =
    let n = c.page_word-count.result in
    let start = 64 + 16 * c.args.start in
    let end = 64 + 16 * c.args.end in
    let one = c.set_part.ensures in
    let two = c.set_page_word.ensures in
    let moved = moved_part start end (64 + 16 * n) c.args.from.now c.set_part.new.self c.part.result.now c.part.ensures.value (omega arith) (omega arith)
    (omega (arith, ap length c.part.ensures.value ∙ length-between c.args.from.now start end (omega arith), one.size)) one.value in
    children_more c.args.start c.args.end c.args.page.now c.args.from.now c.set_page_word.new.page c.requires.order c.requires.within (omega (arith, two.value, c.page_word-count.ensures.value))
    (λ k low. entry-same 16 4096 k _ _ two.after (omega arith) (omega arith) ∙ entry-same 0 (64 + 16 * n) k _ _ one.before (omega arith) (omega arith))
    (λ k low. entry-same 16 4096 (entry_count c.args.page.now + k) _ _ two.after (omega arith) (omega arith)
    ∙ entry-moved start end (64 + 16 * n) (entry_count c.args.page.now + k) (c.args.start + k) _ _ moved (omega arith) (omega arith) (omega arith))

pub returns-clause-inner : goal.returns-clause-inner
returns-clause-inner c = record {
  size = c.set_page_word.ensures.size;
  kind = u64_at-same 0 8 0 _ _ c.set_page_word.ensures.before (omega arith) (omega arith) ∙ u64_at-same 0 (64 + 16 * c.page_word-count.result) 0 _ _ c.set_part.ensures.before (omega arith) (omega arith) ∙ c.requires.inner.kind;
  count = omega (arith, c.set_page_word.ensures.value, c.page_word-count.ensures.value, c.requires.room, c.requires.order);
}

pub returns-clause-level : goal.returns-clause-level
returns-clause-level c = u64_at-same 16 4096 16 _ _ c.set_page_word.ensures.after (omega arith) (omega arith) ∙ u64_at-same 0 (64 + 16 * c.page_word-count.result) 16 _ _ c.set_part.ensures.before (omega arith) (omega arith)

pub returns-clause-rest : goal.returns-clause-rest
returns-clause-rest c =
    let start = 64 + 16 * c.args.start in
    let end = 64 + 16 * c.args.end in
    let size = ap length c.part.ensures.value ∙ length-between c.args.from.now start end (omega (arith, c.part.ensures.size)) in
    let past = 64 + 16 * entry_count c.set_page_word.new.page in
    same_then past 4096 c.args.page.now c.set_part.new.self c.set_page_word.new.page
    (same_part past 4096 (64 + 16 * c.page_word-count.result + length c.part.result.now) 4096 _ _ c.set_part.ensures.after (omega (arith, size, c.set_page_word.ensures.value)) (omega arith))
    (same_part past 4096 16 4096 _ _ c.set_page_word.ensures.after (omega arith) (omega arith))

pub returns-clause-unused : goal.returns-clause-unused
returns-clause-unused c = u64_at-same 16 4096 24 _ _ c.set_page_word.ensures.after (omega arith) (omega arith) ∙ u64_at-same 0 (64 + 16 * c.page_word-count.result) 24 _ _ c.set_part.ensures.before (omega arith) (omega arith)
