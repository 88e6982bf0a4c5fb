use Rattle.page_format.specs.Node.{entry_count}
use Rattle.std.proofs.Common.{◌+◌, ◌*◌, ◌∙◌, arith, refl}
use Rattle.line_pages.proofs.NumberLaws.{u64_at-same, same_then, same_part}
use Rattle.page_edit.proofs.ChildLemmas.{entry-same, entry-moved, children_put}
use Rattle.page_edit.proofs.entries.insert_child.Goals as goal

pub returns-clause-children : goal.returns-clause-children
returns-clause-children c =
    let at = c.args.at in
    let n = c.page_word-count.result in
    let one = c.shift.ensures in
    let two = c.set_page_word.ensures in
    let three = c.set_page_word-2.ensures in
    let four = c.set_page_word-3.ensures in
    let key = u64_at-same 16 4096 (64 + 16 * at) _ _ four.after (omega arith) (omega arith) ∙ u64_at-same 0 (72 + 16 * at) (64 + 16 * at) _ _ three.before (omega arith) (omega arith) ∙ two.value in
    let child = u64_at-same 16 4096 (72 + 16 * at) _ _ four.after (omega arith) (omega arith) ∙ three.value in
    children_put at (c.args.key, c.args.child) c.args.page.now c.set_page_word-3.new.page c.requires.at (omega (arith, four.value, c.page_word-count.ensures.value))
    (λ k low. entry-same 16 4096 k _ _ four.after (omega arith) (omega arith) ∙ entry-same 0 (72 + 16 * at) k _ _ three.before (omega arith) (omega arith)
    ∙ entry-same 0 (64 + 16 * at) k _ _ two.before (omega arith) (omega arith) ∙ entry-same 0 (80 + 16 * at) k _ _ one.before (omega arith) (omega arith))
    (rw (key, child) refl)
    (λ k low high. entry-same 16 4096 (k + 1) _ _ four.after (omega arith) (omega arith) ∙ entry-same (72 + 16 * at + 8) 4096 (k + 1) _ _ three.after (omega arith) (omega arith)
    ∙ entry-same (64 + 16 * at + 8) 4096 (k + 1) _ _ two.after (omega arith) (omega arith) ∙ entry-moved (64 + 16 * at) (64 + 16 * n) (80 + 16 * at) (k + 1) k _ _ one.moved (omega arith) (omega arith) (omega arith))

pub returns-clause-inner : goal.returns-clause-inner
returns-clause-inner c = record {
  size = c.set_page_word-3.ensures.size;
  kind = u64_at-same 0 8 0 _ _ c.set_page_word-3.ensures.before (omega arith) (omega arith) ∙ u64_at-same 0 (72 + 16 * c.args.at) 0 _ _ c.set_page_word-2.ensures.before (omega arith) (omega arith)
      ∙ u64_at-same 0 (64 + 16 * c.args.at) 0 _ _ c.set_page_word.ensures.before (omega arith) (omega arith) ∙ u64_at-same 0 (80 + 16 * c.args.at) 0 _ _ c.shift.ensures.before (omega arith) (omega arith) ∙ c.requires.inner.kind;
  count = omega (arith, c.set_page_word-3.ensures.value, c.page_word-count.ensures.value, c.requires.room);
}

pub returns-clause-level : goal.returns-clause-level
returns-clause-level c = u64_at-same 16 4096 16 _ _ c.set_page_word-3.ensures.after (omega arith) (omega arith) ∙ u64_at-same 0 (72 + 16 * c.args.at) 16 _ _ c.set_page_word-2.ensures.before (omega arith) (omega arith)
    ∙ u64_at-same 0 (64 + 16 * c.args.at) 16 _ _ c.set_page_word.ensures.before (omega arith) (omega arith) ∙ u64_at-same 0 (80 + 16 * c.args.at) 16 _ _ c.shift.ensures.before (omega arith) (omega arith)

pub returns-clause-rest : goal.returns-clause-rest
returns-clause-rest c =
    let old = c.args.page.now in
    let at = c.args.at in
    let past = 80 + 16 * entry_count old in
    same_then past 4096 old c.shift.new.self c.set_page_word-3.new.page (c.shift.ensures.after past (omega arith))
    (same_then past 4096 c.shift.new.self c.set_page_word.new.page c.set_page_word-3.new.page (same_part past 4096 (64 + 16 * at + 8) 4096 _ _ c.set_page_word.ensures.after (omega arith) (omega arith))
    (same_then past 4096 c.set_page_word.new.page c.set_page_word-2.new.page c.set_page_word-3.new.page (same_part past 4096 (72 + 16 * at + 8) 4096 _ _ c.set_page_word-2.ensures.after (omega arith) (omega arith))
    (same_part past 4096 16 4096 _ _ c.set_page_word-3.ensures.after (omega arith) (omega arith))))

pub returns-clause-unused : goal.returns-clause-unused
returns-clause-unused c = u64_at-same 16 4096 24 _ _ c.set_page_word-3.ensures.after (omega arith) (omega arith) ∙ u64_at-same 0 (72 + 16 * c.args.at) 24 _ _ c.set_page_word-2.ensures.before (omega arith) (omega arith)
    ∙ u64_at-same 0 (64 + 16 * c.args.at) 24 _ _ c.set_page_word.ensures.before (omega arith) (omega arith) ∙ u64_at-same 0 (80 + 16 * c.args.at) 24 _ _ c.shift.ensures.before (omega arith) (omega arith)
