use Rattle.page_format.specs.Node.{entry_count}
use Rattle.std.proofs.Common.{◌+◌, ◌*◌, ◌∙◌, arith}
use Rattle.line_pages.proofs.NumberLaws.{u64_at-same, same_then, same_part}
use Rattle.page_edit.proofs.ChildLemmas.{entry-same, entry-moved, children_out}
use Rattle.page_edit.proofs.entries.remove_child.Goals as goal

pub returns-clause-children : goal.returns-clause-children
returns-clause-children c =
    let at = c.args.at in
    let n = c.page_word-count.result in
    let one = c.shift.ensures in
    let two = c.set_page_word.ensures in
    children_out at c.args.page.now c.set_page_word.new.page c.requires.at (omega (arith, two.value, c.page_word-count.ensures.value))
    (λ k low. entry-same 16 4096 k _ _ two.after (omega arith) (omega arith) ∙ entry-same 0 (64 + 16 * at) k _ _ one.before (omega arith) (omega arith))
    (λ k low high. entry-same 16 4096 k _ _ two.after (omega arith) (omega arith) ∙ entry-moved (80 + 16 * at) (64 + 16 * n) (64 + 16 * at) k (k + 1) _ _ one.moved (omega arith) (omega arith) (omega arith))

pub returns-clause-inner : goal.returns-clause-inner
returns-clause-inner c = record {
  size = c.set_page_word.ensures.size;
  kind = u64_at-same 0 8 0 _ _ c.set_page_word.ensures.before (omega arith) (omega arith) ∙ u64_at-same 0 (64 + 16 * c.args.at) 0 _ _ c.shift.ensures.before (omega arith) (omega arith) ∙ c.requires.inner.kind;
  count = omega (arith, c.set_page_word.ensures.value, c.page_word-count.ensures.value, c.requires.inner.count);
}

pub returns-clause-level : goal.returns-clause-level
returns-clause-level c = u64_at-same 16 4096 16 _ _ c.set_page_word.ensures.after (omega arith) (omega arith) ∙ u64_at-same 0 (64 + 16 * c.args.at) 16 _ _ c.shift.ensures.before (omega arith) (omega arith)

pub returns-clause-rest : goal.returns-clause-rest
returns-clause-rest c =
    let old = c.args.page.now in
    let end = 64 + 16 * entry_count old in
    same_then end 4096 old c.shift.new.self c.set_page_word.new.page
    (same_part end 4096 (48 + 16 * entry_count old) 4096 _ _ (c.shift.ensures.after (48 + 16 * entry_count old) (omega arith)) (omega arith) (omega arith))
    (same_part end 4096 16 4096 _ _ c.set_page_word.ensures.after (omega arith) (omega arith))

pub returns-clause-unused : goal.returns-clause-unused
returns-clause-unused c = u64_at-same 16 4096 24 _ _ c.set_page_word.ensures.after (omega arith) (omega arith) ∙ u64_at-same 0 (64 + 16 * c.args.at) 24 _ _ c.shift.ensures.before (omega arith) (omega arith)
