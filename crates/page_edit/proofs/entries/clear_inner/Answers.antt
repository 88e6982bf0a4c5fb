use Rattle.std.proofs.Common.{◌≡◌, ◌∙◌, arith}
use Rattle.page_format.specs.Node.{entry_count}
use Rattle.line_pages.proofs.NumberLaws.{u64_at-same, same_then, same_part}
use Rattle.page_format.proofs.InnerLemmas.{no_children}
use Rattle.page_edit.proofs.entries.clear_inner.Goals as goal
use Rattle.page_edit.proofs.entries.clear_inner.Goals.{After-set_page_word-4}

count : (c : After-set_page_word-4) → entry_count c.set_page_word-4.new.page ≡ 0
count c = u64_at-same 0 24 8 _ _ c.set_page_word-4.ensures.before (omega arith) (omega arith) ∙ u64_at-same 0 16 8 _ _ c.set_page_word-3.ensures.before (omega arith) (omega arith) ∙ c.set_page_word-2.ensures.value

pub returns-clause-children : goal.returns-clause-children
returns-clause-children c = no_children c.set_page_word-4.new.page (count c)

pub returns-clause-inner : goal.returns-clause-inner
returns-clause-inner c = record {
  size = c.set_page_word-4.ensures.size;
  kind = u64_at-same 0 24 0 _ _ c.set_page_word-4.ensures.before (omega arith) (omega arith) ∙ u64_at-same 0 16 0 _ _ c.set_page_word-3.ensures.before (omega arith) (omega arith)
      ∙ u64_at-same 0 8 0 _ _ c.set_page_word-2.ensures.before (omega arith) (omega arith) ∙ c.set_page_word.ensures.value;
  count = omega (arith, count c);
}

pub returns-clause-level : goal.returns-clause-level
returns-clause-level c = u64_at-same 0 24 16 _ _ c.set_page_word-4.ensures.before (omega arith) (omega arith) ∙ c.set_page_word-3.ensures.value

pub returns-clause-count : goal.returns-clause-count
returns-clause-count c = count c

pub returns-clause-rest : goal.returns-clause-rest
returns-clause-rest c =
    let old = c.args.page.now in
    same_then 32 4096 old c.set_page_word.new.page c.set_page_word-4.new.page (same_part 32 4096 8 4096 _ _ c.set_page_word.ensures.after (omega arith) (omega arith))
    (same_then 32 4096 c.set_page_word.new.page c.set_page_word-2.new.page c.set_page_word-4.new.page (same_part 32 4096 16 4096 _ _ c.set_page_word-2.ensures.after (omega arith) (omega arith))
    (same_then 32 4096 c.set_page_word-2.new.page c.set_page_word-3.new.page c.set_page_word-4.new.page (same_part 32 4096 24 4096 _ _ c.set_page_word-3.ensures.after (omega arith) (omega arith))
    c.set_page_word-4.ensures.after))

pub returns-clause-unused : goal.returns-clause-unused
returns-clause-unused c = c.set_page_word-4.ensures.value
