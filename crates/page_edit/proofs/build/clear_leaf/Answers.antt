use Rattle.std.proofs.Common.{◌≡◌, ◌∙◌, arith}
use Rattle.page_format.specs.Node.{entry_count}
use Rattle.line_pages.proofs.NumberLaws.{u64_at-same, same_then, same_part}
use Rattle.page_edit.proofs.BuildLemmas.{no_rows, empty_packed}
use Rattle.page_edit.proofs.build.clear_leaf.Goals as goal
use Rattle.page_edit.proofs.build.clear_leaf.Goals.{After-set_page_word-4}

count : (c : After-set_page_word-4) → entry_count c.set_page_word-4.new.page ≡ 0
count c = u64_at-same 0 24 8 _ _ c.set_page_word-4.ensures.before (omega arith) (omega arith) ∙ u64_at-same 0 16 8 _ _ c.set_page_word-3.ensures.before (omega arith) (omega arith) ∙ c.set_page_word-2.ensures.value

pub returns-clause-rows : goal.returns-clause-rows
returns-clause-rows c = no_rows c.set_page_word-4.new.page (count c)

pub returns-clause-packed : goal.returns-clause-packed
returns-clause-packed c =
    let kind = u64_at-same 0 24 0 _ _ c.set_page_word-4.ensures.before (omega arith) (omega arith) ∙ u64_at-same 0 16 0 _ _ c.set_page_word-3.ensures.before (omega arith) (omega arith)
    ∙ u64_at-same 0 8 0 _ _ c.set_page_word-2.ensures.before (omega arith) (omega arith) ∙ c.set_page_word.ensures.value in
    let level = u64_at-same 0 24 16 _ _ c.set_page_word-4.ensures.before (omega arith) (omega arith) ∙ c.set_page_word-3.ensures.value in
    empty_packed c.set_page_word-4.new.page c.set_page_word-4.ensures.size kind (count c) level c.set_page_word-4.ensures.value

pub returns-clause-rest : goal.returns-clause-rest
returns-clause-rest c =
    let old = c.args.page.now in
    same_then 32 4096 old c.set_page_word.new.page c.set_page_word-4.new.page (same_part 32 4096 8 4096 _ _ c.set_page_word.ensures.after (omega arith) (omega arith))
    (same_then 32 4096 c.set_page_word.new.page c.set_page_word-2.new.page c.set_page_word-4.new.page (same_part 32 4096 16 4096 _ _ c.set_page_word-2.ensures.after (omega arith) (omega arith))
    (same_then 32 4096 c.set_page_word-2.new.page c.set_page_word-3.new.page c.set_page_word-4.new.page (same_part 32 4096 24 4096 _ _ c.set_page_word-3.ensures.after (omega arith) (omega arith))
    c.set_page_word-4.ensures.after))
