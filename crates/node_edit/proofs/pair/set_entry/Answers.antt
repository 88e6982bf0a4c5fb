use Rattle.std.proofs.Common.{◌+◌, ◌∙◌, arith}
use Rattle.line_pages.proofs.NumberLaws.{u64_at-same, same_then, same_part}
use Rattle.node_edit.proofs.pair.set_entry.Goals as goal

pub returns-clause-key : goal.returns-clause-key
returns-clause-key c = u64_at-same 0 (c.args.at + 8) c.args.at _ _ c.set_page_word-2.ensures.before (omega arith) (omega arith) ∙ c.set_page_word.ensures.value

pub returns-clause-before : goal.returns-clause-before
returns-clause-before c = same_then 0 c.args.at c.args.page.now c.set_page_word.new.page c.set_page_word-2.new.page c.set_page_word.ensures.before (same_part 0 c.args.at 0 (c.args.at + 8) _ _ c.set_page_word-2.ensures.before (omega arith) (omega arith))

pub returns-clause-after : goal.returns-clause-after
returns-clause-after c = same_then (c.args.at + 16) 4096 c.args.page.now c.set_page_word.new.page c.set_page_word-2.new.page (same_part (c.args.at + 16) 4096 (c.args.at + 8) 4096 _ _ c.set_page_word.ensures.after (omega arith) (omega arith))
    (same_part (c.args.at + 16) 4096 (c.args.at + 8 + 8) 4096 _ _ c.set_page_word-2.ensures.after (omega arith) (omega arith))
