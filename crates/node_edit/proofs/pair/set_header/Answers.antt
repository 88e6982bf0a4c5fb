use Rattle.std.proofs.Common.{◌∙◌, arith}
use Rattle.line_pages.proofs.NumberLaws.{u64_at-same}
use Rattle.node_edit.proofs.pair.set_header.Goals as goal

pub returns-clause-kind : goal.returns-clause-kind
returns-clause-kind c = u64_at-same 0 24 0 _ _ c.set_page_word-4.ensures.before (omega arith) (omega arith) ∙ u64_at-same 0 16 0 _ _ c.set_page_word-3.ensures.before (omega arith) (omega arith)
    ∙ u64_at-same 0 8 0 _ _ c.set_page_word-2.ensures.before (omega arith) (omega arith) ∙ c.set_page_word.ensures.value

pub returns-clause-count : goal.returns-clause-count
returns-clause-count c = u64_at-same 0 24 8 _ _ c.set_page_word-4.ensures.before (omega arith) (omega arith) ∙ u64_at-same 0 16 8 _ _ c.set_page_word-3.ensures.before (omega arith) (omega arith) ∙ c.set_page_word-2.ensures.value

pub returns-clause-level : goal.returns-clause-level
returns-clause-level c = u64_at-same 0 24 16 _ _ c.set_page_word-4.ensures.before (omega arith) (omega arith) ∙ c.set_page_word-3.ensures.value
