use Rattle.std.proofs.Common.{◌∙◌, arith}
use Rattle.line_pages.proofs.NumberLaws.{u64_at-same}
use Rattle.page_edit.proofs.edit.set_header.Goals as goal

pub returns-clause-count : goal.returns-clause-count
returns-clause-count c = u64_at-same 0 24 8 c.set_page_word.new.page c.set_page_word-2.new.page c.set_page_word-2.ensures.before (omega arith) (omega arith) ∙ c.set_page_word.ensures.value
