use Rattle.std.proofs.Common.{◌∙◌}
use Rattle.line_pages.proofs.ByteLaws.{one_word}
use Rattle.line_pages.proofs.page.word_bytes.Goals as goal

pub returns : goal.returns
returns c = c.put_word.ensures.bytes ∙ one_word c.args.value
