use Rattle.std.proofs.Common.{ap, ◌∙◌}
use Rattle.line_pages.specs.Bytes.{u16_at}
use Rattle.line_pages.proofs.ByteLaws.{one_word}
use Rattle.line_pages.proofs.reads.half_of.Goals as goal

pub returns : goal.returns
returns c = c.get_half.ensures.value ∙ ap (λ bytes. u16_at bytes c.args.at) (c.put_word.ensures.bytes ∙ one_word c.args.word)
