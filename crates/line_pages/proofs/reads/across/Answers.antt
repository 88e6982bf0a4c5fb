use Rattle.std.proofs.Common.{ap, ◌∙◌}
use Rattle.line_pages.specs.Bytes.{u64_at, overwritten}
use Rattle.nvm_model.specs.LineBytes.{bytes_of_word}
use Rattle.line_pages.proofs.ByteLaws.{two_words}
use Rattle.line_pages.proofs.reads.across.Goals as goal

pub returns : goal.returns
returns c =
    c.get_word.ensures.value ∙ ap (λ both. u64_at both c.args.at) (c.put_word-2.ensures.bytes ∙ ap (λ both. overwritten both 8 (bytes_of_word c.args.second)) c.put_word.ensures.bytes ∙ two_words c.args.first c.args.second)
