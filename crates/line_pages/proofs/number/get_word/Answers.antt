use Rattle.std.proofs.Common.{ap, rules, ◌∙◌}
use Rattle.nvm_model.specs.LineBytes.{bytes_of_word}
use Rattle.line_pages.proofs.NumberLaws.{word_bytes, reads_word}
use Rattle.line_pages.proofs.number.get_word.Goals as goal

pub returns-clause-bytes : goal.returns-clause-bytes
returns-clause-bytes c =
    ap bytes_of_word (c.read_u64.ensures ∙ reads_word c.args.at c.args.bytes.now c.requires) ∙ word_bytes c.args.bytes.now c.args.at c.requires (λ k. let fits = c.type_inv.bytes k in search rules)
