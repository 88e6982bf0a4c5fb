use Rattle.std.proofs.Common.{ap, rules, ◌∙◌}
use Rattle.line_pages.specs.Bytes.{bytes_of_half}
use Rattle.line_pages.proofs.NumberLaws.{half_bytes, reads_half}
use Rattle.line_pages.proofs.number.get_half.Goals as goal

pub returns-clause-bytes : goal.returns-clause-bytes
returns-clause-bytes c =
    ap bytes_of_half (c.read_u16.ensures ∙ reads_half c.args.at c.args.bytes.now c.requires) ∙ half_bytes c.args.bytes.now c.args.at c.requires (λ k. let fits = c.type_inv.bytes k in search rules)
