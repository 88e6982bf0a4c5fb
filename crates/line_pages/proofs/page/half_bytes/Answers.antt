use Rattle.std.proofs.Common.{◌∙◌}
use Rattle.line_pages.proofs.ByteLaws.{one_half}
use Rattle.line_pages.proofs.page.half_bytes.Goals as goal

pub returns : goal.returns
returns c = c.put_half.ensures.bytes ∙ one_half c.args.value
