use Rattle.std.specs.Vec.{vec_len}
use Rattle.std.proofs.Common.{ap, ◌∙◌}
use Rattle.line_pages.specs.Pairs.{pairs_in}
use Rattle.line_pages.proofs.PairLaws.{blank_masks}
use Rattle.line_pages.proofs.line_set.LineSet.clear.Goals as goal

pub returns-clause-pairs : goal.returns-clause-pairs
returns-clause-pairs c = ap pairs_in (c.fill.ensures.items (λ y e. e)) ∙ blank_masks (vec_len c.args.self.now.masks)
