use Rattle.std.proofs.Common.{◌∙◌}
use Rattle.std.proofs.lemmas.Grind.{get_or_default_zero}
use Rattle.line_pages.proofs.PairLaws.{bit_set}
use Rattle.line_pages.proofs.line_set.LineSet.insert.Goals as goal

pub returns-clause-pairs : goal.returns-clause-pairs
returns-clause-pairs c = bit_set c.args.self.now.masks.items c.args.page c.args.line c.index_mut.result.now c.requires.line c.requires.page (c.index_mut.ensures.value ∙ get_or_default_zero c.args.self.now.masks.items c.args.page c.index_mut.result.now c.requires.page)
