use Rattle.std.proofs.Common.{◌∙◌}
use Rattle.std.proofs.lemmas.Grind.{get_or_default_zero}
use Rattle.line_pages.proofs.PairLaws.{test_bit}
use Rattle.line_pages.proofs.line_set.LineSet.has.Goals as goal

pub returns : goal.returns
returns c = test_bit c.args.self.now.masks.items c.args.page c.args.line c.index.result.now c.requires.line (c.index.ensures ∙ get_or_default_zero c.args.self.now.masks.items c.args.page c.index.result.now c.requires.page)
