use Rattle.std.proofs.Common.{◌∙◌}
use Rattle.page_format.proofs.PageFacts.{level_of}
use Rattle.page_search.proofs.HeaderLaws.{leaf_header, inner_header}
use Rattle.page_search.proofs.probe.header_fits.Goals as goal

pub returns-then-header-expect-clause-fits : goal.returns-then-header-expect-clause-fits
returns-then-header-expect-clause-fits c = λ bytes is well. absurd (c.if-header-expect.true (is.level ∙ level_of bytes c.args.expect.now well))

pub returns-then-expect-eq0-clause-fits : goal.returns-then-expect-eq0-clause-fits
returns-then-expect-eq0-clause-fits c = λ bytes is well. c.is_leaf.ensures ∙ leaf_header bytes c.args.expect.now c.args.header.now is c.if-expect-eq0.true well

pub returns-clause-fits : goal.returns-clause-fits
returns-clause-fits c = λ bytes is well. c.is_inner.ensures ∙ inner_header bytes c.args.expect.now c.args.header.now is c.if-expect-eq0.false well
