use Rattle.std.proofs.Common.{◌∙◌, sym, refl}
use Rattle.page_format.specs.Node.{children}
use Rattle.node_edit.specs.Edit.{loose}
use Rattle.node_edit.proofs.ChildEdits.{inner_within}
use Rattle.node_edit.proofs.inner_edit.inner_fit.Goals as goal

pub returns-then-is_broad-clause-fits : goal.returns-then-is_broad-clause-fits
returns-then-is_broad-clause-fits c = λ level right begins order below some. record {
  well = inner_within c.args.page.now c.args.expect.now (children c.args.page.now) (sym level) c.requires.branch refl some begins order below (sym c.is_broad.ensures ∙ c.if-is_broad.true);
  are = refl;
}

pub returns-else-is_broad-clause-fits : goal.returns-else-is_broad-clause-fits
returns-else-is_broad-clause-fits c = λ level right begins order below some. record {
  well = inner_within c.args.page.now (loose c.args.expect.now) (children c.args.page.now) (sym level) c.requires.branch refl some begins order below refl;
  are = refl;
}
