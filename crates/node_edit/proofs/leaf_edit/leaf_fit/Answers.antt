use Rattle.std.proofs.Common.{◌≡◌, ◌∙◌, sym, refl, true, false}
use Rattle.page_format.specs.Node.{leaf_rows}
use Rattle.node_edit.specs.Edit.{loose}
use Rattle.node_edit.proofs.LeafLaws.{leaf_within, fits_full}
use Rattle.node_edit.proofs.leaf_edit.leaf_fit.Goals as goal

pub returns-then-is_full-clause-fits : goal.returns-then-is_full-clause-fits
returns-then-is_full-clause-fits c = λ right. record {
  well = leaf_within c.args.page.now c.args.expect.now c.is_full.ensures.size c.requires.level c.requires.leaf c.requires.order (sym c.is_full.ensures.full ∙ c.if-is_full.true);
  are = refl;
}

pub returns-else-is_full-clause-fits : goal.returns-else-is_full-clause-fits
returns-else-is_full-clause-fits c = λ right. record {
  well = leaf_within c.args.page.now (loose c.args.expect.now) c.is_full.ensures.size c.requires.level c.requires.leaf c.requires.order refl;
  are = refl;
}

pub returns-else-is_full-clause-whole : goal.returns-else-is_full-clause-whole
returns-else-is_full-clause-whole c = λ fits.
    let clash : true ≡ false = sym (fits_full c.args.expect.now.root (leaf_rows c.args.page.now) fits) ∙ sym c.is_full.ensures.full ∙ c.if-is_full.false in
    absurd (cc)
