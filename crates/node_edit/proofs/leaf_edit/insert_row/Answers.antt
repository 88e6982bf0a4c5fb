use Rattle.node_edit.proofs.leaf_edit.insert_row.Goals as goal

pub returns-clause-fits : goal.returns-clause-fits
returns-clause-fits c = c.fit_row.ensures.fits c.args.right.now

pub returns-clause-parts : goal.returns-clause-parts
returns-clause-parts c = λ k is. absurd (c.fit_row.ensures.uncut k is)
