use Rattle.std.proofs.Common.{IsTrue, sym, subst, ap, ◌∙◌}
use Rattle.line_pages.specs.Bytes.{bytes_of}
use Rattle.line_pages.specs.Lines.{Lines}
use Rattle.rows.specs.Rows.{row_delete}
use Rattle.bplus_tree.proofs.Storing.{leaf_edits, if_both}
use Rattle.bplus_tree.proofs.change.delete_leaf.Goals as goal

pub returns-clause-edits : goal.returns-clause-edits
returns-clause-edits g c = λ told.
    let e = c.args.expect.now in
    let old = g.P.Pages.standing c.args.pages.now in
    let first = g.P.Pages.standing c.load.new.pages in
    let new = g.P.Pages.standing c.store.new.pages in
    let told_on = subst IsTrue (sym c.in_ok-load.ensures.call.continues.told) told in
    let same = c.in_ok-load.ensures.keeps.current told in
    let is = c.in_ok-load.ensures.bytes told in
    let spare = c.copy_from.ensures.value ∙ is ∙ ap (λ (lines : Lines). bytes_of lines c.args.page) (sym same) in
    if_both c.store.result
    (λ outcome stores outcome_is. leaf_edits e old.current first.current new.current c.args.page first.count c.load.new.work.page c.leaf_delete-fit.new.page c.load.new.work.right c.leaf_delete-fit.result outcome (row_delete c.args.key) c.requires.level
    (c.in_ok-load.ensures.call.continues.count ∙ sym c.requires.pages) same is (c.leaf_delete-fit.ensures.fits c.load.new.work.right) outcome_is stores)
    (c.store.ensures.stores told_on spare) c.store.ensures.is
