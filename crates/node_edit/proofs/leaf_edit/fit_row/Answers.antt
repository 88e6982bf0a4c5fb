use Rattle.std.proofs.Common.{◌≡◌, true, ◌+◌, ◌*◌, List, arith, subst, ap, sym, length}
use Rattle.std.specs.List.{insert}
use Rattle.std.proofs.lemmas.List.Edits.{length-insert}
use Rattle.ssd_model.specs.Page.{Same}
use Rattle.rows.specs.Rows.{Row, keys}
use Rattle.page_format.specs.Node.{leaf_rows, entry_count}
use Rattle.node_edit.specs.Edit.{Fits}
use Rattle.node_edit.specs.Record.{FitsLeaf}
use Rattle.node_edit.proofs.LeafLaws.{wide_order, few_lines}
use Rattle.node_edit.proofs.leaf_edit.fit_row.Goals as goal

pub leaf_insert-requires-clause-order : goal.leaf_insert-requires-clause-order
leaf_insert-requires-clause-order c = wide_order c.args.expect.now.low c.args.expect.now.high (keys (insert (leaf_rows c.args.page.now) c.args.at (c.args.key, c.args.value.now))) c.top_of.ensures.top c.requires.order

pub returns-clause-fits : goal.returns-clause-fits
returns-clause-fits c = λ right.
    subst (λ (rows : List Row). Fits leaf_rows c.args.expect.now c.leaf_insert.new.page right rows c.leaf_fit.result) c.leaf_insert.ensures.rows (c.leaf_fit.ensures.fits right)

pub returns-clause-few : goal.returns-clause-few
returns-clause-few c = λ short base size same.
    let count : entry_count c.leaf_insert.new.page ≡ entry_count c.args.page.now + 1 =
    omega (arith, c.open_leaf.ensures.count, c.open_leaf.ensures.entries, c.open_leaf-2.ensures.count, c.open_leaf-2.ensures.entries, ap length c.leaf_insert.ensures.rows, length-insert (leaf_rows c.args.page.now) c.args.at (c.args.key, c.args.value.now) c.requires.at) in
    few_lines base c.args.page.now c.leaf_insert.new.page (8 + length c.args.value.now) size c.open_leaf-2.ensures.size c.leaf_insert.ensures.leaf (c.leaf_fit.ensures.short short) (omega (arith, c.requires.few))
    c.open_leaf.ensures.sound.heap (subst (λ n. Same (64 + 4 * n) 4096 base c.args.page.now) (sym count) same) c.leaf_insert.ensures.rest c.leaf_insert.ensures.placed

pub returns-clause-whole : goal.returns-clause-whole
returns-clause-whole c = λ fits. c.leaf_fit.ensures.whole (subst (λ (rows : List Row). FitsLeaf (c.args.expect.now.root ≡ true) rows) (sym c.leaf_insert.ensures.rows) fits)
