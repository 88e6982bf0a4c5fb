use Rattle.std.proofs.Common.{rules, length, ◌≤◌, ℕ, List, arith, sym, subst, IsTrue, true, ◌≡◌, ap, ◌∙◌}
use Rattle.line_pages.specs.Lines.{Lines}
use Rattle.line_pages.specs.Bytes.{bytes_of}
use Rattle.rows.specs.Rows.{row_put}
use Rattle.page_alloc.specs.Written.{lines_changed}
use Rattle.page_alloc.proofs.WrittenLaws.{changed_most}
use Rattle.bplus_tree.proofs.Storing.{spent_most, leaf_spent, leaf_edits, if_both}
use Rattle.page_format.specs.Node.{leaf_rows}
use Rattle.node_edit.specs.Record.{FitsLeaf, HoldsLength}
use Rattle.bplus_tree.specs.PageChanges.{CutsLeaf}
use Rattle.bplus_tree.proofs.PageLaws.{leaf_cuts}
use Rattle.bplus_tree.proofs.SameLength.{uncut_whole, outcome_whole, record_written}
use Rattle.bplus_tree.proofs.LineChangeLaws.{page_changed}
use Rattle.page_alloc.proofs.LackLaws.{stored_sound}
use Rattle.std.specs.Prelude.{IfErr, IfOk}
use Rattle.bplus_tree.specs.Full.{CutsFor, IsNeeded, IsOverfull}
use Rattle.bplus_tree.proofs.FullLaws.{fault_needed, cuts_of, needed_of, leaf_overfull}
use Rattle.bplus_tree.proofs.change.put_leaf.Goals as goal

pub store-requires-clause-room : goal.store-requires-clause-room
store-requires-clause-room g c =
    let most = spent_most (lines_changed c.copy_from.new.self c.leaf_put-fit.new.left) c.leaf_put-fit.result (changed_most c.copy_from.new.self c.leaf_put-fit.new.left) in
    omega (arith, most, c.requires.room, c.in_ok-load.ensures.keeps.room)

pub returns-clause-room : goal.returns-clause-room
returns-clause-room g c =
    leaf_spent _ _ _ _ (lines_changed c.copy_from.new.self c.leaf_put-fit.new.left) c.leaf_put-fit.result c.store.result c.in_ok-load.ensures.keeps.room (changed_most c.copy_from.new.self c.leaf_put-fit.new.left)
    (λ short. subst (λ (b : List ℕ). lines_changed b c.leaf_put-fit.new.left ≤ 33) (sym c.copy_from.ensures.value) (c.leaf_put-fit.ensures.few short)) c.store.ensures.is c.store.ensures.room

pub returns-clause-edits : goal.returns-clause-edits
returns-clause-edits g c = λ told.
    let e = c.args.expect.now in
    let old = g.P.Pages.standing c.args.pages.now in
    let first = g.P.Pages.standing c.load.new.pages in
    let new = g.P.Pages.standing c.store.new.pages in
    let told_on = subst IsTrue (sym c.in_ok-load.ensures.call.continues.told) told in
    let same = c.in_ok-load.ensures.keeps.current told in
    let is = c.in_ok-load.ensures.bytes told in
    let spare = c.copy_from.ensures.value ∙ is ∙ ap (λ (lines : Lines). bytes_of lines c.args.page) (sym same) in
    if_both c.store.result
    (λ outcome stores outcome_is. leaf_edits e old.current first.current new.current c.args.page first.count c.load.new.work.page c.leaf_put-fit.new.left c.leaf_put-fit.new.right c.leaf_put-fit.result outcome (row_put c.args.key c.args.value.now) c.requires.level
    (c.in_ok-load.ensures.call.continues.count ∙ sym c.requires.pages) same is c.leaf_put-fit.ensures.fits outcome_is stores)
    (c.store.ensures.stores told_on spare) c.store.ensures.is

pub returns-clause-again : goal.returns-clause-again
returns-clause-again g c = λ told holds.
    let old = g.P.Pages.standing c.args.pages.now in
    let first = g.P.Pages.standing c.load.new.pages in
    let new = g.P.Pages.standing c.store.new.pages in
    let is = c.in_ok-load.ensures.bytes told in
    let fit = c.leaf_put-fit.ensures.again (subst (λ (b : List ℕ). HoldsLength c.args.key (length c.args.value.now) (leaf_rows b)) (sym is) holds) in
    record_written c.args.page c.args.key c.copy_from.new.self c.load.new.work.page c.leaf_put-fit.new.left old first new c.store.result c.in_ok-load.ensures.reads c.copy_from.ensures.value is fit.1
    (c.store.ensures.touches (uncut_whole c.leaf_put-fit.result fit.0))

pub returns-clause-whole : goal.returns-clause-whole
returns-clause-whole g c = λ told holds.
    let old = g.P.Pages.standing c.args.pages.now in
    let is = c.in_ok-load.ensures.bytes told in
    let fit = c.leaf_put-fit.ensures.again (subst (λ (b : List ℕ). HoldsLength c.args.key (length c.args.value.now) (leaf_rows b)) (sym is) holds) in
    outcome_whole (g.P.Pages.standing c.load.new.pages).count c.leaf_put-fit.result c.store.result fit.0 c.store.ensures.is

pub returns-clause-sound : goal.returns-clause-sound
returns-clause-sound g c = λ told free well is_free part fits.
    let old = g.P.Pages.standing c.args.pages.now in
    let first = g.P.Pages.standing c.load.new.pages in
    let told_on = subst IsTrue (sym c.in_ok-load.ensures.call.continues.told) told in
    let same = c.in_ok-load.ensures.keeps.current told in
    let spare = c.copy_from.ensures.value ∙ c.in_ok-load.ensures.bytes told ∙ ap (λ (lines : Lines). bytes_of lines c.args.page) (sym same) in
    stored_sound old.count first.count old.current first.current c.args.page c.copy_from.new.self free c.store.result c.in_ok-load.ensures.call.continues.count same spare is_free part fits (c.store.ensures.sound told_on)

pub returns-clause-lines : goal.returns-clause-lines
returns-clause-lines g c = λ told fits.
    let old = g.P.Pages.standing c.args.pages.now in
    let first = g.P.Pages.standing c.load.new.pages in
    let new = g.P.Pages.standing c.store.new.pages in
    let told_on = subst IsTrue (sym c.in_ok-load.ensures.call.continues.told) told in
    let same = c.in_ok-load.ensures.keeps.current told in
    let is = c.in_ok-load.ensures.bytes told in
    let spare = c.copy_from.ensures.value ∙ is ∙ ap (λ (lines : Lines). bytes_of lines c.args.page) (sym same) in
    let whole = c.leaf_put-fit.ensures.whole (subst (λ (b : List ℕ). FitsLeaf (c.args.expect.now.root ≡ true) (row_put c.args.key c.args.value.now (leaf_rows b))) (sym is) fits) in
    let uncut = uncut_whole c.leaf_put-fit.result whole in
    page_changed c.args.page c.copy_from.new.self c.load.new.work.page c.leaf_put-fit.new.left old first new c.leaf_put-fit.result c.store.result c.in_ok-load.ensures.reads same c.in_ok-load.ensures.keeps.room
    spare whole (c.store.ensures.touches uncut) (c.store.ensures.shows told_on spare uncut) c.store.ensures.room

pub returns-clause-fills : goal.returns-clause-fills
returns-clause-fills g c = λ told fits.
    let is = c.in_ok-load.ensures.bytes told in
    let whole = c.leaf_put-fit.ensures.whole (subst (λ (b : List ℕ). FitsLeaf (c.args.expect.now.root ≡ true) (row_put c.args.key c.args.value.now (leaf_rows b))) (sym is) fits) in
    outcome_whole (g.P.Pages.standing c.load.new.pages).count c.leaf_put-fit.result c.store.result whole c.store.ensures.is

pub returns-clause-cuts : goal.returns-clause-cuts
returns-clause-cuts g c = λ told.
    let first = g.P.Pages.standing c.load.new.pages in
    let rows = row_put c.args.key c.args.value.now (leaf_rows c.load.new.work.page) in
    let over = leaf_overfull c.args.expect.now c.leaf_put-fit.new.left c.leaf_put-fit.new.right rows c.leaf_put-fit.result c.byte.ensures.size c.requires.level c.leaf_put-fit.ensures.fits c.leaf_put-fit.ensures.whole in
    subst (λ (b : List ℕ). IfOk c.store.result (CutsFor (IsOverfull (row_put c.args.key c.args.value.now (leaf_rows b))))) (c.in_ok-load.ensures.bytes told)
    (cuts_of first.count c.leaf_put-fit.result (IsOverfull rows) c.store.result over c.store.ensures.is)

pub returns-in_err-load-clause-needed : goal.returns-in_err-load-clause-needed
returns-in_err-load-clause-needed g c = λ told well.
    let old = g.P.Pages.standing c.args.pages.now in
    let Over = IsOverfull (row_put c.args.key c.args.value.now (leaf_rows (bytes_of old.current c.args.page))) in
    let h : IfErr c.load.result (IsNeeded Over ⊥) = fault_needed Over ⊥ c.load.result (c.load.ensures.sound told well) in
    let k = subst (λ r. IfErr r (IsNeeded Over ⊥)) c.in_err-load.was h in
    search (rules, k)

pub returns-clause-needed : goal.returns-clause-needed
returns-clause-needed g c = λ told well.
    let rows = row_put c.args.key c.args.value.now (leaf_rows c.load.new.work.page) in
    let over = leaf_overfull c.args.expect.now c.leaf_put-fit.new.left c.leaf_put-fit.new.right rows c.leaf_put-fit.result c.byte.ensures.size c.requires.level c.leaf_put-fit.ensures.fits c.leaf_put-fit.ensures.whole in
    subst (λ (b : List ℕ). IfErr c.store.result (IsNeeded (IsOverfull (row_put c.args.key c.args.value.now (leaf_rows b))) ⊥)) (c.in_ok-load.ensures.bytes told)
    (needed_of c.leaf_put-fit.result (IsOverfull rows) ⊥ c.store.result over c.store.ensures.plain c.store.ensures.not_full)

pub returns-clause-parts : goal.returns-clause-parts
returns-clause-parts g c = λ told free is_free part within.
    let old = g.P.Pages.standing c.args.pages.now in
    let first = g.P.Pages.standing c.load.new.pages in
    let new = g.P.Pages.standing c.store.new.pages in
    let told_on = subst IsTrue (sym c.in_ok-load.ensures.call.continues.told) told in
    let same = c.in_ok-load.ensures.keeps.current told in
    let is = c.in_ok-load.ensures.bytes told in
    let spare = c.copy_from.ensures.value ∙ is ∙ ap (λ (lines : Lines). bytes_of lines c.args.page) (sym same) in
    let rows = row_put c.args.key c.args.value.now (leaf_rows c.load.new.work.page) in
    subst (λ (b : List ℕ). IfOk c.store.result (CutsLeaf (row_put c.args.key c.args.value.now (leaf_rows b)) new.current c.args.page)) is
    (if_both c.store.result
    (λ outcome stores outcome_is. leaf_cuts old.count first.count old.current first.current new.current c.args.page rows c.leaf_put-fit.new.left c.leaf_put-fit.new.right free c.leaf_put-fit.result outcome c.in_ok-load.ensures.call.continues.count same
    c.leaf_put-fit.ensures.parts outcome_is stores is_free part within)
    (c.store.ensures.stores told_on spare) c.store.ensures.is)
