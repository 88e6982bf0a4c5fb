use Rattle.std.proofs.Common.{rules, ◌≡◌, refl, IfErr, IsTrue, sym, subst, ◌∙◌}
use Rattle.line_pages.specs.Lines.{Lines}
use Rattle.page_alloc.specs.Space.{FitsHeader}
use Rattle.page_alloc.specs.Stops.{IsFault}
use Rattle.bplus_tree.proofs.LackLaws.{pair_well, stays_above}
use Rattle.bplus_tree.specs.Edit.{Rewritten}
use Rattle.bplus_tree.proofs.Editing.{mended_by}
use Rattle.bplus_tree.proofs.PageLaws.{mends_pages}
use Rattle.bplus_tree.proofs.Storing.{if_ok}
use Rattle.bplus_tree.proofs.change.mend.Goals as goal

pub returns-clause-mends : goal.returns-clause-mends
returns-clause-mends g c = λ told.
    let e = c.args.expect.now in
    let old = g.P.Pages.standing c.args.pages.now in
    let first = g.P.Pages.standing c.load.new.pages in
    let mid = g.P.Pages.standing c.join.new.pages in
    let new = g.P.Pages.standing c.rewrite.new.pages in
    let told_first = subst IsTrue (sym c.in_ok-load.ensures.call.continues.told) told in
    let told_mid = subst IsTrue (sym c.in_ok-cut.ensures.call.continues.told) told_first in
    let same = c.in_ok-load.ensures.keeps.current told in
    let count : mid.count ≡ e.pages = c.in_ok-cut.ensures.call.continues.count ∙ c.in_ok-load.ensures.call.continues.count ∙ sym c.requires.pages in
    if_ok c.rewrite.result
    (λ outcome rewritten. mended_by e old.current first.current mid.current new.current c.args.page c.args.key e.pages c.pair_of-pair.result c.in_ok-cut.cut outcome c.load.new.work.page refl same (c.in_ok-load.ensures.bytes told) c.pair_of-pair.ensures.pair
    (c.in_ok-cut.ensures.joins told_first) (subst (λ n. Rewritten n mid.current new.current c.args.page e c.pair_of-pair.result c.in_ok-cut.cut outcome) count rewritten))
    (c.rewrite.ensures.rewrites told_mid)

pub returns-clause-pages : goal.returns-clause-pages
returns-clause-pages g c = λ told.
    let e = c.args.expect.now in
    let old = g.P.Pages.standing c.args.pages.now in
    let first = g.P.Pages.standing c.load.new.pages in
    let mid = g.P.Pages.standing c.join.new.pages in
    let new = g.P.Pages.standing c.rewrite.new.pages in
    let told_first = subst IsTrue (sym c.in_ok-load.ensures.call.continues.told) told in
    let told_mid = subst IsTrue (sym c.in_ok-cut.ensures.call.continues.told) told_first in
    let same = c.in_ok-load.ensures.keeps.current told in
    let count : mid.count ≡ e.pages = c.in_ok-cut.ensures.call.continues.count ∙ c.in_ok-load.ensures.call.continues.count ∙ sym c.requires.pages in
    if_ok c.rewrite.result
    (λ outcome rewritten. mends_pages e old.current first.current mid.current new.current c.args.page c.args.key e.pages c.pair_of-pair.result c.in_ok-cut.cut outcome c.load.new.work.page refl same (c.in_ok-load.ensures.bytes told) c.pair_of-pair.ensures.pair
    (c.in_ok-cut.ensures.pages told_first) (subst (λ n. Rewritten n mid.current new.current c.args.page e c.pair_of-pair.result c.in_ok-cut.cut outcome) count rewritten))
    (c.rewrite.ensures.rewrites told_mid)

pub returns-in_err-cut-clause-sound : goal.returns-in_err-cut-clause-sound
returns-in_err-cut-clause-sound g c = λ told level free mendable fits.
    let e = c.args.expect.now in
    let old = g.P.Pages.standing c.args.pages.now in
    let first = g.P.Pages.standing c.load.new.pages in
    let told_first = subst IsTrue (sym c.in_ok-load.ensures.call.continues.told) told in
    let same = c.in_ok-load.ensures.keeps.current told in
    let well = pair_well e old.current first.current c.args.page c.args.key level free c.pair_of-pair.result c.load.new.work.page same (c.in_ok-load.ensures.bytes told) c.pair_of-pair.ensures.pair mendable in
    let header = subst (λ n. FitsHeader n (first.current 0 0)) (sym c.requires.pages) (subst (λ (lines : Lines). FitsHeader old.count (lines 0 0)) (sym same) fits) in
    let h : IfErr c.join.result IsFault = c.join.ensures.sound told_first well.left well.right header in
    let k = subst (λ r. IfErr r IsFault) c.in_err-cut.was h in
    search (rules, k)

pub returns-clause-sound : goal.returns-clause-sound
returns-clause-sound g c = λ told level free mendable fits.
    let e = c.args.expect.now in
    let old = g.P.Pages.standing c.args.pages.now in
    let first = g.P.Pages.standing c.load.new.pages in
    let mid = g.P.Pages.standing c.join.new.pages in
    let told_first = subst IsTrue (sym c.in_ok-load.ensures.call.continues.told) told in
    let told_mid = subst IsTrue (sym c.in_ok-cut.ensures.call.continues.told) told_first in
    let same = c.in_ok-load.ensures.keeps.current told in
    let count : mid.count ≡ e.pages = c.in_ok-cut.ensures.call.continues.count ∙ c.in_ok-load.ensures.call.continues.count ∙ sym c.requires.pages in
    let above = stays_above e old.current first.current mid.current c.args.page c.args.key level free c.pair_of-pair.result c.in_ok-cut.cut c.load.new.work.page same (c.in_ok-load.ensures.bytes told) c.pair_of-pair.ensures.pair mendable
    (c.in_ok-cut.ensures.joins told_first) (subst (λ n. FitsHeader n (old.current 0 0)) (sym c.requires.pages) fits) in
    c.rewrite.ensures.sound told_mid above.well (subst (λ n. FitsHeader n (mid.current 0 0)) (sym count) above.header)
