use Rattle.std.proofs.Common.{rules, refl, IfErr, subst}
use Rattle.page_alloc.specs.Stops.{IsFault}
use Rattle.bplus_tree.proofs.RootLaws.{root_stands}
use Rattle.rows.specs.Rows.{row_delete}
use Rattle.bplus_tree.specs.declared.outcome.Outcome.TheVariants.{Whole, Short, Alone}
use Rattle.bplus_tree.proofs.Storing.{root_edited}
use Rattle.bplus_tree.proofs.PathLaws.{at_root}
use Rattle.bplus_tree.proofs.UnderLaws.{root_pages}
use Rattle.bplus_tree.specs.LineCosts.{keeps_without, delete_lines}
use Rattle.bplus_tree.proofs.LineCostLaws.{goes_root}
use Rattle.bplus_tree.proofs.tree.delete_row.Goals as goal

pub returns-in-Alone-clause-rows : goal.returns-in-Alone-clause-rows
returns-in-Alone-clause-rows g c = λ told.
    let root = c.args.root.now in
    let old = g.P.Pages.standing c.args.pages.now in
    let new = g.P.Pages.standing c.delete_in.new.pages in
    root_edited old.count old.current new.current root (Alone c.in-Alone.child) (row_delete c.args.key) (λ k r e. cc) c.requires.some_levels c.requires.few_levels
    (at_root old.count _ old.current new.current root c.top_of-top.result (Alone c.in-Alone.child) (row_delete c.args.key) c.page_count.ensures.count c.top_of-top.ensures (rw c.in-Alone.is at (c.in_ok-child.ensures.edits told)))

pub returns-in-Whole-clause-rows : goal.returns-in-Whole-clause-rows
returns-in-Whole-clause-rows g c = λ told.
    let root = c.args.root.now in
    let old = g.P.Pages.standing c.args.pages.now in
    let new = g.P.Pages.standing c.delete_in.new.pages in
    root_edited old.count old.current new.current root Whole (row_delete c.args.key) (λ k r e. cc) c.requires.some_levels c.requires.few_levels
    (at_root old.count _ old.current new.current root c.top_of-top.result Whole (row_delete c.args.key) c.page_count.ensures.count c.top_of-top.ensures (rw c.in-Whole.is at (c.in_ok-child.ensures.edits told)))

pub returns-in-Short-clause-rows : goal.returns-in-Short-clause-rows
returns-in-Short-clause-rows g c = λ told.
    let root = c.args.root.now in
    let old = g.P.Pages.standing c.args.pages.now in
    let new = g.P.Pages.standing c.delete_in.new.pages in
    root_edited old.count old.current new.current root Short (row_delete c.args.key) (λ k r e. cc) c.requires.some_levels c.requires.few_levels
    (at_root old.count _ old.current new.current root c.top_of-top.result Short (row_delete c.args.key) c.page_count.ensures.count c.top_of-top.ensures (rw c.in-Short.is at (c.in_ok-child.ensures.edits told)))

pub returns-in_err-child-clause-sound : goal.returns-in_err-child-clause-sound
returns-in_err-child-clause-sound g c = λ told rows used free stands.
    let old = g.P.Pages.standing c.args.pages.now in
    let h : IfErr c.delete_in.result IsFault =
    c.delete_in.ensures.sound told free (root_stands old.count _ old.current c.args.root.now c.top_of-top.result rows used free c.page_count.ensures.count c.top_of-top.ensures stands) stands.header in
    let k = subst (λ r. IfErr r IsFault) c.in_err-child.was h in
    search (rules, k)

pub returns-in-Whole-clause-by_lines : goal.returns-in-Whole-clause-by_lines
returns-in-Whole-clause-by_lines g c = λ told rows used rooted ok.
    let w = goes_root c.args.root.now c.top_of-top.result _ c.args.key (keeps_without c.args.key) delete_lines (g.P.Pages.standing c.args.pages.now) (g.P.Pages.standing c.delete_in.new.pages) Whole c.page_count.ensures.count c.top_of-top.ensures c.requires.some_levels
    (rw c.in-Whole.is at c.in_ok-child.ensures.by_lines) told rows used rooted ok in
    w.1

pub returns-in-Short-clause-by_lines : goal.returns-in-Short-clause-by_lines
returns-in-Short-clause-by_lines g c = λ told rows used rooted ok.
    let w = goes_root c.args.root.now c.top_of-top.result _ c.args.key (keeps_without c.args.key) delete_lines (g.P.Pages.standing c.args.pages.now) (g.P.Pages.standing c.delete_in.new.pages) Short c.page_count.ensures.count c.top_of-top.ensures c.requires.some_levels
    (rw c.in-Short.is at c.in_ok-child.ensures.by_lines) told rows used rooted ok in
    let never = w.0 in absurd (cc)

pub returns-in-Alone-clause-by_lines : goal.returns-in-Alone-clause-by_lines
returns-in-Alone-clause-by_lines g c = λ told rows used rooted ok.
    let w = goes_root c.args.root.now c.top_of-top.result _ c.args.key (keeps_without c.args.key) delete_lines (g.P.Pages.standing c.args.pages.now) (g.P.Pages.standing c.delete_in.new.pages) (Alone c.in-Alone.child) c.page_count.ensures.count c.top_of-top.ensures c.requires.some_levels
    (rw c.in-Alone.is at c.in_ok-child.ensures.by_lines) told rows used rooted ok in
    let never = w.0 in absurd (cc)

pub returns-in-Cut-clause-by_lines : goal.returns-in-Cut-clause-by_lines
returns-in-Cut-clause-by_lines g c = λ told rows used rooted ok.
    let never = c.in_ok-child.ensures.uncut _ _ c.in-Cut.is in absurd never

pub returns-in-Whole-clause-pages : goal.returns-in-Whole-clause-pages
returns-in-Whole-clause-pages g c = λ told.
    let old = g.P.Pages.standing c.args.pages.now in
    let new = g.P.Pages.standing c.delete_in.new.pages in
    root_pages old.count _ c.args.key old.current new.current new.current c.args.root.now _ c.top_of-top.result Whole (row_delete c.args.key) c.page_count.ensures.count c.top_of-top.ensures
    (rw c.in-Whole.is at (c.in_ok-child.ensures.edits told)) (rw c.in-Whole.is at (c.in_ok-child.ensures.under told)) (λ rest is_free. (refl, refl))

pub returns-in-Short-clause-pages : goal.returns-in-Short-clause-pages
returns-in-Short-clause-pages g c = λ told.
    let old = g.P.Pages.standing c.args.pages.now in
    let new = g.P.Pages.standing c.delete_in.new.pages in
    root_pages old.count _ c.args.key old.current new.current new.current c.args.root.now _ c.top_of-top.result Short (row_delete c.args.key) c.page_count.ensures.count c.top_of-top.ensures
    (rw c.in-Short.is at (c.in_ok-child.ensures.edits told)) (rw c.in-Short.is at (c.in_ok-child.ensures.under told)) (λ rest is_free. (refl, refl))

pub returns-in-Alone-clause-pages : goal.returns-in-Alone-clause-pages
returns-in-Alone-clause-pages g c = λ told.
    let old = g.P.Pages.standing c.args.pages.now in
    let new = g.P.Pages.standing c.delete_in.new.pages in
    root_pages old.count _ c.args.key old.current new.current new.current c.args.root.now _ c.top_of-top.result (Alone c.in-Alone.child) (row_delete c.args.key) c.page_count.ensures.count c.top_of-top.ensures
    (rw c.in-Alone.is at (c.in_ok-child.ensures.edits told)) (rw c.in-Alone.is at (c.in_ok-child.ensures.under told)) (λ rest is_free. (refl, refl))

pub returns-in-Cut-clause-pages : goal.returns-in-Cut-clause-pages
returns-in-Cut-clause-pages g c = λ told.
    let never = c.in_ok-child.ensures.uncut _ _ c.in-Cut.is in absurd never
