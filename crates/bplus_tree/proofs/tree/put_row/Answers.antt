use Rattle.std.proofs.Common.{rules, length, IfErr, ◌≡◌, ◌≢◌, ◌≤◌, ◌-◌, ℕ, arith, refl, IsTrue, sym, subst}
use Rattle.rows.specs.Rows.{row_put}
use Rattle.bplus_tree.specs.declared.path.Node.{Node}
use Rattle.bplus_tree.specs.declared.outcome.Outcome.TheVariants.{Whole, Short, Cut, Alone}
use Rattle.node_edit.specs.Edit.{IsNewRoot}
use Rattle.bplus_tree.specs.Edit.{StaysBelow}
use Rattle.page_alloc.specs.Moves.{Takes}
use Rattle.bplus_tree.proofs.Storing.{root_edited, root_cut}
use Rattle.bplus_tree.proofs.PathLaws.{at_root}
use Rattle.bplus_tree.proofs.PageLaws.{root_over}
use Rattle.bplus_tree.proofs.UnderLaws.{root_pages}
use Rattle.bplus_tree.specs.Damage.{IsLack}
use Rattle.page_alloc.specs.Stops.{pages_at_hand}
use Rattle.bplus_tree.proofs.LackLaws.{fault_lack}
use Rattle.bplus_tree.proofs.RootLaws.{root_stands, put_lack, take_lack}
use Rattle.bplus_tree.proofs.LeafOfKey.{root_again}
use Rattle.bplus_tree.proofs.FreshLaws.{root_fresh}
use Rattle.bplus_tree.proofs.LineChangeLaws.{root_lines}
use Rattle.bplus_tree.specs.LineChanges.{leaf_after}
use Rattle.leaf_lines.specs.Put.{fits_beside}
use Rattle.bplus_tree.specs.LineCosts.{put_lines}
use Rattle.bplus_tree.proofs.LineCostLaws.{goes_root}
use Rattle.bplus_tree.specs.Full.{NamesRoot, MustCut, IsOverfull, IsWayFull}
use Rattle.bplus_tree.proofs.FullLaws.{fault_not_full, not_full_names, fault_needed}
use Rattle.bplus_tree.proofs.FullWayLaws.{root_names, root_needed, take_needed}
use Rattle.bplus_tree.proofs.tree.put_row.Goals as goal

few_levels : (levels : ℕ) → levels ≤ 4 → levels - 1 ≢ 3 → levels ≤ 3
few_levels levels few below = omega (arith, few, below)

pub returns-in-Alone-clause-rows : goal.returns-in-Alone-clause-rows
returns-in-Alone-clause-rows g c = λ told.
    let root = c.args.root.now in
    let old = g.P.Pages.standing c.args.pages.now in
    let new = g.P.Pages.standing c.put_in.new.pages in
    root_edited old.count old.current new.current root (Alone c.in-Alone.child) (row_put c.args.key c.args.value.now) (λ k r e. cc) c.requires.some_levels c.requires.few_levels
    (at_root old.count _ old.current new.current root c.top_of-top.result (Alone c.in-Alone.child) (row_put c.args.key c.args.value.now) c.page_count-count.ensures.count c.top_of-top.ensures (rw c.in-Alone.is at (c.in_ok-change.ensures.edits told)))

pub returns-in-Whole-clause-rows : goal.returns-in-Whole-clause-rows
returns-in-Whole-clause-rows g c = λ told.
    let root = c.args.root.now in
    let old = g.P.Pages.standing c.args.pages.now in
    let new = g.P.Pages.standing c.put_in.new.pages in
    root_edited old.count old.current new.current root Whole (row_put c.args.key c.args.value.now) (λ k r e. cc) c.requires.some_levels c.requires.few_levels
    (at_root old.count _ old.current new.current root c.top_of-top.result Whole (row_put c.args.key c.args.value.now) c.page_count-count.ensures.count c.top_of-top.ensures (rw c.in-Whole.is at (c.in_ok-change.ensures.edits told)))

pub returns-in-Short-clause-rows : goal.returns-in-Short-clause-rows
returns-in-Short-clause-rows g c = λ told.
    let root = c.args.root.now in
    let old = g.P.Pages.standing c.args.pages.now in
    let new = g.P.Pages.standing c.put_in.new.pages in
    root_edited old.count old.current new.current root Short (row_put c.args.key c.args.value.now) (λ k r e. cc) c.requires.some_levels c.requires.few_levels
    (at_root old.count _ old.current new.current root c.top_of-top.result Short (row_put c.args.key c.args.value.now) c.page_count-count.ensures.count c.top_of-top.ensures (rw c.in-Short.is at (c.in_ok-change.ensures.edits told)))

pub returns-in_ok-write_new-in-Cut-clause-rows : goal.returns-in_ok-write_new-in-Cut-clause-rows
returns-in_ok-write_new-in-Cut-clause-rows g c = λ told.
    let root = c.args.root.now in
    let old = g.P.Pages.standing c.args.pages.now in
    let mid = g.P.Pages.standing c.put_in.new.pages in
    let a = g.P.Pages.standing c.take.new.pages in
    let new = g.P.Pages.standing c.write_new.new.pages in
    let step = row_put c.args.key c.args.value.now in
    let told_mid = subst IsTrue (sym c.in_ok-change.ensures.call.continues.told) told in
    let told_a = subst IsTrue (sym c.in_ok-page-in-Cut.ensures.call.continues.told) told_mid in
    let stays = subst (λ (p : Node). StaysBelow p.expect (Cut c.in-Cut.separator c.in-Cut.right)) c.top_of-top.ensures (rw c.in-Cut.is at c.in_ok-change.ensures.below) in
    root_cut old.count old.current mid.current a.current new.current root c.in_ok-page-in-Cut.page c.in-Cut.separator c.in-Cut.right c.root_of.new.page step c.requires.some_levels
    (few_levels root.levels c.requires.few_levels (stays refl))
    (at_root old.count _ old.current mid.current root c.top_of-top.result (Cut c.in-Cut.separator c.in-Cut.right) step c.page_count-count.ensures.count c.top_of-top.ensures (rw c.in-Cut.is at (c.in_ok-change.ensures.edits told)))
    (subst (λ n. Takes n mid.current a.current c.in_ok-page-in-Cut.page) c.in_ok-change.ensures.call.continues.count (c.in_ok-page-in-Cut.ensures.moves told_mid))
    (c.in_ok-write_new-in-Cut.ensures.writes told_a)
    (subst (λ n. IsNewRoot c.root_of.new.page root.levels root.page c.in-Cut.separator c.in-Cut.right n) c.page_count-count.ensures.count c.root_of.ensures.is)

pub returns-in_err-change-clause-sound : goal.returns-in_err-change-clause-sound
returns-in_err-change-clause-sound g c = λ told rows used free stands.
    let old = g.P.Pages.standing c.args.pages.now in
    let root = c.args.root.now in
    let lack = IsLack (pages_at_hand old.count old.current used free) (length (row_put c.args.key c.args.value.now rows)) (length rows) in
    let at = root_stands old.count _ old.current root c.top_of-top.result rows used free c.page_count-count.ensures.count c.top_of-top.ensures stands in
    let h : IfErr c.put_in.result lack =
    put_lack old.count _ old.current root c.top_of-top.result rows used free c.args.key c.args.value.now c.put_in.result c.page_count-count.ensures.count c.top_of-top.ensures stands (c.put_in.ensures.sound told free at stands.header) in
    let k = subst (λ r. IfErr r lack) c.in_err-change.was h in
    search (rules, k)

pub returns-in_err-page-in-Cut-clause-sound : goal.returns-in_err-page-in-Cut-clause-sound
returns-in_err-page-in-Cut-clause-sound g c = λ told rows used free stands.
    let old = g.P.Pages.standing c.args.pages.now in
    let mid = g.P.Pages.standing c.put_in.new.pages in
    let root = c.args.root.now in
    let lack = IsLack (pages_at_hand old.count old.current used free) (length (row_put c.args.key c.args.value.now rows)) (length rows) in
    let below = c.in_ok-change.ensures in
    let told_mid = subst IsTrue (sym below.call.continues.told) told in
    let h : IfErr c.take.result lack =
    take_lack old.count _ mid.count old.current mid.current root c.top_of-top.result rows used free c.args.key c.args.value.now c.in-Cut.separator c.in-Cut.right c.take.result c.page_count-count.ensures.count c.top_of-top.ensures below.call.continues.count
    stands (rw c.in-Cut.is at (below.edits told)) (rw c.in-Cut.is at (below.takes told)) (c.take.ensures.sound told_mid) in
    let k = subst (λ r. IfErr r lack) c.in_err-page-in-Cut.was h in
    search (rules, k)

pub returns-in_err-write_new-in-Cut-clause-sound : goal.returns-in_err-write_new-in-Cut-clause-sound
returns-in_err-write_new-in-Cut-clause-sound g c = λ told rows used free stands.
    let old = g.P.Pages.standing c.args.pages.now in
    let lack = IsLack (pages_at_hand old.count old.current used free) (length (row_put c.args.key c.args.value.now rows)) (length rows) in
    let h : IfErr c.write_new.result lack =
    fault_lack (pages_at_hand old.count old.current used free) (length (row_put c.args.key c.args.value.now rows)) (length rows) c.write_new.result c.write_new.ensures.sound in
    let k = subst (λ r. IfErr r lack) c.in_err-write_new-in-Cut.was h in
    search (rules, k)

pub returns-in-Whole-clause-again : goal.returns-in-Whole-clause-again
returns-in-Whole-clause-again g c = λ told rows used rooted holds.
    let w = root_again c.args.root.now c.top_of-top.result _ c.args.key (length c.args.value.now) (g.P.Pages.standing c.args.pages.now) (g.P.Pages.standing c.put_in.new.pages) Whole c.page_count-count.ensures.count c.top_of-top.ensures
    (rw c.in-Whole.is at c.in_ok-change.ensures.again) told rows used rooted holds in
    w.1

pub returns-in-Short-clause-again : goal.returns-in-Short-clause-again
returns-in-Short-clause-again g c = λ told rows used rooted holds.
    let w = root_again c.args.root.now c.top_of-top.result _ c.args.key (length c.args.value.now) (g.P.Pages.standing c.args.pages.now) (g.P.Pages.standing c.put_in.new.pages) Short c.page_count-count.ensures.count c.top_of-top.ensures
    (rw c.in-Short.is at c.in_ok-change.ensures.again) told rows used rooted holds in
    let never = w.0 in absurd (cc)

pub returns-in-Alone-clause-again : goal.returns-in-Alone-clause-again
returns-in-Alone-clause-again g c = λ told rows used rooted holds.
    let w = root_again c.args.root.now c.top_of-top.result _ c.args.key (length c.args.value.now) (g.P.Pages.standing c.args.pages.now) (g.P.Pages.standing c.put_in.new.pages) (Alone c.in-Alone.child) c.page_count-count.ensures.count c.top_of-top.ensures
    (rw c.in-Alone.is at c.in_ok-change.ensures.again) told rows used rooted holds in
    let never = w.0 in absurd (cc)

pub returns-in_ok-write_new-in-Cut-clause-again : goal.returns-in_ok-write_new-in-Cut-clause-again
returns-in_ok-write_new-in-Cut-clause-again g c = λ told rows used rooted holds.
    let w = root_again c.args.root.now c.top_of-top.result _ c.args.key (length c.args.value.now) (g.P.Pages.standing c.args.pages.now) (g.P.Pages.standing c.put_in.new.pages) (Cut c.in-Cut.separator c.in-Cut.right) c.page_count-count.ensures.count c.top_of-top.ensures
    (rw c.in-Cut.is at c.in_ok-change.ensures.again) told rows used rooted holds in
    let never = w.0 in absurd (cc)

pub returns-in-Whole-clause-lines : goal.returns-in-Whole-clause-lines
returns-in-Whole-clause-lines g c = λ told rows used rooted fits.
    let w = root_lines c.args.root.now c.top_of-top.result _ c.args.key c.args.value.now (g.P.Pages.standing c.args.pages.now) (g.P.Pages.standing c.put_in.new.pages) Whole c.page_count-count.ensures.count c.top_of-top.ensures
    (rw c.in-Whole.is at c.in_ok-change.ensures.lines) told rows used rooted fits in
    w.1

pub returns-in-Short-clause-lines : goal.returns-in-Short-clause-lines
returns-in-Short-clause-lines g c = λ told rows used rooted fits.
    let w = root_lines c.args.root.now c.top_of-top.result _ c.args.key c.args.value.now (g.P.Pages.standing c.args.pages.now) (g.P.Pages.standing c.put_in.new.pages) Short c.page_count-count.ensures.count c.top_of-top.ensures
    (rw c.in-Short.is at c.in_ok-change.ensures.lines) told rows used rooted fits in
    let never = w.0 in absurd (cc)

pub returns-in-Alone-clause-lines : goal.returns-in-Alone-clause-lines
returns-in-Alone-clause-lines g c = λ told rows used rooted fits.
    let w = root_lines c.args.root.now c.top_of-top.result _ c.args.key c.args.value.now (g.P.Pages.standing c.args.pages.now) (g.P.Pages.standing c.put_in.new.pages) (Alone c.in-Alone.child) c.page_count-count.ensures.count c.top_of-top.ensures
    (rw c.in-Alone.is at c.in_ok-change.ensures.lines) told rows used rooted fits in
    let never = w.0 in absurd (cc)

pub returns-in_ok-write_new-in-Cut-clause-lines : goal.returns-in_ok-write_new-in-Cut-clause-lines
returns-in_ok-write_new-in-Cut-clause-lines g c = λ told rows used rooted fits.
    let w = root_lines c.args.root.now c.top_of-top.result _ c.args.key c.args.value.now (g.P.Pages.standing c.args.pages.now) (g.P.Pages.standing c.put_in.new.pages) (Cut c.in-Cut.separator c.in-Cut.right) c.page_count-count.ensures.count c.top_of-top.ensures
    (rw c.in-Cut.is at c.in_ok-change.ensures.lines) told rows used rooted fits in
    let never = w.0 in absurd (cc)

pub returns-in-Whole-clause-same_root : goal.returns-in-Whole-clause-same_root
returns-in-Whole-clause-same_root g c = λ told rows used rooted holds. refl

pub returns-in-Short-clause-same_root : goal.returns-in-Short-clause-same_root
returns-in-Short-clause-same_root g c = λ told rows used rooted holds. refl

pub returns-in-Alone-clause-same_root : goal.returns-in-Alone-clause-same_root
returns-in-Alone-clause-same_root g c = λ told rows used rooted holds.
    let w = root_again c.args.root.now c.top_of-top.result _ c.args.key (length c.args.value.now) (g.P.Pages.standing c.args.pages.now) (g.P.Pages.standing c.put_in.new.pages) (Alone c.in-Alone.child) c.page_count-count.ensures.count c.top_of-top.ensures
    (rw c.in-Alone.is at c.in_ok-change.ensures.again) told rows used rooted holds in
    let never = w.0 in absurd (cc)

pub returns-in_ok-write_new-in-Cut-clause-same_root : goal.returns-in_ok-write_new-in-Cut-clause-same_root
returns-in_ok-write_new-in-Cut-clause-same_root g c = λ told rows used rooted holds.
    let w = root_again c.args.root.now c.top_of-top.result _ c.args.key (length c.args.value.now) (g.P.Pages.standing c.args.pages.now) (g.P.Pages.standing c.put_in.new.pages) (Cut c.in-Cut.separator c.in-Cut.right) c.page_count-count.ensures.count c.top_of-top.ensures
    (rw c.in-Cut.is at c.in_ok-change.ensures.again) told rows used rooted holds in
    let never = w.0 in absurd (cc)

pub returns-in_err-change-clause-at_root : goal.returns-in_err-change-clause-at_root
returns-in_err-change-clause-at_root g c =
    let root = c.args.root.now in
    let h : IfErr c.put_in.result (NamesRoot root) = root_names _ root c.top_of-top.result c.put_in.result c.top_of-top.ensures c.requires.some_levels c.put_in.ensures.at_top in
    let k = subst (λ r. IfErr r (NamesRoot root)) c.in_err-change.was h in
    search (rules, k)

pub returns-in_err-page-in-Cut-clause-at_root : goal.returns-in_err-page-in-Cut-clause-at_root
returns-in_err-page-in-Cut-clause-at_root g c =
    let root = c.args.root.now in
    let h : IfErr c.take.result (NamesRoot root) = not_full_names root.page (root.levels ≡ 4) c.take.result c.take.ensures.not_full in
    let k = subst (λ r. IfErr r (NamesRoot root)) c.in_err-page-in-Cut.was h in
    search (rules, k)

pub returns-in_err-write_new-in-Cut-clause-at_root : goal.returns-in_err-write_new-in-Cut-clause-at_root
returns-in_err-write_new-in-Cut-clause-at_root g c =
    let root = c.args.root.now in
    let h : IfErr c.write_new.result (NamesRoot root) = not_full_names root.page (root.levels ≡ 4) c.write_new.result (fault_not_full c.write_new.result c.write_new.ensures.sound) in
    let k = subst (λ r. IfErr r (NamesRoot root)) c.in_err-write_new-in-Cut.was h in
    search (rules, k)

pub returns-in_err-change-clause-needed : goal.returns-in_err-change-clause-needed
returns-in_err-change-clause-needed g c = λ told rows used free stands.
    let old = g.P.Pages.standing c.args.pages.now in
    let root = c.args.root.now in
    let at = root_stands old.count _ old.current root c.top_of-top.result rows used free c.page_count-count.ensures.count c.top_of-top.ensures stands in
    let Must = MustCut old.current (root.levels - 1) root.page c.args.key c.args.value.now in
    let h : IfErr c.put_in.result Must = root_needed _ c.args.key c.args.value.now old.current root c.top_of-top.result c.put_in.result c.top_of-top.ensures (c.put_in.ensures.needed told free at stands.header) in
    let k = subst (λ r. IfErr r Must) c.in_err-change.was h in
    search (rules, k)

pub returns-in_err-page-in-Cut-clause-needed : goal.returns-in_err-page-in-Cut-clause-needed
returns-in_err-page-in-Cut-clause-needed g c = λ told rows used free stands.
    let old = g.P.Pages.standing c.args.pages.now in
    let root = c.args.root.now in
    let at = root_stands old.count _ old.current root c.top_of-top.result rows used free c.page_count-count.ensures.count c.top_of-top.ensures stands in
    let Must = MustCut old.current (root.levels - 1) root.page c.args.key c.args.value.now in
    let h : IfErr c.take.result Must =
    take_needed _ c.args.key c.args.value.now old.current root c.top_of-top.result c.take.result c.top_of-top.ensures (rw c.in-Cut.is at (c.in_ok-change.ensures.cuts told free at)) c.take.ensures.not_full in
    let k = subst (λ r. IfErr r Must) c.in_err-page-in-Cut.was h in
    search (rules, k)

pub returns-in_err-write_new-in-Cut-clause-needed : goal.returns-in_err-write_new-in-Cut-clause-needed
returns-in_err-write_new-in-Cut-clause-needed g c = λ told rows used free stands.
    let old = g.P.Pages.standing c.args.pages.now in
    let root = c.args.root.now in
    let Must = MustCut old.current (root.levels - 1) root.page c.args.key c.args.value.now in
    let h : IfErr c.write_new.result Must =
    fault_needed (IsOverfull (leaf_after old.current (root.levels - 1) root.page c.args.key c.args.value.now)) (IsWayFull old.current (root.levels - 1) root.page c.args.key c.args.value.now) c.write_new.result c.write_new.ensures.sound in
    let k = subst (λ r. IfErr r Must) c.in_err-write_new-in-Cut.was h in
    search (rules, k)

pub returns-in-Whole-clause-by_lines : goal.returns-in-Whole-clause-by_lines
returns-in-Whole-clause-by_lines g c = λ told rows used rooted ok.
    let w = goes_root c.args.root.now c.top_of-top.result _ c.args.key (λ root. fits_beside root c.args.key (length c.args.value.now)) (put_lines c.args.key (length c.args.value.now)) (g.P.Pages.standing c.args.pages.now) (g.P.Pages.standing c.put_in.new.pages) Whole c.page_count-count.ensures.count c.top_of-top.ensures c.requires.some_levels
    (rw c.in-Whole.is at c.in_ok-change.ensures.by_lines) told rows used rooted ok in
    w.1

pub returns-in-Short-clause-by_lines : goal.returns-in-Short-clause-by_lines
returns-in-Short-clause-by_lines g c = λ told rows used rooted ok.
    let w = goes_root c.args.root.now c.top_of-top.result _ c.args.key (λ root. fits_beside root c.args.key (length c.args.value.now)) (put_lines c.args.key (length c.args.value.now)) (g.P.Pages.standing c.args.pages.now) (g.P.Pages.standing c.put_in.new.pages) Short c.page_count-count.ensures.count c.top_of-top.ensures c.requires.some_levels
    (rw c.in-Short.is at c.in_ok-change.ensures.by_lines) told rows used rooted ok in
    let never = w.0 in absurd (cc)

pub returns-in-Alone-clause-by_lines : goal.returns-in-Alone-clause-by_lines
returns-in-Alone-clause-by_lines g c = λ told rows used rooted ok.
    let w = goes_root c.args.root.now c.top_of-top.result _ c.args.key (λ root. fits_beside root c.args.key (length c.args.value.now)) (put_lines c.args.key (length c.args.value.now)) (g.P.Pages.standing c.args.pages.now) (g.P.Pages.standing c.put_in.new.pages) (Alone c.in-Alone.child) c.page_count-count.ensures.count c.top_of-top.ensures c.requires.some_levels
    (rw c.in-Alone.is at c.in_ok-change.ensures.by_lines) told rows used rooted ok in
    let never = w.0 in absurd (cc)

pub returns-in_ok-write_new-in-Cut-clause-by_lines : goal.returns-in_ok-write_new-in-Cut-clause-by_lines
returns-in_ok-write_new-in-Cut-clause-by_lines g c = λ told rows used rooted ok.
    let w = goes_root c.args.root.now c.top_of-top.result _ c.args.key (λ root. fits_beside root c.args.key (length c.args.value.now)) (put_lines c.args.key (length c.args.value.now)) (g.P.Pages.standing c.args.pages.now) (g.P.Pages.standing c.put_in.new.pages) (Cut c.in-Cut.separator c.in-Cut.right) c.page_count-count.ensures.count c.top_of-top.ensures c.requires.some_levels
    (rw c.in-Cut.is at c.in_ok-change.ensures.by_lines) told rows used rooted ok in
    let never = w.0 in absurd (cc)

pub returns-in-Whole-clause-fresh : goal.returns-in-Whole-clause-fresh
returns-in-Whole-clause-fresh g c = λ told. root_fresh c.args.root.now c.top_of-top.result _ c.args.key (g.P.Pages.standing c.args.pages.now) c.in_ok-change.change.fresh c.page_count-count.ensures.count c.top_of-top.ensures (c.in_ok-change.ensures.fresh told)

pub returns-in-Short-clause-fresh : goal.returns-in-Short-clause-fresh
returns-in-Short-clause-fresh g c = λ told. root_fresh c.args.root.now c.top_of-top.result _ c.args.key (g.P.Pages.standing c.args.pages.now) c.in_ok-change.change.fresh c.page_count-count.ensures.count c.top_of-top.ensures (c.in_ok-change.ensures.fresh told)

pub returns-in_ok-write_new-in-Cut-clause-fresh : goal.returns-in_ok-write_new-in-Cut-clause-fresh
returns-in_ok-write_new-in-Cut-clause-fresh g c = λ told. root_fresh c.args.root.now c.top_of-top.result _ c.args.key (g.P.Pages.standing c.args.pages.now) c.in_ok-change.change.fresh c.page_count-count.ensures.count c.top_of-top.ensures (c.in_ok-change.ensures.fresh told)

pub returns-in-Alone-clause-fresh : goal.returns-in-Alone-clause-fresh
returns-in-Alone-clause-fresh g c = λ told. root_fresh c.args.root.now c.top_of-top.result _ c.args.key (g.P.Pages.standing c.args.pages.now) c.in_ok-change.change.fresh c.page_count-count.ensures.count c.top_of-top.ensures (c.in_ok-change.ensures.fresh told)

pub returns-in-Whole-clause-pages : goal.returns-in-Whole-clause-pages
returns-in-Whole-clause-pages g c = λ told.
    let old = g.P.Pages.standing c.args.pages.now in
    let new = g.P.Pages.standing c.put_in.new.pages in
    root_pages old.count _ c.args.key old.current new.current new.current c.args.root.now _ c.top_of-top.result Whole (row_put c.args.key c.args.value.now) c.page_count-count.ensures.count c.top_of-top.ensures
    (rw c.in-Whole.is at (c.in_ok-change.ensures.edits told)) (rw c.in-Whole.is at (c.in_ok-change.ensures.under told)) (λ rest is_free. (refl, refl))

pub returns-in-Short-clause-pages : goal.returns-in-Short-clause-pages
returns-in-Short-clause-pages g c = λ told.
    let old = g.P.Pages.standing c.args.pages.now in
    let new = g.P.Pages.standing c.put_in.new.pages in
    root_pages old.count _ c.args.key old.current new.current new.current c.args.root.now _ c.top_of-top.result Short (row_put c.args.key c.args.value.now) c.page_count-count.ensures.count c.top_of-top.ensures
    (rw c.in-Short.is at (c.in_ok-change.ensures.edits told)) (rw c.in-Short.is at (c.in_ok-change.ensures.under told)) (λ rest is_free. (refl, refl))

pub returns-in-Alone-clause-pages : goal.returns-in-Alone-clause-pages
returns-in-Alone-clause-pages g c = λ told.
    let old = g.P.Pages.standing c.args.pages.now in
    let new = g.P.Pages.standing c.put_in.new.pages in
    root_pages old.count _ c.args.key old.current new.current new.current c.args.root.now _ c.top_of-top.result (Alone c.in-Alone.child) (row_put c.args.key c.args.value.now) c.page_count-count.ensures.count c.top_of-top.ensures
    (rw c.in-Alone.is at (c.in_ok-change.ensures.edits told)) (rw c.in-Alone.is at (c.in_ok-change.ensures.under told)) (λ rest is_free. (refl, refl))

pub returns-in_ok-write_new-in-Cut-clause-pages : goal.returns-in_ok-write_new-in-Cut-clause-pages
returns-in_ok-write_new-in-Cut-clause-pages g c = λ told.
    let root = c.args.root.now in
    let old = g.P.Pages.standing c.args.pages.now in
    let mid = g.P.Pages.standing c.put_in.new.pages in
    let a = g.P.Pages.standing c.take.new.pages in
    let new = g.P.Pages.standing c.write_new.new.pages in
    let told_mid = subst IsTrue (sym c.in_ok-change.ensures.call.continues.told) told in
    let told_a = subst IsTrue (sym c.in_ok-page-in-Cut.ensures.call.continues.told) told_mid in
    root_pages old.count _ c.args.key old.current mid.current new.current root _ c.top_of-top.result (Cut c.in-Cut.separator c.in-Cut.right) (row_put c.args.key c.args.value.now) c.page_count-count.ensures.count c.top_of-top.ensures
    (rw c.in-Cut.is at (c.in_ok-change.ensures.edits told)) (rw c.in-Cut.is at (c.in_ok-change.ensures.under told))
    (λ rest is_free. root_over mid.count _ mid.current a.current new.current root c.in_ok-page-in-Cut.page c.in-Cut.separator c.in-Cut.right c.root_of.new.page rest (c.in_ok-page-in-Cut.ensures.moves told_mid) (c.in_ok-write_new-in-Cut.ensures.writes told_a)
    c.root_of.ensures.is c.root_of.ensures.unused is_free)
