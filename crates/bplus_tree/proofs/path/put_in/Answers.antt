use Rattle.std.proofs.Common.{arith, ◌≡◌, length, inr, IsTrue, sym, subst, ◌∙◌, rules, IfErr, ℕ, ◌<◌, ◌≤◌}
use Rattle.std.specs.Prelude.{List}
use Rattle.line_pages.proofs.StandingLaws.{KeepsPages-trans, KeepsPages-then, KeepsPages-stops}
use Rattle.rows.specs.Rows.{row_put}
use Rattle.bplus_tree.specs.declared.path.Passed.{Passed}
use Rattle.bplus_tree.proofs.Editing.{put_local}
use Rattle.bplus_tree.proofs.PathLaws.{Climbing, CanSettle, climb_start, climb_on, climb_end, climb_under, can_settle, climb_stops, emptied}
use Rattle.bplus_tree.proofs.UnderLaws.{leaf_under}
use Rattle.page_alloc.specs.Space.{FitsHeader}
use Rattle.tree_search.specs.Tree.{tree_rows}
use Rattle.page_alloc.specs.Stops.{StopsFor, spare_pages}
use Rattle.bplus_tree.specs.Path.{StandsAbove, StopsAbove, MayFollow}
use Rattle.page_alloc.proofs.LackLaws.{fault_stops}
use Rattle.bplus_tree.proofs.StandLaws.{leads_stands, leaf_stops}
use Rattle.bplus_tree.specs.declared.outcome.Outcome.{Outcome}
use Rattle.bplus_tree.proofs.LeafOfKey.{again_start, again_on}
use Rattle.bplus_tree.proofs.FreshLaws.{fresh_under}
use Rattle.bplus_tree.proofs.LineChangeLaws.{lines_start, lines_on}
use Rattle.leaf_lines.specs.Put.{fits_beside}
use Rattle.bplus_tree.specs.LineCosts.{put_lines}
use Rattle.bplus_tree.proofs.LineCostLaws.{goes_start, goes_on}
use Rattle.bplus_tree.proofs.path.put_in.Given as given
use Rattle.bplus_tree.specs.Edit.{IsSafe}
use Rattle.bplus_tree.proofs.path.put_in.Goals.{In-Some}
use Rattle.bplus_tree.specs.Full.{NamesFull, MustCut, IsOverfull, IsWayFull}
use Rattle.bplus_tree.specs.LineChanges.{leaf_after}
use Rattle.bplus_tree.proofs.FullLaws.{not_full_names, fault_needed}
use Rattle.bplus_tree.proofs.FullWayLaws.{Filling, filling_start, filling_on, filling_end, leaf_needed, climb_needed, climb_names}
use Rattle.bplus_tree.proofs.path.put_in.Goals as goal

pub loop-passed-init : goal.loop-passed-init
loop-passed-init g c =
    let old = g.P.Pages.standing c.args.pages.now in
    let mid = g.P.Pages.standing c.descend.new.pages in
    let new = g.P.Pages.standing c.put_at.new.pages in
    let down = c.in_ok-leaf.ensures in
    let leaf = c.in_ok-change.ensures in
    record {
      call = KeepsPages-then down.call leaf.call;
      nvm_kept = leaf.cause.kept.0 ∙ down.cause.kept.0;
      ssd_kept = leaf.cause.kept.1 ∙ down.cause.kept.1;
      again = again_start c.args.key (length c.args.value.now) c.args.top c.in_ok-leaf.leaf c.descend.new.path.items old mid new c.in_ok-change.change.outcome down.leads down.level down.keeps.current down.nothing
          (λ told well holds. (leaf.whole (subst IsTrue (sym down.call.continues.told) told) well holds, leaf.again (subst IsTrue (sym down.call.continues.told) told) well holds));
      lines = lines_start c.args.key c.args.value.now c.args.top c.in_ok-leaf.leaf c.descend.new.path.items old mid new c.in_ok-change.change.outcome down.leads down.level down.keeps.current down.keeps.room down.nothing
          (λ told well fits. (leaf.fills (subst IsTrue (sym down.call.continues.told) told) well fits, leaf.lines (subst IsTrue (sym down.call.continues.told) told) well fits));
      by_lines = goes_start c.args.key (λ root. fits_beside root c.args.key (length c.args.value.now)) (put_lines c.args.key (length c.args.value.now)) c.args.top c.in_ok-leaf.leaf c.descend.new.path.items old mid new c.in_ok-change.change.outcome down.leads down.level down.keeps.current down.keeps.room down.nothing down.cost
          (λ told well fits. leaf.by_lines (subst IsTrue (sym down.call.continues.told) told) well fits);
      climbing = climb_start old.told old.count c.args.key old.current mid.current new.current c.args.top c.in_ok-leaf.leaf c.descend.new.path.items c.in_ok-change.change.outcome (row_put c.args.key c.args.value.now) old.room mid.room new.room old.visits mid.visits new.visits
          down.level down.place.pages down.leads down.keeps.current down.keeps.room down.few (subst (λ n. IsSafe n c.in_ok-leaf.leaf.expect c.in_ok-change.change.outcome) down.call.continues.count leaf.safe) leaf.below (λ told. leaf.edits (subst IsTrue (sym down.call.continues.told) told))
          (λ told. leaf_under c.args.key c.in_ok-leaf.leaf old.current mid.current new.current c.in_ok-change.change.outcome (row_put c.args.key c.args.value.now) down.level (down.keeps.current told) (leaf.edits (subst IsTrue (sym down.call.continues.told) told))
          (λ well fits. leaf.fills (subst IsTrue (sym down.call.continues.told) told) well fits)
          (λ free is_free part within. leaf.parts (subst IsTrue (sym down.call.continues.told) told) free is_free part (omega (arith, within, down.place.pages, down.call.continues.count)))) leaf.room leaf.few;
      filling = filling_start old.told old.count c.args.key c.args.value.now old.current mid.current c.args.top c.in_ok-leaf.leaf c.descend.new.path.items c.in_ok-change.change.outcome down.level down.leads down.keeps.current
          (λ told. leaf.cuts (subst IsTrue (sym down.call.continues.told) told));
    }

popped : (g : given.Over) (c : In-Some g) → CanSettle (g.P.Pages.standing c.loop-passed.pages).count c.in-Some.passed c.loop-passed.outcome (g.P.Pages.standing c.loop-passed.pages).room
popped g c =
    let old = g.P.Pages.standing c.args.pages.now in
    let mid = g.P.Pages.standing c.loop-passed.pages in
    let before = c.loop-passed.invariant in
    subst (λ n. CanSettle n c.in-Some.passed c.loop-passed.outcome mid.room) (sym before.call.continues.count)
    (can_settle old.told old.count c.args.key old.current mid.current c.args.top c.pop.new.self.items c.in-Some.passed c.loop-passed.outcome (row_put c.args.key c.args.value.now) old.room mid.room old.visits mid.visits
    (subst (λ (path : List Passed). Climbing old.told old.count c.args.key old.current mid.current c.args.top path c.loop-passed.outcome (row_put c.args.key c.args.value.now) old.room mid.room old.visits mid.visits) c.in-Some.ensures.items before.climbing)
    (inr c.requires.cut_room) c.requires.join_room)

pub settle-requires-clause-place : goal.settle-requires-clause-place
settle-requires-clause-place g c = (popped g (goal.at.settle-requires-clause-place g c).In-Some).place

pub settle-requires-clause-level : goal.settle-requires-clause-level
settle-requires-clause-level g c = (popped g (goal.at.settle-requires-clause-level g c).In-Some).level

pub settle-requires-clause-safe : goal.settle-requires-clause-safe
settle-requires-clause-safe g c = (popped g (goal.at.settle-requires-clause-safe g c).In-Some).safe

pub settle-requires-clause-room : goal.settle-requires-clause-room
settle-requires-clause-room g c = (popped g (goal.at.settle-requires-clause-room g c).In-Some).enough

pub returns-in_err-outcome-clause-call : goal.returns-in_err-outcome-clause-call
returns-in_err-outcome-clause-call g c =
    let before = c.loop-passed.invariant in
    KeepsPages-stops _ (search rules) (KeepsPages-trans before.call c.in_err-outcome.ensures.call)

pub loop-passed-preserved : goal.loop-passed-preserved
loop-passed-preserved g c =
    let old = g.P.Pages.standing c.args.pages.now in
    let mid = g.P.Pages.standing c.loop-passed.pages in
    let new = g.P.Pages.standing c.settle.new.pages in
    let before = c.loop-passed.invariant in
    let up = c.in_ok-outcome.ensures in
    let step = row_put c.args.key c.args.value.now in
    let told_on = λ (told : IsTrue old.told). subst IsTrue (sym before.call.continues.told) told in
    record {
      call = KeepsPages-then before.call up.call;
      nvm_kept = up.cause.kept.0 ∙ before.nvm_kept;
      ssd_kept = up.cause.kept.1 ∙ before.ssd_kept;
      again = again_on c.args.key (length c.args.value.now) c.args.top old mid new c.loop-passed.outcome c.in_ok-outcome.outcome before.again up.kept (λ whole. subst (λ (o : Outcome). MayFollow o c.in_ok-outcome.outcome) whole up.follows);
      lines = lines_on c.args.key c.args.value.now c.args.top old mid new c.loop-passed.outcome c.in_ok-outcome.outcome before.lines up.kept (λ whole. subst (λ (o : Outcome). MayFollow o c.in_ok-outcome.outcome) whole up.follows);
      by_lines = goes_on c.args.key (λ root. fits_beside root c.args.key (length c.args.value.now)) (put_lines c.args.key (length c.args.value.now)) c.args.top old mid new c.loop-passed.outcome c.in_ok-outcome.outcome before.by_lines up.kept (λ whole. subst (λ (o : Outcome). MayFollow o c.in_ok-outcome.outcome) whole up.follows);
      climbing = climb_on old.told old.count c.args.key old.current mid.current new.current c.args.top c.pop.new.self.items c.in-Some.passed c.loop-passed.outcome c.in_ok-outcome.outcome step old.room mid.room new.room old.visits mid.visits new.visits
          (put_local c.args.key c.args.value.now) (subst (λ (path : List Passed). Climbing old.told old.count c.args.key old.current mid.current c.args.top path c.loop-passed.outcome step old.room mid.room old.visits mid.visits) c.in-Some.ensures.items before.climbing)
          (subst (λ n. IsSafe n c.in-Some.passed.place.expect c.in_ok-outcome.outcome) before.call.continues.count up.safe) up.below (λ told. up.settles (told_on told)) up.follows up.room up.few;
      filling = filling_on old.told old.count c.args.key c.args.value.now old.current mid.current c.args.top c.pop.new.self.items c.in-Some.passed c.loop-passed.outcome c.in_ok-outcome.outcome step old.room mid.room old.visits mid.visits
          (subst (λ (path : List Passed). Climbing old.told old.count c.args.key old.current mid.current c.args.top path c.loop-passed.outcome step old.room mid.room old.visits mid.visits) c.in-Some.ensures.items before.climbing)
          (subst (λ (path : List Passed). Filling old.told old.count c.args.key c.args.value.now old.current c.args.top path c.loop-passed.outcome) c.in-Some.ensures.items before.filling) up.follows (λ told. up.cuts (told_on told));
    }

pub returns-in_err-leaf-clause-sound : goal.returns-in_err-leaf-clause-sound
returns-in_err-leaf-clause-sound g c = λ told free stands fits.
    let old = g.P.Pages.standing c.args.pages.now in
    let h : IfErr c.descend.result (StopsFor (spare_pages old.count old.current free ≤ c.args.top.expect.level) (1000000 < length (tree_rows old.current c.args.top.expect.level c.args.top.page))) =
    fault_stops (spare_pages old.count old.current free ≤ c.args.top.expect.level) (1000000 < length (tree_rows old.current c.args.top.expect.level c.args.top.page)) c.descend.result (c.descend.ensures.sound told free stands) in
    let k = subst (λ r. IfErr r (StopsFor (spare_pages old.count old.current free ≤ c.args.top.expect.level) (1000000 < length (tree_rows old.current c.args.top.expect.level c.args.top.page)))) c.in_err-leaf.was h in
    search (rules, k)

pub returns-in_err-change-clause-sound : goal.returns-in_err-change-clause-sound
returns-in_err-change-clause-sound g c = λ told free stands fits.
    let old = g.P.Pages.standing c.args.pages.now in
    let mid = g.P.Pages.standing c.descend.new.pages in
    let leaf = c.in_ok-leaf.leaf in
    let down = c.in_ok-leaf.ensures in
    let told_on = subst IsTrue (sym down.call.continues.told) told in
    let here = leads_stands old.told old.current old.count c.args.key c.args.top leaf c.descend.new.path.items free told down.leads stands in
    let many : Type 0 = 1000000 < length (tree_rows old.current c.args.top.expect.level c.args.top.page) in
    let h : IfErr c.put_at.result (StopsFor (spare_pages old.count old.current free ≤ c.args.top.expect.level) (1000000 < length (tree_rows old.current c.args.top.expect.level c.args.top.page))) =
    leaf_stops old.count mid.count old.current mid.current leaf free c.args.top.expect.level many c.put_at.result down.level down.call.continues.count (down.keeps.current told) here fits (c.put_at.ensures.sound told_on) in
    let k = subst (λ r. IfErr r (StopsFor (spare_pages old.count old.current free ≤ c.args.top.expect.level) (1000000 < length (tree_rows old.current c.args.top.expect.level c.args.top.page)))) c.in_err-change.was h in
    search (rules, k)

pub returns-in_err-outcome-clause-sound : goal.returns-in_err-outcome-clause-sound
returns-in_err-outcome-clause-sound g c = λ told free stands fits.
    let old = g.P.Pages.standing c.args.pages.now in
    let mid = g.P.Pages.standing c.loop-passed.pages in
    let before = c.loop-passed.invariant in
    let told_on = subst IsTrue (sym before.call.continues.told) told in
    let step = row_put c.args.key c.args.value.now in
    let climbing = subst (λ (path : List Passed). Climbing old.told old.count c.args.key old.current mid.current c.args.top path c.loop-passed.outcome step old.room mid.room old.visits mid.visits) c.in-Some.ensures.items before.climbing in
    let sound = subst (λ (n : ℕ). (rest : List ℕ) → StandsAbove mid.current c.in-Some.passed c.loop-passed.outcome rest → FitsHeader n (mid.current 0 0) → IfErr c.settle.result (StopsAbove n mid.current c.in-Some.passed c.loop-passed.outcome rest)) before.call.continues.count (c.settle.ensures.sound told_on) in
    let h : IfErr c.settle.result (StopsFor (spare_pages old.count old.current free ≤ c.args.top.expect.level) (1000000 < length (tree_rows old.current c.args.top.expect.level c.args.top.page))) =
    climb_stops old.told old.count c.args.key old.current mid.current c.args.top c.pop.new.self.items c.in-Some.passed c.loop-passed.outcome step old.room mid.room old.visits mid.visits free c.settle.result (put_local c.args.key c.args.value.now) told climbing c.requires.few_levels stands fits sound in
    let k = subst (λ r. IfErr r (StopsFor (spare_pages old.count old.current free ≤ c.args.top.expect.level) (1000000 < length (tree_rows old.current c.args.top.expect.level c.args.top.page)))) c.in_err-outcome.was h in
    search (rules, k)

pub returns-clause-takes : goal.returns-clause-takes
returns-clause-takes g c = λ told.
    let old = g.P.Pages.standing c.args.pages.now in
    let now = g.P.Pages.standing c.loop-passed.pages in
    let none = emptied c.loop-passed.path.items (λ some. let never = c.in_default.ensures.variant.1 some in absurd (cc)) in
    (climb_end old.told old.count c.args.key old.current now.current c.args.top c.loop-passed.path.items c.loop-passed.outcome (row_put c.args.key c.args.value.now) old.room now.room old.visits now.visits none c.loop-passed.invariant.climbing).takes told

pub returns-clause-cuts : goal.returns-clause-cuts
returns-clause-cuts g c = λ told free stands.
    let old = g.P.Pages.standing c.args.pages.now in
    let none = emptied c.loop-passed.path.items (λ some. let never = c.in_default.ensures.variant.1 some in absurd (cc)) in
    filling_end old.told old.count c.args.key c.args.value.now old.current c.args.top c.loop-passed.path.items c.loop-passed.outcome none c.loop-passed.invariant.filling told free stands

pub returns-in_err-leaf-clause-at_top : goal.returns-in_err-leaf-clause-at_top
returns-in_err-leaf-clause-at_top g c =
    let Named = NamesFull c.args.top.page (c.args.top.expect.level ≡ 3) in
    let h : IfErr c.descend.result Named = not_full_names c.args.top.page (c.args.top.expect.level ≡ 3) c.descend.result c.descend.ensures.not_full in
    let k = subst (λ r. IfErr r Named) c.in_err-leaf.was h in
    search (rules, k)

pub returns-in_err-change-clause-at_top : goal.returns-in_err-change-clause-at_top
returns-in_err-change-clause-at_top g c =
    let Named = NamesFull c.args.top.page (c.args.top.expect.level ≡ 3) in
    let h : IfErr c.put_at.result Named = not_full_names c.args.top.page (c.args.top.expect.level ≡ 3) c.put_at.result c.put_at.ensures.not_full in
    let k = subst (λ r. IfErr r Named) c.in_err-change.was h in
    search (rules, k)

pub returns-in_err-outcome-clause-at_top : goal.returns-in_err-outcome-clause-at_top
returns-in_err-outcome-clause-at_top g c =
    let old = g.P.Pages.standing c.args.pages.now in
    let mid = g.P.Pages.standing c.loop-passed.pages in
    let before = c.loop-passed.invariant in
    let step = row_put c.args.key c.args.value.now in
    let climbing = subst (λ (path : List Passed). Climbing old.told old.count c.args.key old.current mid.current c.args.top path c.loop-passed.outcome step old.room mid.room old.visits mid.visits) c.in-Some.ensures.items before.climbing in
    let Named = NamesFull c.args.top.page (c.args.top.expect.level ≡ 3) in
    let h : IfErr c.settle.result Named =
    climb_names old.told old.count c.args.key old.current mid.current c.args.top c.pop.new.self.items c.in-Some.passed c.loop-passed.outcome step old.room mid.room old.visits mid.visits c.settle.result climbing c.requires.few_levels c.settle.ensures.at in
    let k = subst (λ r. IfErr r Named) c.in_err-outcome.was h in
    search (rules, k)

pub returns-in_err-leaf-clause-needed : goal.returns-in_err-leaf-clause-needed
returns-in_err-leaf-clause-needed g c = λ told free stands fits.
    let old = g.P.Pages.standing c.args.pages.now in
    let level = c.args.top.expect.level in
    let page = c.args.top.page in
    let Must = MustCut old.current level page c.args.key c.args.value.now in
    let h : IfErr c.descend.result Must =
    fault_needed (IsOverfull (leaf_after old.current level page c.args.key c.args.value.now)) (IsWayFull old.current level page c.args.key c.args.value.now) c.descend.result (c.descend.ensures.sound told free stands) in
    let k = subst (λ r. IfErr r Must) c.in_err-leaf.was h in
    search (rules, k)

pub returns-in_err-change-clause-needed : goal.returns-in_err-change-clause-needed
returns-in_err-change-clause-needed g c = λ told free stands fits.
    let old = g.P.Pages.standing c.args.pages.now in
    let mid = g.P.Pages.standing c.descend.new.pages in
    let leaf = c.in_ok-leaf.leaf in
    let down = c.in_ok-leaf.ensures in
    let told_on = subst IsTrue (sym down.call.continues.told) told in
    let Must = MustCut old.current c.args.top.expect.level c.args.top.page c.args.key c.args.value.now in
    let h : IfErr c.put_at.result Must =
    leaf_needed old.told old.count c.args.key c.args.value.now old.current mid.current c.args.top leaf c.descend.new.path.items free c.put_at.result down.level down.leads told (down.keeps.current told) stands (c.put_at.ensures.needed told_on) in
    let k = subst (λ r. IfErr r Must) c.in_err-change.was h in
    search (rules, k)

pub returns-in_err-outcome-clause-needed : goal.returns-in_err-outcome-clause-needed
returns-in_err-outcome-clause-needed g c = λ told free stands fits.
    let old = g.P.Pages.standing c.args.pages.now in
    let mid = g.P.Pages.standing c.loop-passed.pages in
    let before = c.loop-passed.invariant in
    let told_on = subst IsTrue (sym before.call.continues.told) told in
    let step = row_put c.args.key c.args.value.now in
    let climbing = subst (λ (path : List Passed). Climbing old.told old.count c.args.key old.current mid.current c.args.top path c.loop-passed.outcome step old.room mid.room old.visits mid.visits) c.in-Some.ensures.items before.climbing in
    let filling = subst (λ (path : List Passed). Filling old.told old.count c.args.key c.args.value.now old.current c.args.top path c.loop-passed.outcome) c.in-Some.ensures.items before.filling in
    let sound = subst (λ (n : ℕ). (rest : List ℕ) → StandsAbove mid.current c.in-Some.passed c.loop-passed.outcome rest → FitsHeader n (mid.current 0 0) → IfErr c.settle.result (StopsAbove n mid.current c.in-Some.passed c.loop-passed.outcome rest)) before.call.continues.count (c.settle.ensures.sound told_on) in
    let Must = MustCut old.current c.args.top.expect.level c.args.top.page c.args.key c.args.value.now in
    let h : IfErr c.settle.result Must =
    climb_needed old.told old.count c.args.key c.args.value.now old.current mid.current c.args.top c.pop.new.self.items c.in-Some.passed c.loop-passed.outcome step old.room mid.room old.visits mid.visits free c.settle.result (put_local c.args.key c.args.value.now) told
    climbing filling c.requires.few_levels stands fits sound (c.settle.ensures.needed told_on) in
    let k = subst (λ r. IfErr r Must) c.in_err-outcome.was h in
    search (rules, k)

pub returns-clause-fresh : goal.returns-clause-fresh
returns-clause-fresh g c = λ told tree.
    let old = g.P.Pages.standing c.args.pages.now in
    let mid = g.P.Pages.standing c.descend.new.pages in
    let down = c.in_ok-leaf.ensures in
    let told_on = subst IsTrue (sym down.call.continues.told) told in
    fresh_under c.args.key c.args.top c.in_ok-leaf.leaf c.descend.new.path.items old mid c.in_ok-change.change.fresh told tree down.leads down.level (down.keeps.current told) (c.in_ok-change.ensures.fresh told_on)

pub returns-clause-under : goal.returns-clause-under
returns-clause-under g c = λ told free stands.
    let old = g.P.Pages.standing c.args.pages.now in
    let now = g.P.Pages.standing c.loop-passed.pages in
    let none = emptied c.loop-passed.path.items (λ some. let never = c.in_default.ensures.variant.1 some in absurd (cc)) in
    climb_under old.told old.count c.args.key old.current now.current c.args.top c.loop-passed.path.items c.loop-passed.outcome (row_put c.args.key c.args.value.now) old.room now.room old.visits now.visits none c.loop-passed.invariant.climbing told free stands

pub returns-clause-edits : goal.returns-clause-edits
returns-clause-edits g c = λ told.
    let old = g.P.Pages.standing c.args.pages.now in
    let now = g.P.Pages.standing c.loop-passed.pages in
    let none = emptied c.loop-passed.path.items (λ some. let never = c.in_default.ensures.variant.1 some in absurd (cc)) in
    (climb_end old.told old.count c.args.key old.current now.current c.args.top c.loop-passed.path.items c.loop-passed.outcome (row_put c.args.key c.args.value.now) old.room now.room old.visits now.visits none c.loop-passed.invariant.climbing).edits told
