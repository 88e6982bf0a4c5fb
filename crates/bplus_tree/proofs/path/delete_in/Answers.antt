use Rattle.std.proofs.Common.{inl, IsTrue, sym, subst, ◌∙◌, rules, IfErr, ℕ}
use Rattle.std.specs.Prelude.{List}
use Rattle.line_pages.specs.Lines.{Lines}
use Rattle.line_pages.proofs.StandingLaws.{KeepsPages-trans, KeepsPages-then, KeepsPages-stops}
use Rattle.rows.specs.Rows.{row_delete}
use Rattle.bplus_tree.specs.declared.path.Passed.{Passed}
use Rattle.bplus_tree.proofs.Editing.{delete_local}
use Rattle.bplus_tree.proofs.PathLaws.{Climbing, CanSettle, climb_start, climb_on, climb_under, emptied, can_settle, uncut_below, uncut_above, climb_faults}
use Rattle.line_pages.specs.Bytes.{bytes_of}
use Rattle.page_format.specs.Node.{IsWellFormed, leaf_rows}
use Rattle.node_edit.proofs.LeafLaws.{fits_full}
use Rattle.bplus_tree.proofs.PageLaws.{uncut_leaf}
use Rattle.bplus_tree.proofs.UnderLaws.{leaf_under}
use Rattle.page_alloc.specs.Space.{FitsHeader}
use Rattle.page_alloc.specs.Stops.{IsFault}
use Rattle.tree_search.proofs.SearchLaws.{well_formed_top}
use Rattle.bplus_tree.proofs.StandLaws.{leads_stands}
use Rattle.bplus_tree.specs.declared.outcome.Outcome.{Outcome}
use Rattle.bplus_tree.specs.Path.{StandsAbove, StopsAbove, MayFollow}
use Rattle.bplus_tree.specs.LineCosts.{keeps_without, delete_lines}
use Rattle.bplus_tree.proofs.LineCostLaws.{goes_start, goes_on}
use Rattle.bplus_tree.proofs.path.delete_in.Given as given
use Rattle.bplus_tree.specs.Edit.{IsSafe}
use Rattle.bplus_tree.proofs.path.delete_in.Goals.{In-Some}
use Rattle.bplus_tree.specs.Full.{NotFull}
use Rattle.bplus_tree.proofs.FullWayLaws.{uncut_not_full}
use Rattle.bplus_tree.proofs.path.delete_in.Goals as goal

pub loop-passed-init : goal.loop-passed-init
loop-passed-init g c =
    let old = g.P.Pages.standing c.args.pages.now in
    let mid = g.P.Pages.standing c.descend.new.pages in
    let new = g.P.Pages.standing c.delete_at.new.pages in
    let down = c.in_ok-leaf.ensures in
    let leaf = c.in_ok-outcome.ensures in
    record {
      call = KeepsPages-then down.call leaf.call;
      nvm_kept = leaf.cause.kept.0 ∙ down.cause.kept.0;
      ssd_kept = leaf.cause.kept.1 ∙ down.cause.kept.1;
      by_lines = goes_start c.args.key (keeps_without c.args.key) delete_lines c.args.top c.in_ok-leaf.leaf c.descend.new.path.items old mid new c.in_ok-outcome.outcome down.leads down.level down.keeps.current down.keeps.room down.nothing down.cost
          (λ told well fits. leaf.by_lines (subst IsTrue (sym down.call.continues.told) told) well fits);
      climbing = climb_start old.told old.count c.args.key old.current mid.current new.current c.args.top c.in_ok-leaf.leaf c.descend.new.path.items c.in_ok-outcome.outcome (row_delete c.args.key) old.room mid.room new.room old.visits mid.visits new.visits
          down.level down.place.pages down.leads down.keeps.current down.keeps.room down.few (subst (λ n. IsSafe n c.in_ok-leaf.leaf.expect c.in_ok-outcome.outcome) down.call.continues.count leaf.safe) (uncut_below c.in_ok-leaf.leaf.expect c.in_ok-outcome.outcome leaf.uncut) (λ told. leaf.edits (subst IsTrue (sym down.call.continues.told) told))
          (λ told. leaf_under c.args.key c.in_ok-leaf.leaf old.current mid.current new.current c.in_ok-outcome.outcome (row_delete c.args.key) down.level (down.keeps.current told) (leaf.edits (subst IsTrue (sym down.call.continues.told) told))
          (λ well fits. (leaf.by_lines (subst IsTrue (sym down.call.continues.told) told) well (fits_full c.in_ok-leaf.leaf.expect.root (row_delete c.args.key (leaf_rows (bytes_of mid.current c.in_ok-leaf.leaf.page))) fits)).0)
          (λ free is_free part within. uncut_leaf (row_delete c.args.key (leaf_rows (bytes_of mid.current c.in_ok-leaf.leaf.page))) new.current c.in_ok-leaf.leaf.page c.in_ok-outcome.outcome leaf.uncut)) leaf.room leaf.few;
      uncut = leaf.uncut;
    }

popped : (g : given.Over) (c : In-Some g) → CanSettle (g.P.Pages.standing c.loop-passed.pages).count c.in-Some.passed c.loop-passed.outcome (g.P.Pages.standing c.loop-passed.pages).room
popped g c =
    let old = g.P.Pages.standing c.args.pages.now in
    let mid = g.P.Pages.standing c.loop-passed.pages in
    let before = c.loop-passed.invariant in
    subst (λ n. CanSettle n c.in-Some.passed c.loop-passed.outcome mid.room) (sym before.call.continues.count)
    (can_settle old.told old.count c.args.key old.current mid.current c.args.top c.pop.new.self.items c.in-Some.passed c.loop-passed.outcome (row_delete c.args.key) old.room mid.room old.visits mid.visits
    (subst (λ (path : List Passed). Climbing old.told old.count c.args.key old.current mid.current c.args.top path c.loop-passed.outcome (row_delete c.args.key) old.room mid.room old.visits mid.visits) c.in-Some.ensures.items before.climbing)
    (inl before.uncut) c.requires.room)

pub settle-requires-clause-place : goal.settle-requires-clause-place
settle-requires-clause-place g c = (popped g (goal.at.settle-requires-clause-place g c).In-Some).place

pub settle-requires-clause-level : goal.settle-requires-clause-level
settle-requires-clause-level g c = (popped g (goal.at.settle-requires-clause-level g c).In-Some).level

pub settle-requires-clause-safe : goal.settle-requires-clause-safe
settle-requires-clause-safe g c = (popped g (goal.at.settle-requires-clause-safe g c).In-Some).safe

pub settle-requires-clause-room : goal.settle-requires-clause-room
settle-requires-clause-room g c = (popped g (goal.at.settle-requires-clause-room g c).In-Some).enough

pub returns-in_err-outcome-2-clause-call : goal.returns-in_err-outcome-2-clause-call
returns-in_err-outcome-2-clause-call g c =
    let before = c.loop-passed.invariant in
    KeepsPages-stops _ (search rules) (KeepsPages-trans before.call c.in_err-outcome-2.ensures.call)

pub loop-passed-preserved : goal.loop-passed-preserved
loop-passed-preserved g c =
    let old = g.P.Pages.standing c.args.pages.now in
    let mid = g.P.Pages.standing c.loop-passed.pages in
    let new = g.P.Pages.standing c.settle.new.pages in
    let before = c.loop-passed.invariant in
    let up = c.in_ok-outcome-2.ensures in
    let step = row_delete c.args.key in
    let told_on = λ (told : IsTrue old.told). subst IsTrue (sym before.call.continues.told) told in
    record {
      call = KeepsPages-then before.call up.call;
      nvm_kept = up.cause.kept.0 ∙ before.nvm_kept;
      ssd_kept = up.cause.kept.1 ∙ before.ssd_kept;
      by_lines = goes_on c.args.key (keeps_without c.args.key) delete_lines c.args.top old mid new c.loop-passed.outcome c.in_ok-outcome-2.outcome before.by_lines up.kept (λ whole. subst (λ (o : Outcome). MayFollow o c.in_ok-outcome-2.outcome) whole up.follows);
      climbing = climb_on old.told old.count c.args.key old.current mid.current new.current c.args.top c.pop.new.self.items c.in-Some.passed c.loop-passed.outcome c.in_ok-outcome-2.outcome step old.room mid.room new.room old.visits mid.visits new.visits
          (delete_local c.args.key) (subst (λ (path : List Passed). Climbing old.told old.count c.args.key old.current mid.current c.args.top path c.loop-passed.outcome step old.room mid.room old.visits mid.visits) c.in-Some.ensures.items before.climbing)
          (subst (λ n. IsSafe n c.in-Some.passed.place.expect c.in_ok-outcome-2.outcome) before.call.continues.count up.safe) up.below (λ told. up.settles (told_on told)) up.follows up.room up.few;
      uncut = uncut_above c.loop-passed.outcome c.in_ok-outcome-2.outcome before.uncut up.follows;
    }

pub returns-in_err-leaf-clause-sound : goal.returns-in_err-leaf-clause-sound
returns-in_err-leaf-clause-sound g c = λ told free stands fits.
    let old = g.P.Pages.standing c.args.pages.now in
    let h : IfErr c.descend.result IsFault = c.descend.ensures.sound told free stands in
    let k = subst (λ r. IfErr r (IsFault)) c.in_err-leaf.was h in
    search (rules, k)

pub returns-in_err-outcome-clause-sound : goal.returns-in_err-outcome-clause-sound
returns-in_err-outcome-clause-sound g c = λ told free stands fits.
    let old = g.P.Pages.standing c.args.pages.now in
    let mid = g.P.Pages.standing c.descend.new.pages in
    let leaf = c.in_ok-leaf.leaf in
    let down = c.in_ok-leaf.ensures in
    let told_on = subst IsTrue (sym down.call.continues.told) told in
    let here = leads_stands old.told old.current old.count c.args.key c.args.top leaf c.descend.new.path.items free told down.leads stands in
    let well = subst (λ (lines : Lines). IsWellFormed (bytes_of lines leaf.page) leaf.expect) (sym (down.keeps.current told)) (well_formed_top leaf.expect.pages old.current leaf.expect.level leaf.page leaf.expect.low leaf.expect.high leaf.expect.root here.tree) in
    let h : IfErr c.delete_at.result IsFault = c.delete_at.ensures.sound told_on well in
    let k = subst (λ r. IfErr r (IsFault)) c.in_err-outcome.was h in
    search (rules, k)

pub returns-in_err-outcome-2-clause-sound : goal.returns-in_err-outcome-2-clause-sound
returns-in_err-outcome-2-clause-sound g c = λ told free stands fits.
    let old = g.P.Pages.standing c.args.pages.now in
    let mid = g.P.Pages.standing c.loop-passed.pages in
    let before = c.loop-passed.invariant in
    let told_on = subst IsTrue (sym before.call.continues.told) told in
    let step = row_delete c.args.key in
    let climbing = subst (λ (path : List Passed). Climbing old.told old.count c.args.key old.current mid.current c.args.top path c.loop-passed.outcome step old.room mid.room old.visits mid.visits) c.in-Some.ensures.items before.climbing in
    let sound = subst (λ (n : ℕ). (rest : List ℕ) → StandsAbove mid.current c.in-Some.passed c.loop-passed.outcome rest → FitsHeader n (mid.current 0 0) → IfErr c.settle.result (StopsAbove n mid.current c.in-Some.passed c.loop-passed.outcome rest)) before.call.continues.count (c.settle.ensures.sound told_on) in
    let h : IfErr c.settle.result (IsFault) =
    climb_faults old.told old.count c.args.key old.current mid.current c.args.top c.pop.new.self.items c.in-Some.passed c.loop-passed.outcome step old.room mid.room old.visits mid.visits free c.settle.result (delete_local c.args.key) told climbing stands fits before.uncut sound in
    let k = subst (λ r. IfErr r (IsFault)) c.in_err-outcome-2.was h in
    search (rules, k)

pub returns-in_err-outcome-2-clause-not_full : goal.returns-in_err-outcome-2-clause-not_full
returns-in_err-outcome-2-clause-not_full g c =
    let h : IfErr c.settle.result NotFull = uncut_not_full c.in-Some.passed c.loop-passed.outcome c.settle.result c.loop-passed.invariant.uncut c.settle.ensures.at in
    let k = subst (λ r. IfErr r NotFull) c.in_err-outcome-2.was h in
    search (rules, k)

pub returns-clause-under : goal.returns-clause-under
returns-clause-under g c = λ told free stands.
    let old = g.P.Pages.standing c.args.pages.now in
    let now = g.P.Pages.standing c.loop-passed.pages in
    let none = emptied c.loop-passed.path.items (λ some. let never = c.in_default.ensures.variant.1 some in absurd (cc)) in
    climb_under old.told old.count c.args.key old.current now.current c.args.top c.loop-passed.path.items c.loop-passed.outcome (row_delete c.args.key) old.room now.room old.visits now.visits none c.loop-passed.invariant.climbing told free stands
