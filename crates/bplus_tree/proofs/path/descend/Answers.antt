use Rattle.std.proofs.Common.{rules, arith, refl, IsTrue, ap, sym, subst, ◌∙◌, IfErr, length, length-append}
use Rattle.line_pages.proofs.CostLaws.{AddsLines-refl, Costs-weaker}
use Rattle.bplus_tree.proofs.LineCostLaws.{stays_well, costs_on, costs_down}
use Rattle.line_pages.proofs.StandingLaws.{KeepsPages-then, KeepsPages-refl}
use Rattle.bplus_tree.specs.declared.path.Passed.{Passed}
use Rattle.std.specs.Prelude.{List}
use Rattle.bplus_tree.proofs.PathLaws.{Descended, descended_on}
use Rattle.line_pages.specs.Lines.{Lines}
use Rattle.line_pages.specs.Bytes.{bytes_of}
use Rattle.page_format.specs.Node.{IsWellFormed}
use Rattle.page_alloc.specs.Stops.{IsFault}
use Rattle.tree_search.proofs.SearchLaws.{well_formed_top}
use Rattle.bplus_tree.proofs.StandLaws.{leads_stands}
use Rattle.page_alloc.proofs.TouchedLaws.{nothing_refl, nothing_read, nothing_then}
use Rattle.bplus_tree.proofs.path.descend.Goals as goal

pub loop-place-init : goal.loop-place-init
loop-place-init g c =
    let old = g.P.Pages.standing c.args.pages.now in
    record {
      call = KeepsPages-refl c.requires.ready;
      nvm_kept = refl;
      ssd_kept = refl;
      costs = λ told tree. AddsLines-refl old (omega arith);
      nothing = nothing_refl old;
      descended = subst (λ (path : List Passed). Descended old.count c.args.key c.args.top c.args.top path old old) (sym c.requires.empty) (record {
        is_place = c.requires.top;
        above = c.requires.above;
        within = c.requires.within;
        leads = refl;
        height = omega arith;
        current = λ told. refl;
        room = refl;
        few = omega arith;
      });
    }

pub loop-place-preserved : goal.loop-place-preserved
loop-place-preserved g c =
    let look = c.in_ok-child.ensures in
    let before = c.loop-place.invariant in
    let old = g.P.Pages.standing c.args.pages.now in
    let mid = g.P.Pages.standing c.loop-place.pages in
    let new = g.P.Pages.standing c.look.new.pages in
    let told_on = λ (told : IsTrue old.told). subst IsTrue (sym before.call.continues.told) told in
    record {
      call = KeepsPages-then before.call look.call;
      nvm_kept = look.cause.kept.0 ∙ before.nvm_kept;
      ssd_kept = look.cause.kept.1 ∙ before.ssd_kept;
      costs = λ told tree.
          let well = stays_well old.told old.current mid.current old.count c.args.key c.args.top c.loop-place.place c.loop-place.path.items told tree before.descended.leads (before.descended.current told) in
          costs_on c.loop-place.place.expect.level (length c.loop-place.path.items) (length c.push.new.self.items) old mid new (rw c.in-Child.is at look.safe).0 (ap length c.push.ensures.items ∙ length-append c.loop-place.path.items _) (before.costs told tree) (look.cost (told_on told) well);
      nothing = nothing_then before.nothing (nothing_read look.reads);
      descended = subst (λ (path : List Passed). Descended old.count c.args.key c.args.top (record { page = c.in-Child.child; expect = c.child_expect-expect.result }) path old new) (sym c.push.ensures.items)
          (descended_on old.count c.args.key c.in-Child.field-0 c.in-Child.child c.in-Child.low c.in-Child.high c.args.top c.loop-place.place c.child_expect-expect.result c.loop-place.path.items old mid new before.descended
          c.child_expect-expect.ensures (rw c.in-Child.is at look.safe) (λ told well. rw c.in-Child.is at (look.spot (told_on told) well)) (λ told. look.keeps.current (told_on told)) look.keeps.room look.few);
    }

pub returns-in_err-child-clause-sound : goal.returns-in_err-child-clause-sound
returns-in_err-child-clause-sound g c = λ told free stands.
    let before = c.loop-place.invariant in
    let old = g.P.Pages.standing c.args.pages.now in
    let mid = g.P.Pages.standing c.loop-place.pages in
    let place = c.loop-place.place in
    let e = place.expect in
    let here = leads_stands old.told old.current old.count c.args.key c.args.top place c.loop-place.path.items free told before.descended.leads stands in
    let well = subst (λ (lines : Lines). IsWellFormed (bytes_of lines place.page) e) (sym (before.descended.current told)) (well_formed_top e.pages old.current e.level place.page e.low e.high e.root here.tree) in
    let h : IfErr c.look.result IsFault = c.look.ensures.sound (subst IsTrue (sym before.call.continues.told) told) well in
    let k = subst (λ r. IfErr r IsFault) c.in_err-child.was h in
    search (rules, k)

pub returns-in_default-clause-nothing : goal.returns-in_default-clause-nothing
returns-in_default-clause-nothing g c = nothing_then c.loop-place.invariant.nothing (nothing_read c.in_ok-child.ensures.reads)

pub returns-then-place-eq0-clause-cost : goal.returns-then-place-eq0-clause-cost
returns-then-place-eq0-clause-cost g c = λ told tree.
    let before = c.loop-place.invariant in
    let height = before.descended.height in
    Costs-weaker (omega (arith, height)) (before.costs told tree)

pub returns-in_default-clause-cost : goal.returns-in_default-clause-cost
returns-in_default-clause-cost g c = λ told tree.
    let before = c.loop-place.invariant in
    let old = g.P.Pages.standing c.args.pages.now in
    let mid = g.P.Pages.standing c.loop-place.pages in
    let new = g.P.Pages.standing c.look.new.pages in
    let place = c.loop-place.place in
    let well = stays_well old.told old.current mid.current old.count c.args.key c.args.top place c.loop-place.path.items told tree before.descended.leads (before.descended.current told) in
    let look = c.in_ok-child.ensures in
    costs_down place.expect.level c.args.top.expect.level (length c.loop-place.path.items) old mid new (omega arith) before.descended.height (before.costs told tree) (look.cost (subst IsTrue (sym before.call.continues.told) told) well)
