use Rattle.std.proofs.Common.{◌∷◌, ◌≤◌, List, IfOk, ◌≡◌, ◌∙◌, ℕ, length, IsTrue, true, false, arith, refl, sym, subst, rules}
use Rattle.line_pages.specs.Lines.{Lines}
use Rattle.line_pages.specs.Bytes.{bytes_of}
use Rattle.line_pages.specs.Standing.{ReadsPage}
use Rattle.line_pages.proofs.StandingLaws.{ReadsPage-trans, KeepsPages-trans, KeepsPages-then, KeepsPages-stops}
use Rattle.rows.specs.Rows.{row_put}
use Rattle.page_format.specs.Node.{IsWellFormed, leaf_rows}
use Rattle.page_alloc.proofs.TouchedLaws.{nothing_read}
use Rattle.node_edit.specs.Record.{FitsLeaf, HoldsLength}
use Rattle.leaf_lines.specs.Put.{PutByLines, IsFound, fits_beside, slots_behind, put_cost}
use Rattle.line_pages.specs.Cost.{Costs}
use Rattle.bplus_tree.specs.LineCosts.{put_lines}
use Rattle.bplus_tree.proofs.LineCostLaws.{after_search, behind_is}
use Rattle.bplus_tree.proofs.ByLines.{put_of, left_of, put_later, line_edits, record_by, change_by, record_read}
use Rattle.bplus_tree.proofs.LineChangeLaws.{change_later}
use Rattle.bplus_tree.proofs.FreshLaws.{fresh_in}
use Rattle.page_alloc.specs.Space.{high_of, IsFreeList}
use Rattle.page_alloc.specs.Moves.{ArePart}
use Rattle.bplus_tree.specs.PageChanges.{CutsLeaf}
use Rattle.bplus_tree.proofs.change.put_at.Goals as goal
use Rattle.bplus_tree.proofs.change.put_at.Goals.{Then-done, After-put_leaf}
use Rattle.bplus_tree.proofs.change.put_at.Given as given

put : (g : given.Over) (c : Then-done g) → IsTrue (g.P.Pages.standing c.args.pages.now).told → PutByLines c.args.page c.args.expect.now c.args.key c.args.value.now (g.P.Pages.standing c.args.pages.now) (g.P.Pages.standing c.put_by_lines.new.pages)
put g c told =
    let old = g.P.Pages.standing c.args.pages.now in
    let mid = g.P.Pages.standing c.look.new.pages in
    let new = g.P.Pages.standing c.put_by_lines.new.pages in
    let told1 = subst IsTrue (sym c.in_ok-spot.ensures.call.continues.told) told in
    put_later c.args.page c.args.expect.now c.args.key c.args.value.now old mid new c.in_ok-spot.ensures.reads told
    (put_of c.args.page c.args.expect.now c.args.key c.args.value.now mid new c.in_ok-done.done c.if-done.true (c.in_ok-done.ensures.put told1))

pub put_by_lines-requires-clause-spot : goal.put_by_lines-requires-clause-spot
put_by_lines-requires-clause-spot g c = λ told1 well.
    let old = g.P.Pages.standing c.args.pages.now in
    let told = subst IsTrue c.in_ok-spot.ensures.call.continues.told told1 in
    let same = c.in_ok-spot.ensures.reads.current told in
    let e = c.args.expect.now in
    let well_old = subst (λ (lines : Lines). IsWellFormed (bytes_of lines c.args.page) e) same well in
    subst (λ (lines : Lines). IsFound (bytes_of lines c.args.page) e c.args.key c.found_place-place.result) (sym same)
    (c.found_place-place.ensures (bytes_of old.current c.args.page) c.args.key c.in_ok-spot.ensures.safe (c.in_ok-spot.ensures.spot told well_old))

pub returns-then-done-clause-edits : goal.returns-then-done-clause-edits
returns-then-done-clause-edits g c = λ told.
    line_edits c.args.page c.args.expect.now c.args.key c.args.value.now (g.P.Pages.standing c.args.pages.now) (g.P.Pages.standing c.put_by_lines.new.pages) c.requires.level c.requires.pages (put g (goal.at.returns-then-done-clause-edits g c).Then-done told)

pub returns-then-done-clause-again : goal.returns-then-done-clause-again
returns-then-done-clause-again g c = λ told well holds.
    record_by c.args.page c.args.expect.now c.args.key c.args.value.now (g.P.Pages.standing c.args.pages.now) (g.P.Pages.standing c.put_by_lines.new.pages) (put g (goal.at.returns-then-done-clause-again g c).Then-done told) well holds

pub returns-then-done-clause-lines : goal.returns-then-done-clause-lines
returns-then-done-clause-lines g c = λ told well fits.
    change_by c.args.page c.args.expect.now c.args.key c.args.value.now (g.P.Pages.standing c.args.pages.now) (g.P.Pages.standing c.put_by_lines.new.pages) (put g (goal.at.returns-then-done-clause-lines g c).Then-done told)

pub returns-then-done-clause-room : goal.returns-then-done-clause-room
returns-then-done-clause-room g c = omega (arith, c.in_ok-spot.ensures.keeps.room, c.in_ok-done.ensures.room)

left : (g : given.Over) (c : After-put_leaf g) → ReadsPage c.args.page (g.P.Pages.standing c.args.pages.now) (g.P.Pages.standing c.put_by_lines.new.pages)
left g c =
    ReadsPage-trans c.in_ok-spot.ensures.reads
    (left_of c.args.page (g.P.Pages.standing c.look.new.pages) (g.P.Pages.standing c.put_by_lines.new.pages) c.in_ok-done.done c.if-done.false c.in_ok-done.ensures.left)

pub returns-clause-again : goal.returns-clause-again
returns-clause-again g c = λ told well holds.
    let old = g.P.Pages.standing c.args.pages.now in
    let mid = g.P.Pages.standing c.put_by_lines.new.pages in
    let reads = left g (goal.at.returns-clause-again g c).After-put_leaf in
    let same = reads.current told in
    let told2 = subst IsTrue (sym reads.told) told in
    record_read c.args.page c.args.key old mid (g.P.Pages.standing c.put_leaf.new.pages) same (nothing_read reads)
    (c.in_ok-outcome.ensures.again told2 (subst (λ (lines : Lines). HoldsLength c.args.key (length c.args.value.now) (leaf_rows (bytes_of lines c.args.page))) (sym same) holds))

pub returns-clause-lines : goal.returns-clause-lines
returns-clause-lines g c = λ told well fits.
    let old = g.P.Pages.standing c.args.pages.now in
    let mid = g.P.Pages.standing c.put_by_lines.new.pages in
    let reads = left g (goal.at.returns-clause-lines g c).After-put_leaf in
    let same = reads.current told in
    let told2 = subst IsTrue (sym reads.told) told in
    change_later c.args.page old mid (g.P.Pages.standing c.put_leaf.new.pages) same reads.room (nothing_read reads)
    (c.in_ok-outcome.ensures.lines told2 (subst (λ (lines : Lines). FitsLeaf (c.args.expect.now.root ≡ true) (row_put c.args.key c.args.value.now (leaf_rows (bytes_of lines c.args.page)))) (sym same) fits))

pub returns-clause-call : goal.returns-clause-call
returns-clause-call g c =
    let a = c.in_ok-spot.ensures in
    let b = c.in_ok-done.ensures in
    KeepsPages-then (KeepsPages-trans a.call b.call) c.in_ok-outcome.ensures.call

pub returns-in_err-outcome-clause-call : goal.returns-in_err-outcome-clause-call
returns-in_err-outcome-clause-call g c =
    let a = c.in_ok-spot.ensures in
    let b = c.in_ok-done.ensures in
    KeepsPages-stops _ (search rules) (KeepsPages-trans (KeepsPages-trans a.call b.call) c.in_err-outcome.ensures.call)

pub returns-then-done-clause-fresh : goal.returns-then-done-clause-fresh
returns-then-done-clause-fresh g c = λ told well.
    let bytes = bytes_of (g.P.Pages.standing c.args.pages.now).current c.args.page in
    c.is_err-fresh.ensures.value ∙ fresh_in bytes c.args.expect.now c.args.key c.found_place-place.result well (c.found_place-place.ensures bytes c.args.key c.in_ok-spot.ensures.safe (c.in_ok-spot.ensures.spot told well))

pub returns-clause-fresh : goal.returns-clause-fresh
returns-clause-fresh g c = λ told well.
    let bytes = bytes_of (g.P.Pages.standing c.args.pages.now).current c.args.page in
    c.is_err-fresh.ensures.value ∙ fresh_in bytes c.args.expect.now c.args.key c.found_place-place.result well (c.found_place-place.ensures bytes c.args.key c.in_ok-spot.ensures.safe (c.in_ok-spot.ensures.spot told well))

pub returns-then-done-clause-by_lines : goal.returns-then-done-clause-by_lines
returns-then-done-clause-by_lines g c = λ told well fits.
    let old = g.P.Pages.standing c.args.pages.now in
    let mid = g.P.Pages.standing c.look.new.pages in
    let new = g.P.Pages.standing c.put_by_lines.new.pages in
    let e = c.args.expect.now in
    let w = bytes_of old.current c.args.page in
    let long = length c.args.value.now in
    let place = c.found_place-place.result in
    let look = c.in_ok-spot.ensures in
    let told1 = subst IsTrue (sym look.call.continues.told) told in
    let behind = behind_is e c.args.key place w c.requires.level well (c.found_place-place.ensures w c.args.key look.safe (look.spot told well)) in
    let costs : Costs (put_cost (slots_behind place w) long) mid new = subst (λ (lines : Lines). Costs (put_cost (slots_behind place (bytes_of lines c.args.page)) long) mid new) (look.reads.current told) (c.in_ok-done.ensures.costs told1) in (
      refl,
      record {
        touched = after_search e.level (put_lines c.args.key long w) old mid new c.requires.level (look.cost told well) (subst (λ (n : ℕ). Costs (put_cost n long) mid new) behind costs);
        written = change_by c.args.page e c.args.key c.args.value.now old new (put g (goal.at.returns-then-done-clause-by_lines g c).Then-done told);
      },
    )

pub returns-clause-by_lines : goal.returns-clause-by_lines
returns-clause-by_lines g c = λ told well fits.
    let e = c.args.expect.now in
    let look = c.in_ok-spot.ensures in
    let told1 = subst IsTrue (sym look.call.continues.told) told in
    let is =
    subst (λ (lines : Lines). IsWellFormed (bytes_of lines c.args.page) e → c.in_ok-done.done ≡ fits_beside e.root c.args.key (length c.args.value.now) (bytes_of lines c.args.page)) (look.reads.current told)
    (c.in_ok-done.ensures.when told1) well in
    let never : false ≡ true = sym c.if-done.false ∙ is ∙ fits in absurd (cc)

pub returns-clause-parts : goal.returns-clause-parts
returns-clause-parts g c = λ told free is_free part within.
    let old = g.P.Pages.standing c.args.pages.now in
    let mid = g.P.Pages.standing c.put_by_lines.new.pages in
    let new = g.P.Pages.standing c.put_leaf.new.pages in
    let reads = left g (goal.at.returns-clause-parts g c).After-put_leaf in
    let told2 = subst IsTrue (sym reads.told) told in
    let parts : (free : List ℕ) → IsFreeList mid.current free → ArePart mid.current (c.args.page ∷ free) → high_of mid.current ≤ old.count
    → CutsLeaf (row_put c.args.key c.args.value.now (leaf_rows (bytes_of mid.current c.args.page))) new.current c.args.page c.in_ok-outcome.outcome =
    subst (λ (n : ℕ). (free : List ℕ) → IsFreeList mid.current free → ArePart mid.current (c.args.page ∷ free) → high_of mid.current ≤ n
    → CutsLeaf (row_put c.args.key c.args.value.now (leaf_rows (bytes_of mid.current c.args.page))) new.current c.args.page c.in_ok-outcome.outcome)
    (c.in_ok-done.ensures.call.continues.count ∙ c.in_ok-spot.ensures.call.continues.count) (c.in_ok-outcome.ensures.parts told2) in
    subst (λ (lines : Lines). (free : List ℕ) → IsFreeList lines free → ArePart lines (c.args.page ∷ free) → high_of lines ≤ old.count
    → CutsLeaf (row_put c.args.key c.args.value.now (leaf_rows (bytes_of lines c.args.page))) new.current c.args.page c.in_ok-outcome.outcome) (reads.current told) parts free is_free part within
