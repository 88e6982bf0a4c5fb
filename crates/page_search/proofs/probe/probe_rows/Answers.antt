-- The search ends at the row or in the gap, and in a well-formed leaf nothing looks odd.
use Rattle.std.proofs.Common.{◌≡◌, ◌≢◌, ◌+◌, ◌-◌, ◌*◌, ◌/◌, ◌<◌, ℕ, [], refl, arith, sym, ap, subst, ◌∙◌, IsTrue}
use Rattle.line_pages.specs.Bytes.{bytes_of, u16_at, u64_at}
use Rattle.line_pages.proofs.StandingLaws.{ReadsPage-refl, ReadsPage-trans, still_open, KeepsPages-trans, KeepsPages-then, KeepsPages-stops, KeepsPages-refl}
use Rattle.line_pages.proofs.CostLaws.{AddsLines-refl}
use Rattle.page_format.specs.Node.{entry_count, leaf_rows}
use Rattle.rows.specs.Rows.{keys}
use Rattle.page_format.proofs.SlotLemmas.{length_rows}
use Rattle.page_format.proofs.KeyLaws.{probed, length-keys, place_inside, slice_get-is, below_to, above_to, goes_right, goes_left}
use Rattle.page_search.specs.Cost.{row_probe}
use Rattle.page_search.proofs.ProbeLaws.{Halves, halves_none, row_probed, rows_probed}
use Rattle.page_search.proofs.BoundLaws.{turns_none, row_turn, slot_turn, rows_bound}
use Rattle.page_search.proofs.probe.probe_rows.Goals as goal

pub loop-low-init : goal.loop-low-init
loop-low-init g c =
    let old = g.P.Pages.standing c.args.pages.now in
    let whole : c.args.count ≡ c.args.count - 0 = omega arith in
    record {
      call = KeepsPages-refl c.requires.ready;
      reads = ReadsPage-refl c.args.page old c.requires.open;
      lines = λ told.
          let probe = row_probe (bytes_of old.current c.args.page) in
          AddsLines-refl old (subst (λ (w : ℕ). Halves probe c.args.count c.args.count w []) whole (halves_none probe c.args.count c.args.count));
      bound = AddsLines-refl old (turns_none 3 10 (c.args.count - 0) (omega (arith, c.requires.few)));
      again = omega arith;
      nvm_kept = refl;
      ssd_kept = refl;
      ordered = omega arith;
      within = omega arith;
      between = λ told well. record { lower = λ k below. absurd (omega (arith, below)); upper = λ k above within. absurd (omega (arith, above, within, c.requires.known told)) };
    }

pub returns-then-place-gt4096-clause-reads : goal.returns-then-place-gt4096-clause-reads
returns-then-place-gt4096-clause-reads g c = ReadsPage-trans c.loop-low.invariant.reads c.in_ok-place.ensures.reads

pub returns-then-place-gt4096-clause-spot : goal.returns-then-place-gt4096-clause-spot
returns-then-place-gt4096-clause-spot g c = λ told well.
    let before = c.loop-low.invariant in
    let bytes = bytes_of (g.P.Pages.standing c.args.pages.now).current c.args.page in
    let middle = c.loop-low.low + (c.loop-low.high - c.loop-low.low) / 2 in
    let place = c.in_ok-place.ensures.value (subst IsTrue (sym before.call.continues.told) told) ∙ ap (λ all. u16_at (bytes_of all c.args.page) (64 + 4 * middle)) (before.reads.current told) in
    let inside : middle < entry_count bytes = omega (arith, before.within, c.requires.known told, c.loop-low-test.true) in
    omega (arith, place, place_inside bytes c.args.expect.now middle c.requires.leaf well inside, c.if-place-gt4096.true)

pub returns-then-found-key-clause-reads : goal.returns-then-found-key-clause-reads
returns-then-found-key-clause-reads g c = ReadsPage-trans (ReadsPage-trans c.loop-low.invariant.reads c.in_ok-place.ensures.reads) c.in_ok-found.ensures.reads

pub returns-then-found-key-clause-spot : goal.returns-then-found-key-clause-spot
returns-then-found-key-clause-spot g c = λ told well.
    let before = c.loop-low.invariant in
    let bytes = bytes_of (g.P.Pages.standing c.args.pages.now).current c.args.page in
    let middle = c.loop-low.low + (c.loop-low.high - c.loop-low.low) / 2 in
    let told_on = subst IsTrue (sym before.call.continues.told) told in
    let place : c.in_ok-place.place ≡ u16_at bytes (64 + 4 * middle) = c.in_ok-place.ensures.value told_on ∙ ap (λ all. u16_at (bytes_of all c.args.page) (64 + 4 * middle)) (before.reads.current told) in
    let found : c.in_ok-found.found ≡ u64_at bytes c.in_ok-place.place =
    c.in_ok-found.ensures.value (subst IsTrue (sym c.in_ok-place.ensures.call.continues.told) told_on)
    ∙ ap (λ all. u64_at (bytes_of all c.args.page) c.in_ok-place.place) (c.in_ok-place.ensures.reads.current told_on ∙ before.reads.current told) in
    let inside : middle < entry_count bytes = omega (arith, before.within, c.requires.known told, c.loop-low-test.true) in
    let key = probed bytes middle c.in_ok-place.place c.in_ok-found.found inside place found in
    (c.requires.leaf, slice_get-is (keys (leaf_rows bytes)) middle c.args.key (omega (arith, inside, length-keys bytes)) (sym key ∙ c.if-found-key.true))

pub loop-low-preserved-then-found-key-2 : goal.loop-low-preserved-then-found-key-2
loop-low-preserved-then-found-key-2 g c =
    let before = c.loop-low.invariant in
    let bytes = bytes_of (g.P.Pages.standing c.args.pages.now).current c.args.page in
    let middle = c.loop-low.low + (c.loop-low.high - c.loop-low.low) / 2 in
    record {
      call = KeepsPages-then (KeepsPages-trans before.call c.in_ok-place.ensures.call) c.in_ok-found.ensures.call;
      reads = ReadsPage-trans (ReadsPage-trans before.reads c.in_ok-place.ensures.reads) c.in_ok-found.ensures.reads;
      lines = λ told.
          let told_on = subst IsTrue (sym before.call.continues.told) told in
          let place : c.in_ok-place.place ≡ u16_at bytes (64 + 4 * middle) = c.in_ok-place.ensures.value told_on ∙ ap (λ all. u16_at (bytes_of all c.args.page) (64 + 4 * middle)) (before.reads.current told) in
          row_probed bytes c.args.count c.loop-low.low c.loop-low.high (c.loop-low.high - (middle + 1)) middle c.in_ok-place.place c.loop-low-test.true (omega (arith, c.loop-low-test.true)) (omega (arith, before.within, c.loop-low-test.true)) place
          (before.lines told) c.in_ok-place.ensures.lines c.in_ok-found.ensures.lines;
      bound = row_turn c.loop-low.low c.loop-low.high (c.loop-low.high - (middle + 1)) middle c.in_ok-place.place c.loop-low-test.true (omega (arith, c.loop-low-test.true)) before.bound c.in_ok-place.ensures.lines c.in_ok-found.ensures.lines;
      again = omega (arith, before.again, c.in_ok-place.ensures.again (still_open before.reads), c.in_ok-found.ensures.again (still_open c.in_ok-place.ensures.reads));
      nvm_kept = c.in_ok-found.ensures.cause.kept.0 ∙ c.in_ok-place.ensures.cause.kept.0 ∙ before.nvm_kept;
      ssd_kept = c.in_ok-found.ensures.cause.kept.1 ∙ c.in_ok-place.ensures.cause.kept.1 ∙ before.ssd_kept;
      ordered = omega (arith, c.loop-low-test.true);
      within = before.within;
      between = λ told well.
          let told_on = subst IsTrue (sym before.call.continues.told) told in
          let place : c.in_ok-place.place ≡ u16_at bytes (64 + 4 * middle) = c.in_ok-place.ensures.value told_on ∙ ap (λ all. u16_at (bytes_of all c.args.page) (64 + 4 * middle)) (before.reads.current told) in
          let found : c.in_ok-found.found ≡ u64_at bytes c.in_ok-place.place =
          c.in_ok-found.ensures.value (subst IsTrue (sym c.in_ok-place.ensures.call.continues.told) told_on)
          ∙ ap (λ all. u64_at (bytes_of all c.args.page) c.in_ok-place.place) (c.in_ok-place.ensures.reads.current told_on ∙ before.reads.current told) in
          let inside : middle < entry_count bytes = omega (arith, before.within, c.requires.known told, c.loop-low-test.true) in
          let key = probed bytes middle c.in_ok-place.place c.in_ok-found.found inside place found in
          goes_right bytes c.args.expect.now c.args.key c.loop-low.low c.loop-low.high middle c.in_ok-found.found c.requires.leaf well inside key c.if-found-key-2.true (before.between told well);
    }

pub loop-low-preserved : goal.loop-low-preserved
loop-low-preserved g c =
    let before = c.loop-low.invariant in
    let bytes = bytes_of (g.P.Pages.standing c.args.pages.now).current c.args.page in
    let middle = c.loop-low.low + (c.loop-low.high - c.loop-low.low) / 2 in
    record {
      call = KeepsPages-then (KeepsPages-trans before.call c.in_ok-place.ensures.call) c.in_ok-found.ensures.call;
      reads = ReadsPage-trans (ReadsPage-trans before.reads c.in_ok-place.ensures.reads) c.in_ok-found.ensures.reads;
      lines = λ told.
          let told_on = subst IsTrue (sym before.call.continues.told) told in
          let place : c.in_ok-place.place ≡ u16_at bytes (64 + 4 * middle) = c.in_ok-place.ensures.value told_on ∙ ap (λ all. u16_at (bytes_of all c.args.page) (64 + 4 * middle)) (before.reads.current told) in
          row_probed bytes c.args.count c.loop-low.low c.loop-low.high (middle - c.loop-low.low) middle c.in_ok-place.place c.loop-low-test.true (omega (arith, c.loop-low-test.true)) (omega (arith, before.within, c.loop-low-test.true)) place
          (before.lines told) c.in_ok-place.ensures.lines c.in_ok-found.ensures.lines;
      bound = row_turn c.loop-low.low c.loop-low.high (middle - c.loop-low.low) middle c.in_ok-place.place c.loop-low-test.true (omega (arith, c.loop-low-test.true)) before.bound c.in_ok-place.ensures.lines c.in_ok-found.ensures.lines;
      again = omega (arith, before.again, c.in_ok-place.ensures.again (still_open before.reads), c.in_ok-found.ensures.again (still_open c.in_ok-place.ensures.reads));
      nvm_kept = c.in_ok-found.ensures.cause.kept.0 ∙ c.in_ok-place.ensures.cause.kept.0 ∙ before.nvm_kept;
      ssd_kept = c.in_ok-found.ensures.cause.kept.1 ∙ c.in_ok-place.ensures.cause.kept.1 ∙ before.ssd_kept;
      ordered = omega (arith, c.loop-low-test.true);
      within = omega (arith, before.within, c.loop-low-test.true);
      between = λ told well.
          let told_on = subst IsTrue (sym before.call.continues.told) told in
          let place : c.in_ok-place.place ≡ u16_at bytes (64 + 4 * middle) = c.in_ok-place.ensures.value told_on ∙ ap (λ all. u16_at (bytes_of all c.args.page) (64 + 4 * middle)) (before.reads.current told) in
          let found : c.in_ok-found.found ≡ u64_at bytes c.in_ok-place.place =
          c.in_ok-found.ensures.value (subst IsTrue (sym c.in_ok-place.ensures.call.continues.told) told_on)
          ∙ ap (λ all. u64_at (bytes_of all c.args.page) c.in_ok-place.place) (c.in_ok-place.ensures.reads.current told_on ∙ before.reads.current told) in
          let inside : middle < entry_count bytes = omega (arith, before.within, c.requires.known told, c.loop-low-test.true) in
          let key = probed bytes middle c.in_ok-place.place c.in_ok-found.found inside place found in
          let other : c.in_ok-found.found ≢ c.args.key = c.if-found-key.false in
          goes_left bytes c.args.expect.now c.args.key c.loop-low.low c.loop-low.high middle c.in_ok-found.found c.requires.leaf well inside key (omega (arith, c.if-found-key-2.false, other)) (before.between told well);
    }

pub returns-clause-spot : goal.returns-clause-spot
returns-clause-spot g c = λ told well.
    let before = c.loop-low.invariant in
    let bytes = bytes_of (g.P.Pages.standing c.args.pages.now).current c.args.page in
    let all = before.between told well in
    let size = length_rows bytes in
    let known = c.requires.known told in
    let end : c.loop-low.low ≡ c.loop-low.high = omega (arith, c.loop-low-test.false, before.ordered) in (
      c.requires.leaf,
      omega (arith, end, before.within, known, size),
      below_to c.args.key c.loop-low.low (leaf_rows bytes) all.lower (omega (arith, end, before.within, known, size)),
      above_to c.args.key c.loop-low.low (leaf_rows bytes) (λ k above within. all.upper k (omega (arith, end, above)) (omega (arith, within, size))),
    )

pub returns-then-found-key-clause-lines : goal.returns-then-found-key-clause-lines
returns-then-found-key-clause-lines g c = λ told well.
    let before = c.loop-low.invariant in
    let bytes = bytes_of (g.P.Pages.standing c.args.pages.now).current c.args.page in
    let middle = c.loop-low.low + (c.loop-low.high - c.loop-low.low) / 2 in
    let told_on = subst IsTrue (sym before.call.continues.told) told in
    let place : c.in_ok-place.place ≡ u16_at bytes (64 + 4 * middle) = c.in_ok-place.ensures.value told_on ∙ ap (λ all. u16_at (bytes_of all c.args.page) (64 + 4 * middle)) (before.reads.current told) in
    rows_probed bytes c.args.count 0
    (row_probed bytes c.args.count c.loop-low.low c.loop-low.high 0 middle c.in_ok-place.place c.loop-low-test.true (omega arith) (omega (arith, before.within, c.loop-low-test.true)) place
    (before.lines told) c.in_ok-place.ensures.lines c.in_ok-found.ensures.lines)

pub returns-then-place-gt4096-clause-lines : goal.returns-then-place-gt4096-clause-lines
returns-then-place-gt4096-clause-lines g c = λ told well.
    let before = c.loop-low.invariant in
    let bytes = bytes_of (g.P.Pages.standing c.args.pages.now).current c.args.page in
    let middle = c.loop-low.low + (c.loop-low.high - c.loop-low.low) / 2 in
    let place = c.in_ok-place.ensures.value (subst IsTrue (sym before.call.continues.told) told) ∙ ap (λ all. u16_at (bytes_of all c.args.page) (64 + 4 * middle)) (before.reads.current told) in
    let inside : middle < entry_count bytes = omega (arith, before.within, c.requires.known told, c.loop-low-test.true) in
    absurd (omega (arith, place, place_inside bytes c.args.expect.now middle c.requires.leaf well inside, c.if-place-gt4096.true))

pub returns-clause-lines : goal.returns-clause-lines
returns-clause-lines g c = λ told well.
    rows_probed (bytes_of (g.P.Pages.standing c.args.pages.now).current c.args.page) c.args.count (c.loop-low.high - c.loop-low.low) (c.loop-low.invariant.lines told)

pub returns-then-found-key-clause-call : goal.returns-then-found-key-clause-call
returns-then-found-key-clause-call g c =
    let before = c.loop-low.invariant in
    KeepsPages-then (KeepsPages-trans before.call c.in_ok-place.ensures.call) c.in_ok-found.ensures.call

pub returns-then-place-gt4096-clause-bound : goal.returns-then-place-gt4096-clause-bound
returns-then-place-gt4096-clause-bound g c =
    rows_bound 0 (slot_turn c.loop-low.low c.loop-low.high (c.loop-low.low + (c.loop-low.high - c.loop-low.low) / 2) c.loop-low-test.true c.loop-low.invariant.bound c.in_ok-place.ensures.lines)

pub returns-then-found-key-clause-bound : goal.returns-then-found-key-clause-bound
returns-then-found-key-clause-bound g c =
    rows_bound 0 (row_turn c.loop-low.low c.loop-low.high 0 (c.loop-low.low + (c.loop-low.high - c.loop-low.low) / 2) c.in_ok-place.place c.loop-low-test.true (omega arith)
    c.loop-low.invariant.bound c.in_ok-place.ensures.lines c.in_ok-found.ensures.lines)

pub returns-clause-bound : goal.returns-clause-bound
returns-clause-bound g c = rows_bound (c.loop-low.high - c.loop-low.low) c.loop-low.invariant.bound

pub returns-in_err-place-clause-call : goal.returns-in_err-place-clause-call
returns-in_err-place-clause-call g c = KeepsPages-stops c.from_residual.result c.from_residual.ensures.0 (KeepsPages-trans c.loop-low.invariant.call c.in_err-place.ensures.call)

pub returns-then-place-gt4096-clause-call : goal.returns-then-place-gt4096-clause-call
returns-then-place-gt4096-clause-call g c = KeepsPages-then c.loop-low.invariant.call c.in_ok-place.ensures.call

pub returns-in_err-found-clause-call : goal.returns-in_err-found-clause-call
returns-in_err-found-clause-call g c =
    let before = c.loop-low.invariant in
    KeepsPages-stops c.from_residual-in_err-found.result c.from_residual-in_err-found.ensures.0 (KeepsPages-trans (KeepsPages-trans before.call c.in_ok-place.ensures.call) c.in_err-found.ensures.call)
