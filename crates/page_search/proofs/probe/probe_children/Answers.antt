-- The search ends at the child, and in a well-formed page nothing looks odd.
use Rattle.std.proofs.Common.{◌≡◌, ◌≢◌, ◌+◌, ◌-◌, ◌*◌, ◌/◌, ◌<◌, ℕ, [], refl, arith, sym, ap, subst, ◌∙◌, IsTrue}
use Rattle.line_pages.specs.Bytes.{bytes_of, u64_at}
use Rattle.line_pages.proofs.StandingLaws.{ReadsPage-refl, ReadsPage-trans, still_open, KeepsPages-trans, KeepsPages-then, KeepsPages-stops, KeepsPages-refl}
use Rattle.line_pages.proofs.CostLaws.{AddsLines-refl}
use Rattle.page_format.specs.Node.{entry_count, children, Child, is_page_below}
use Rattle.page_format.specs.Spans.{Reaches}
use Rattle.page_format.proofs.PageFacts.{clash}
use Rattle.page_format.proofs.InnerLemmas.{length_children}
use Rattle.page_format.proofs.ChildLaws.{narrow_whole, narrow_right, narrow_left, bounds_whole, probed_key, probed_page, key_inside, child_below, inside_is, inside_of, span_is}
use Rattle.page_search.specs.Cost.{child_probe}
use Rattle.page_search.proofs.ProbeLaws.{Halves, halves_none, child_probed, child_read}
use Rattle.page_search.proofs.BoundLaws.{turns_none, child_turn, keys_bound, number_bound}
use Rattle.page_search.proofs.probe.probe_children.Goals as goal

none : Child
none = (0, 0)

pub loop-low-init : goal.loop-low-init
loop-low-init g c =
    let old = g.P.Pages.standing c.args.pages.now in
    let whole : c.args.count - 1 ≡ c.args.count - 0 - 1 = omega arith in
    record {
      call = KeepsPages-refl c.requires.ready;
      reads = ReadsPage-refl c.args.page old c.requires.open;
      lines = AddsLines-refl old (subst (λ (w : ℕ). Halves child_probe c.args.count (c.args.count - 1) w []) whole (halves_none child_probe c.args.count (c.args.count - 1)));
      bound = AddsLines-refl old (turns_none 1 8 (c.args.count - 0 - 1) (omega (arith, c.requires.few)));
      again = omega arith;
      nvm_kept = refl;
      ssd_kept = refl;
      narrow = narrow_whole c.args.expect.now c.args.key c.args.count c.requires.some c.requires.above c.requires.within;
      bounds = λ told well. bounds_whole (bytes_of old.current c.args.page) c.args.expect.now c.args.count (λ e. omega (arith, e, c.requires.inner)) well (c.requires.known told);
    }

pub returns-then-not-is_inside-clause-reads : goal.returns-then-not-is_inside-clause-reads
returns-then-not-is_inside-clause-reads g c = ReadsPage-trans c.loop-low.invariant.reads c.in_ok-found.ensures.reads

pub returns-then-not-is_inside-clause-spot : goal.returns-then-not-is_inside-clause-spot
returns-then-not-is_inside-clause-spot g c = λ told well.
    let before = c.loop-low.invariant in
    let expect = c.args.expect.now in
    let bytes = bytes_of (g.P.Pages.standing c.args.pages.now).current c.args.page in
    let middle = c.loop-low.low + (c.loop-low.high - c.loop-low.low) / 2 in
    let above : expect.level ≢ 0 = (λ e. omega (arith, e, c.requires.inner)) in
    let told_on = subst IsTrue (sym before.call.continues.told) told in
    let found : c.in_ok-found.found ≡ u64_at bytes (64 + 16 * middle) = c.in_ok-found.ensures.value told_on ∙ ap (λ all. u64_at (bytes_of all c.args.page) (64 + 16 * middle)) (before.reads.current told) in
    let inside : middle < entry_count bytes = omega (arith, before.narrow.within, before.narrow.ordered, c.requires.known told, c.loop-low-test.true) in
    let key = probed_key bytes middle c.in_ok-found.found none inside found in
    let is = key_inside bytes expect middle none above well (omega (arith, c.loop-low-test.true)) (omega (arith, inside, length_children bytes)) in
    let yes_it = inside_is expect c.in_ok-found.found (record { low = omega (arith, key, is.low); high = omega (arith, key, is.high) }) in
    clash yes_it (sym c.is_inside.ensures ∙ c.if-not-is_inside.true)

pub loop-low-preserved-then-found-key : goal.loop-low-preserved-then-found-key
loop-low-preserved-then-found-key g c =
    let before = c.loop-low.invariant in
    let expect = c.args.expect.now in
    let bytes = bytes_of (g.P.Pages.standing c.args.pages.now).current c.args.page in
    let middle = c.loop-low.low + (c.loop-low.high - c.loop-low.low) / 2 in
    let above : expect.level ≢ 0 = (λ e. omega (arith, e, c.requires.inner)) in
    let is = inside_of expect c.in_ok-found.found (sym c.is_inside.ensures ∙ c.if-not-is_inside.false) in
    record {
      call = KeepsPages-then before.call c.in_ok-found.ensures.call;
      reads = ReadsPage-trans before.reads c.in_ok-found.ensures.reads;
      lines = child_probed c.args.count c.loop-low.low c.loop-low.high (c.loop-low.high - middle - 1) middle c.loop-low-test.true (omega (arith, c.loop-low-test.true)) (omega (arith, before.narrow.within, c.loop-low-test.true))
          before.lines c.in_ok-found.ensures.lines;
      bound = child_turn c.loop-low.low c.loop-low.high (c.loop-low.high - middle - 1) middle c.loop-low-test.true (omega (arith, c.loop-low-test.true)) before.bound c.in_ok-found.ensures.lines;
      again = omega (arith, before.again, c.in_ok-found.ensures.again (still_open before.reads));
      nvm_kept = c.in_ok-found.ensures.cause.kept.0 ∙ before.nvm_kept;
      ssd_kept = c.in_ok-found.ensures.cause.kept.1 ∙ before.ssd_kept;
      narrow = narrow_right expect c.args.key c.args.count c.loop-low.low c.loop-low.high c.loop-low.least c.loop-low.most middle c.in_ok-found.found before.narrow
          (omega (arith, c.loop-low-test.true)) (omega (arith, c.loop-low-test.true)) is.low c.if-found-key.true;
      bounds = λ told well.
          let told_on = subst IsTrue (sym before.call.continues.told) told in
          let found : c.in_ok-found.found ≡ u64_at bytes (64 + 16 * middle) = c.in_ok-found.ensures.value told_on ∙ ap (λ all. u64_at (bytes_of all c.args.page) (64 + 16 * middle)) (before.reads.current told) in
          let inside : middle < entry_count bytes = omega (arith, before.narrow.within, before.narrow.ordered, c.requires.known told, c.loop-low-test.true) in
          record { least_is = λ d. probed_key bytes middle c.in_ok-found.found d inside found; most_is = (before.bounds told well).most_is };
    }

pub loop-low-preserved : goal.loop-low-preserved
loop-low-preserved g c =
    let before = c.loop-low.invariant in
    let expect = c.args.expect.now in
    let bytes = bytes_of (g.P.Pages.standing c.args.pages.now).current c.args.page in
    let middle = c.loop-low.low + (c.loop-low.high - c.loop-low.low) / 2 in
    let above : expect.level ≢ 0 = (λ e. omega (arith, e, c.requires.inner)) in
    let is = inside_of expect c.in_ok-found.found (sym c.is_inside.ensures ∙ c.if-not-is_inside.false) in
    record {
      call = KeepsPages-then before.call c.in_ok-found.ensures.call;
      reads = ReadsPage-trans before.reads c.in_ok-found.ensures.reads;
      lines = child_probed c.args.count c.loop-low.low c.loop-low.high (middle - c.loop-low.low - 1) middle c.loop-low-test.true (omega (arith, c.loop-low-test.true)) (omega (arith, before.narrow.within, c.loop-low-test.true))
          before.lines c.in_ok-found.ensures.lines;
      bound = child_turn c.loop-low.low c.loop-low.high (middle - c.loop-low.low - 1) middle c.loop-low-test.true (omega (arith, c.loop-low-test.true)) before.bound c.in_ok-found.ensures.lines;
      again = omega (arith, before.again, c.in_ok-found.ensures.again (still_open before.reads));
      nvm_kept = c.in_ok-found.ensures.cause.kept.0 ∙ before.nvm_kept;
      ssd_kept = c.in_ok-found.ensures.cause.kept.1 ∙ before.ssd_kept;
      narrow = narrow_left expect c.args.key c.args.count c.loop-low.low c.loop-low.high c.loop-low.least c.loop-low.most middle c.in_ok-found.found before.narrow
          (omega (arith, c.loop-low-test.true)) (omega (arith, c.loop-low-test.true)) is.high c.if-found-key.false;
      bounds = λ told well.
          let told_on = subst IsTrue (sym before.call.continues.told) told in
          let found : c.in_ok-found.found ≡ u64_at bytes (64 + 16 * middle) = c.in_ok-found.ensures.value told_on ∙ ap (λ all. u64_at (bytes_of all c.args.page) (64 + 16 * middle)) (before.reads.current told) in
          let inside : middle < entry_count bytes = omega (arith, before.narrow.within, before.narrow.ordered, c.requires.known told, c.loop-low-test.true) in
          record {
            least_is = (before.bounds told well).least_is;
            most_is = record {
              next_is = λ less d. ap (λ (n : ℕ). n - 1) (probed_key bytes middle c.in_ok-found.found d inside found);
              last_is = λ past. absurd (omega (arith, past, inside, length_children bytes));
            };
          };
    }

pub returns-then-not-is_page-clause-reads : goal.returns-then-not-is_page-clause-reads
returns-then-not-is_page-clause-reads g c = ReadsPage-trans c.loop-low.invariant.reads c.in_ok-child.ensures.reads

pub returns-then-not-is_page-clause-spot : goal.returns-then-not-is_page-clause-spot
returns-then-not-is_page-clause-spot g c = λ told well.
    let before = c.loop-low.invariant in
    let expect = c.args.expect.now in
    let bytes = bytes_of (g.P.Pages.standing c.args.pages.now).current c.args.page in
    let low = c.loop-low.low in
    let above : expect.level ≢ 0 = (λ e. omega (arith, e, c.requires.inner)) in
    let told_on = subst IsTrue (sym before.call.continues.told) told in
    let page : c.in_ok-child.child ≡ u64_at bytes (72 + 16 * low) = c.in_ok-child.ensures.value told_on ∙ ap (λ all. u64_at (bytes_of all c.args.page) (72 + 16 * low)) (before.reads.current told) in
    let inside : low < entry_count bytes = omega (arith, before.narrow.within, before.narrow.ordered, c.requires.known told) in
    let is = probed_page bytes low c.in_ok-child.child none inside page in
    let yes_it = ap (λ (n : ℕ). is_page_below expect.pages (0, n)) is ∙ child_below bytes expect low none above well (omega (arith, inside, length_children bytes)) in
    clash yes_it (sym c.is_page.ensures ∙ c.if-not-is_page.true)

pub returns-clause-reads : goal.returns-clause-reads
returns-clause-reads g c = ReadsPage-trans c.loop-low.invariant.reads c.in_ok-child.ensures.reads

pub returns-clause-spot : goal.returns-clause-spot
returns-clause-spot g c = λ told well.
    let before = c.loop-low.invariant in
    let expect = c.args.expect.now in
    let bytes = bytes_of (g.P.Pages.standing c.args.pages.now).current c.args.page in
    let low = c.loop-low.low in
    let above : expect.level ≢ 0 = (λ e. omega (arith, e, c.requires.inner)) in
    let told_on = subst IsTrue (sym before.call.continues.told) told in
    let page : c.in_ok-child.child ≡ u64_at bytes (72 + 16 * low) = c.in_ok-child.ensures.value told_on ∙ ap (λ all. u64_at (bytes_of all c.args.page) (72 + 16 * low)) (before.reads.current told) in
    let inside : low < entry_count bytes = omega (arith, before.narrow.within, before.narrow.ordered, c.requires.known told) in
    let bounds = before.bounds told well in
    let end : c.loop-low.high ≡ low + 1 = omega (arith, c.loop-low-test.false, before.narrow.ordered) in
    span_is (children bytes) low expect.high c.in_ok-child.child c.loop-low.least c.loop-low.most none (omega (arith, inside, length_children bytes))
    (subst (λ (n : ℕ). Reaches (children bytes) n expect.high c.loop-low.most) end bounds.most_is) (probed_page bytes low c.in_ok-child.child none inside page) (bounds.least_is none)

pub returns-then-not-is_inside-clause-lines : goal.returns-then-not-is_inside-clause-lines
returns-then-not-is_inside-clause-lines g c = λ told well.
    let before = c.loop-low.invariant in
    let expect = c.args.expect.now in
    let bytes = bytes_of (g.P.Pages.standing c.args.pages.now).current c.args.page in
    let middle = c.loop-low.low + (c.loop-low.high - c.loop-low.low) / 2 in
    let above : expect.level ≢ 0 = (λ e. omega (arith, e, c.requires.inner)) in
    let told_on = subst IsTrue (sym before.call.continues.told) told in
    let found : c.in_ok-found.found ≡ u64_at bytes (64 + 16 * middle) = c.in_ok-found.ensures.value told_on ∙ ap (λ all. u64_at (bytes_of all c.args.page) (64 + 16 * middle)) (before.reads.current told) in
    let inside : middle < entry_count bytes = omega (arith, before.narrow.within, before.narrow.ordered, c.requires.known told, c.loop-low-test.true) in
    let key = probed_key bytes middle c.in_ok-found.found none inside found in
    let is = key_inside bytes expect middle none above well (omega (arith, c.loop-low-test.true)) (omega (arith, inside, length_children bytes)) in
    let yes_it = inside_is expect c.in_ok-found.found (record { low = omega (arith, key, is.low); high = omega (arith, key, is.high) }) in
    absurd (clash yes_it (sym c.is_inside.ensures ∙ c.if-not-is_inside.true))

pub returns-then-not-is_page-clause-lines : goal.returns-then-not-is_page-clause-lines
returns-then-not-is_page-clause-lines g c = λ told well.
    child_read (bytes_of (g.P.Pages.standing c.args.pages.now).current c.args.page) c.args.count (c.loop-low.high - c.loop-low.low - 1) c.loop-low.low (c.requires.known told)
    (omega (arith, c.loop-low.invariant.narrow.within, c.loop-low.invariant.narrow.ordered)) c.loop-low.invariant.lines c.in_ok-child.ensures.lines

pub returns-clause-lines : goal.returns-clause-lines
returns-clause-lines g c = λ told well.
    child_read (bytes_of (g.P.Pages.standing c.args.pages.now).current c.args.page) c.args.count (c.loop-low.high - c.loop-low.low - 1) c.loop-low.low (c.requires.known told)
    (omega (arith, c.loop-low.invariant.narrow.within, c.loop-low.invariant.narrow.ordered)) c.loop-low.invariant.lines c.in_ok-child.ensures.lines

pub returns-then-not-is_inside-clause-bound : goal.returns-then-not-is_inside-clause-bound
returns-then-not-is_inside-clause-bound g c =
    keys_bound 0 (child_turn c.loop-low.low c.loop-low.high 0 (c.loop-low.low + (c.loop-low.high - c.loop-low.low) / 2) c.loop-low-test.true (omega arith) c.loop-low.invariant.bound c.in_ok-found.ensures.lines)

pub returns-then-not-is_page-clause-bound : goal.returns-then-not-is_page-clause-bound
returns-then-not-is_page-clause-bound g c = number_bound (c.loop-low.high - c.loop-low.low - 1) c.loop-low.low c.loop-low.invariant.bound c.in_ok-child.ensures.lines

pub returns-clause-bound : goal.returns-clause-bound
returns-clause-bound g c = number_bound (c.loop-low.high - c.loop-low.low - 1) c.loop-low.low c.loop-low.invariant.bound c.in_ok-child.ensures.lines

pub returns-in_err-found-clause-call : goal.returns-in_err-found-clause-call
returns-in_err-found-clause-call g c = KeepsPages-stops c.from_residual.result c.from_residual.ensures.0 (KeepsPages-trans c.loop-low.invariant.call c.in_err-found.ensures.call)

pub returns-then-not-is_inside-clause-call : goal.returns-then-not-is_inside-clause-call
returns-then-not-is_inside-clause-call g c = KeepsPages-then c.loop-low.invariant.call c.in_ok-found.ensures.call

pub returns-in_err-child-clause-call : goal.returns-in_err-child-clause-call
returns-in_err-child-clause-call g c = KeepsPages-stops c.from_residual-in_err-child.result c.from_residual-in_err-child.ensures.0 (KeepsPages-trans c.loop-low.invariant.call c.in_err-child.ensures.call)

pub returns-then-not-is_page-clause-call : goal.returns-then-not-is_page-clause-call
returns-then-not-is_page-clause-call g c = KeepsPages-then c.loop-low.invariant.call c.in_ok-child.ensures.call

pub returns-clause-call : goal.returns-clause-call
returns-clause-call g c = KeepsPages-then c.loop-low.invariant.call c.in_ok-child.ensures.call
