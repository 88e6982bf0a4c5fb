use Rattle.table_catalog.proofs.ReadsLaws.{then_stop}
use Rattle.line_pages.proofs.CauseLaws.{unless_on}
use Rattle.std.proofs.Common.{◌≡◌, ◌+◌, ℕ, rules, append-nil, IsTrue, arith, refl, ap, sym, subst, ◌∙◌}
use Rattle.nvm_model.specs.declared.line.Line.{Line}
use Rattle.line_pages.specs.Lines.{Lines}
use Rattle.line_pages.proofs.StandingLaws.{ReadsPage-refl, ReadsPage-trans, KeepsPages-trans, KeepsPages-then, KeepsPages-stops, KeepsPages-refl}
use Rattle.page_format.specs.Search.{Keeps}
use Rattle.page_alloc.specs.Space.{word}
use Rattle.table_catalog.specs.declared.entry.Entry.{Entry}
use Rattle.table_catalog.specs.Catalog.{entry_in as entry_of_line, FitsCatalog, FailsCatalog}
use Rattle.table_catalog.proofs.CatalogLaws.{place_start, place_step, place_found}
use Rattle.table_catalog.proofs.TouchesLaws.{touches_step}
use Rattle.table_catalog.proofs.catalog.search.Goals as goal

entry_there : (old now : Lines) (i : ℕ) (entry : Entry) → now ≡ old → entry ≡ entry_of_line (now 0 (2 + i)) → entry ≡ entry_of_line (old 0 (2 + i))
entry_there old now i entry same is = is ∙ ap (λ (all : Lines). entry_of_line (all 0 (2 + i))) same

pub loop-at-init : goal.loop-at-init
loop-at-init g c =
    let old = g.P.Pages.standing c.args.pages.now in
    record {
      call = KeepsPages-refl c.requires.ready;
      reads = ReadsPage-refl 0 old c.requires.open;
      again = omega arith;
      nvm_kept = refl;
      ssd_kept = refl;
      lines = sym (append-nil old.touches);
      so_far = λ told. place_start c.args.name.now old.current (word c.args.header.now 1) (ap (λ (h : Line). word h 1) (c.requires.header told));
    }

pub read_entry-requires-clause-ready : goal.read_entry-requires-clause-ready
read_entry-requires-clause-ready g c = c.loop-at.invariant.call.ready

pub read_entry-requires-clause-open : goal.read_entry-requires-clause-open
read_entry-requires-clause-open g c = c.loop-at.invariant.reads.access

pub read_entry-requires-clause-header : goal.read_entry-requires-clause-header
read_entry-requires-clause-header g c = λ told.
    let before = c.loop-at.invariant in
    let told_before = subst IsTrue before.call.continues.told told in
    c.requires.header told_before ∙ ap (λ (all : Lines). all 0 0) (sym (before.reads.current told_before))

pub read_entry-requires-clause-fits : goal.read_entry-requires-clause-fits
read_entry-requires-clause-fits g c =
    subst (λ (n : ℕ). FitsCatalog c.args.limits.now n c.args.header.now) (sym c.loop-at.invariant.call.continues.count) c.requires.fits

pub loop-at-preserved : goal.loop-at-preserved
loop-at-preserved g c =
    let read = c.in_ok-entry.ensures in
    let before = c.loop-at.invariant in
    let old = g.P.Pages.standing c.args.pages.now in
    record {
      call = KeepsPages-then before.call read.call;
      reads = ReadsPage-trans before.reads read.reads;
      again = omega (arith, read.again, before.again);
      nvm_kept = read.cause.kept.0 ∙ before.nvm_kept;
      ssd_kept = read.cause.kept.1 ∙ before.ssd_kept;
      lines = touches_step old.touches _ _ c.loop-at.at before.lines read.line;
      so_far = λ told. place_step c.args.name.now old.current _ c.loop-at.at (word c.args.header.now 1) c.in_ok-entry.entry c.loop-at-test.true (before.so_far told)
          (entry_there old.current (g.P.Pages.standing c.loop-at.pages).current c.loop-at.at c.in_ok-entry.entry (before.reads.current told) (read.entry (subst IsTrue (sym before.call.continues.told) told)))
          (sym c.has_name.ensures ∙ c.if-has_name.false);
    }

pub returns-then-has_name-clause-place : goal.returns-then-has_name-clause-place
returns-then-has_name-clause-place g c = λ told.
    let before = c.loop-at.invariant in
    let old = g.P.Pages.standing c.args.pages.now in
    place_found c.args.name.now old.current _ c.loop-at.at (word c.args.header.now 1) c.in_ok-entry.entry c.loop-at-test.true (before.so_far told)
    (entry_there old.current (g.P.Pages.standing c.loop-at.pages).current c.loop-at.at c.in_ok-entry.entry (before.reads.current told) (c.in_ok-entry.ensures.entry (subst IsTrue (sym before.call.continues.told) told)))
    (sym c.has_name.ensures ∙ c.if-has_name.true)

pub returns-then-has_name-clause-call : goal.returns-then-has_name-clause-call
returns-then-has_name-clause-call g c = KeepsPages-then c.loop-at.invariant.call c.in_ok-entry.ensures.call

pub returns-then-has_name-clause-reads : goal.returns-then-has_name-clause-reads
returns-then-has_name-clause-reads g c = ReadsPage-trans c.loop-at.invariant.reads c.in_ok-entry.ensures.reads

pub returns-then-has_name-clause-lines : goal.returns-then-has_name-clause-lines
returns-then-has_name-clause-lines g c = touches_step (g.P.Pages.standing c.args.pages.now).touches _ _ c.loop-at.at c.loop-at.invariant.lines c.in_ok-entry.ensures.line

pub returns-in_err-entry-clause-call : goal.returns-in_err-entry-clause-call
returns-in_err-entry-clause-call g c = KeepsPages-stops _ (search rules) (KeepsPages-trans c.loop-at.invariant.call c.in_err-entry.ensures.call)

pub returns-in_err-entry-clause-fails : goal.returns-in_err-entry-clause-fails
returns-in_err-entry-clause-fails g c =
    let here : Keeps (FailsCatalog c.args.limits.now (g.P.Pages.standing c.args.pages.now).count c.read_entry.new.work.page) c.in_err-entry.field-0.0 =
    subst (λ (n : ℕ). Keeps (FailsCatalog c.args.limits.now n c.read_entry.new.work.page) c.in_err-entry.field-0.0) c.loop-at.invariant.call.continues.count c.in_err-entry.ensures.fails in
    search (rules, here)

pub returns-in_err-entry-clause-reads : goal.returns-in_err-entry-clause-reads
returns-in_err-entry-clause-reads g c =
    unless_on _ c.from_residual.result c.in_err-entry.field-0.0 c.from_residual.ensures
    (then_stop (g.P.Pages.standing c.args.pages.now) (g.P.Pages.standing c.loop-at.pages) (g.P.Pages.standing c.read_entry.new.pages) c.in_err-entry.field-0.0 c.loop-at.invariant.reads c.in_err-entry.ensures.reads)
