use Rattle.table_catalog.proofs.ReadsLaws.{then_stop}
use Rattle.line_pages.proofs.CauseLaws.{unless_never}
use Rattle.std.proofs.Common.{◌+◌, ℕ, IsTrue, ap, refl, sym, subst, ◌∙◌}
use Rattle.line_pages.specs.Lines.{Lines}
use Rattle.line_pages.proofs.StandingLaws.{KeepsPages-stops, KeepsPages-trans, one_read}
use Rattle.page_format.specs.Search.{Keeps}
use Rattle.page_alloc.specs.Space.{word}
use Rattle.table_catalog.specs.Catalog.{FitsCatalog, FailsCatalog}
use Rattle.table_catalog.proofs.CatalogLaws.{fits_entry}
use Rattle.table_catalog.proofs.catalog.read_entry.Goals as goal

pub damaged_entry-requires-clause-header : goal.damaged_entry-requires-clause-header
damaged_entry-requires-clause-header g c = λ told.
    let read = c.in_ok-line.ensures in
    let told_before = subst IsTrue read.call.continues.told told in
    c.requires.header told_before ∙ ap (λ (all : Lines). all 0 0) (sym (read.reads.current told_before))

pub damaged_entry-requires-clause-entry : goal.damaged_entry-requires-clause-entry
damaged_entry-requires-clause-entry g c = λ told.
    let read = c.in_ok-line.ensures in
    let told_before = subst IsTrue read.call.continues.told told in
    read.value told_before ∙ ap (λ (all : Lines). all 0 (2 + c.args.at)) (sym (read.reads.current told_before))

pub damaged_entry-requires-clause-fits : goal.damaged_entry-requires-clause-fits
damaged_entry-requires-clause-fits g c = subst (λ (n : ℕ). FitsCatalog c.args.limits.now n c.args.header.now) (sym c.in_ok-line.ensures.call.continues.count) c.requires.fits

pub returns-then-not-is_listed-clause-fails : goal.returns-then-not-is_listed-clause-fails
returns-then-not-is_listed-clause-fails g c =
    subst (λ (n : ℕ). Keeps (FailsCatalog c.args.limits.now n c.damaged_entry.new.work.page) c.damaged_entry.result) c.in_ok-line.ensures.call.continues.count c.damaged_entry.ensures.fails

pub returns-then-not-is_listed-clause-call : goal.returns-then-not-is_listed-clause-call
returns-then-not-is_listed-clause-call g c = KeepsPages-stops _ refl (KeepsPages-trans c.in_ok-line.ensures.call c.damaged_entry.ensures.call)

pub returns-clause-fits : goal.returns-clause-fits
returns-clause-fits g c = fits_entry c.args.limits.now (word c.args.header.now 2) c.entry_in-entry.result (sym c.is_listed.ensures ∙ c.if-not-is_listed.false)

pub returns-in_err-line-clause-reads : goal.returns-in_err-line-clause-reads
returns-in_err-line-clause-reads g c = unless_never _ (g.P.Pages.standing c.args.pages.now) (g.P.Pages.standing c.read_line.new.self) c.from_residual.result c.in_err-line.field-0.0 c.from_residual.ensures c.in_err-line.ensures.cause.failed

pub returns-then-not-is_listed-clause-reads : goal.returns-then-not-is_listed-clause-reads
returns-then-not-is_listed-clause-reads g c =
    let read = c.in_ok-line.ensures in
    then_stop (g.P.Pages.standing c.args.pages.now) (g.P.Pages.standing c.read_line.new.self) (g.P.Pages.standing c.damaged_entry.new.pages) c.damaged_entry.result (one_read c.in_ok-line.line read.call.continues.told read.reads) c.damaged_entry.ensures.reads
