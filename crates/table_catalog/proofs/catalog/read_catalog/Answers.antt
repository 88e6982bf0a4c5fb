use Rattle.table_catalog.proofs.ReadsLaws.{then_stop}
use Rattle.line_pages.proofs.CauseLaws.{unless_never}
use Rattle.std.proofs.Common.{◌≡◌, ℕ, IsTrue, Some, ap, refl, sym, subst, ◌∙◌}
use Rattle.line_pages.specs.Lines.{Lines}
use Rattle.line_pages.proofs.StandingLaws.{KeepsPages-stops, KeepsPages-trans, one_read}
use Rattle.damage.specs.Checks.{first_failure}
use Rattle.page_format.specs.Search.{Keeps}
use Rattle.table_catalog.specs.Catalog.{header_checks, FailsCatalog}
use Rattle.table_catalog.proofs.catalog.read_catalog.Goals as goal

pub damaged_header-requires-clause-header : goal.damaged_header-requires-clause-header
damaged_header-requires-clause-header g c = λ told.
    let read = c.in_ok-header.ensures in
    let told_before = subst IsTrue read.call.continues.told told in
    read.value told_before ∙ ap (λ (all : Lines). all 0 0) (sym (read.reads.current told_before))

pub damaged_header-requires-clause-fails : goal.damaged_header-requires-clause-fails
damaged_header-requires-clause-fails g c =
    subst (λ (n : ℕ). first_failure (header_checks c.args.limits.now n c.in_ok-header.header) ≡ Some c.in-Some.check) (c.page_count-count.ensures.count ∙ sym c.in_ok-header.ensures.call.continues.count)
    (sym c.failing.ensures ∙ c.in-Some.is)

pub returns-in-Some-clause-fails : goal.returns-in-Some-clause-fails
returns-in-Some-clause-fails g c =
    subst (λ (n : ℕ). Keeps (FailsCatalog c.args.limits.now n c.damaged_header.new.work.page) c.damaged_header.result) c.in_ok-header.ensures.call.continues.count c.damaged_header.ensures.fails

pub returns-in-Some-clause-call : goal.returns-in-Some-clause-call
returns-in-Some-clause-call g c = KeepsPages-stops _ refl (KeepsPages-trans c.in_ok-header.ensures.call c.damaged_header.ensures.call)

pub returns-in_err-header-clause-reads : goal.returns-in_err-header-clause-reads
returns-in_err-header-clause-reads g c = unless_never _ (g.P.Pages.standing c.args.pages.now) (g.P.Pages.standing c.read_line.new.self) c.from_residual.result c.in_err-header.field-0.0 c.from_residual.ensures c.in_err-header.ensures.cause.failed

pub returns-in-Some-clause-reads : goal.returns-in-Some-clause-reads
returns-in-Some-clause-reads g c =
    let read = c.in_ok-header.ensures in
    then_stop (g.P.Pages.standing c.args.pages.now) (g.P.Pages.standing c.read_line.new.self) (g.P.Pages.standing c.damaged_header.new.pages) c.damaged_header.result (one_read c.in_ok-header.header read.call.continues.told read.reads) c.damaged_header.ensures.reads
