use Rattle.line_pages.proofs.CauseLaws.{unless_on}
use Rattle.line_pages.proofs.StandingLaws.{KeepsPages-trans}
use Rattle.page_search.proofs.OpenLaws.{then_reads_unless}
use Rattle.std.proofs.Common.{◌≡◌, ℕ, ap, IsTrue, IfOk, IfErr, subst, sym}
use Rattle.line_pages.specs.Lines.{Lines}
use Rattle.page_format.specs.Search.{Keeps}
use Rattle.table_catalog.specs.Catalog.{entries, place_of, FailsCatalog}
use Rattle.nvm_model.specs.declared.line.Line.{Line}
use Rattle.page_alloc.specs.Space.{word}
use Rattle.table_catalog.proofs.TouchesLaws.{lines_then}
use Rattle.table_catalog.proofs.catalog.find_entry.Goals as goal

pub returns-clause-reads : goal.returns-clause-reads
returns-clause-reads g c =
    then_reads_unless (g.P.Pages.standing c.args.pages.now) (g.P.Pages.standing c.read_catalog.new.pages) (g.P.Pages.standing c.search.new.pages) c.search.result c.in_ok-header.ensures.reads c.search.ensures.reads

pub returns-clause-lines : goal.returns-clause-lines
returns-clause-lines g c = λ told.
    let old = g.P.Pages.standing c.args.pages.now in
    let mid = g.P.Pages.standing c.read_catalog.new.pages in
    lines_then old.access old.touches mid.touches (g.P.Pages.standing c.search.new.pages).touches old.current c.args.name.now (word c.in_ok-header.header 1) c.search.result c.in_ok-header.ensures.line
    (ap (λ (line : Line). word line 1) (c.in_ok-header.ensures.header told))
    (subst (λ (all : Lines). IfOk c.search.result (λ place. place ≡ place_of c.args.name.now 0 (entries all))) (c.in_ok-header.ensures.reads.current told)
    (c.search.ensures.place (subst IsTrue (sym c.in_ok-header.ensures.call.continues.told) told)))
    c.search.ensures.lines

pub returns-clause-call : goal.returns-clause-call
returns-clause-call g c = KeepsPages-trans c.in_ok-header.ensures.call c.search.ensures.call

pub returns-clause-fails : goal.returns-clause-fails
returns-clause-fails g c =
    subst (λ (n : ℕ). IfErr c.search.result (Keeps (FailsCatalog c.args.limits.now n c.search.new.work.page))) c.in_ok-header.ensures.call.continues.count c.search.ensures.fails

pub returns-in_err-header-clause-reads : goal.returns-in_err-header-clause-reads
returns-in_err-header-clause-reads g c = unless_on _ c.from_residual.result c.in_err-header.field-0.0 c.from_residual.ensures c.in_err-header.ensures.reads
