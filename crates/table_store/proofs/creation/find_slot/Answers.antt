use Rattle.line_pages.proofs.StandingLaws.{ReadsPage-trans, KeepsPages-trans, KeepsPages-then, KeepsPages-stops}
use Rattle.std.proofs.Common.{ℕ, Ok, rules, ap, sym, subst, IsTrue, ◌∙◌}
use Rattle.line_pages.specs.Lines.{Lines}
use Rattle.table_catalog.specs.Catalog.{entries, place_of, FailsCatalog}
use Rattle.table_store.proofs.CreateLaws.{present_is}
use Rattle.page_format.specs.Search.{Keeps}
use Rattle.nvm_model.specs.declared.line.Line.{Line}
use Rattle.page_alloc.specs.Space.{word}
use Rattle.table_catalog.proofs.TouchesLaws.{lines_then}
use Rattle.table_store.proofs.creation.find_slot.Goals as goal

pub returns-in-Some-clause-reads : goal.returns-in-Some-clause-reads
returns-in-Some-clause-reads g c = ReadsPage-trans c.in_ok-header.ensures.reads c.in_ok-search.ensures.reads

pub returns-in-None-clause-reads : goal.returns-in-None-clause-reads
returns-in-None-clause-reads g c = ReadsPage-trans c.in_ok-header.ensures.reads c.in_ok-search.ensures.reads

pub returns-in-None-clause-call : goal.returns-in-None-clause-call
returns-in-None-clause-call g c = KeepsPages-then c.in_ok-header.ensures.call c.in_ok-search.ensures.call

pub returns-in-Some-clause-call : goal.returns-in-Some-clause-call
returns-in-Some-clause-call g c = KeepsPages-then c.in_ok-header.ensures.call c.in_ok-search.ensures.call

pub returns-in_err-search-clause-call : goal.returns-in_err-search-clause-call
returns-in_err-search-clause-call g c =
    KeepsPages-stops _ (search rules) (KeepsPages-trans c.in_ok-header.ensures.call c.in_err-search.ensures.call)

pub returns-in-Some-clause-slot : goal.returns-in-Some-clause-slot
returns-in-Some-clause-slot g c = λ told.
    let old = g.P.Pages.standing c.args.pages.now in
    let header = c.in_ok-header.ensures in
    present_is c.args.name.now old.current c.in-Some.field-0
    (sym (c.in_ok-search.ensures.place (subst IsTrue (sym header.call.continues.told) told) ∙ ap (λ (all : Lines). place_of c.args.name.now 0 (entries all)) (header.reads.current told)) ∙ c.in-Some.is)

pub returns-in_err-search-clause-fails : goal.returns-in_err-search-clause-fails
returns-in_err-search-clause-fails g c =
    let here : Keeps (FailsCatalog c.args.limits.now (g.P.Pages.standing c.args.pages.now).count c.search.new.work.page) c.in_err-search.field-0.0 =
    subst (λ (n : ℕ). Keeps (FailsCatalog c.args.limits.now n c.search.new.work.page) c.in_err-search.field-0.0) c.in_ok-header.ensures.call.continues.count c.in_err-search.ensures.fails in
    search (rules, here)

pub returns-in-None-clause-lines : goal.returns-in-None-clause-lines
returns-in-None-clause-lines g c = λ told.
    let old = g.P.Pages.standing c.args.pages.now in
    let mid = g.P.Pages.standing c.read_catalog.new.pages in
    let header = c.in_ok-header.ensures in
    let found = c.in_ok-search.ensures in
    lines_then old.access old.touches mid.touches (g.P.Pages.standing c.search.new.pages).touches old.current c.args.name.now (word c.in_ok-header.header 1) (Ok _) header.line
    (ap (λ (line : Line). word line 1) (header.header told))
    (found.place (subst IsTrue (sym header.call.continues.told) told) ∙ ap (λ (all : Lines). place_of c.args.name.now 0 (entries all)) (header.reads.current told))
    found.lines

pub returns-in-Some-clause-lines : goal.returns-in-Some-clause-lines
returns-in-Some-clause-lines g c = λ told.
    let old = g.P.Pages.standing c.args.pages.now in
    let mid = g.P.Pages.standing c.read_catalog.new.pages in
    let header = c.in_ok-header.ensures in
    let found = c.in_ok-search.ensures in
    lines_then old.access old.touches mid.touches (g.P.Pages.standing c.search.new.pages).touches old.current c.args.name.now (word c.in_ok-header.header 1) (Ok _) header.line
    (ap (λ (line : Line). word line 1) (header.header told))
    (found.place (subst IsTrue (sym header.call.continues.told) told) ∙ ap (λ (all : Lines). place_of c.args.name.now 0 (entries all)) (header.reads.current told))
    found.lines
