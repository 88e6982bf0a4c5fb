use Rattle.std.proofs.Common.{◌≡◌, IsTrue, None, IfOk, rules, sym, subst}
use Rattle.line_pages.specs.Lines.{Lines}
use Rattle.table_catalog.specs.Catalog.{entries, table_count, tables, place_of}
use Rattle.page_format.specs.Search.{Keeps}
use Rattle.table_store.specs.Created.{created_of, FailsCreate}
use Rattle.table_store.proofs.FailsLaws.{create_by_catalog, create_by_space}
use Rattle.table_store.proofs.CreateLaws.{present_by}
use Rattle.table_catalog.proofs.TouchesLaws.{looks_up, looks_up_on}
use Rattle.table_store.proofs.creation.create.Goals as goal

pub returns-in_err-find_slot-clause-fails : goal.returns-in_err-find_slot-clause-fails
returns-in_err-find_slot-clause-fails g c =
    let count = (g.P.Pages.standing c.args.pages.now).count in
    let here : Keeps (FailsCreate c.args.limits.now count c.find_slot.new.work.page) c.in_err-find_slot.field-0.0 =
    create_by_catalog c.args.limits.now count c.find_slot.new.work.page c.in_err-find_slot.field-0.0 c.in_err-find_slot.ensures.fails in
    search (rules, here)

pub returns-in-Some-clause-fails : goal.returns-in-Some-clause-fails
returns-in-Some-clause-fails g c =
    let old = g.P.Pages.standing c.args.pages.now in
    let now = g.P.Pages.standing c.find_slot.new.pages in
    create_by_space c.args.limits.now old.count now.count c.create_at.new.work.page c.create_at.result c.in_ok-find_slot.ensures.call.continues.count c.create_at.ensures.fails

pub returns-in-None-clause-lines : goal.returns-in-None-clause-lines
returns-in-None-clause-lines g c = λ told.
    looks_up c.args.name.now (g.P.Pages.standing c.args.pages.now) (g.P.Pages.standing c.find_slot.new.pages) (c.in_ok-find_slot.ensures.lines told)

pub returns-in-Some-clause-lines : goal.returns-in-Some-clause-lines
returns-in-Some-clause-lines g c = λ told.
    let old = g.P.Pages.standing c.args.pages.now in
    let mid = g.P.Pages.standing c.find_slot.new.pages in
    looks_up_on c.args.name.now old mid (g.P.Pages.standing c.create_at.new.pages) c.create_at.result (c.in_ok-find_slot.ensures.lines told) c.create_at.ensures.call.continues.touches

pub returns-in-None-clause-known : goal.returns-in-None-clause-known
returns-in-None-clause-known g c = λ told.
    let old = g.P.Pages.standing c.args.pages.now in
    let slot = rw c.in-None.is at (c.in_ok-find_slot.ensures.slot told) in
    present_by c.args.limits.now old.current c.args.name.now slot

pub returns-in-Some-clause-known : goal.returns-in-Some-clause-known
returns-in-Some-clause-known g c = λ told.
    let found = c.in_ok-find_slot.ensures in
    let slot = rw c.in-Some.is at (found.slot told) in
    subst (λ (all : Lines). c.in-Some.at ≡ table_count all → place_of c.args.name.now 0 (entries all) ≡ None → IfOk c.create_at.result (λ answer. answer ≡ created_of c.args.limits.now c.args.name.now (tables all)))
    (found.reads.current told) (c.create_at.ensures.known (subst IsTrue (sym found.call.continues.told) told)) slot.0 slot.1
