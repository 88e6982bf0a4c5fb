use Rattle.std.proofs.Common.{rules, not, ap, refl, sym, ◌∙◌}
use Rattle.table_catalog.specs.Catalog.{tables}
use Rattle.rows.specs.Tables.{is_known}
use Rattle.table_store.specs.Deleting.{deleted_of, is_no_table}
use Rattle.table_store.proofs.CreateLaws.{unknown_by, present_is}
use Rattle.table_store.proofs.LookupLaws.{named_none, known_some}
use Rattle.page_format.specs.Search.{Keeps}
use Rattle.table_store.specs.Changed.{FailsChange}
use Rattle.table_store.proofs.FailsLaws.{change_by_catalog, change_by_tree}
use Rattle.table_catalog.proofs.TouchesLaws.{looks_up, looks_up_on}
use Rattle.table_store.proofs.deletion.delete.Goals as goal

pub returns-in-None-clause-answer : goal.returns-in-None-clause-answer
returns-in-None-clause-answer g c = λ told store.
    named_none _ (deleted_of c.args.key) c.args.name.now (g.P.Pages.standing c.args.pages.now).current refl (sym (c.in_ok-find_entry.ensures.place told) ∙ c.in-None.is)

pub returns-in-None-clause-known : goal.returns-in-None-clause-known
returns-in-None-clause-known g c = λ told.
    sym (ap not (unknown_by c.args.name.now (g.P.Pages.standing c.args.pages.now).current (sym (c.in_ok-find_entry.ensures.place told) ∙ c.in-None.is)))

pub returns-in-Some-clause-known : goal.returns-in-Some-clause-known
returns-in-Some-clause-known g c = λ told.
    let old = g.P.Pages.standing c.args.pages.now in
    known_some is_no_table (is_known c.args.name.now (tables old.current)) c.delete_at.result
    (present_is c.args.name.now old.current c.in-Some.place (sym (c.in_ok-find_entry.ensures.place told) ∙ c.in-Some.is)) c.delete_at.ensures.named

pub returns-in_err-find_entry-clause-fails : goal.returns-in_err-find_entry-clause-fails
returns-in_err-find_entry-clause-fails g c =
    let count = (g.P.Pages.standing c.args.pages.now).count in
    let here : Keeps (FailsChange c.args.limits.now count c.find_entry.new.work.page) c.in_err-find_entry.field-0.0 =
    change_by_catalog c.args.limits.now count c.find_entry.new.work.page c.in_err-find_entry.field-0.0 c.in_err-find_entry.ensures.fails in
    search (rules, here)

pub returns-in-Some-clause-fails : goal.returns-in-Some-clause-fails
returns-in-Some-clause-fails g c =
    let old = g.P.Pages.standing c.args.pages.now in
    let now = g.P.Pages.standing c.find_entry.new.pages in
    change_by_tree c.args.limits.now old.count now.count c.delete_at.new.work.page c.delete_at.result c.in_ok-find_entry.ensures.call.continues.count c.delete_at.ensures.fails

pub returns-in-None-clause-lines : goal.returns-in-None-clause-lines
returns-in-None-clause-lines g c = λ told.
    looks_up c.args.name.now (g.P.Pages.standing c.args.pages.now) (g.P.Pages.standing c.find_entry.new.pages) (c.in_ok-find_entry.ensures.lines told)

pub returns-in-Some-clause-lines : goal.returns-in-Some-clause-lines
returns-in-Some-clause-lines g c = λ told.
    let old = g.P.Pages.standing c.args.pages.now in
    let mid = g.P.Pages.standing c.find_entry.new.pages in
    looks_up_on c.args.name.now old mid (g.P.Pages.standing c.delete_at.new.pages) c.delete_at.result (c.in_ok-find_entry.ensures.lines told) c.delete_at.ensures.call.continues.touches
