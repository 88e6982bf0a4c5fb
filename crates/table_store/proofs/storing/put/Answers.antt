use Rattle.std.proofs.Common.{◌≡◌, ◌<◌, arith, rules, not, ap, refl, length, Some, IsTrue, sym, subst, ◌∙◌}
use Rattle.table_catalog.specs.declared.entry.TableEntry.{TableEntry}
use Rattle.table_catalog.specs.Catalog.{entries, place_of, tables}
use Rattle.rows.specs.Tables.{is_known}
use Rattle.table_store.specs.Putting.{stored_of, is_no_table}
use Rattle.table_store.proofs.CreateLaws.{unknown_by, present_is}
use Rattle.table_store.proofs.LookupLaws.{named_none, known_some}
use Rattle.page_format.specs.Search.{Keeps}
use Rattle.table_store.specs.Changed.{FailsChange}
use Rattle.table_store.proofs.FailsLaws.{change_by_catalog, change_by_tree}
use Rattle.table_catalog.proofs.TouchesLaws.{looks_up, looks_up_on}
use Rattle.page_alloc.proofs.TouchedLaws.{nothing_read}
use Rattle.table_store.proofs.RecordLaws.{again_named}
use Rattle.table_store.proofs.storing.put.Goals as goal

pub returns-in-None-clause-answer : goal.returns-in-None-clause-answer
returns-in-None-clause-answer g c = λ told store.
    named_none _ (stored_of c.args.limits.now c.args.key) c.args.name.now (g.P.Pages.standing c.args.pages.now).current refl (sym (c.in_ok-find_entry.ensures.place told) ∙ c.in-None.is)

pub returns-in-None-clause-known : goal.returns-in-None-clause-known
returns-in-None-clause-known g c = λ told.
    sym (ap not (unknown_by c.args.name.now (g.P.Pages.standing c.args.pages.now).current (sym (c.in_ok-find_entry.ensures.place told) ∙ c.in-None.is)))

pub returns-in-Some-clause-known : goal.returns-in-Some-clause-known
returns-in-Some-clause-known g c = λ told.
    let old = g.P.Pages.standing c.args.pages.now in
    known_some is_no_table (is_known c.args.name.now (tables old.current)) c.put_at.result
    (present_is c.args.name.now old.current c.in-Some.place (sym (c.in_ok-find_entry.ensures.place told) ∙ c.in-Some.is)) c.put_at.ensures.named

pub returns-in_err-find_entry-clause-fails : goal.returns-in_err-find_entry-clause-fails
returns-in_err-find_entry-clause-fails g c =
    let count = (g.P.Pages.standing c.args.pages.now).count in
    let here : Keeps (FailsChange c.args.limits.now count c.find_entry.new.work.page) c.in_err-find_entry.field-0.0 =
    change_by_catalog c.args.limits.now count c.find_entry.new.work.page c.in_err-find_entry.field-0.0 c.in_err-find_entry.ensures.fails in
    search (rules, here)

pub returns-in-Some-clause-fails : goal.returns-in-Some-clause-fails
returns-in-Some-clause-fails g c =
    let old = g.P.Pages.standing c.args.pages.now in
    let now = g.P.Pages.standing c.find_entry.new.pages in
    change_by_tree c.args.limits.now old.count now.count c.put_at.new.work.page c.put_at.result c.in_ok-find_entry.ensures.call.continues.count c.put_at.ensures.fails

pub returns-in-None-clause-lines : goal.returns-in-None-clause-lines
returns-in-None-clause-lines g c = λ told.
    looks_up c.args.name.now (g.P.Pages.standing c.args.pages.now) (g.P.Pages.standing c.find_entry.new.pages) (c.in_ok-find_entry.ensures.lines told)

pub returns-in-Some-clause-lines : goal.returns-in-Some-clause-lines
returns-in-Some-clause-lines g c = λ told.
    let old = g.P.Pages.standing c.args.pages.now in
    let mid = g.P.Pages.standing c.find_entry.new.pages in
    looks_up_on c.args.name.now old mid (g.P.Pages.standing c.put_at.new.pages) c.put_at.result (c.in_ok-find_entry.ensures.lines told) c.put_at.ensures.call.continues.touches

pub returns-in-None-clause-again : goal.returns-in-None-clause-again
returns-in-None-clause-again g c = λ told store place is holds. let none = sym (c.in_ok-find_entry.ensures.place told) ∙ c.in-None.is in absurd (cc)

pub returns-in-Some-clause-again : goal.returns-in-Some-clause-again
returns-in-Some-clause-again g c = λ told.
    let old = g.P.Pages.standing c.args.pages.now in
    let mid = g.P.Pages.standing c.find_entry.new.pages in
    let found = c.in_ok-find_entry.ensures in
    again_named c.args.limits.now c.args.name.now c.args.key (length c.args.value.now) c.in-Some.place old mid (g.P.Pages.standing c.put_at.new.pages) c.put_at.result (sym (found.place told) ∙ c.in-Some.is) (rw c.in-Some.is at found.fits)
    (found.reads.current told) found.call.continues.count (nothing_read found.reads) (c.put_at.ensures.again (subst IsTrue (sym found.call.continues.told) told))

pub returns-in-Some-clause-once : goal.returns-in-Some-clause-once
returns-in-Some-clause-once g c = λ told below.
    let old = g.P.Pages.standing c.args.pages.now in
    let there : place_of c.args.name.now 0 (entries old.current) ≡ Some c.in-Some.place = sym (c.in_ok-find_entry.ensures.place told) ∙ c.in-Some.is in
    let those : below.0 ≡ c.in-Some.place = let is = below.1 in cc in
    let few = c.put_at.ensures.once (subst (λ (p : TableEntry). p.entry.rows < c.args.limits.now.rows) those below.2) in
    omega (arith, few, c.in_ok-find_entry.ensures.few)
