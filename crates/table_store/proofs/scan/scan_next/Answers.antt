use Rattle.std.proofs.Common.{rules, not, ap, refl, IsTrue, sym, subst, ◌∙◌}
use Rattle.table_catalog.specs.Catalog.{tables}
use Rattle.rows.specs.Tables.{is_known}
use Rattle.table_store.specs.Scanning.{next_of, is_no_table}
use Rattle.table_store.proofs.CreateLaws.{unknown_by, present_is}
use Rattle.table_store.proofs.LookupLaws.{lookup_more, known_some, named_none, answer_in, sound_in}
use Rattle.table_store.proofs.ScanLaws.{scan_none, scan_some}
use Rattle.page_format.specs.Search.{Keeps}
use Rattle.table_store.specs.Getting.{FailsLookup}
use Rattle.table_store.proofs.FailsLaws.{lookup_by_catalog, lookup_by_node}
use Rattle.table_catalog.proofs.TouchesLaws.{looks_up, looks_up_on}
use Rattle.table_store.proofs.scan.scan_next.Goals as goal

pub returns-in-None-clause-row : goal.returns-in-None-clause-row
returns-in-None-clause-row g c = λ told store.
    named_none _ (next_of c.args.from c.args.to) c.args.name.now (g.P.Pages.standing c.args.pages.now).current refl (sym (c.in_ok-find_entry.ensures.place told) ∙ c.in-None.is)

pub returns-in-None-clause-known : goal.returns-in-None-clause-known
returns-in-None-clause-known g c = λ told.
    sym (ap not (unknown_by c.args.name.now (g.P.Pages.standing c.args.pages.now).current (sym (c.in_ok-find_entry.ensures.place told) ∙ c.in-None.is)))

pub returns-in-Some-clause-row : goal.returns-in-Some-clause-row
returns-in-Some-clause-row g c = λ told.
    let old = g.P.Pages.standing c.args.pages.now in
    let now = g.P.Pages.standing c.find_entry.new.pages in
    let found = c.in_ok-find_entry.ensures in
    answer_in (next_of c.args.from c.args.to) c.args.limits.now old.count now.count old.current now.current c.args.name.now c.in-Some.place c.next_in.result found.call.continues.count (found.reads.current told)
    (sym (found.place told) ∙ c.in-Some.is) (rw c.in-Some.is at found.fits).entry
    (rw c.root_of-root.ensures at (c.next_in.ensures.row (subst IsTrue (sym found.call.continues.told) told)))

pub returns-in-Some-clause-known : goal.returns-in-Some-clause-known
returns-in-Some-clause-known g c = λ told.
    let old = g.P.Pages.standing c.args.pages.now in
    known_some is_no_table (is_known c.args.name.now (tables old.current)) c.next_in.result
    (present_is c.args.name.now old.current c.in-Some.place (sym (c.in_ok-find_entry.ensures.place told) ∙ c.in-Some.is)) c.next_in.ensures.named

pub returns-in-Some-clause-sound : goal.returns-in-Some-clause-sound
returns-in-Some-clause-sound g c = λ told.
    let old = g.P.Pages.standing c.args.pages.now in
    let now = g.P.Pages.standing c.find_entry.new.pages in
    let found = c.in_ok-find_entry.ensures in
    sound_in c.args.limits.now old.count now.count old.current now.current c.args.name.now c.in-Some.place c.next_in.result found.call.continues.count (found.reads.current told)
    (sym (found.place told) ∙ c.in-Some.is) (rw c.in-Some.is at found.fits).entry
    (rw c.root_of-root.ensures at (c.next_in.ensures.sound (subst IsTrue (sym found.call.continues.told) told)))

pub returns-in-None-clause-touches : goal.returns-in-None-clause-touches
returns-in-None-clause-touches g c = λ told store.
    let old = g.P.Pages.standing c.args.pages.now in
    scan_none c.args.name.now old (g.P.Pages.standing c.find_entry.new.pages) c.in_ok-find_entry.ensures.reads
    (lookup_more c.args.name.now old (g.P.Pages.standing c.find_entry.new.pages) (c.in_ok-find_entry.ensures.lines told))

pub returns-in-Some-clause-touches : goal.returns-in-Some-clause-touches
returns-in-Some-clause-touches g c = λ told.
    let old = g.P.Pages.standing c.args.pages.now in
    let now = g.P.Pages.standing c.find_entry.new.pages in
    let found = c.in_ok-find_entry.ensures in
    scan_some c.args.limits.now c.args.name.now c.in-Some.place old now (g.P.Pages.standing c.next_in.new.pages) c.next_in.result
    (sym (found.place told) ∙ c.in-Some.is) (rw c.in-Some.is at found.fits).entry (lookup_more c.args.name.now old now (found.lines told)) found.call.continues.count (found.reads.current told) found.reads
    (rw c.root_of-root.ensures at (c.next_in.ensures.touches (subst IsTrue (sym found.call.continues.told) told)))

pub returns-in_err-find_entry-clause-fails : goal.returns-in_err-find_entry-clause-fails
returns-in_err-find_entry-clause-fails g c =
    let count = (g.P.Pages.standing c.args.pages.now).count in
    let here : Keeps (FailsLookup c.args.limits.now count c.find_entry.new.work.page) c.in_err-find_entry.field-0.0 =
    lookup_by_catalog c.args.limits.now count c.find_entry.new.work.page c.in_err-find_entry.field-0.0 c.in_err-find_entry.ensures.fails in
    search (rules, here)

pub returns-in-Some-clause-fails : goal.returns-in-Some-clause-fails
returns-in-Some-clause-fails g c =
    let old = g.P.Pages.standing c.args.pages.now in
    let now = g.P.Pages.standing c.find_entry.new.pages in
    lookup_by_node c.args.limits.now old.count now.count c.next_in.new.work.page c.next_in.result c.in_ok-find_entry.ensures.call.continues.count c.next_in.ensures.fails

pub returns-in-None-clause-lines : goal.returns-in-None-clause-lines
returns-in-None-clause-lines g c = λ told.
    looks_up c.args.name.now (g.P.Pages.standing c.args.pages.now) (g.P.Pages.standing c.find_entry.new.pages) (c.in_ok-find_entry.ensures.lines told)

pub returns-in-Some-clause-lines : goal.returns-in-Some-clause-lines
returns-in-Some-clause-lines g c = λ told.
    let old = g.P.Pages.standing c.args.pages.now in
    let mid = g.P.Pages.standing c.find_entry.new.pages in
    looks_up_on c.args.name.now old mid (g.P.Pages.standing c.next_in.new.pages) c.next_in.result (c.in_ok-find_entry.ensures.lines told) c.next_in.ensures.call.continues.touches
