use Rattle.line_pages.proofs.CostLaws.{AddsLines-weaker}
use Rattle.tree_search.proofs.CostLaws.{row_cost}
use Rattle.line_pages.specs.Bytes.{bytes_of}
use Rattle.page_search.proofs.OpenLaws.{then_reads}
use Rattle.tree_search.proofs.RecordLaws.{found_row, slot_fits, not_held}
use Rattle.tree_search.proofs.row.record_at.Goals as goal

pub returns-in-Some-clause-row : goal.returns-in-Some-clause-row
returns-in-Some-clause-row g c = λ told well r got.
    let f = found_row (bytes_of (g.P.Pages.standing c.args.pages.now).current c.args.page) c.args.expect.now c.args.at r c.requires.level well got in
    let e = c.in_ok-record.ensures.row told f.below in
    (cc (e, f.is, c.in-Some.is))

pub returns-in-None-clause-row : goal.returns-in-None-clause-row
returns-in-None-clause-row g c = λ told well r got.
    let f = found_row (bytes_of (g.P.Pages.standing c.args.pages.now).current c.args.page) c.args.expect.now c.args.at r c.requires.level well got in
    let e = c.in_ok-record.ensures.row told f.below in
    not_held c.read_row.new.work.page _ _ r c.in-None.is e f.is

pub returns-in-None-clause-reads : goal.returns-in-None-clause-reads
returns-in-None-clause-reads g c =
    then_reads (g.P.Pages.standing c.args.pages.now) (g.P.Pages.standing c.read_row.new.pages) (g.P.Pages.standing c.no_row.new.pages) c.no_row.result
    c.in_ok-record.ensures.reads c.no_row.ensures.reads

pub returns-in-Some-clause-lines : goal.returns-in-Some-clause-lines
returns-in-Some-clause-lines g c = λ told well r got.
    let bytes = bytes_of (g.P.Pages.standing c.args.pages.now).current c.args.page in
    let fits = slot_fits bytes c.args.expect.now c.args.at r c.requires.level well got in
    c.in_ok-record.ensures.lines told (found_row bytes c.args.expect.now c.args.at r c.requires.level well got).below fits.key fits.below

pub returns-in-None-clause-lines : goal.returns-in-None-clause-lines
returns-in-None-clause-lines g c = λ told well r got.
    let f = found_row (bytes_of (g.P.Pages.standing c.args.pages.now).current c.args.page) c.args.expect.now c.args.at r c.requires.level well got in
    let e = c.in_ok-record.ensures.row told f.below in
    not_held c.read_row.new.work.page _ _ r c.in-None.is e f.is

pub returns-in-Some-clause-cost : goal.returns-in-Some-clause-cost
returns-in-Some-clause-cost g c = λ told well r got.
    let bytes = bytes_of (g.P.Pages.standing c.args.pages.now).current c.args.page in
    let fits = slot_fits bytes c.args.expect.now c.args.at r c.requires.level well got in
    AddsLines-weaker (λ lines is. row_cost bytes lines c.args.at fits.value is)
    (c.in_ok-record.ensures.lines told (found_row bytes c.args.expect.now c.args.at r c.requires.level well got).below fits.key fits.below)

pub returns-in-None-clause-cost : goal.returns-in-None-clause-cost
returns-in-None-clause-cost g c = λ told well r got.
    let f = found_row (bytes_of (g.P.Pages.standing c.args.pages.now).current c.args.page) c.args.expect.now c.args.at r c.requires.level well got in
    let e = c.in_ok-record.ensures.row told f.below in
    not_held c.read_row.new.work.page _ _ r c.in-None.is e f.is
