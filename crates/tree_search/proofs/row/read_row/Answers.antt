use Rattle.std.proofs.Common.{◌≡◌, ◌+◌, ◌*◌, IsTrue, arith, sym, ap, subst, ◌∙◌}
use Rattle.line_pages.specs.Bytes.{bytes_of, u16_at}
use Rattle.line_pages.proofs.CostLaws.{lines_then}
use Rattle.tree_search.proofs.CostLaws.{row_read}
use Rattle.page_search.proofs.OpenLaws.{then_reads}
use Rattle.line_pages.proofs.StandingLaws.{ReadsPage-trans}
use Rattle.tree_search.proofs.row.read_row.Goals as goal

pub returns-clause-reads : goal.returns-clause-reads
returns-clause-reads g c =
    then_reads (g.P.Pages.standing c.args.pages.now) (g.P.Pages.standing c.read_half-2.new.pages) (g.P.Pages.standing c.read_record.new.pages) c.read_record.result
    (ReadsPage-trans c.in_ok-place.ensures.reads c.in_ok-size.ensures.reads) c.read_record.ensures.reads

pub returns-clause-lines : goal.returns-clause-lines
returns-clause-lines g c = λ told below key within.
    let old = g.P.Pages.standing c.args.pages.now in
    let bytes = bytes_of old.current c.args.page in
    let told_on = subst IsTrue (sym c.in_ok-place.ensures.call.continues.told) told in
    let place : c.in_ok-place.place ≡ u16_at bytes (64 + 4 * c.args.at) = c.in_ok-place.ensures.value told in
    let size : c.in_ok-size.size ≡ u16_at bytes (64 + 4 * c.args.at + 2) = c.in_ok-size.ensures.value told_on ∙ ap (λ all. u16_at (bytes_of all c.args.page) (64 + 4 * c.args.at + 2)) (c.in_ok-place.ensures.reads.current told) in
    row_read old (g.P.Pages.standing c.read_half-2.new.pages) (g.P.Pages.standing c.read_record.new.pages) c.read_record.result bytes c.args.at c.in_ok-place.place c.in_ok-size.size place size
    (lines_then c.in_ok-place.ensures.lines c.in_ok-size.ensures.lines)
    (c.read_record.ensures.lines (omega (arith, size, key)) (omega (arith, place, size, within)))
