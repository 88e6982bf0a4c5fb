use Rattle.std.proofs.Common.{◌+◌, ◌/◌, arith, ◌∙◌}
use Rattle.line_pages.specs.Bytes.{bytes_of}
use Rattle.line_pages.proofs.ByteLaws.{length-page_bytes}
use Rattle.tree_search.proofs.PartLaws.{found_same}
use Rattle.line_pages.specs.Cost.{lines_of}
use Rattle.tree_search.specs.Record.{slot_in}
use Rattle.tree_search.proofs.row.read_record.Goals as goal

pub returns-clause-row : goal.returns-clause-row
returns-clause-row g c = λ told.
    let bytes = bytes_of (g.P.Pages.standing c.args.pages.now).current c.args.page in
    let it = c.args.record.now in
    c.whole_record.ensures
    ∙ found_same bytes c.read_lines.new.into (slot_in it) (it.place / 64) ((it.place + it.size + 63) / 64) (c.in_ok-read_lines.ensures.bytes told)
    (omega arith) (omega arith) (omega arith) (omega arith) (length-page_bytes ((g.P.Pages.standing c.args.pages.now).current c.args.page)) c.read_lines.ensures.size

pub returns-clause-lines : goal.returns-clause-lines
unfolding lines_of
returns-clause-lines g c = λ key within. c.in_ok-read_lines.ensures.lines (omega arith)
