use Rattle.std.proofs.Common.{◌∙◌, ◌*◌, ap, arith}
use Rattle.line_pages.specs.Bytes.{overwritten}
use Rattle.line_pages.proofs.NumberLaws.{set_is}
use Rattle.line_pages.proofs.page.set_page_line.Goals as goal

pub returns-clause-bytes : goal.returns-clause-bytes
returns-clause-bytes c =
    let wrote = c.set_part.ensures in
    let old = c.args.page.now in
    set_is old c.set_part.new.self c.bytes_of_line-bytes.result (64 * c.args.line) 4096 wrote.size_old wrote.size (omega arith) wrote.value wrote.before wrote.after
    ∙ ap (overwritten old (64 * c.args.line)) c.bytes_of_line-bytes.ensures
