use Rattle.std.proofs.Common.{◌∙◌, ap, arith}
use Rattle.line_pages.specs.Bytes.{u64_at, overwritten}
use Rattle.line_pages.proofs.NumberLaws.{set_is, word_reads}
use Rattle.line_pages.proofs.page.set_page_word.Goals as goal

pub returns-clause-value : goal.returns-clause-value
returns-clause-value c =
    let wrote = c.set_part.ensures in
    let old = c.args.page.now in
    let put = set_is old c.set_part.new.self c.word_bytes-bytes.result c.args.at 4096 wrote.size_old wrote.size (omega arith) wrote.value wrote.before wrote.after in
    ap (λ bytes. u64_at bytes c.args.at) put ∙ ap (λ new. u64_at (overwritten old c.args.at new) c.args.at) c.word_bytes-bytes.ensures
    ∙ word_reads old c.args.at c.args.value (omega (arith, wrote.size_old)) (omega arith)
