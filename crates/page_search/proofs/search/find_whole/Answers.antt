use Rattle.std.proofs.Common.{sym, ap, ◌∙◌}
use Rattle.page_format.specs.Node.{page_level}
use Rattle.page_format.proofs.PageFacts.{level_of}
use Rattle.line_pages.proofs.CauseLaws.{unless_on}
use Rattle.page_search.proofs.search.find_whole.Goals as goal

pub returns-clause-level : goal.returns-clause-level
returns-clause-level g c = λ told.
    ap page_level (sym (c.in_ok-read_page.ensures.bytes told)) ∙ level_of c.read_page.new.work.page c.args.expect.now c.in_ok-read_page.ensures.well

pub returns-in_err-read_page-clause-reads : goal.returns-in_err-read_page-clause-reads
returns-in_err-read_page-clause-reads g c = unless_on _ c.from_residual.result c.in_err-read_page.field-0.0 c.from_residual.ensures c.in_err-read_page.ensures.reads
