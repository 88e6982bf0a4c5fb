use Rattle.std.proofs.Common.{sym, arith}
use Rattle.line_pages.proofs.ByteLaws.{header_word}
use Rattle.line_pages.proofs.CostLaws.{one_line}
use Rattle.page_search.proofs.probe.read_header.Goals as goal

pub returns-clause-header : goal.returns-clause-header
returns-clause-header g c = λ told.
    let lines = (g.P.Pages.standing c.args.pages.now).current in
    let value = c.in_ok-line.ensures.value told in
    record {
      kind = sym (header_word lines c.args.page 0 c.in_ok-line.line value (omega arith) (c.in_ok-line.ensures.is_line.fit 0));
      count = sym (header_word lines c.args.page 1 c.in_ok-line.line value (omega arith) (c.in_ok-line.ensures.is_line.fit 1));
      level = sym (header_word lines c.args.page 2 c.in_ok-line.line value (omega arith) (c.in_ok-line.ensures.is_line.fit 2));
    }

pub returns-clause-lines : goal.returns-clause-lines
returns-clause-lines g c = one_line c.in_ok-line.line c.in_ok-line.ensures.reads
