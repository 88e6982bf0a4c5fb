use Rattle.std.proofs.Common.{List, ℕ, arith, sym, subst}
use Rattle.ssd_model.specs.Page.{Same}
use Rattle.line_pages.specs.Bytes.{bytes_of}
use Rattle.page_alloc.proofs.CostLaws.{costs_read}
use Rattle.leaf_lines.proofs.LineLaws.{read_more}
use Rattle.leaf_lines.proofs.lines.read_header.Goals as goal

pub returns-clause-known : goal.returns-clause-known
returns-clause-known g c = λ told.
    let old = g.P.Pages.standing c.args.pages.now in
    subst (λ (b : List ℕ). Same 0 64 (bytes_of old.current c.args.page) b) (sym c.set_page_line.ensures.bytes)
    (read_more (old.current c.args.page) c.args.into.now 0 0 c.in_ok-header.header (omega arith) c.set_page_line.ensures.size_old (c.in_ok-header.ensures.value told) (record { each = λ j low high. absurd (omega (arith, high)) }))

pub returns-clause-costs : goal.returns-clause-costs
returns-clause-costs g c = costs_read c.in_ok-header.header c.in_ok-header.ensures.reads
