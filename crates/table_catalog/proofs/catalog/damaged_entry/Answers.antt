use Rattle.table_catalog.proofs.ReadsLaws.{stop_never}
use Rattle.std.proofs.Common.{◌≡◌, sym, ap, ◌∙◌, arith}
use Rattle.line_pages.specs.Bytes.{line_at}
use Rattle.table_catalog.specs.Catalog.{entry_in as entry_of_line, lines_in}
use Rattle.table_catalog.proofs.CatalogLaws.{odd_entry}
use Rattle.table_catalog.proofs.catalog.damaged_entry.Goals as goal

pub returns-in-Ok-clause-cause : goal.returns-in-Ok-clause-cause
returns-in-Ok-clause-cause g c = λ told.
    let old = g.P.Pages.standing c.args.pages.now in
    let there = c.requires.header told in
    record {
      number = 35;
      first = odd_entry c.args.limits.now old.count old.current c.args.header.now c.args.at (entry_of_line c.args.entry.now) there c.requires.fits c.requires.at (ap entry_of_line (c.requires.entry told)) c.requires.fails;
      shown = c.evidence_of.ensures;
      bytes = c.keep_line.ensures.same old.current (c.in-Ok.ensures.bytes told there) (c.requires.entry told);
    }

pub returns-in-Ok-clause-fails : goal.returns-in-Ok-clause-fails
returns-in-Ok-clause-fails g c =
    let count = (g.P.Pages.standing c.args.pages.now).count in
    let shown = lines_in c.keep_line.new.copy in
    let header : c.args.header.now ≡ line_at c.keep_line.new.copy 0 = sym (c.keep_line.ensures.others 0 (omega arith) (omega arith) ∙ c.in-Ok.ensures.header) in
    record {
      number = 35;
      some = c.requires.some;
      shown = c.evidence_of.ensures;
      first = odd_entry c.args.limits.now count shown c.args.header.now c.args.at (entry_of_line c.args.entry.now) header c.requires.fits c.requires.at (ap entry_of_line (sym c.keep_line.ensures.line)) c.requires.fails;
    }

pub returns-in-Err-clause-reads : goal.returns-in-Err-clause-reads
returns-in-Err-clause-reads g c = stop_never _ (g.P.Pages.standing c.args.pages.now) (g.P.Pages.standing c.copy_catalog.new.pages) c.in-Err.stop c.in-Err.ensures.cause.failed
