use Rattle.table_catalog.proofs.ReadsLaws.{stop_never}
use Rattle.std.proofs.Common.{sym}
use Rattle.table_catalog.specs.Catalog.{lines_in}
use Rattle.table_catalog.proofs.CatalogLaws.{odd_header}
use Rattle.table_catalog.proofs.catalog.damaged_header.Goals as goal

pub returns-in-Ok-clause-cause : goal.returns-in-Ok-clause-cause
returns-in-Ok-clause-cause g c = λ told.
    let old = g.P.Pages.standing c.args.pages.now in
    let there = c.requires.header told in
    record {
      number = c.args.check;
      first = odd_header c.args.limits.now old.count old.current c.args.header.now c.args.check there c.requires.fails;
      shown = c.evidence_of.ensures;
      bytes = c.in-Ok.ensures.bytes told there;
    }

pub returns-in-Ok-clause-fails : goal.returns-in-Ok-clause-fails
returns-in-Ok-clause-fails g c =
    let count = (g.P.Pages.standing c.args.pages.now).count in
    let shown = lines_in c.copy_catalog.new.copy in
    record {
      number = c.args.check;
      some = c.requires.some;
      shown = c.evidence_of.ensures;
      first = odd_header c.args.limits.now count shown c.args.header.now c.args.check (sym c.in-Ok.ensures.header) c.requires.fails;
    }

pub returns-in-Err-clause-reads : goal.returns-in-Err-clause-reads
returns-in-Err-clause-reads g c = stop_never _ (g.P.Pages.standing c.args.pages.now) (g.P.Pages.standing c.copy_catalog.new.pages) c.in-Err.stop c.in-Err.ensures.cause.failed
