use Rattle.table_catalog.proofs.catalog.copy_catalog.Goals as goal

pub returns-clause-bytes : goal.returns-clause-bytes
returns-clause-bytes g c = λ told there. c.keep_line.ensures.same (g.P.Pages.standing c.args.pages.now).current (c.in_ok-copy_page.ensures.bytes told) there
