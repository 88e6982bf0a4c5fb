use Rattle.line_pages.proofs.CauseLaws.{unless_on}
use Rattle.table_catalog.proofs.catalog.has_table.Goals as goal

pub returns-in_err-place-clause-reads : goal.returns-in_err-place-clause-reads
returns-in_err-place-clause-reads g c = unless_on _ c.from_residual.result c.in_err-place.field-0.0 c.from_residual.ensures c.in_err-place.ensures.reads
