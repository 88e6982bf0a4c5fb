use Rattle.line_pages.proofs.StandingLaws.{KeepsPages-trans}
use Rattle.table_store.proofs.creation.write_table.Goals as goal

pub returns-clause-call : goal.returns-clause-call
returns-clause-call g c = KeepsPages-trans (KeepsPages-trans c.in_ok-header.ensures.call c.in_ok-write_line.ensures.call) c.write_entry.ensures.call
