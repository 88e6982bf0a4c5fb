-- The entries could not be loaded.
use Rattle.home_move.proofs.JudgeLaws.{exit_cause}
use Rattle.home_move.proofs.table.read_table.Goals as goal

pub returns-in_err-load_entries-clause-cause : goal.returns-in_err-load_entries-clause-cause
returns-in_err-load_entries-clause-cause g c = exit_cause c.from_residual.result c.from_residual.ensures.1 c.in_err-load_entries.ensures.looked c.in_err-load_entries.ensures.stops
