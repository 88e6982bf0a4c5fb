-- The ring of the log stands before the frames.
use Rattle.std.proofs.Common.{◌≤◌, arith}
use Rattle.flat_nvm_layout.specs.Sizes.{sizes_of}
use Rattle.flat_transactions.proofs.TakenBackLaws.{ring_below}
use Rattle.flat_transactions.proofs.undo.put_back.Goals as goal

pub returns-in-Ok-clause-apart : goal.returns-in-Ok-clause-apart
returns-in-Ok-clause-apart g c offset =
    let some : 2 ≤ c.args.log.now.geometry.log_blocks = omega arith in
    ring_below (sizes_of c.args.log.now.geometry) offset c.args.place.page c.args.place.line some

pub returns-in-Err-clause-apart : goal.returns-in-Err-clause-apart
returns-in-Err-clause-apart g c offset =
    let some : 2 ≤ c.args.log.now.geometry.log_blocks = omega arith in
    ring_below (sizes_of c.args.log.now.geometry) offset c.args.place.page c.args.place.line some
