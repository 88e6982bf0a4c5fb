-- The page that is there leaves, or none is.
use Rattle.nvm_layout.specs.Sizes.{sizes_of}
use Rattle.home_move.proofs.HomeLaws.{ended_none}
use Rattle.home_move.proofs.WriteLaws.{writes_none, writes_number, none_leaves}
use Rattle.home_move.proofs.passing.end_passage.Goals as goal

pub returns-in-None-clause-call : goal.returns-in-None-clause-call
returns-in-None-clause-call g c = ended_none (sizes_of c.args.geometry.now) c.args.passage.now.page c.in-None.is

pub returns-in-None-clause-writes : goal.returns-in-None-clause-writes
returns-in-None-clause-writes g c = writes_number (none_leaves c.args.passage.now.page c.in-None.is) (writes_none (g.D.Devices.standing c.args.dev.now))
