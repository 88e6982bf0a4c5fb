-- A release with a write, and one without.
use Rattle.nvm_layout.specs.Sizes.{sizes_of}
use Rattle.home_move.proofs.PlaceFacts.{release_keeps, clear_keeps}
use Rattle.home_move.proofs.moving.release.Goals as goal

pub returns-then-write-clause-keeps : goal.returns-then-write-clause-keeps
returns-then-write-clause-keeps g c write = release_keeps (sizes_of c.args.geometry.now) c.args.frame c.args.page c.requires.frame c.release_written.ensures

pub returns-else-write-clause-clears : goal.returns-else-write-clause-clears
returns-else-write-clause-clears g c write = clear_keeps (sizes_of c.args.geometry.now) c.args.frame c.args.page c.put_entry.ensures
