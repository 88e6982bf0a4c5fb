-- So far the lines below are in their place, by loads alone.
use Rattle.nvm_layout.specs.Sizes.{sizes_of}
use Rattle.log_drain.specs.Copies.{LoadsSo}
use Rattle.log_drain.proofs.copying.load_block.Given as goal

abbrev pub invariant-loop-line : goal.invariant-loop-line
invariant-loop-line g l = LoadsSo (sizes_of l.fn.geometry) l.fn.offset l.line l.into (g.D.Devices.standing l.fn.dev) (g.D.Devices.standing l.dev)
