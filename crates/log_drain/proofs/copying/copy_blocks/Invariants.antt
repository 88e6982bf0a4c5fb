-- So far the blocks below are copied.
use Rattle.nvm_layout.specs.Sizes.{sizes_of}
use Rattle.log_drain.specs.Copies.{CopiesSo}
use Rattle.log_drain.proofs.copying.copy_blocks.Given as goal

abbrev pub invariant-loop-block : goal.invariant-loop-block
invariant-loop-block g l = CopiesSo (sizes_of l.fn.geometry) l.fn.offset l.block (g.D.Devices.standing l.fn.dev) (g.D.Devices.standing l.dev)
