-- So far the lines below are in their place, by loads alone.
use Rattle.nvm_layout.specs.Sizes.{sizes_of}
use Rattle.home_move.specs.Frames.{ReadsSo}
use Rattle.home_move.proofs.frames.read_frame.Given as goal

abbrev pub invariant-loop-line : goal.invariant-loop-line
invariant-loop-line g l = ReadsSo (sizes_of l.fn.geometry) l.fn.frame l.line l.into (g.D.Devices.standing l.fn.dev) (g.D.Devices.standing l.dev)
