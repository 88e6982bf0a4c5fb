-- So far the lines below were stored and flushed.
use Rattle.std.proofs.Common.{Ok}
use Rattle.device_calls.specs.Leads.{Made}
use Rattle.store_model.specs.Install.{frame_calls}
use Rattle.nvm_layout.specs.Sizes.{sizes_of}
use Rattle.home_move.specs.Frames.{lines_below}
use Rattle.home_move.proofs.frames.fill_frame.Given as goal

abbrev pub invariant-loop-line : goal.invariant-loop-line
invariant-loop-line g l = Made {T = Unit {0}} (frame_calls (sizes_of l.fn.geometry) l.fn.frame 0 (lines_below l.fn.lines l.line)) (g.D.Devices.standing l.fn.dev) (g.D.Devices.standing l.dev) (Ok tt)
