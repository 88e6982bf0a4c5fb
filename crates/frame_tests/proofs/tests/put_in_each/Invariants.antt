use Rattle.std.proofs.Common.{◌≡◌, length}
use Rattle.page_frame.specs.Arena.{frames_of}
use Rattle.frame_tests.proofs.tests.put_in_each.Given as goal

abbrev pub invariant-loop-frame : goal.invariant-loop-frame
invariant-loop-frame l = length (frames_of l.frames) ≡ length (frames_of l.fn.frames)
