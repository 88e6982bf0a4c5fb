-- There are still frames enough.
use Rattle.std.proofs.Common.{◌≤◌, length}
use Rattle.page_frame.specs.Arena.{frames_of}
use Rattle.frame_measure.proofs.measured.fill_frames.Given as goal

abbrev pub invariant-loop-i : goal.invariant-loop-i
invariant-loop-i l = 4096 ≤ length (frames_of l.frames)
