-- There are still mini pages enough.
use Rattle.std.proofs.Common.{◌≤◌, length}
use Rattle.mini_page.specs.Minis.{minis_of}
use Rattle.frame_measure.proofs.measured.add_lines.Given as goal

abbrev pub invariant-loop-i : goal.invariant-loop-i
invariant-loop-i l = 4096 ≤ length (minis_of l.minis)
