use Rattle.std.proofs.Common.{◌≡◌, length}
use Rattle.mini_page.specs.Minis.{minis_of}
use Rattle.frame_tests.proofs.tests.add_sixteen.Given as goal

abbrev pub invariant-loop-line : goal.invariant-loop-line
invariant-loop-line l = length (minis_of l.minis) ≡ length (minis_of l.fn.minis)
