use Rattle.std.proofs.Common.{◌≡◌, length}
use Rattle.mini_page.specs.Minis.{minis_of}
use Rattle.frame_tests.proofs.tests.add_to_each.Given as goal

abbrev pub invariant-loop-mini : goal.invariant-loop-mini
invariant-loop-mini l = length (minis_of l.minis) ≡ length (minis_of l.fn.minis)
