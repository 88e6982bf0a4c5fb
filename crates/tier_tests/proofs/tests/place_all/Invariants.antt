use Rattle.std.proofs.Common.{◌≡◌}
use Rattle.tier_map.specs.Contents.{sizes_of}
use Rattle.tier_tests.specs.Largest.{largest}
use Rattle.tier_tests.proofs.tests.place_all.Given as goal

abbrev pub invariant-loop-i : goal.invariant-loop-i
invariant-loop-i l = sizes_of l.map ≡ largest
