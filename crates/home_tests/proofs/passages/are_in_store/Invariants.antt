-- The lines so far have places.
use Rattle.nvm_layout.specs.Sizes.{sizes_of}
use Rattle.home_tests.specs.Replay.{AreInStore}
use Rattle.home_tests.proofs.passages.are_in_store.Given as goal

abbrev pub invariant-loop-at : goal.invariant-loop-at
invariant-loop-at l = AreInStore (sizes_of l.fn.geometry) l.at l.fn.lines
