-- The count is any number.
use Rattle.tier_measure.proofs.maps.places.Given as goal

abbrev pub invariant-loop-i : goal.invariant-loop-i
invariant-loop-i l = Unit {0}
