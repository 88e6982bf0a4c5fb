use Rattle.std.proofs.Common.{ap}
use Rattle.tier_measure.proofs.maps.places.Goals as goal

pub set_full-requires-clause-absent : goal.set_full-requires-clause-absent
set_full-requires-clause-absent c = ap (λ placement. placement.place 7) c.in_ok-map.ensures.placement

pub set_full-requires-clause-free : goal.set_full-requires-clause-free
set_full-requires-clause-free c = ap (λ placement. placement.full_page 3) c.in_ok-map.ensures.placement
