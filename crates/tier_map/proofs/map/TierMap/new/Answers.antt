use Rattle.tier_map.proofs.TableLaws.{nothing-shows}
use Rattle.tier_map.proofs.map.TierMap.new.Goals as goal

pub returns-clause-placement : goal.returns-clause-placement
returns-clause-placement c =
    rw (c.in_ok-unplaced_pages.ensures, c.in_ok-free_places.ensures, c.in_ok-free_places-2.ensures, c.in_ok-free_places-3.ensures)
    (nothing-shows c.args.pages c.args.full c.args.minis c.args.frames)
