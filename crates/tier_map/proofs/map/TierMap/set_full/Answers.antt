use Rattle.std.proofs.Common.{subst, sym}
use Rattle.tier_map.specs.Placement.{Agrees}
use Rattle.tier_map.proofs.PlacementLaws.{with_full-agrees}
use Rattle.tier_map.proofs.TableLaws.{after_full}
use Rattle.tier_map.proofs.map.TierMap.set_full.Goals as goal

pub invariant_of-self : goal.invariant_of-self
invariant_of-self c =
    let shows = after_full c.args.self.now.pages c.args.self.now.fulls _ _ c.args.page c.args.place c.requires.page c.requires.place c.deref_mut.ensures.value c.deref_mut-2.ensures.value c.put_place.ensures c.put_page.ensures in
    record { agrees = subst Agrees (sym shows) (with_full-agrees _ c.args.page c.args.place c.args.self.now.agrees c.requires.absent c.requires.free) }

pub returns-clause-placement : goal.returns-clause-placement
returns-clause-placement c =
    after_full c.args.self.now.pages c.args.self.now.fulls _ _ c.args.page c.args.place c.requires.page c.requires.place c.deref_mut.ensures.value c.deref_mut-2.ensures.value c.put_place.ensures c.put_page.ensures
