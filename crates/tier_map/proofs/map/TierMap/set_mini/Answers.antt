use Rattle.std.proofs.Common.{subst, sym}
use Rattle.tier_map.specs.Placement.{Agrees}
use Rattle.tier_map.proofs.PlacementLaws.{with_mini-agrees}
use Rattle.tier_map.proofs.TableLaws.{after_mini}
use Rattle.tier_map.proofs.map.TierMap.set_mini.Goals as goal

pub invariant_of-self : goal.invariant_of-self
invariant_of-self c =
    let shows = after_mini c.args.self.now.pages c.args.self.now.minis _ _ c.args.page c.args.mini c.requires.page c.requires.place c.deref_mut.ensures.value c.deref_mut-2.ensures.value c.put_place.ensures c.put_page.ensures in
    record { agrees = subst Agrees (sym shows) (with_mini-agrees _ c.args.page c.args.mini c.args.self.now.agrees c.requires.absent c.requires.free) }

pub returns-clause-placement : goal.returns-clause-placement
returns-clause-placement c =
    after_mini c.args.self.now.pages c.args.self.now.minis _ _ c.args.page c.args.mini c.requires.page c.requires.place c.deref_mut.ensures.value c.deref_mut-2.ensures.value c.put_place.ensures c.put_page.ensures
