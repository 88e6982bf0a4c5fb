use Rattle.std.proofs.Common.{subst, sym, ap, ◌∙◌}
use Rattle.tier_map.specs.Placement.{Agrees, full_of, mini_of}
use Rattle.tier_map.proofs.PlacementLaws.{without_dram-agrees}
use Rattle.tier_map.proofs.TableLaws.{in_table, after_no_full, after_no_mini}
use Rattle.tier_map.proofs.map.TierMap.clear_dram.Goals as goal

pub put_page-requires : goal.put_page-requires
put_page-requires c =
    let is = sym c.place-place.ensures ∙ c.in-Full.is in
    rw c.deref_mut-in-Full.ensures.value (in_table c.args.self.now.fulls.items c.in-Full.full c.args.page ((c.args.self.now.agrees.full c.args.page c.in-Full.full).0 (ap full_of is)))

pub put_page-requires-in-Mini : goal.put_page-requires-in-Mini
put_page-requires-in-Mini c =
    let is = sym c.place-place.ensures ∙ c.in-Mini.is in
    rw c.deref_mut-in-Mini.ensures.value (in_table c.args.self.now.minis.items c.in-Mini.mini c.args.page ((c.args.self.now.agrees.mini c.args.page c.in-Mini.mini).0 (ap mini_of is)))

pub invariant_of-self-in-Full : goal.invariant_of-self-in-Full
invariant_of-self-in-Full c =
    let is = sym c.place-place.ensures ∙ c.in-Full.is in
    let there = in_table c.args.self.now.fulls.items c.in-Full.full c.args.page ((c.args.self.now.agrees.full c.args.page c.in-Full.full).0 (ap full_of is)) in
    let shows = after_no_full c.args.self.now.pages c.args.self.now.fulls _ _ c.args.page c.in-Full.full c.requires there c.deref_mut.ensures.value c.deref_mut-in-Full.ensures.value c.put_place.ensures c.put_page.ensures is in
    record { agrees = subst Agrees (sym shows) (without_dram-agrees _ c.args.page c.args.self.now.agrees) }

pub invariant_of-self-in-Mini : goal.invariant_of-self-in-Mini
invariant_of-self-in-Mini c =
    let is = sym c.place-place.ensures ∙ c.in-Mini.is in
    let there = in_table c.args.self.now.minis.items c.in-Mini.mini c.args.page ((c.args.self.now.agrees.mini c.args.page c.in-Mini.mini).0 (ap mini_of is)) in
    let shows = after_no_mini c.args.self.now.pages c.args.self.now.minis _ _ c.args.page c.in-Mini.mini c.requires there c.deref_mut.ensures.value c.deref_mut-in-Mini.ensures.value c.put_place.ensures c.put_page-in-Mini.ensures is in
    record { agrees = subst Agrees (sym shows) (without_dram-agrees _ c.args.page c.args.self.now.agrees) }

pub returns-in-Full-clause-placement : goal.returns-in-Full-clause-placement
returns-in-Full-clause-placement c =
    let is = sym c.place-place.ensures ∙ c.in-Full.is in
    let there = in_table c.args.self.now.fulls.items c.in-Full.full c.args.page ((c.args.self.now.agrees.full c.args.page c.in-Full.full).0 (ap full_of is)) in
    after_no_full c.args.self.now.pages c.args.self.now.fulls _ _ c.args.page c.in-Full.full c.requires there c.deref_mut.ensures.value c.deref_mut-in-Full.ensures.value c.put_place.ensures c.put_page.ensures is

pub returns-in-Mini-clause-placement : goal.returns-in-Mini-clause-placement
returns-in-Mini-clause-placement c =
    let is = sym c.place-place.ensures ∙ c.in-Mini.is in
    let there = in_table c.args.self.now.minis.items c.in-Mini.mini c.args.page ((c.args.self.now.agrees.mini c.args.page c.in-Mini.mini).0 (ap mini_of is)) in
    after_no_mini c.args.self.now.pages c.args.self.now.minis _ _ c.args.page c.in-Mini.mini c.requires there c.deref_mut.ensures.value c.deref_mut-in-Mini.ensures.value c.put_place.ensures c.put_page-in-Mini.ensures is
