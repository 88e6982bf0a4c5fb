use Rattle.std.proofs.Common.{subst, sym}
use Rattle.tier_map.specs.Placement.{Agrees}
use Rattle.tier_map.proofs.PlacementLaws.{without_nvm-agrees}
use Rattle.tier_map.proofs.TableLaws.{in_table, after_no_frame}
use Rattle.tier_map.proofs.map.TierMap.clear_nvm.Goals as goal

pub put_page-requires : goal.put_page-requires
put_page-requires c =
    let there = in_table c.args.self.now.frames.items c.in-Some.frame c.args.page ((c.args.self.now.agrees.nvm c.args.page c.in-Some.frame).0 (sym c.in-Some.ensures)) in
    rw c.deref_mut-in-Some.ensures.value there

pub invariant_of-self : goal.invariant_of-self
invariant_of-self c =
    let there = in_table c.args.self.now.frames.items c.in-Some.frame c.args.page ((c.args.self.now.agrees.nvm c.args.page c.in-Some.frame).0 (sym c.in-Some.ensures)) in
    let shows = after_no_frame c.args.self.now.pages c.args.self.now.frames _ _ c.args.page c.in-Some.frame c.requires there c.deref_mut.ensures.value c.deref_mut-in-Some.ensures.value c.put_frame.ensures c.put_page.ensures (sym c.in-Some.ensures) in
    record { agrees = subst Agrees (sym shows) (without_nvm-agrees _ c.args.page c.args.self.now.agrees) }

pub returns-in-Some-clause-placement : goal.returns-in-Some-clause-placement
returns-in-Some-clause-placement c =
    let there = in_table c.args.self.now.frames.items c.in-Some.frame c.args.page ((c.args.self.now.agrees.nvm c.args.page c.in-Some.frame).0 (sym c.in-Some.ensures)) in
    after_no_frame c.args.self.now.pages c.args.self.now.frames _ _ c.args.page c.in-Some.frame c.requires there c.deref_mut.ensures.value c.deref_mut-in-Some.ensures.value c.put_frame.ensures c.put_page.ensures (sym c.in-Some.ensures)
