use Rattle.std.proofs.Common.{sym, ap, ◌∙◌}
use Rattle.device_calls.proofs.LeadsLaws.{leads_none, leads_exit}
use Rattle.nvm_layout.specs.Sizes.{sizes_of}
use Rattle.tier_facts.proofs.CallLaws.{hard_held, then_recopied_hard}
use Rattle.tier_pool.specs.Fields.{parts_of}
use Rattle.tier_pool.specs.Storing.{data_of}
use Rattle.tier_pool.proofs.RoomLaws.{leads_to, at_data, dropped_data}
use Rattle.tier_pool.proofs.DownLaws.{handed_clean, stands_full}
use Rattle.tier_pool.proofs.pool.TierPool.leave_full.Goals as goal

pub returns-in_err-hand_down-in-Some-clause-leads : goal.returns-in_err-hand_down-in-Some-clause-leads
returns-in_err-hand_down-in-Some-clause-leads g c = λ whole.
    let stands = stands_full (parts_of c.args.self.now) c.in-Some.page c.args.full c.args.self.now.map.agrees (sym c.full_page.ensures.page ∙ c.in-Some.is) whole in
    leads_exit c.from_residual.result c.from_residual.ensures.1 (c.in_err-hand_down-in-Some.ensures.leads stands)

pub returns-in_ok-hand_down-in-Some-clause-leads : goal.returns-in_ok-hand_down-in-Some-clause-leads
returns-in_ok-hand_down-in-Some-clause-leads g c = λ whole.
    let stands = stands_full (parts_of c.args.self.now) c.in-Some.page c.args.full c.args.self.now.map.agrees (sym c.full_page.ensures.page ∙ c.in-Some.is) whole in
    let after = parts_of c.hand_down.new.self in
    leads_to (at_data (ap sizes_of c.drop_copy.ensures.same.geometry) c.drop_copy.ensures.parts)
    (then_recopied_hard (dropped_data (sizes_of c.hand_down.new.self.geometry) after c.in-Some.page c.hand_down.new.self.map.agrees
    (handed_clean c.in-Some.page c.args.full (parts_of c.args.self.now) after c.in_ok-hand_down-in-Some.ensures.parts c.args.self.now.map.agrees stands.here))
    (c.in_ok-hand_down-in-Some.ensures.leads stands))

pub returns-in-None-clause-leads : goal.returns-in-None-clause-leads
returns-in-None-clause-leads g c = λ whole. leads_none (hard_held (data_of c.args.self.now)) (λ aim s it. it)
