use Rattle.std.proofs.Common.{ap, ◌∙◌}
use Rattle.device_calls.proofs.LeadsLaws.{leads_then}
use Rattle.tier_rules.specs.Parts.{Parts}
use Rattle.tier_pool.specs.Fields.{parts_of}
use Rattle.tier_pool.proofs.RoomLaws.{given_up_nvm}
use Rattle.tier_pool.proofs.pool.TierPool.release_page.Goals as goal

pub empty_frame-requires-clause-placed : goal.empty_frame-requires-clause-placed
empty_frame-requires-clause-placed g c =
    ap (λ (p : Parts). p.map.nvm c.args.page) c.in_ok-give_up_copy.ensures.parts ∙ given_up_nvm (parts_of c.args.self.now) c.args.page c.args.frame c.args.page ∙ c.requires.placed

pub returns-clause-leads : goal.returns-clause-leads
returns-clause-leads g c = leads_then c.in_ok-give_up_copy.ensures.leads c.empty_frame.ensures.leads
