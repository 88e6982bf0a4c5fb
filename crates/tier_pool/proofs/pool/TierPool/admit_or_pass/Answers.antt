use Rattle.std.proofs.Common.{◌≡◌, refl, ap, ◌∙◌}
use Rattle.device_calls.proofs.LeadsLaws.{leads_none}
use Rattle.nvm_layout.specs.Sizes.{sizes_of}
use Rattle.tier_map.specs.Placement.{Placement}
use Rattle.tier_facts.proofs.CallLaws.{hard_held}
use Rattle.tier_pool.specs.Fields.{parts_of}
use Rattle.tier_pool.specs.Storing.{data_of}
use Rattle.tier_pool.proofs.RoomLaws.{leads_at, leads_to, at_data}
use Rattle.tier_pool.proofs.DownLaws.{admitted_data, admitted_stays, stands_on, marked_on}
use Rattle.tier_pool.proofs.pool.TierPool.admit_or_pass.Goals as goal

pub move_down-requires-clause-homeless : goal.move_down-requires-clause-homeless
move_down-requires-clause-homeless g c =
    ap (λ (m : Placement). m.nvm c.args.page) c.admits.ensures.map ∙ c.requires.homeless

pub returns-then-admits-clause-leads : goal.returns-then-admits-clause-leads
returns-then-admits-clause-leads g c = λ stands.
    let same : data_of c.admits.new.self ≡ data_of c.args.self.now =
    at_data {parts = parts_of c.admits.new.self} (ap sizes_of c.admits.ensures.same.geometry) refl
    ∙ admitted_data (sizes_of c.args.self.now.geometry) c.is_full_dirty-dirty.result c.admits.result c.args.page (parts_of c.args.self.now) (parts_of c.admits.new.self) c.admits.ensures.answer in
    let stays = admitted_stays c.is_full_dirty-dirty.result c.admits.result c.args.page c.args.page (parts_of c.args.self.now) (parts_of c.admits.new.self) c.admits.ensures.answer in
    let none = ap (λ (m : Placement). m.nvm c.args.page) c.admits.ensures.map ∙ c.requires.homeless in
    leads_at same (c.move_down.ensures.leads (stands_on stays none stands) (c.is_full_dirty-dirty.ensures ∙ marked_on stays stands.here))

pub returns-then-dirty-clause-leads : goal.returns-then-dirty-clause-leads
returns-then-dirty-clause-leads g c = λ stands.
    let same : data_of c.admits.new.self ≡ data_of c.args.self.now =
    at_data {parts = parts_of c.admits.new.self} (ap sizes_of c.admits.ensures.same.geometry) refl
    ∙ admitted_data (sizes_of c.args.self.now.geometry) c.is_full_dirty-dirty.result c.admits.result c.args.page (parts_of c.args.self.now) (parts_of c.admits.new.self) c.admits.ensures.answer in
    let stays = admitted_stays c.is_full_dirty-dirty.result c.admits.result c.args.page c.args.page (parts_of c.args.self.now) (parts_of c.admits.new.self) c.admits.ensures.answer in
    let none = ap (λ (m : Placement). m.nvm c.args.page) c.admits.ensures.map ∙ c.requires.homeless in
    leads_at same (c.pass_through.ensures.leads (stands_on stays none stands))

pub returns-else-dirty-clause-leads : goal.returns-else-dirty-clause-leads
returns-else-dirty-clause-leads g c = λ stands.
    let same : data_of c.admits.new.self ≡ data_of c.args.self.now =
    at_data {parts = parts_of c.admits.new.self} (ap sizes_of c.admits.ensures.same.geometry) refl
    ∙ admitted_data (sizes_of c.args.self.now.geometry) c.is_full_dirty-dirty.result c.admits.result c.args.page (parts_of c.args.self.now) (parts_of c.admits.new.self) c.admits.ensures.answer in
    leads_to same (leads_none (hard_held (data_of c.args.self.now)) (λ aim s it. it))
