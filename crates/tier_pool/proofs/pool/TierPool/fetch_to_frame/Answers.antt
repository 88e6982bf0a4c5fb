use Rattle.std.proofs.Common.{false, refl, ap, ◌∙◌, sym, subst}
use Rattle.tier_map.specs.Placement.{Placement}
use Rattle.std.specs.Prelude.{ℕ, ◌<◌}
use Rattle.device_calls.proofs.LeadsLaws.{leads_looked, leads_exit}
use Rattle.nvm_layout.specs.Sizes.{sizes_of}
use Rattle.tier_facts.proofs.PlaceLaws.{facts_held}
use Rattle.tier_facts.specs.Facts.{Facts}
use Rattle.tier_pool.specs.Fields.{parts_of}
use Rattle.tier_pool.specs.Bringing.{fetched_to_frame}
use Rattle.tier_pool.specs.Storing.{data_of}
use Rattle.tier_pool.proofs.BringingLaws.{fetches_to_frame, fetched_frame, leads_when}
use Rattle.tier_pool.specs.NvmRoom.{page_installed}
use Rattle.tier_pool.proofs.FetchLaws.{counted_behind}
use Rattle.tier_pool.proofs.pool.TierPool.fetch_to_frame.Goals as goal

pub install_page-requires-clause-homeless : goal.install_page-requires-clause-homeless
install_page-requires-clause-homeless g c = ap (λ (m : Placement). m.nvm c.args.page) c.fetch.ensures.map ∙ c.requires.homeless

pub install_page-requires-clause-free : goal.install_page-requires-clause-free
install_page-requires-clause-free g c = ap (λ (m : Placement). m.frame_page c.args.frame) c.fetch.ensures.map ∙ c.requires.free

pub returns-in_err-fetch-clause-leads : goal.returns-in_err-fetch-clause-leads
returns-in_err-fetch-clause-leads g c = λ absent.
    leads_exit c.from_residual.result c.from_residual.ensures.1 (leads_looked (facts_held (data_of c.args.self.now)) c.in_err-fetch.ensures.looked)

pub returns-clause-leads : goal.returns-clause-leads
returns-clause-leads g c = λ absent.
    let parts = parts_of c.args.self.now in
    let new = parts_of c.install_page.new.self in
    leads_when Facts (fetched_to_frame c.args.page c.args.frame parts) new c.install_page.result (ap sizes_of (c.install_page.ensures.same.geometry ∙ c.fetch.ensures.same.geometry))
    (fetched_frame parts (parts_of c.fetch.new.self) new c.args.page c.args.frame c.install_page.result c.in_ok-fetch.ensures.parts c.install_page.ensures.parts)
    (fetches_to_frame parts (parts_of c.fetch.new.self) c.args.page c.args.frame c.fetch.new.into (ap sizes_of c.fetch.ensures.same.geometry) c.in_ok-fetch.ensures.parts absent
    c.requires.homeless (subst (λ (n : ℕ). c.args.frame < n) (sym c.args.self.now.frame_marks_fit) c.requires.frame) c.in_ok-fetch.ensures.looked c.in_ok-fetch.ensures.value c.install_page.ensures.installs)

pub returns-clause-reads : goal.returns-clause-reads
returns-clause-reads g c =
    let fetched = parts_of c.fetch.new.self in
    counted_behind (parts_of c.args.self.now) fetched (parts_of c.install_page.new.self) (page_installed c.args.page c.args.frame false fetched) _ _ _ c.install_page.result
    c.in_ok-fetch.ensures.reads c.install_page.ensures.parts refl c.install_page.ensures.call.reads
