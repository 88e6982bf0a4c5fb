use Rattle.std.proofs.Common.{◌<◌, ℕ, ap, sym, subst, ◌∙◌}
use Rattle.device_calls.proofs.LeadsLaws.{leads_exit}
use Rattle.nvm_layout.specs.Sizes.{sizes_of}
use Rattle.tier_map.specs.declared.place.Place.TheVariants.{Full}
use Rattle.tier_facts.proofs.CallLaws.{then_same_hard}
use Rattle.tier_pool.specs.Fields.{parts_of}
use Rattle.tier_pool.specs.Places.{copy_cleaned}
use Rattle.tier_pool.proofs.RoomLaws.{leads_to, at_data}
use Rattle.tier_pool.proofs.DownLaws.{down_clean, installed_data}
use Rattle.tier_pool.proofs.pool.TierPool.install_copy.Goals as goal

pub returns-in_err-install_page-clause-leads : goal.returns-in_err-install_page-clause-leads
returns-in_err-install_page-clause-leads g c = λ stands marked.
    leads_exit c.from_residual.result c.from_residual.ensures.1
    (c.in_err-install_page.ensures.installs.copied (Full c.args.full) stands (record { words = c.put_copy.ensures.words })
    (down_clean (sizes_of c.args.self.now.geometry) (parts_of c.args.self.now) c.args.page c.args.full c.args.dirty stands.here marked))

pub returns-clause-leads : goal.returns-clause-leads
returns-clause-leads g c = λ stands marked.
    let parts = parts_of c.args.self.now in
    leads_to (at_data (ap sizes_of (c.clean_copy.ensures.same.geometry ∙ c.in_ok-install_page.ensures.same.geometry))
    (c.clean_copy.ensures.parts ∙ ap (copy_cleaned (Full c.args.full)) c.in_ok-install_page.ensures.parts))
    (then_same_hard (installed_data (sizes_of c.args.self.now.geometry) parts c.args.page c.args.full c.args.frame c.args.dirty c.args.self.now.map.agrees stands.here
    (subst (λ (n : ℕ). c.args.frame < n) (sym c.args.self.now.frame_marks_fit) c.requires.frame))
    (c.in_ok-install_page.ensures.installs.copied (Full c.args.full) stands (record { words = c.put_copy.ensures.words })
    (down_clean (sizes_of c.args.self.now.geometry) parts c.args.page c.args.full c.args.dirty stands.here marked)))
