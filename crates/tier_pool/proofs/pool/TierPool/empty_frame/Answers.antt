use Rattle.std.proofs.Common.{rules, ◌≡◌, ◌<◌, ℕ, refl, sym, subst, ◌∙◌, false, slice_index_or}
use Rattle.device_calls.proofs.LeadsLaws.{leads_exit}
use Rattle.nvm_layout.specs.Sizes.{sizes_of}
use Rattle.tier_pool.specs.Fields.{parts_of}
use Rattle.tier_pool.proofs.CopyLaws.{other_default}
use Rattle.tier_pool.proofs.RoomLaws.{leaves_frame, leads_to, at_data}
use Rattle.tier_pool.proofs.pool.TierPool.empty_frame.Goals as goal

pub returns-clause-parts : goal.returns-clause-parts
returns-clause-parts g c = search rules

pub returns-in_err-release-clause-leads : goal.returns-in_err-release-clause-leads
returns-in_err-release-clause-leads g c =
    let marked : c.index-write.result.now ≡ slice_index_or c.args.self.now.frame_dirty.items c.args.frame false =
    c.index-write.ensures ∙ other_default c.args.self.now.frame_dirty.items c.args.frame c.index-write.result.now false (subst (λ (n : ℕ). c.args.frame < n) (sym c.args.self.now.frame_marks_fit) c.requires.frame) in
    leads_exit c.from_residual.result c.from_residual.ensures.1
    (leaves_frame (sizes_of c.args.self.now.geometry) (parts_of c.args.self.now) c.args.page c.args.frame c.index-write.result.now c.requires.page c.requires.placed marked c.in_err-release.ensures.releases)

pub returns-clause-leads : goal.returns-clause-leads
returns-clause-leads g c =
    let marked : c.index-write.result.now ≡ slice_index_or c.args.self.now.frame_dirty.items c.args.frame false =
    c.index-write.ensures ∙ other_default c.args.self.now.frame_dirty.items c.args.frame c.index-write.result.now false (subst (λ (n : ℕ). c.args.frame < n) (sym c.args.self.now.frame_marks_fit) c.requires.frame) in
    leads_to (at_data refl (returns-clause-parts g c))
    (leaves_frame (sizes_of c.args.self.now.geometry) (parts_of c.args.self.now) c.args.page c.args.frame c.index-write.result.now c.requires.page c.requires.placed marked c.in_ok-release.ensures.releases)
