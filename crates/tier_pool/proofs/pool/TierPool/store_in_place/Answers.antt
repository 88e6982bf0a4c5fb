use Rattle.std.proofs.Common.{ℕ, ◌<◌, sym, ap, subst}
use Rattle.device_calls.proofs.LeadsLaws.{leads_data}
use Rattle.nvm_layout.specs.Sizes.{sizes_of}
use Rattle.tier_facts.specs.Facts.{FactsWith}
use Rattle.tier_pool.specs.Fields.{parts_of}
use Rattle.tier_pool.proofs.RoomLaws.{at_data}
use Rattle.tier_pool.proofs.WritingLaws.{placed_line, placed_exit}
use Rattle.tier_pool.proofs.pool.TierPool.store_in_place.Goals as goal

pub returns-in_err-store_line-clause-leads : goal.returns-in_err-store_line-clause-leads
returns-in_err-store_line-clause-leads g c = λ page lies.
    placed_exit (parts_of c.args.self.now) page c.args.frame c.args.line c.args.value.now (ap sizes_of c.mark_frame.ensures.same.geometry) lies
    (subst (λ (n : ℕ). c.args.frame < n) (sym c.args.self.now.frame_marks_fit) c.requires.frame) c.requires.line c.from_residual.result c.from_residual.ensures.1 c.in_err-store_line.ensures.made

pub returns-clause-leads : goal.returns-clause-leads
returns-clause-leads g c = λ page lies.
    leads_data (FactsWith page c.args.line c.args.value.now) (at_data (ap sizes_of c.mark_frame.ensures.same.geometry) c.mark_frame.ensures.parts)
    (placed_line (parts_of c.args.self.now) page c.args.frame c.args.line c.args.value.now (ap sizes_of c.mark_frame.ensures.same.geometry) lies
    (subst (λ (n : ℕ). c.args.frame < n) (sym c.args.self.now.frame_marks_fit) c.requires.frame) c.requires.line c.in_ok-store_line.ensures.made c.fence.ensures)
