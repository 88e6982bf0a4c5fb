use Rattle.std.proofs.Common.{◌<◌, ℕ, ap, sym, subst, ◌∙◌}
use Rattle.nvm_layout.specs.Sizes.{sizes_of}
use Rattle.tier_pool.specs.Fields.{parts_of}
use Rattle.tier_pool.specs.Places.{copy_cleaned}
use Rattle.tier_pool.proofs.StoringLaws.{back_none, back_stored, back_lines_exit, back_fence_exit, back_at, lines_at}
use Rattle.tier_pool.proofs.pool.TierPool.store_back.Goals as goal

pub returns-then-dirty_lines-eq0-clause-back : goal.returns-then-dirty_lines-eq0-clause-back
returns-then-dirty_lines-eq0-clause-back g c = back_none (sizes_of c.args.self.now.geometry) c.args.place c.args.frame (parts_of c.args.self.now) _

pub returns-in_err-store_lines_back-clause-back : goal.returns-in_err-store_lines_back-clause-back
returns-in_err-store_lines_back-clause-back g c =
    back_lines_exit (sizes_of c.args.self.now.geometry) c.args.place c.args.frame (parts_of c.args.self.now) (subst (λ (n : ℕ). c.args.frame < n) (sym c.args.self.now.frame_marks_fit) c.requires.frame)
    c.from_residual.result c.from_residual.ensures.1 (lines_at (ap sizes_of c.mark_frame.ensures.same.geometry) c.mark_frame.ensures.parts c.in_err-store_lines_back.ensures.lines)

pub returns-in_err-fence-clause-back : goal.returns-in_err-fence-clause-back
returns-in_err-fence-clause-back g c =
    back_fence_exit (sizes_of c.args.self.now.geometry) c.args.place c.args.frame (parts_of c.args.self.now) (subst (λ (n : ℕ). c.args.frame < n) (sym c.args.self.now.frame_marks_fit) c.requires.frame)
    c.from_residual-in_err-fence.result c.from_residual-in_err-fence.ensures.1 (lines_at (ap sizes_of c.mark_frame.ensures.same.geometry) c.mark_frame.ensures.parts c.in_ok-store_lines_back.ensures.lines) c.in_err-fence.ensures

pub returns-clause-back : goal.returns-clause-back
returns-clause-back g c =
    back_at (c.clean_copy.ensures.parts ∙ ap (copy_cleaned c.args.place) c.mark_frame.ensures.parts)
    (back_stored (sizes_of c.args.self.now.geometry) c.args.place c.args.frame (parts_of c.args.self.now) (subst (λ (n : ℕ). c.args.frame < n) (sym c.args.self.now.frame_marks_fit) c.requires.frame)
    (lines_at (ap sizes_of c.mark_frame.ensures.same.geometry) c.mark_frame.ensures.parts c.in_ok-store_lines_back.ensures.lines) c.in_ok-fence.ensures)
