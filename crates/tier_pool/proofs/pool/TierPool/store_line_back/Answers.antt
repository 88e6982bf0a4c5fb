use Rattle.std.proofs.Common.{ap, sym, ◌∙◌}
use Rattle.nvm_layout.specs.Sizes.{sizes_of}
use Rattle.page_frame.specs.LineSets.{has_line}
use Rattle.tier_pool.specs.Fields.{parts_of}
use Rattle.tier_pool.proofs.StoringLaws.{line_past, line_absent, line_stored}
use Rattle.tier_pool.proofs.pool.TierPool.store_line_back.Goals as goal

pub returns-then-not-has_line-clause-lines : goal.returns-then-not-has_line-clause-lines
returns-then-not-has_line-clause-lines g c =
    line_past (sizes_of c.args.self.now.geometry) c.args.place c.args.frame (parts_of c.args.self.now) c.args.line _
    (sym (c.has_line.ensures ∙ ap (λ set. has_line set c.args.line) c.dirty_lines.ensures) ∙ c.if-not-has_line.true)

pub returns-in-Some-clause-lines : goal.returns-in-Some-clause-lines
returns-in-Some-clause-lines g c =
    line_stored (sizes_of c.args.self.now.geometry) c.args.place c.args.frame (parts_of c.args.self.now) c.args.line c.in-Some.value c.requires.line
    (sym (c.has_line.ensures ∙ ap (λ set. has_line set c.args.line) c.dirty_lines.ensures) ∙ c.if-not-has_line.false)
    (sym c.copy_line.ensures ∙ c.in-Some.is) c.store_line.ensures.made

pub returns-in-None-clause-lines : goal.returns-in-None-clause-lines
returns-in-None-clause-lines g c =
    line_absent (sizes_of c.args.self.now.geometry) c.args.place c.args.frame (parts_of c.args.self.now) c.args.line _ (sym c.copy_line.ensures ∙ c.in-None.is)
