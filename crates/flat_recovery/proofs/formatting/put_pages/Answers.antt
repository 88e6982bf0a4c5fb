-- The lines of the frames, and the catalog.
use Rattle.std.proofs.Common.{refl, ap, ◌∙◌}
use Rattle.devices.proofs.CallLaws.{makes_then, makes_stop}
use Rattle.nvm_model.specs.declared.line.Line.{Line}
use Rattle.flat_store_meaning.specs.Layout.{frame_line}
use Rattle.flat_nvm_layout.specs.Sizes.{sizes_of}
use Rattle.flat_nvm_log.specs.Puts.{line_put}
use Rattle.flat_recovery.specs.Empty.{catalog_line}
use Rattle.flat_recovery.proofs.CallsLaws.{makes_as, flushes_are}
use Rattle.flat_recovery.proofs.formatting.put_pages.Goals as goal

pub returns-in_err-flush_lines-clause-makes : goal.returns-in_err-flush_lines-clause-makes
returns-in_err-flush_lines-clause-makes g c =
    makes_stop (line_put (frame_line (sizes_of c.args.geometry.now) 0 0) catalog_line) c.from_residual.result c.from_residual.ensures.0
    (flushes_are c.frame_line-page.ensures.place refl c.in_err-flush_lines.ensures.makes)

pub returns-clause-makes : goal.returns-clause-makes
returns-clause-makes g c =
    makes_then c.in_ok-flush_lines.ensures.goes c.put_line.ensures.goes
    (flushes_are c.frame_line-page.ensures.place refl c.in_ok-flush_lines.ensures.makes)
    (makes_as (ap (λ n. line_put n c.catalog.result) c.frame_line-page.ensures.place ∙ ap (λ (x : Line). line_put (frame_line (sizes_of c.args.geometry.now) 0 0) x) c.catalog.ensures) c.put_line.ensures.makes)
