use Rattle.std.proofs.Common.{ℕ, List, refl, sym, ap, subst, arith, ◌∙◌}
use Rattle.line_pages.specs.Bytes.{with_line_bytes}
use Rattle.damage.specs.declared.evidence.Evidence.TheVariants.{Page}
use Rattle.rows.specs.Rows.{last_key}
use Rattle.page_alloc.specs.Space.{FailsSpace}
use Rattle.page_alloc.proofs.FailLaws.{written_itself, fails_in}
use Rattle.page_alloc.proofs.space.damage.Goals as goal

pub returns-clause-cause : goal.returns-clause-cause
returns-clause-cause g c = (
  (refl, refl, refl, refl, refl),
  λ told.
      let old = g.P.Pages.standing c.args.pages.now in
      c.set_page_line.ensures.bytes ∙ ap (λ (bytes : List ℕ). with_line_bytes bytes 0 c.args.line.now) (c.in_default.ensures.bytes told) ∙ written_itself old.current c.args.page 0 c.args.line.now (omega arith) (c.requires.is told),
)

pub returns-clause-fails : goal.returns-clause-fails
returns-clause-fails g c =
    let old = g.P.Pages.standing c.args.pages.now in
    subst (λ (bytes : List ℕ). FailsSpace old.count bytes (Page c.args.page 0 0 last_key c.args.check)) (sym c.set_page_line.ensures.bytes)
    (fails_in old.count c.args.page c.args.check c.copy_page.new.into c.args.line.now c.requires.page c.requires.of_page c.set_page_line.ensures.size_old c.requires.line c.requires.fails)
