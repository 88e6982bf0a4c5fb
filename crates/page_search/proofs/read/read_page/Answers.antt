use Rattle.std.proofs.Common.{sym, subst}
use Rattle.damage.specs.declared.evidence.Evidence.TheVariants.{Page}
use Rattle.page_format.specs.Search.{IsNodeDamage, FailsNode}
use Rattle.line_pages.proofs.CauseLaws.{unless_never}
use Rattle.page_search.proofs.DamageLaws.{damage_of, fails_of}
use Rattle.page_search.proofs.read.read_page.Goals as goal

pub returns-in-Err-clause-cause : goal.returns-in-Err-clause-cause
returns-in-Err-clause-cause g c = λ fits.
    let old = g.P.Pages.standing c.args.pages.now in
    record {
      failed = λ told. subst (IsNodeDamage old.count old.current c.copy_page.new.into) (sym {b = Page c.args.page c.args.expect.now.level c.args.expect.now.low c.args.expect.now.high c.in-Err.check} c.page_evidence.ensures)
          (damage_of old.count c.args.page c.in-Err.check c.args.expect.now old.current c.copy_page.new.into c.requires.page fits.pages fits.root (c.in_ok-copy_page.ensures.bytes told) c.in-Err.ensures.err);
      kept = tt;
    }

pub returns-in-Err-clause-fails : goal.returns-in-Err-clause-fails
returns-in-Err-clause-fails g c = λ fits.
    let old = g.P.Pages.standing c.args.pages.now in
    subst (FailsNode old.count c.copy_page.new.into) (sym {b = Page c.args.page c.args.expect.now.level c.args.expect.now.low c.args.expect.now.high c.in-Err.check} c.page_evidence.ensures)
    (fails_of old.count c.args.page c.in-Err.check c.args.expect.now c.copy_page.new.into c.requires.page fits.pages fits.root c.in-Err.ensures.err)

pub returns-in_err-copy_page-clause-reads : goal.returns-in_err-copy_page-clause-reads
returns-in_err-copy_page-clause-reads g c = unless_never _ (g.P.Pages.standing c.args.pages.now) (g.P.Pages.standing c.copy_page.new.pages) c.from_residual.result c.in_err-copy_page.field-0.0 c.from_residual.ensures c.in_err-copy_page.ensures.cause.failed
