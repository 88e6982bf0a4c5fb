use Rattle.std.proofs.Common.{◌≡◌, IfErr, IfOk, sym, subst}
use Rattle.bplus_tree.specs.declared.outcome.Outcome.{Outcome}
use Rattle.bplus_tree.specs.Path.{StandsAbove, StopsAbove, Settles}
use Rattle.bplus_tree.proofs.Storing.{if_both}
use Rattle.bplus_tree.proofs.FullLaws.{uncut_cuts}
use Rattle.page_format.specs.Node.{entry_count}
use Rattle.line_pages.specs.Bytes.{bytes_of}
use Rattle.bplus_tree.proofs.path.settle.Goals as goal

pub returns-in-Short-clause-sound : goal.returns-in-Short-clause-sound
returns-in-Short-clause-sound g c = λ told free stands fits.
    let old = g.P.Pages.standing c.args.pages.now in
    subst (λ (o : Outcome). StandsAbove old.current c.args.passed.now o free → IfErr c.mend.result (StopsAbove old.count old.current c.args.passed.now o free)) (sym c.in-Short.is)
    (λ short. c.mend.ensures.sound told short.0 free short.1 fits) stands

pub returns-in-Short-clause-cuts : goal.returns-in-Short-clause-cuts
returns-in-Short-clause-cuts g c = λ told. uncut_cuts (entry_count (bytes_of (g.P.Pages.standing c.args.pages.now).current c.args.passed.now.place.page) ≡ 240) c.mend.result c.mend.ensures.uncut

pub returns-in-Short-clause-settles : goal.returns-in-Short-clause-settles
returns-in-Short-clause-settles g c = λ told.
    let old = g.P.Pages.standing c.args.pages.now in
    let new = g.P.Pages.standing c.mend.new.pages in
    subst (λ (o : Outcome). IfOk c.mend.result (Settles old.current new.current c.args.passed.now o)) (sym c.in-Short.is)
    (if_both c.mend.result (λ outcome rows pages. (rows, pages)) (c.mend.ensures.mends told) (c.mend.ensures.pages told))
