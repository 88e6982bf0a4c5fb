use Rattle.std.proofs.Common.{◌++◌, ap, sym, ◌∙◌}
use Rattle.std.specs.Prelude.{codes, decimal}
use Rattle.texts.specs.Lines.{sentence}
use Rattle.damage.specs.DamageText.{heading}
use Rattle.damage.proofs.DigitsLaws.{behind}
use Rattle.damage.proofs.content.put_heading.Goals as goal

pub returns-in-Super-clause-items : goal.returns-in-Super-clause-items
returns-in-Super-clause-items c = c.put_named.ensures.items ∙ ap (λ e. c.args.out.now.items ++ sentence (heading e)) (sym c.in-Super.is)

pub returns-in-Walk-clause-items : goal.returns-in-Walk-clause-items
returns-in-Walk-clause-items c =
    behind _ (codes "walk page ") (decimal c.in-Walk.page) _ c.put_named-in-Walk.ensures.items
    (behind _ (codes " kept ") (decimal c.in-Walk.kept) _ c.put_named-in-Walk-2.ensures.items
    (behind _ (codes " found ") (decimal c.in-Walk.found) _ c.put_named-in-Walk-3.ensures.items c.put_named-in-Walk-4.ensures.items))
    ∙ ap (λ e. c.args.out.now.items ++ sentence (heading e)) (sym c.in-Walk.is)
