use Rattle.std.proofs.Common.{[], ◌∷◌, ◌++◌, take, ap, sym, ◌∙◌}
use Rattle.std.specs.Prelude.{codes, slice_index_or}
use Rattle.std.specs.List.{concat}
use Rattle.texts.specs.Lines.{line_feed}
use Rattle.damage.specs.DamageText.{contents, damage_text_lines}
use Rattle.damage.proofs.DamageLaws.{damage_text_lines-at}
use Rattle.damage.proofs.MarkedLaws.{concat-take_more}
use Rattle.damage.proofs.text.damage_line.Goals as goal

pub returns-clause-line : goal.returns-clause-line
returns-clause-line c =
    let content = slice_index_or (contents c.args.evidence.now c.args.page.now) c.args.at [] in
    c.put-2.ensures.items
    ∙ ap (λ l. l ++ line_feed ∷ []) (c.put_content.ensures.items ∙ ap (λ l. l ++ content) (c.put.ensures.items ∙ ap (λ l. l ++ codes "! ") c.new-out.ensures))
    ∙ sym (damage_text_lines-at c.args.evidence.now c.args.page.now c.args.at c.requires)

pub returns-clause-joined : goal.returns-clause-joined
returns-clause-joined c =
    let lines = damage_text_lines c.args.evidence.now c.args.page.now in
    concat-take_more lines c.args.at c.requires ∙ ap (λ l. concat (take c.args.at lines) ++ l) (sym (returns-clause-line c))
