use Rattle.std.proofs.Common.{◌∙◌, ap, sym}
use Rattle.page_format.specs.Node.{Child}
use Rattle.page_format.proofs.InnerLemmas.{child_at}
use Rattle.page_format.proofs.entries.child_key.Goals as goal

pub returns : goal.returns
returns c = λ d. c.page_word.ensures.value ∙ sym (ap (λ (e : Child). e.0) (child_at c.args.page.now c.args.at d c.requires.at))
