use Rattle.migration_policy.proofs.DrawLaws.{answers_by_word}
use Rattle.migration_policy.proofs.draws.Draws.yes.Goals as goal

pub returns-clause-words : goal.returns-clause-words
returns-clause-words c = answers_by_word _ _ _ _ c.draw.ensures.answer c.draw.ensures.next
