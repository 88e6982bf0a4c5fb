use Rattle.migration_policy.proofs.policy.Policy.decide.Goals as goal

pub returns-clause-words : goal.returns-clause-words
returns-clause-words c = rw (← c.probability.ensures) c.yes.ensures.words
