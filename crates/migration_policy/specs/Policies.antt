-- The probabilities of a policy.
use Rattle.std.specs.Prelude.{ℕ}
use Rattle.migration_policy.specs.declared.policy.Policy.{Policy}
use Rattle.migration_policy.specs.declared.policy.Question.{Question}
use Rattle.migration_policy.specs.declared.policy.Question.TheVariants.{DramRead, DramWrite, NvmRead, NvmWrite}

-- four probabilities, in thousandths
pub record Rates : Type 0 where
  pub dr : ℕ
  pub dw : ℕ
  pub nr : ℕ
  pub nw : ℕ

abbrev pub rates_of : Policy → Rates
rates_of policy = record { dr = policy.dr; dw = policy.dw; nr = policy.nr; nw = policy.nw }

-- the probability that decides a question
abbrev pub rate : Rates → Question → ℕ
rate rates DramRead = rates.dr
rate rates DramWrite = rates.dw
rate rates NvmRead = rates.nr
rate rates NvmWrite = rates.nw
