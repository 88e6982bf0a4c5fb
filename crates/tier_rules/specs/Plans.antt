-- The policy of a run, as plain numbers.
use Rattle.std.specs.Prelude.{ℕ, Bool, true, false}
use Rattle.migration_policy.specs.declared.policy.Policy.{Policy}
use Rattle.migration_policy.specs.declared.policy.Question.{Question}
use Rattle.migration_policy.specs.declared.policy.Question.TheVariants.{DramRead, DramWrite}
use Rattle.migration_policy.specs.Policies.{Rates, rates_of}

-- the four probabilities, and what stays over a whole run
pub record Plan : Type 0 where
  pub rates : Rates
  pub queue_len : ℕ
  pub seed : ℕ
  pub dram_frames : ℕ
  pub minis : ℕ

abbrev pub plan_of : Policy → Plan
plan_of policy = record {
  rates = rates_of policy;
  queue_len = policy.queue_len;
  seed = policy.seed;
  dram_frames = policy.dram_frames;
  minis = policy.minis;
}

-- whether to bring a page to DRAM, by whether the access writes
abbrev pub dram_question : Bool → Question
dram_question true = DramWrite
dram_question false = DramRead
