-- Draws, as a function of the seed and of how many words were drawn before.
use Rattle.std.specs.Prelude.{◌≡◌, ℕ, ◌+◌, ◌%◌, Bool, nat_lt}
use Rattle.rand_core.specs.Pcg32Seed.{pcg32_seed}
use Rattle.rand_pcg.specs.Lcg.{Lcg, advance}
use Rattle.rand_pcg.specs.Pcg.{multiplier_64, pcg32, pcg32_of_seed}

-- the generator that the seed makes
unfoldable pub generator : ℕ → Lcg
generator seed = pcg32_of_seed (pcg32_seed 16 seed)

-- the generator after n words
unfoldable pub generator_after : ℕ → ℕ → Lcg
generator_after seed n = advance 64 multiplier_64 n (generator seed)

-- word n, counted from 0
unfoldable pub word : ℕ → ℕ → ℕ
word seed n = (pcg32 (generator_after seed n)).0

-- p of a thousand words say yes
abbrev pub says_yes : ℕ → ℕ → Bool
says_yes p w = nat_lt (w % 1000) p

-- An answer with probability p, of each seed and number of words that the generator may have come from: it is that of the
-- next word of the seed, and one word more is drawn then.
pub record AnswersByWord (p : ℕ) (old new : Lcg) (answer : Bool) : Type 0 where
  pub by_word : (seed n : ℕ) → old ≡ generator_after seed n → answer ≡ says_yes p (word seed n)
  pub drawn : (seed n : ℕ) → old ≡ generator_after seed n → new ≡ generator_after seed (n + 1)
