-- The generator after one more word, and answers that do not depend on the word.
use Rattle.std.proofs.Common.{◌≡◌, ℕ, zero, suc, ◌%◌, Bool, true, false, refl, ap, sym, ◌∙◌, arith}
use Rattle.std.proofs.lemmas.Bool.{lt-ltb, le-ltb}
use Rattle.rand_pcg.specs.Lcg.{Lcg, next_state, state_after}
use Rattle.rand_pcg.specs.Pcg.{multiplier_64, pcg32}
use Rattle.migration_policy.specs.Draws.{generator, generator_after, word, says_yes, AnswersByWord}

one_more : (w m increment n state : ℕ) → state_after w m increment (suc n) state ≡ next_state w m increment (state_after w m increment n state)
unfolding state_after
one_more w m increment zero state = refl
one_more w m increment (suc n) state = one_more w m increment n (next_state w m increment state)

-- a draw at a generator after n words answers by word n, and leaves the generator after one word more
pub drawn_word : (seed n : ℕ) → (pcg32 (generator_after seed n)).0 ≡ word seed n
unfolding word
drawn_word seed n = refl

pub drawn_next : (seed n : ℕ) → (pcg32 (generator_after seed n)).1 ≡ generator_after seed (suc n)
unfolding generator_after
drawn_next seed n =
    let g = generator seed in
    ap (λ s. record { state = s; increment = g.increment }) (sym (one_more 64 multiplier_64 g.increment n g.state))

pub first_generator : (seed : ℕ) → generator seed ≡ generator_after seed 0
unfolding generator_after state_after
first_generator seed = refl

-- a draw answers by the next word of each seed that the generator may have come from
pub answers_by_word : (p : ℕ) (old new : Lcg) (answer : Bool) → answer ≡ says_yes p (pcg32 old).0 → new ≡ (pcg32 old).1 → AnswersByWord p old new answer
answers_by_word p old new answer said next = record {
  by_word = λ seed n e. said ∙ ap (λ g. says_yes p (pcg32 g).0) e ∙ ap (says_yes p) (drawn_word seed n);
  drawn = λ seed n e. next ∙ ap (λ g. (pcg32 g).1) e ∙ drawn_next seed n ∙ ap (generator_after seed) (omega arith);
}

-- with 1000 every word says yes, and with 0 none
pub always : (w : ℕ) → says_yes 1000 w ≡ true
always w = lt-ltb (w % 1000) 1000 (omega arith)

pub never : (w : ℕ) → says_yes 0 w ≡ false
never w = le-ltb (w % 1000) 0 (omega arith)
