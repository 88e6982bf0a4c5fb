use Rattle.std.proofs.Common.{◌≡◌, replicate}
use Rattle.nvm_model.specs.Held.{helds_of, blank}
use Rattle.nvm_model.proofs.words.fresh_words.Given as goal

abbrev pub invariant-loop-i : goal.invariant-loop-i
invariant-loop-i l = helds_of l.words.items ≡ replicate l._i blank
