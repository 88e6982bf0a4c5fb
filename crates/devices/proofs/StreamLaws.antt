-- What a read of a stream takes.
use Rattle.std.proofs.Common.{◌≡◌, ℕ, ◌+◌, ◌-◌, ◌<◌, ◌≤◌, min, List, [], ◌++◌, length, take, drop, sym, ◌∙◌, ap, arith}
use Rattle.std.proofs.lemmas.Grind.{common_steps}
use Rattle.std.proofs.lemmas.List.Folds.{drop_split}
use Rattle.std.specs.Prelude.{slice_range}
use Rattle.devices.specs.World.{TakesNext}

pub takes_next : (bytes into copied : List ℕ) (taken count : ℕ) → taken ≤ length bytes → 0 < length into → count ≡ min (length into) (length bytes - taken) → copied ≡ slice_range bytes taken (taken + count)
    → TakesNext (drop taken bytes) (drop (taken + count) bytes) count (copied ++ drop count into)
takes_next bytes into copied taken count within some is copies = record {
  bytes = drop_split bytes taken (taken + count) (omega arith) ∙ ap (λ (l : List ℕ). l ++ drop (taken + count) bytes) (sym (front ∙ copies));
  end = λ none. let all : length bytes ≤ taken = omega (arith, is, none) in nothing all;
}
  where
    size : length copied ≡ count
    size = let inside : count ≤ length bytes - taken = omega (arith, is) in ap length copies ∙ grind (arith, common_steps, inside)

    front : take count (copied ++ drop count into) ≡ copied
    front = grind (arith, common_steps, size)

    nothing : length bytes ≤ taken → drop taken bytes ≡ []
    nothing all = grind (arith, common_steps, all)
