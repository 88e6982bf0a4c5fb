use Rattle.std.proofs.Common.{◌≡◌, ◌⊎◌, ℕ}
use Rattle.std.specs.Prelude.{IsSome}
use Rattle.std.specs.Map.{lookup}
use Rattle.std.specs.Ordering.{nat_cmp}
use Rattle.std.specs.BTreeMap.{get, is_at}
use Rattle.devices.proofs.copies.copy_blocks.Given as goal

-- each block is still to come, or is copied
abbrev pub invariant-loop-block : goal.invariant-loop-block
invariant-loop-block l = (q : ℕ) → IsSome (lookup (is_at (nat_cmp q)) l.block-iterator) ⊎ (get nat_cmp l.copy q ≡ get nat_cmp l.from q)
