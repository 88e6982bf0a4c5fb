use Rattle.std.proofs.Common.{◌⊎◌, ℕ}
use Rattle.std.specs.Prelude.{IsSome}
use Rattle.std.specs.Map.{lookup}
use Rattle.std.specs.Ordering.{nat_cmp}
use Rattle.std.specs.BTreeMap.{get, is_at}
use Rattle.devices.specs.Replay.{PutsLeft}
use Rattle.devices.proofs.leaving.put_first.Given as goal

-- each block is still to come, or is there, or was not there at first
abbrev pub invariant-loop-block : goal.invariant-loop-block
invariant-loop-block l = record {
  puts : PutsLeft l.ssd l.choice l.fn.into l.into;
  all : (q : ℕ) → IsSome (get nat_cmp l.base q) → IsSome (lookup (is_at (nat_cmp q)) l.block-iterator) ⊎ IsSome (get nat_cmp l.into q);
}
