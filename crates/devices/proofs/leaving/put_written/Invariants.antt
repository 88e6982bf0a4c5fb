use Rattle.std.proofs.Common.{◌≡◌, ◌⊎◌, ℕ, true, take}
use Rattle.std.specs.Prelude.{IsSome}
use Rattle.std.specs.Ordering.{nat_cmp}
use Rattle.std.specs.BTreeMap.{get}
use Rattle.devices.specs.Replay.{PutsLeft, all_spare}
use Rattle.devices.proofs.leaving.put_written.Given as goal

-- each block that the first calls wrote is there
abbrev pub invariant-loop-entry : goal.invariant-loop-entry
invariant-loop-entry l = record {
  puts : PutsLeft l.ssd l.choice l.fn.into l.into;
  all : (b : ℕ) → (all_spare b (take l.entry-index l.entries) ≡ true) ⊎ IsSome (get nat_cmp l.into b);
}
