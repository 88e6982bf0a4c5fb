use Rattle.std.proofs.Common.{◌≡◌, ◌⊎◌, ℕ}
use Rattle.std.specs.Prelude.{IsSome}
use Rattle.std.specs.Map.{lookup}
use Rattle.std.specs.Ordering.{nat_cmp}
use Rattle.std.specs.BTreeMap.{is_at}
use Rattle.ssd_model.specs.Contents.{disk_of, blocks_of}
use Rattle.devices.specs.Past.{page_in}
use Rattle.devices.proofs.replay.place_blocks.Given as goal

-- each block is still to come, or has its bytes
abbrev pub invariant-loop-block : goal.invariant-loop-block
invariant-loop-block l = record {
  placed : (q : ℕ) → IsSome (lookup (is_at (nat_cmp q)) l.block-iterator) ⊎ ((disk_of l.ssd q).bytes ≡ page_in l.blocks q);
  size : blocks_of l.ssd ≡ blocks_of l.fn.ssd;
}
