-- Laws of blocks, and of what choices leave of them.
use Rattle.std.proofs.Common.{◌≡◌, ℕ, ◌≤◌, List, IsTrue}
use Rattle.std.proofs.lemmas.Bool.{cond-true}
use Rattle.ssd_model.specs.declared.choice.BlockChoice.{BlockChoice}
use Rattle.ssd_model.specs.Block.{Block, settled_block}
use Rattle.ssd_model.specs.Page.{zero_page}
use Rattle.ssd_model.specs.Choose.{chosen_bytes, unsettled_bytes}
use Rattle.ssd_model.specs.Contents.{disk_of, synced_of, blocks_of}
use Rattle.ssd_model.specs.declared.state.SsdState.{SsdState}
use Rattle.ssd_model.proofs.SectorLaws.{settled_synced, outside_block, outside_synced}
use Rattle.std.specs.BTreeMap.{get}
use Rattle.std.specs.Ordering.{nat_cmp}

-- each choice leaves of a settled block its current bytes
pub chosen_settled : (choice : BlockChoice) (number : ℕ) (block : Block) (synced : List ℕ) → IsTrue block.settled → chosen_bytes choice number block synced ≡ block.bytes
chosen_settled choice number block synced settled = cond-true block.settled block.bytes (unsettled_bytes choice number block.bytes synced) settled

-- the current bytes of a settled block are those of the last sync
pub synced_settled : (state : SsdState) (b : ℕ) → IsTrue (disk_of state b).settled → synced_of state b ≡ (disk_of state b).bytes
unfolding disk_of synced_of
synced_settled state b settled = settled_synced state.interval (get nat_cmp state.written b) settled

-- a block outside the size is settled, with zeros
pub disk_outside : (state : SsdState) (b : ℕ) → blocks_of state ≤ b → disk_of state b ≡ settled_block zero_page
unfolding disk_of
disk_outside state b past = outside_block state.interval b state.blocks (get nat_cmp state.written b) (state.within b) past

pub synced_outside : (state : SsdState) (b : ℕ) → blocks_of state ≤ b → synced_of state b ≡ zero_page
unfolding synced_of
synced_outside state b past = outside_synced state.interval b state.blocks (get nat_cmp state.written b) (state.within b) past
