-- What choices leave of both devices.
use Rattle.std.specs.Prelude.{◌≡◌, ℕ, ◌<◌, List, length, IsSome}
use Rattle.std.specs.Ordering.{nat_cmp}
use Rattle.std.specs.BTreeMap.{get}
use Rattle.nvm_model.specs.declared.line.Choice.{Choice}
use Rattle.nvm_model.specs.Choose.{image_of as chosen_lines}
use Rattle.ssd_model.specs.declared.choice.BlockChoice.{BlockChoice}
use Rattle.ssd_model.specs.Choose.{chosen_bytes}
use Rattle.devices.specs.declared.images.Images.{Images}
use Rattle.devices.specs.State.{State, Leaves}
use Rattle.devices.specs.Past.{image_of, page_in}

-- Images that a crash leaves of a state, of devices of these sizes: each word has the version that the choice names, and
-- each block the bytes that the choice takes of its current ones and those of the last sync.
pub record IsLeftBy (s : State) (synced : ℕ → List ℕ) (line_count block_count : ℕ) (nvm_choice : Choice) (ssd_choice : BlockChoice) (images : Images) : Type 0 where
  pub leaves : Leaves s (image_of images)
  pub nvm : images.nvm.items ≡ chosen_lines nvm_choice s.nvm line_count
  pub ssd : (b : ℕ) → page_in images.ssd b ≡ chosen_bytes ssd_choice b (s.ssd b) (synced b)
  pub lines : length images.nvm.items ≡ line_count
  pub blocks : images.ssd_blocks ≡ block_count
  pub within : (b : ℕ) → IsSome (get nat_cmp images.ssd b) → b < images.ssd_blocks
