-- What follows for an arena of mini pages at a call that names one of them.
use Rattle.std.proofs.Common.{ℕ, ◌<◌, length}
use Rattle.page_frame.specs.Blocks.{places_of}
use Rattle.mini_page.specs.declared.arena.MiniArena.{MiniArena}
use Rattle.mini_page.specs.Minis.{minis_of}
use Rattle.mini_page.proofs.TableLaws.{mini_within}

-- it has masks
pub in_masks : (self : MiniArena) (m : ℕ) → m < length (minis_of self) → m < length self.resident.items
in_masks self m known = mini_within self.resident.items self.dirty.items self.table.items (places_of self.lines) m known
