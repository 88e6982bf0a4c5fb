-- What recovery leaves: the images on the way, and the store at its end.
use Rattle.std.specs.Prelude.{◌≡◌, ℕ}
use Rattle.devices.specs.State.{State, Image, Leaves}
use Rattle.line_pages.specs.Lines.{Lines}
use Rattle.flat_store_meaning.specs.Layout.{Sizes, pages}
use Rattle.flat_store_meaning.specs.Format.Format.{whole_lines}
use Rattle.flat_store_meaning.specs.Recovered.{lines_of}
use Rattle.flat_store_meaning.specs.StoreFacts.{Bookkeeping, StoreFacts}
use Rattle.flat_store_laws.specs.Steps.{IsStoreOf}

-- The facts of an open store hold, with some books of these sizes, whose committed lines are these in an image of any tail.
pub record HoldsFacts (g : Sizes) (lines : Lines) (s : State) : Type 0 where
  pub books : Bookkeeping
  pub sizes : books.sizes ≡ g
  pub format : books.format ≡ whole_lines
  pub committed : (n : ℕ) → lines_of (pages g) (books.committed n) ≡ lines
  pub facts : StoreFacts books s

-- each image that a crash leaves of the state is a store of these sizes that recovers to these lines
abbrev pub LeavesStores : Sizes → Lines → State → Type 0
LeavesStores g lines s = (i : Image) → Leaves s i → IsStoreOf g lines i
