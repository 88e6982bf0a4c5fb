-- What a step of an open store makes of a state, by its calls, and what a crash of a world may leave.
use Rattle.std.specs.Prelude.{◌≡◌, ◌⊎◌, ℕ, List}
use Rattle.devices.specs.State.{State, Image, Leaves, Call, Amid, after_all}
use Rattle.devices.specs.World.{Standing}
use Rattle.line_pages.specs.Lines.{Lines}
use Rattle.flat_store_meaning.specs.Layout.{Sizes}
use Rattle.flat_store_meaning.specs.Format.Format.{whole_lines}
use Rattle.flat_store_meaning.specs.Recovered.{super_of, recovered_pages, IsStore}
use Rattle.flat_store_meaning.specs.StoreFacts.{Bookkeeping, StoreFacts}
use Rattle.flat_store_laws.specs.OpenFacts.{OpenFacts}
use Rattle.flat_store_laws.specs.ShownPages.{pages_in, committed_in}

-- the image is a store of these sizes
pub record IsSized (g : Sizes) (i : Image) : Type 0 where
  pub store : IsStore whole_lines i
  pub sizes : (super_of i).sizes ≡ g

-- the image is a store of these sizes that recovers to these lines
pub record IsStoreOf (g : Sizes) (lines : Lines) (i : Image) : Type 0 where
  pub is_sized : IsSized g i
  pub pages : recovered_pages whole_lines i ≡ lines

-- A crash at that moment may leave an image that recovers to these lines. One that is no store of these sizes counts as an
-- image of any lines: so where only some lines may be left, every image is a store (`ImageLaws`).
abbrev pub MayLeave : Sizes → Standing → ℕ → Lines → Type 0
MayLeave g d m lines = (i : Image) × Leaves (d.at m) i × (IsSized g i → recovered_pages whole_lines i ≡ lines)

-- The facts of a store of these sizes hold, for some bookkeeping.
pub record HoldsFacts (g : Sizes) (s : State) : Type 0 where
  pub keeps : Bookkeeping
  pub format : keeps.format ≡ whole_lines
  pub sizes : keeps.sizes ≡ g
  pub facts : StoreFacts keeps s

-- The calls lead to these facts; at each moment every image is a store that recovers to the lines that were committed before.
pub record LeadsTo (g : Sizes) (Facts : State → Type 0) (calls : List Call) (s : State) : Type 0 where
  pub facts : Facts (after_all calls s)
  pub moments : (mid : State) → Amid s calls mid → (i : Image) → Leaves mid i → IsStoreOf g (committed_in s) i

-- The calls keep the facts of an open store, with this start and this tail, and change the current lines.
pub record KeepsOpen (g : Sizes) (start tail : ℕ) (change : Lines → Lines) (calls : List Call) (s : State) : Type 0 where
  pub leads : LeadsTo g (OpenFacts g start tail) calls s
  pub current : pages_in g (after_all calls s) ≡ change (pages_in g s)

-- The calls keep the facts and the current lines, which become the committed ones; at each moment each image is a store that
-- recovers to the lines that were committed before or to the current ones.
pub record CommitsOpen (g : Sizes) (start tail : ℕ) (calls : List Call) (s : State) : Type 0 where
  pub facts : OpenFacts g start tail (after_all calls s)
  pub current : pages_in g (after_all calls s) ≡ pages_in g s
  pub committed : committed_in (after_all calls s) ≡ pages_in g s
  pub moments : (mid : State) → Amid s calls mid → (i : Image) → Leaves mid i
      → IsStoreOf g (committed_in s) i ⊎ IsStoreOf g (pages_in g s) i
