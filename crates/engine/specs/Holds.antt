-- When pages, an image and the devices hold tables.
use Rattle.std.specs.Prelude.{◌≡◌, ◌⊎◌, ℕ, List}
use Rattle.devices.specs.State.{State, Image, Leaves, current, fresh}
use Rattle.line_pages.specs.Lines.{Lines}
use Rattle.flat_transactions.specs.Order.{Sizes, pages, recovered_lines, IsOrdered, IsStoreOf}
use Rattle.rows.specs.declared.limits.Limits.{Limits}
use Rattle.table_catalog.specs.Catalog.{tables}
use Rattle.rows.specs.Tables.{Table}
use Rattle.table_catalog.specs.Stored.{IsStore}
use Rattle.script.specs.Machine.{Bounds}

-- the limits of a store of these sizes
pub record AreLimits (g : Sizes) (limits : Limits) : Type 0 where
  pub tables : limits.tables ≡ g.tables
  pub rows : limits.rows ≡ g.rows

abbrev pub bounds_in : Sizes → Bounds
bounds_in g = record { tables = g.tables; rows = g.rows; writes = g.writes }

-- The pages of a store of these sizes are in order, and hold these tables.
pub record HoldsTables (g : Sizes) (lines : Lines) (T : List Table) : Type 0 where
  pub limits : Limits
  pub are_limits : AreLimits g limits
  pub store : IsStore limits (pages g) lines
  pub tables_are : tables lines ≡ T

-- The image is a store of these sizes, and recovery gives pages that hold these tables.
pub record RecoversTo (g : Sizes) (T : List Table) (i : Image) : Type 0 where
  pub lines : Lines
  pub is_store : IsStoreOf g lines i
  pub holds : HoldsTables g lines T

-- The same of what one reads of the devices.
abbrev pub Holds : Sizes → List Table → State → Type 0
Holds g T s = RecoversTo g T (current s)

-- The devices are in order with these tables: they hold a store of these sizes, and whatever a crash leaves of it recovers
-- to the tables.
pub record InOrder (g : Sizes) (T : List Table) (lines blocks : ℕ) (s : State) : Type 0 where
  pub order : IsOrdered g lines blocks s
  pub recovers : (i : Image) → Leaves s i → HoldsTables g (recovered_lines i) T

-- each image that a crash leaves is in order with the first tables or with the second
abbrev pub HasEither : Sizes → List Table → List Table → ℕ → ℕ → State → Type 0
HasEither g before after lines blocks s = (i : Image) → Leaves s i → InOrder g before lines blocks (fresh i) ⊎ InOrder g after lines blocks (fresh i)

-- each of them is in order with these tables
abbrev pub HasOnly : Sizes → List Table → ℕ → ℕ → State → Type 0
HasOnly g T lines blocks s = (i : Image) → Leaves s i → InOrder g T lines blocks (fresh i)
