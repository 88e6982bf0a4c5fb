-- What devices in order are, as laws that a contract names.
use Rattle.std.specs.Prelude.{◌≡◌, ℕ, ◌^◌, ◌≤◌, List, IsTrue}
use Rattle.devices.specs.State.{State, Image, Leaves, fresh}
use Rattle.devices.specs.World.{Standing, now}
use Rattle.rows.specs.Tables.{Table}
use Rattle.flat_transactions.specs.Order.{Sizes}
use Rattle.flat_recovery.specs.Opening.{HoldsStore, stored_tail}
use Rattle.engine.specs.Holds.{Holds, InOrder}

-- Told devices in order hold a store that fits them and passes its checks, and one reads its tables: so they meet what `run` asks of
-- devices, if the log ends at most at 2^61.
abbrev pub OrderIsStore : Type 0
OrderIsStore = (g : Sizes) (T : List Table) (d : Standing) → IsTrue d.told → InOrder g T d.lines d.blocks (now d) → stored_tail (now d) ≤ 2 ^ 61 → HoldsStore d × Holds g T (now d)

-- What a crash leaves of devices in order is in order with the same tables, and its log ends at the same offset.
abbrev pub ImagesAreInOrder : Type 0
ImagesAreInOrder = (g : Sizes) (T : List Table) (lines blocks : ℕ) (s : State) → InOrder g T lines blocks s
    → (i : Image) → Leaves s i → InOrder g T lines blocks (fresh i) × (stored_tail (fresh i) ≡ stored_tail s)
