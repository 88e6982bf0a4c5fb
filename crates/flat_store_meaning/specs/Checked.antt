-- What the checks of a superblock say.
use Rattle.std.specs.Prelude.{◌-◌, ◌≤◌, IsTrue}
use Rattle.flat_store_meaning.specs.Layout.{is_allowed, ring_lines}
use Rattle.flat_store_meaning.specs.Recovered.{Super}

-- The superblock passes its checks.
pub record SuperPasses (sup : Super) : Type 0 where
  pub sizes : IsTrue (is_allowed sup.sizes)
  pub started : sup.start ≤ sup.tail
  pub in_ring : sup.tail - sup.start ≤ ring_lines sup.sizes
