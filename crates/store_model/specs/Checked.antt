-- What the checks of a superblock and of a frame table say.
use Rattle.std.specs.Prelude.{◌≡◌, ◌≢◌, ℕ, ◌+◌, ◌-◌, ◌*◌, ◌%◌, ◌<◌, ◌≤◌, IsTrue}
use Rattle.store_model.specs.Layout.{is_allowed, ring_lines, ring_blocks, floor64}
use Rattle.store_model.specs.Recovered.{Super}

-- The superblock passes checks 1 to 4.
pub record SuperPasses (sup : Super) : Type 0 where
  pub sizes : IsTrue (is_allowed sup.sizes)
  pub started : sup.start ≤ sup.tail
  pub drained : sup.drained ≤ sup.tail
  pub aligned : sup.drained % 64 ≡ 0
  pub in_ring : sup.tail - sup.drained ≤ ring_lines sup.sizes
  pub in_blocks : sup.drained ≤ floor64 sup.start + 64 * ring_blocks sup.sizes

-- The first n entries of the frame table pass checks 5 and 6: each is 0 or names a page, and no page is named twice.
pub record TablePasses (pages n : ℕ) (entry : ℕ → ℕ) : Type 0 where
  pub in_store : (k : ℕ) → k < n → entry k ≤ pages
  pub once : (j k : ℕ) → j < k → k < n → entry k ≢ 0 → entry j ≢ entry k
