-- The bytes of a page.
use Rattle.std.specs.Prelude.{◌≡◌, ℕ, ◌+◌, ◌<◌, ◌≤◌, List, get_or, replicate}

-- a page of zeros
unfoldable pub zero_page : List ℕ
zero_page = replicate 4096 0

-- a page of this byte
unfoldable pub filled_page : ℕ → List ℕ
filled_page value = replicate 4096 value

-- the bytes from place `from` up to `end` are those of the other list
pub record Same (from end : ℕ) (old new : List ℕ) : Type 0 where
  pub each : (j : ℕ) → from ≤ j → j < end → get_or new j 0 ≡ get_or old j 0

-- the bytes that stood from `from` up to `end` stand from `to` on
pub record Moved (from end to : ℕ) (old new : List ℕ) : Type 0 where
  pub each : (j : ℕ) → from + j < end → get_or new (to + j) 0 ≡ get_or old (from + j) 0
