-- Lines that go to their homes one after the other.
use Rattle.std.specs.Prelude.{ℕ, ◌<◌, List, [], ◌∷◌, length, slice_index_or, None, IfSome}
use Rattle.line_pages.specs.Pairs.{Pairs, with_pair}
use Rattle.store_model.specs.Layout.{Sizes, pages}
use Rattle.store_model.specs.Log.{Words, Change, redone}
use Rattle.home_move.specs.Homes.{Aim, CanReplay}
use Rattle.home_tests.specs.declared.replaying.HomeLine.{HomeLine}

abbrev pub no_line : HomeLine
no_line = record { home = None; page = 0; line = 0; value = record { words = [] } }

abbrev pub nth : List HomeLine → ℕ → HomeLine
nth lines k = slice_index_or lines k no_line

-- it has a place in the store; so have the first n of them
pub record IsInStore (g : Sizes) (x : HomeLine) : Type 0 where
  pub home : IfSome x.home (λ frame. frame < g.frames)
  pub page : x.page < pages g
  pub line : x.line < 64

pub record AreInStore (g : Sizes) (n : ℕ) (lines : List HomeLine) : Type 0 where
  pub each : (k : ℕ) → k < n → IsInStore g (nth lines k)

-- the log names each of them in whole, and the pages have these frames
pub record CanReplayAll (g : Sizes) (lines : List HomeLine) (aim : Aim) : Type 0 where
  pub each : (k : ℕ) → k < length lines → CanReplay g (nth lines k).page (nth lines k).line (nth lines k).home aim

-- as records of whole lines
abbrev pub as_change : HomeLine → Change
as_change x = record { page = x.page; line = x.line; mask = 255; before = x.value; after = x.value }

abbrev pub as_changes : List HomeLine → List Change
as_changes [] = []
as_changes (x ∷ xs) = as_change x ∷ as_changes xs

-- the words behind the writes are those that a replay of these records gives
abbrev pub rewritten : List HomeLine → Words → Words
rewritten lines = redone (as_changes lines)

-- and the lines are known to be flushed
abbrev pub known_with : List HomeLine → Pairs → Pairs
known_with [] known = known
known_with (x ∷ xs) known = known_with xs (with_pair x.page x.line known)
