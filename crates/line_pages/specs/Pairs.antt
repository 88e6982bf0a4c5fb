-- Sets of pairs of a page and a line.
use Rattle.std.specs.Prelude.{ℕ, Bool, false, List, slice_index, nat_lt, ◌==◌, ◌&&◌, ◌||◌}
use Rattle.std.specs.Int.{bit_at}

-- the set, as the test whether a pair is in it
abbrev pub Pairs : Type 0
Pairs = ℕ → ℕ → Bool

abbrev pub no_pairs : Pairs
no_pairs page line = false

abbrev pub with_pair : ℕ → ℕ → Pairs → Pairs
with_pair page line pairs p l = ((p == page) && (l == line)) || pairs p l

-- the pairs in a list of masks, one for each page: line l of page p is in it where bit l of mask p is 1
unfoldable pub pairs_in : List ℕ → Pairs
pairs_in masks page line = nat_lt line 64 && (bit_at (slice_index masks page) line == 1)
