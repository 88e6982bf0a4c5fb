-- What contracts see of a set of lines.
use Rattle.std.specs.Prelude.{ℕ, length}
use Rattle.line_pages.specs.declared.line_set.LineSet.{LineSet}
use Rattle.line_pages.specs.Pairs.{Pairs, pairs_in}

-- the pairs in it
abbrev pub pairs_of : LineSet → Pairs
pairs_of set = pairs_in set.masks.items

-- how many pages it was made for
abbrev pub pages_of : LineSet → ℕ
pages_of set = length set.masks.items
