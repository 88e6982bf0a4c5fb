-- What a search in one page answers, and what damage of a page is.
use Rattle.std.specs.Prelude.{◌≡◌, ℕ, ◌<◌, ◌≤◌, Bool, false, List, length, take, drop, Some, slice_get, ◌==◌, ◌&&◌, IsTrue}
use Rattle.damage.specs.declared.evidence.Evidence.{Evidence}
use Rattle.damage.specs.declared.evidence.Evidence.TheVariants.{Super, Frames, Log, Page, Walk}
use Rattle.line_pages.specs.declared.stop.Stop.{Stop}
use Rattle.line_pages.specs.declared.stop.Stop.TheVariants.{Nvm, Ssd, Damaged}
use Rattle.line_pages.specs.Lines.{Lines}
use Rattle.line_pages.specs.Bytes.{bytes_of}
use Rattle.line_pages.specs.Standing.{Standing}
use Rattle.page_format.specs.declared.root.Expect.{Expect}
use Rattle.page_format.specs.declared.spot.Spot.{Spot}
use Rattle.page_format.specs.declared.spot.Spot.TheVariants.{Row, Gap, Child}
use Rattle.rows.specs.Rows.{keys, AllBelow, AllAbove, last_key}
use Rattle.page_format.specs.Node.{leaf_rows, children, first_failing}
use Rattle.page_format.specs.Spans.{spans}

-- a page is taken as a root exactly where its bounds are those of all keys
abbrev pub is_root_span : ℕ → ℕ → Bool
is_root_span low high = (low == 0) && (high == last_key)

-- The right answer on a well-formed page.
abbrev pub IsSpot : List ℕ → Expect → ℕ → Spot → Type 0
IsSpot bytes expect key (Row at) = (expect.level ≡ 0) × (slice_get (keys (leaf_rows bytes)) at ≡ Some key)
IsSpot bytes expect key (Gap at) = (expect.level ≡ 0) × (at ≤ length (leaf_rows bytes)) × AllBelow key (take at (leaf_rows bytes)) × AllAbove key (drop at (leaf_rows bytes))
IsSpot bytes expect key (Child at page low high) = slice_get (spans (children bytes) expect.high) at ≡ Some (record { page = page; low = low; high = high })

-- What an answer has, whatever the page holds: the child is a page, its bounds lie within those of the page and have the
-- key between them, and they are not those of a root.
abbrev pub IsSafeSpot : Expect → ℕ → Spot → Type 0
IsSafeSpot expect key (Row at) = expect.level ≡ 0
IsSafeSpot expect key (Gap at) = expect.level ≡ 0
IsSafeSpot expect key (Child at page low high) =
    (1 ≤ expect.level) × (1 ≤ page) × (page < expect.pages) × (expect.low ≤ low) × (low ≤ key) × (key ≤ high) × (high ≤ expect.high)
    × (is_root_span low high ≡ false)

-- The evidence names the first check that a page fails, and the buffer has the page's bytes. A page is a root exactly
-- where its bounds are those of all keys.
abbrev pub IsNodeDamage : ℕ → Lines → List ℕ → Evidence → Type 0
IsNodeDamage count lines buffer (Page page level low high check) =
    (page < count) × (buffer ≡ bytes_of lines page)
    × (first_failing buffer (record { level = level; low = low; high = high; root = is_root_span low high; pages = count }) ≡ Some check)
IsNodeDamage count lines buffer (Super words check) = ⊥
IsNodeDamage count lines buffer (Frames first second entry check) = ⊥
IsNodeDamage count lines buffer (Log offset line tail check) = ⊥
IsNodeDamage count lines buffer (Walk page kept found check) = ⊥

-- A stop for damage keeps evidence of this kind.
abbrev pub Keeps : (Evidence → Type 0) → Stop → Type 0
Keeps Fails Nvm = Unit {0}
Keeps Fails Ssd = Unit {0}
Keeps Fails (Damaged evidence) = Fails evidence

-- a stop for damage comes where no line was changed
abbrev pub Unchanged : {A : Type 0} → Standing A → Standing A → Stop → Type 0
Unchanged old new Nvm = Unit {0}
Unchanged old new Ssd = Unit {0}
Unchanged old new (Damaged evidence) = IsTrue old.told → new.current ≡ old.current

-- Whatever the store holds: the buffer fails, as a page of a tree, the check that the evidence names, and none before it.
abbrev pub FailsNode : ℕ → List ℕ → Evidence → Type 0
FailsNode count buffer (Page page level low high check) =
    (page < count) × (first_failing buffer (record { level = level; low = low; high = high; root = is_root_span low high; pages = count }) ≡ Some check)
FailsNode count buffer (Super words check) = ⊥
FailsNode count buffer (Frames first second entry check) = ⊥
FailsNode count buffer (Log offset line tail check) = ⊥
FailsNode count buffer (Walk page kept found check) = ⊥
