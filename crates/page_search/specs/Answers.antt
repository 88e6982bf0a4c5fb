-- What the search by single lines and the reading of a whole page answer.
use Rattle.std.specs.Prelude.{◌≡◌, ℕ, true, List, Option, Some, None}
use Rattle.damage.specs.declared.evidence.Evidence.{Evidence}
use Rattle.damage.specs.declared.evidence.Evidence.TheVariants.{Super, Frames, Log, Page, Walk}
use Rattle.line_pages.specs.declared.stop.Stop.{Stop}
use Rattle.line_pages.specs.declared.stop.Stop.TheVariants.{Nvm, Ssd, Damaged}
use Rattle.page_format.specs.declared.root.Expect.{Expect}
use Rattle.page_format.specs.declared.spot.Spot.{Spot}
use Rattle.page_format.specs.Node.{page_kind, page_level, entry_count, first_failing}
use Rattle.page_format.specs.Search.{is_root_span, IsSpot, IsSafeSpot}
use Rattle.page_search.specs.declared.probe.Header.{Header}

-- The right answer of a search that answers nothing where something looks odd, which it does not on a well-formed page.
abbrev pub IsRightSpot : List ℕ → Expect → ℕ → Option Spot → Type 0
IsRightSpot bytes expect key None = ⊥
IsRightSpot bytes expect key (Some spot) = IsSpot bytes expect key spot

abbrev pub IsSafeAnswer : Expect → ℕ → Option Spot → Type 0
IsSafeAnswer expect key None = Unit {0}
IsSafeAnswer expect key (Some spot) = IsSafeSpot expect key spot

-- an answer is given only where the page has the level that is expected
abbrev pub IsOfLevel : List ℕ → Expect → Option Spot → Type 0
IsOfLevel bytes expect None = Unit {0}
IsOfLevel bytes expect (Some spot) = page_level bytes ≡ expect.level

-- the first words of a page
pub record IsHeader (bytes : List ℕ) (header : Header) : Type 0 where
  pub kind : header.kind ≡ page_kind bytes
  pub count : header.count ≡ entry_count bytes
  pub level : header.level ≡ page_level bytes

-- The evidence names this page, what was expected of it, and the first check that it fails.
abbrev pub IsShownDamage : ℕ → Expect → List ℕ → Evidence → Type 0
IsShownDamage number expect bytes (Page page level low high check) =
    (page ≡ number) × (level ≡ expect.level) × (low ≡ expect.low) × (high ≡ expect.high) × (first_failing bytes expect ≡ Some check)
IsShownDamage number expect bytes (Super words check) = ⊥
IsShownDamage number expect bytes (Frames first second entry check) = ⊥
IsShownDamage number expect bytes (Log offset line tail check) = ⊥
IsShownDamage number expect bytes (Walk page kept found check) = ⊥

-- a stop for damage shows it of this page
abbrev pub ShowsDamage : ℕ → Expect → List ℕ → Stop → Type 0
ShowsDamage number expect bytes Nvm = Unit {0}
ShowsDamage number expect bytes Ssd = Unit {0}
ShowsDamage number expect bytes (Damaged evidence) = IsShownDamage number expect bytes evidence

-- What is expected can be told by the evidence, which has neither the pages of the store nor whether the page is a root: it names
-- the pages of the store, and the bounds of a root come with a root.
pub record FitsEvidence (count : ℕ) (expect : Expect) : Type 0 where
  pub pages : expect.pages ≡ count
  pub root : is_root_span expect.low expect.high ≡ true → expect.root ≡ true
