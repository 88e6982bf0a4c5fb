-- What calls do to the pages: which pages are used and which are free, before and after.
use Rattle.std.specs.Prelude.{◌≡◌, ◌≢◌, ℕ, ◌+◌, ◌<◌, ◌≤◌, ◌⊎◌, List, [], ◌∷◌, ◌++◌, nat_lt, if◌then◌else◌}
use Rattle.line_pages.specs.Lines.{Lines}
use Rattle.page_alloc.specs.Space.{word, kind_of, high_of, IsFreeList}
use Rattle.page_alloc.specs.Counted.{times}

-- 1 for a page below the high water, and 0 for the others
abbrev pub below : ℕ → ℕ → ℕ
below n high = if nat_lt n high then 1 else 0

-- These pages are below the high water, and neither one of them stands twice nor is it page 0.
abbrev pub ArePart : Lines → List ℕ → Type 0
ArePart lines pages = (n : ℕ) → times n (0 ∷ pages) ≤ below n (high_of lines)

-- A tree that used the pages `used` now uses `used'`, while the free list went from `free` to `free'`. Pages pass
-- between the two, and the high water rises only past pages that join one of them. No other page changes, and of page
-- 0 only the header's high water and first free page.
pub record Moves (count : ℕ) (old new : Lines) (used used' free free' : List ℕ) : Type 0 where
  pub is_free : IsFreeList new free'
  pub higher : high_of old ≤ high_of new
  pub within : high_of new ≤ count
  pub kept : (n : ℕ) → times n (used' ++ free') + below n (high_of old) ≡ times n (used ++ free) + below n (high_of new)
  pub others : (n : ℕ) → n ≢ 0 → times n (used ++ free) ≡ 0 → (n < high_of old) ⊎ (high_of new ≤ n) → new n ≡ old n
  pub kind : kind_of new 0 ≡ kind_of old 0
  pub tables : word (new 0 0) 1 ≡ word (old 0 0) 1

-- the other lines of the catalog
abbrev pub SameEntries : Lines → Lines → Type 0
SameEntries old new = (l : ℕ) → l ≢ 0 → new 0 l ≡ old 0 l

-- these are exactly the pages below the high water, each once
abbrev pub AreExactly : ℕ → List ℕ → Type 0
AreExactly high pages = (n : ℕ) → times n pages ≡ below n high

-- a page taken: it leaves the free list, or the high water rises past it
pub record Taken (count : ℕ) (old new : Lines) (page : ℕ) (free : List ℕ) : Type 0 where
  pub rest : List ℕ
  pub moves : Moves count old new [] (page ∷ []) free rest
  pub entries : SameEntries old new

abbrev pub Takes : ℕ → Lines → Lines → ℕ → Type 0
Takes count old new page = (free : List ℕ) → IsFreeList old free → Taken count old new page free

-- a page given back: it joins the free list
pub record Given (count : ℕ) (old new : Lines) (page : ℕ) (free : List ℕ) : Type 0 where
  pub moves : Moves count old new (page ∷ []) [] free (page ∷ free)
  pub entries : SameEntries old new

abbrev pub Gives : ℕ → Lines → Lines → ℕ → Type 0
Gives count old new page = (free : List ℕ) → IsFreeList old free → ArePart old (page ∷ free) → high_of old ≤ count → Given count old new page free
