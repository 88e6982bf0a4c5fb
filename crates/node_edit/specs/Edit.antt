-- What the changes of nodes make of their bytes.
use Rattle.std.specs.Prelude.{◌≡◌, ℕ, suc, ◌-◌, ◌<◌, ◌≤◌, Bool, true, false, List, [], ◌∷◌, ◌++◌, Option, Some, None, drop, nat_lt, ◌==◌, if◌then◌else◌, length, nat_le, ◌||◌}
use Rattle.std.specs.List.{list_all}
use Rattle.page_format.specs.declared.root.Expect.{Expect}
use Rattle.rows.specs.Rows.{Ascends, last_key}
use Rattle.page_format.specs.Spans.{reach}
use Rattle.page_format.specs.Sound.{row_bytes}
use Rattle.page_format.specs.Node.{Child, children, begins_at, first_keys, is_page_below, leaf_rows, IsWellFormed}
use Rattle.node_edit.specs.declared.fit.Fit.{Fit}
use Rattle.node_edit.specs.declared.fit.Fit.TheVariants as fits
use Rattle.node_edit.specs.declared.pair.Pair.{Pair}

-- a part of a page, which is no root
abbrev pub part : Expect → ℕ → ℕ → Expect
part expect low high = record { level = expect.level; low = low; high = high; root = false; pages = expect.pages }

-- what is expected of a page that may have fallen below the floor, as a root may
abbrev pub loose : Expect → Expect
loose expect = record { level = expect.level; low = expect.low; high = expect.high; root = true; pages = expect.pages }

-- The bytes of one page, or of two that part at a key, have these entries.
pub record Holds {X : Type 0} (entries : List ℕ → List X) (expect : Expect) (bytes : List ℕ) (all : List X) : Type 0 where
  pub well : IsWellFormed bytes expect
  pub are : entries bytes ≡ all

pub record Divides {X : Type 0} (entries : List ℕ → List X) (expect : Expect) (left right : List ℕ) (all : List X) (key : ℕ) : Type 0 where
  pub above : expect.low < key
  pub within : key ≤ expect.high
  pub left_well : IsWellFormed left (part expect expect.low (key - 1))
  pub right_well : IsWellFormed right (part expect key expect.high)
  pub are : entries left ++ entries right ≡ all

abbrev pub Fits : {X : Type 0} → (List ℕ → List X) → Expect → List ℕ → List ℕ → List X → Fit → Type 0
Fits entries expect left right all fits.Whole = Holds entries expect left all
Fits entries expect left right all fits.Short = Holds entries (loose expect) left all
Fits entries expect left right all (fits.Cut key) = Divides entries expect left right all key

-- the children with this child at the key, in the order of the keys
abbrev pub child_put : ℕ → ℕ → List Child → List Child
child_put key page [] = (key, page) ∷ []
child_put key page (c ∷ cs) =
    if nat_lt c.0 key then c ∷ child_put key page cs
    else if c.0 == key then (key, page) ∷ cs
    else (key, page) ∷ c ∷ cs

abbrev pub both : Pair → List Child
both pair = (pair.low, pair.left) ∷ (pair.middle, pair.right) ∷ []

-- what is left of two children after a join: the left one, and the right one from a key on where not all went into the left one
abbrev pub joined : Pair → Option ℕ → List Child
joined pair None = (pair.low, pair.left) ∷ []
joined pair (Some key) = (pair.low, pair.left) ∷ (key, pair.right) ∷ []

-- a cut between the two
abbrev pub IsCutIn : Pair → Option ℕ → Type 0
IsCutIn pair None = Unit {0}
IsCutIn pair (Some key) = (pair.low < key) × (key ≤ pair.high)

-- two pages of the store, and keys in order
pub record IsPair (count : ℕ) (pair : Pair) : Type 0 where
  pub left_some : 1 ≤ pair.left
  pub left : pair.left < count
  pub right_some : 1 ≤ pair.right
  pub right : pair.right < count
  pub order : pair.low < pair.middle
  pub within : pair.middle ≤ pair.high

-- the child at a key with its right sibling, or else with its left one
abbrev pub IsPairAt : List Child → Child → List Child → ℕ → Pair → Type 0
IsPairAt xs s (y ∷ ys) high pair = pair ≡ record { left = s.1; low = s.0; middle = y.0; right = y.1; high = reach ys high }
IsPairAt xs s [] high pair = (front : List Child) × (x : Child) × (xs ≡ front ++ x ∷ []) × (pair ≡ record { left = x.1; low = x.0; middle = s.0; right = s.1; high = high })

abbrev pub PairsUp : List Child → ℕ → ℕ → Pair → Type 0
PairsUp all high key pair = (xs ys : List Child) (s : Child) → s.0 ≡ key → all ≡ xs ++ ((s ∷ []) ++ ys) → IsPairAt xs s ys high pair

-- the page above after the join
abbrev pub Mended : Expect → List ℕ → List ℕ → Pair → Option ℕ → Fit → Type 0
Mended expect old new pair cut fit =
    (xs ys : List Child) → children old ≡ xs ++ (both pair ++ ys) → reach ys expect.high ≡ pair.high → Fits children expect new new (xs ++ (joined pair cut ++ ys)) fit

-- a new root over two pages
abbrev pub IsNewRoot : List ℕ → ℕ → ℕ → ℕ → ℕ → ℕ → Type 0
IsNewRoot bytes level first key second count = Holds children (record { level = level; low = 0; high = last_key; root = true; pages = count }) bytes ((0, first) ∷ (key, second) ∷ [])

-- the place of a key in rows or children: the first of them whose key is not below it
abbrev pub place_of : {X : Type 0} → ℕ → List (ℕ × X) → ℕ
place_of key [] = 0
place_of key (entry ∷ rest) = if nat_lt entry.0 key then suc (place_of key rest) else 0

-- whether they begin with one of the key
abbrev pub is_first : {X : Type 0} → ℕ → List (ℕ × X) → Bool
is_first key [] = false
is_first key (entry ∷ rest) = entry.0 == key

-- whether the one at that place has the key
abbrev pub has_key : {X : Type 0} → ℕ → List (ℕ × X) → Bool
has_key key all = is_first key (drop (place_of key all) all)

-- what the children of a page of a tree are
pub record AreChildren (expect : Expect) (cs : List Child) : Type 0 where
  pub begins : begins_at expect.low cs ≡ true
  pub order : Ascends expect.low expect.high (first_keys cs)
  pub below : list_all (is_page_below expect.pages) cs ≡ true
  pub full : (expect.root || nat_le 80 (length cs)) ≡ true
  pub some : 2 ≤ length cs

-- what is expected of the left and the right one of two neighbours, either of which may be below the floor, and of a page
-- with the entries of both
abbrev pub left_of : ℕ → ℕ → Pair → Expect
left_of count level pair = record { level = level; low = pair.low; high = pair.middle - 1; root = true; pages = count }

abbrev pub right_of : ℕ → ℕ → Pair → Expect
right_of count level pair = record { level = level; low = pair.middle; high = pair.high; root = true; pages = count }

abbrev pub whole_of : ℕ → ℕ → Pair → Expect
whole_of count level pair = record { level = level; low = pair.low; high = pair.high; root = false; pages = count }

-- the bytes of two neighbours after a join: all entries in the left one, or in both
abbrev pub Merges : {X : Type 0} → (List ℕ → List X) → Expect → List ℕ → List ℕ → List X → Option ℕ → Type 0
Merges entries expect left right all None = Holds entries expect left all
Merges entries expect left right all (Some key) = Divides entries expect left right all key

-- a page that has as much as it has to
abbrev pub IsEnoughLeaf : List ℕ → Type 0
IsEnoughLeaf bytes = 1344 ≤ row_bytes (leaf_rows bytes)

abbrev pub IsEnoughInner : List ℕ → Type 0
IsEnoughInner bytes = 80 ≤ length (children bytes)
