-- The keys of a leaf by index, and a search among them.
use Rattle.std.proofs.Common.{◌≡◌, ℕ, zero, suc, ◌+◌, ◌*◌, ◌<◌, ◌≤◌, inl, inr, List, [], ◌∷◌, length, take, drop, get_or, Some, sym, ap, ◌∙◌, arith, slice_get}
use Rattle.std.proofs.lemmas.Bool.{cases_eq}
use Rattle.std.proofs.lemmas.List.{length-map, get_or-map}
use Rattle.line_pages.specs.Bytes.{u16_at, u64_at}
use Rattle.page_format.specs.declared.root.Expect.{Expect}
use Rattle.page_format.specs.declared.spot.Spot.TheVariants.{Row as Row_at, Gap}
use Rattle.page_format.specs.Search.{IsSpot}
use Rattle.rows.specs.Rows.{Row, keys, key_of, Ascends, AllBelow, AllAbove}
use Rattle.page_format.specs.Node.{leaf_rows, entry_count, heap_start, slots, IsWellFormed}
use Rattle.page_format.proofs.SlotLemmas.{length-slots, length_rows, row_at, each_in_heap, slot_at, in_heap_one}
use Rattle.page_format.specs.Node.{Slot}
use Rattle.page_format.proofs.PageFacts.{leaf_facts}

-- the key of a row is where its slot says
pub key_at : (bytes : List ℕ) (i : ℕ) → i < entry_count bytes → get_or (keys (leaf_rows bytes)) i 0 ≡ u64_at bytes (u16_at bytes (64 + 4 * i))
key_at bytes i h = get_or-map key_of (leaf_rows bytes) i (0, []) 0 (omega (arith, length_rows bytes)) ∙ ap key_of (row_at bytes i (0, []) h)

pub length-keys : (bytes : List ℕ) → length (keys (leaf_rows bytes)) ≡ entry_count bytes
length-keys bytes = length-map (leaf_rows bytes) key_of ∙ length_rows bytes

pub Ascends-first : (low high : ℕ) (ks : List ℕ) (j : ℕ) → Ascends low high ks → j < length ks → low ≤ get_or ks j 0
Ascends-first low high [] j up h = absurd (omega arith)
Ascends-first low high (k ∷ ks) zero up h = up.0
Ascends-first low high (k ∷ ks) (suc j) up h = let later = Ascends-first (k + 1) high ks j up.2 (omega arith) in omega (arith, later, up.0)

pub Ascends-last : (low high : ℕ) (ks : List ℕ) (j : ℕ) → Ascends low high ks → j < length ks → get_or ks j 0 ≤ high
Ascends-last low high [] j up h = absurd (omega arith)
Ascends-last low high (k ∷ ks) zero up h = up.1
Ascends-last low high (k ∷ ks) (suc j) up h = Ascends-last (k + 1) high ks j up.2 (omega arith)

pub Ascends-at : (low high : ℕ) (ks : List ℕ) (i j : ℕ) → Ascends low high ks → i < j → j < length ks → get_or ks i 0 < get_or ks j 0
Ascends-at low high [] i j up lt h = absurd (omega arith)
Ascends-at low high (k ∷ ks) zero zero up lt h = absurd (omega arith)
Ascends-at low high (k ∷ ks) zero (suc j) up lt h = let later = Ascends-first (k + 1) high ks j up.2 (omega arith) in omega (arith, later)
Ascends-at low high (k ∷ ks) (suc i) zero up lt h = absurd (omega arith)
Ascends-at low high (k ∷ ks) (suc i) (suc j) up lt h = Ascends-at (k + 1) high ks i j up.2 (omega arith) (omega arith)

pub below_to : (key n : ℕ) (all : List Row) → ((k : ℕ) → k < n → get_or (keys all) k 0 < key) → n ≤ length all → AllBelow key (take n all)
below_to key zero all lower h = tt
below_to key (suc n) [] lower h = tt
below_to key (suc n) (row ∷ rest) lower h = (lower 0 (omega arith), below_to key n rest (λ k less. lower (suc k) (omega arith)) (omega arith))

pub above_to : (key n : ℕ) (all : List Row) → ((k : ℕ) → n ≤ k → k < length all → key < get_or (keys all) k 0) → AllAbove key (drop n all)
above_to key zero [] higher = tt
above_to key zero (row ∷ rest) higher = (higher 0 (omega arith) (omega arith), above_to key zero rest (λ k more less. higher (suc k) (omega arith) (omega arith)))
above_to key (suc n) [] higher = tt
above_to key (suc n) (row ∷ rest) higher = above_to key n rest (λ k more less. higher (suc k) (omega arith) (omega arith))

pub slice_get-is : (ks : List ℕ) (i key : ℕ) → i < length ks → get_or ks i 0 ≡ key → slice_get ks i ≡ Some key
slice_get-is [] i key h e = absurd (omega arith)
slice_get-is (k ∷ ks) zero key h e = ap (λ (x : ℕ). Some x) e
slice_get-is (k ∷ ks) (suc i) key h e = slice_get-is ks i key (omega arith) e

-- What is known in the midst of a search in a well-formed leaf.
pub record Between (bytes : List ℕ) (key low high : ℕ) : Type 0 where
  pub lower : (k : ℕ) → k < low → get_or (keys (leaf_rows bytes)) k 0 < key
  pub upper : (k : ℕ) → high ≤ k → k < entry_count bytes → key < get_or (keys (leaf_rows bytes)) k 0

pub goes_right : (bytes : List ℕ) (expect : Expect) (key low high middle found : ℕ) → expect.level ≡ 0 → IsWellFormed bytes expect → middle < entry_count bytes → found ≡ get_or (keys (leaf_rows bytes)) middle 0 → found < key
    → Between bytes key low high → Between bytes key (middle + 1) high
goes_right bytes expect key low high middle found leaf well inside is less between =
    let order = (leaf_facts bytes expect leaf well).order in
    record {
      lower = λ k below. elim (cases_eq k middle) [
        | inl e ↦ rw e (omega (arith, is, less))
        | inr ne ↦ let before = Ascends-at expect.low expect.high (keys (leaf_rows bytes)) k middle order (omega (arith, below, ne)) (omega (arith, inside, length-keys bytes)) in omega (arith, before, is, less)
      ];
      upper = between.upper;
    }

pub goes_left : (bytes : List ℕ) (expect : Expect) (key low high middle found : ℕ) → expect.level ≡ 0 → IsWellFormed bytes expect → middle < entry_count bytes → found ≡ get_or (keys (leaf_rows bytes)) middle 0 → key < found
    → Between bytes key low high → Between bytes key low middle
goes_left bytes expect key low high middle found leaf well inside is more between =
    let order = (leaf_facts bytes expect leaf well).order in
    record {
      lower = between.lower;
      upper = λ k above within. elim (cases_eq k middle) [
        | inl e ↦ rw e (omega (arith, is, more))
        | inr ne ↦ let after = Ascends-at expect.low expect.high (keys (leaf_rows bytes)) middle k order (omega (arith, above, ne)) (omega (arith, within, length-keys bytes)) in omega (arith, after, is, more)
      ];
    }

-- in a well-formed leaf each key lies in the page
pub place_inside : (bytes : List ℕ) (expect : Expect) (i : ℕ) → expect.level ≡ 0 → IsWellFormed bytes expect → i < entry_count bytes → u16_at bytes (64 + 4 * i) + 8 ≤ 4096
place_inside bytes expect i leaf well inside =
    let d : Slot = record { place = 0; size = 0 } in
    let facts = leaf_facts bytes expect leaf well in
    let own = in_heap_one (heap_start bytes) (get_or (slots bytes) i d) (each_in_heap (heap_start bytes) (slots bytes) i d facts.in_heap (omega (arith, inside, length-slots bytes))) in
    omega (arith, own.below, own.key, ap (λ (slot : Slot). slot.place) (slot_at bytes i d inside), ap (λ (slot : Slot). slot.size) (slot_at bytes i d inside))

-- the key that a search reads is that of the row
pub probed : (bytes : List ℕ) (at place found : ℕ) → at < entry_count bytes → place ≡ u16_at bytes (64 + 4 * at) → found ≡ u64_at bytes place → found ≡ get_or (keys (leaf_rows bytes)) at 0
probed bytes at place found h slot is = is ∙ ap (u64_at bytes) slot ∙ sym (key_at bytes at h)

pub key_is : (rows : List Row) (i found : ℕ) → i < length rows → ((d : Row) → found ≡ (get_or rows i d).0) → found ≡ get_or (keys rows) i 0
key_is rows i found h is = is (0, []) ∙ sym (get_or-map key_of rows i (0, []) 0 h)

pub gap_is : (bytes : List ℕ) (expect : Expect) (key at : ℕ) → expect.level ≡ 0 → at ≤ entry_count bytes → Between bytes key at at → IsSpot bytes expect key (Gap at)
gap_is bytes expect key at leaf within all =
    let size = length_rows bytes in (
      leaf,
      omega (arith, within, size),
      below_to key at (leaf_rows bytes) all.lower (omega (arith, within, size)),
      above_to key at (leaf_rows bytes) (λ k above inside. all.upper k above (omega (arith, inside, size))),
    )

pub row_is : (bytes : List ℕ) (expect : Expect) (key at : ℕ) → expect.level ≡ 0 → at < entry_count bytes → get_or (keys (leaf_rows bytes)) at 0 ≡ key → IsSpot bytes expect key (Row_at at)
row_is bytes expect key at leaf inside is = (leaf, slice_get-is (keys (leaf_rows bytes)) at key (omega (arith, inside, length-keys bytes)) is)
