-- Where a put by lines is taken.
use Rattle.std.proofs.Common.{◌≡◌, ◌≢◌, ℕ, ◌+◌, ◌*◌, ◌<◌, ◌≤◌, inl, inr, ◌⊎◌, ◌||◌, ◌&&◌, ◌==◌, Bool, true, false, List, [], length, nat_le, refl, ap, sym, ◌∙◌, arith, cond}
use Rattle.std.proofs.lemmas.Bool.{le-leb, lt-leb, eq-eqb, ne_eqb, or_right}
use Rattle.ssd_model.specs.Page.{Same}
use Rattle.line_pages.specs.Bytes.{u16_at, u64_at}
use Rattle.line_pages.proofs.NumberLaws.{u64_at-same}
use Rattle.page_format.specs.declared.root.Expect.{Expect}
use Rattle.page_format.specs.declared.spot.Spot.TheVariants as spots
use Rattle.rows.specs.Rows.{Row}
use Rattle.page_format.specs.Node.{leaf_rows, entry_count, heap_start, IsWellFormed}
use Rattle.page_format.specs.Search.{IsSpot}
use Rattle.page_format.specs.Sound.{InHeap, slot_of}
use Rattle.page_format.proofs.PageFacts.{LeafFacts, leaf_facts}
use Rattle.page_format.proofs.SlotLemmas.{length_rows, slot_in_heap}
use Rattle.page_edit.specs.Packed.{heap_for}
use Rattle.node_edit.specs.Edit.{has_key, place_of}
use Rattle.node_edit.specs.Record.{record_at}
use Rattle.leaf_lines.specs.Put.{fits_beside, fits_over}
use Rattle.leaf_lines.proofs.PutLaws.{gap_place}
use Rattle.leaf_lines.proofs.SetLaws.{key_at, row_place}

-- what a well-formed leaf is at the row of a key
pub record AtRow (expect : Expect) (key at : ℕ) (bytes : List ℕ) : Type 0 where
  pub within : at < entry_count bytes
  pub place : at ≡ place_of key (leaf_rows bytes)
  pub has : has_key key (leaf_rows bytes) ≡ true
  pub slot : InHeap (heap_start bytes) (slot_of bytes at)
  pub facts : LeafFacts bytes expect

pub at_row : (expect : Expect) (key at : ℕ) (bytes : List ℕ) → expect.level ≡ 0 → IsWellFormed bytes expect → IsSpot bytes expect key (spots.Row at) → AtRow expect key at bytes
at_row expect key at bytes level well spot =
    let facts = leaf_facts bytes expect level well in
    let d : Row = (0, []) in
    let got = key_at (leaf_rows bytes) at key d spot.1 in
    let there = row_place expect.low expect.high key at (leaf_rows bytes) d facts.order got.0 got.1 in
    let within : at < entry_count bytes = omega (arith, got.0, length_rows bytes) in
    record { within = within; place = there.0; has = there.1; slot = slot_in_heap bytes at facts.in_heap within; facts = facts }

-- a new row has its place where there is room for it
gap_fits : (expect : Expect) (key at long : ℕ) (bytes : List ℕ) → IsSpot bytes expect key (spots.Gap at) → fits_beside expect.root key long bytes ≡ nat_le (heap_for (8 + long) bytes) (heap_start bytes)
gap_fits expect key at long bytes spot =
    let place = gap_place key at (leaf_rows bytes) spot.1 spot.2 spot.3 in
    ap (λ (b : Bool). cond b (fits_over expect.root (record_at key bytes).size (8 + long) bytes) (nat_le (heap_for (8 + long) bytes) (heap_start bytes))) place.1

-- a row that is there by its slot
row_fits : (expect : Expect) (key at long : ℕ) (bytes : List ℕ) → AtRow expect key at bytes → fits_beside expect.root key long bytes ≡ fits_over expect.root (slot_of bytes at).size (8 + long) bytes
row_fits expect key at long bytes row =
    ap (λ (b : Bool). cond b (fits_over expect.root (record_at key bytes).size (8 + long) bytes) (nat_le (heap_for (8 + long) bytes) (heap_start bytes))) row.has
    ∙ ap (λ (i : ℕ). fits_over expect.root (slot_of bytes i).size (8 + long) bytes) (sym row.place)

pub insert_done : (expect : Expect) (key at count heap long : ℕ) (w header : List ℕ) → Same 0 64 w header → count ≡ u64_at header 8 → heap ≡ u64_at header 24 → IsSpot w expect key (spots.Gap at)
    → 68 + 4 * count + (8 + long) ≤ heap → true ≡ fits_beside expect.root key long w
insert_done expect key at count heap long w header known count_is heap_is spot room =
    let count_w : count ≡ entry_count w = count_is ∙ u64_at-same 0 64 8 w header known (omega arith) (omega arith) in
    let heap_w : heap ≡ heap_start w = heap_is ∙ u64_at-same 0 64 24 w header known (omega arith) (omega arith) in
    sym (gap_fits expect key at long w spot ∙ le-leb (heap_for (8 + long) w) (heap_start w) (omega (arith, count_w, heap_w, room)))

pub insert_left : (expect : Expect) (key at count heap long : ℕ) (w header : List ℕ) → Same 0 64 w header → count ≡ u64_at header 8 → heap ≡ u64_at header 24 → expect.level ≡ 0 → IsWellFormed w expect → IsSpot w expect key (spots.Gap at)
    → (at ≤ count → heap ≤ 4096 → heap < 68 + 4 * count + (8 + long)) → false ≡ fits_beside expect.root key long w
insert_left expect key at count heap long w header known count_is heap_is level well spot none =
    let count_w : count ≡ entry_count w = count_is ∙ u64_at-same 0 64 8 w header known (omega arith) (omega arith) in
    let heap_w : heap ≡ heap_start w = heap_is ∙ u64_at-same 0 64 24 w header known (omega arith) (omega arith) in
    let facts = leaf_facts w expect level well in
    let short = none (omega (arith, spot.1, length_rows w, count_w)) (omega (arith, facts.heap, heap_w)) in
    sym (gap_fits expect key at long w spot ∙ lt-leb (heap_for (8 + long) w) (heap_start w) (omega (arith, count_w, heap_w, short)))

-- a row that is there has its slot among the 1,008 that a page has room for
pub over_few : {X : Type 0} (expect : Expect) (key at : ℕ) (w : List ℕ) → expect.level ≡ 0 → IsWellFormed w expect → IsSpot w expect key (spots.Row at) → 1008 ≤ at → X
over_few expect key at w level well spot past =
    let row = at_row expect key at w level well spot in
    let below = row.facts.below_heap in
    let top = row.facts.heap in
    absurd (omega (arith, past, row.within, below, top))

pub over_same : (expect : Expect) (key at size long : ℕ) (w : List ℕ) → expect.level ≡ 0 → IsWellFormed w expect → IsSpot w expect key (spots.Row at) → size ≡ u16_at w (64 + 4 * at + 2) → size ≡ 8 + long
    → true ≡ fits_beside expect.root key long w
over_same expect key at size long w level well spot size_is same =
    let row = at_row expect key at w level well spot in
    sym (row_fits expect key at long w row ∙ ap (λ (b : Bool). b || ((expect.root || nat_le (slot_of w at).size (8 + long)) && nat_le (64 + 4 * entry_count w + (8 + long)) (heap_start w))) (eq-eqb (slot_of w at).size (8 + long) (sym size_is ∙ same)))

fits_by : (root : Bool) (was size room heap : ℕ) → was ≢ size → (root ≡ true) ⊎ (was ≤ size) → room ≤ heap → ((was == size) || ((root || nat_le was size) && nat_le room heap)) ≡ true
fits_by true was size room heap ne full enough = rw (ne_eqb was size ne, le-leb room heap enough) refl
fits_by false was size room heap ne (inl never) enough = absurd (cc)
fits_by false was size room heap ne (inr longer) enough = rw (ne_eqb was size ne, le-leb was size longer, le-leb room heap enough) refl

fails_by : (root : Bool) (was size room heap : ℕ) → was ≢ size → (heap < room) ⊎ ((root ≡ false) × (size < was)) → ((was == size) || ((root || nat_le was size) && nat_le room heap)) ≡ false
fails_by root was size room heap ne (inr low) = rw (ne_eqb was size ne, low.0, lt-leb was size low.1) refl
fails_by true was size room heap ne (inl short) = rw (ne_eqb was size ne, lt-leb room heap short) refl
fails_by false was size room heap ne (inl short) = rw (ne_eqb was size ne, lt-leb room heap short) (none (nat_le was size))
  where
    none : (b : Bool) → (b && false) ≡ false
    none true = refl
    none false = refl

pub over_done : (expect : Expect) (key at count heap size long : ℕ) (w header : List ℕ) → Same 0 64 w header → count ≡ u64_at header 8 → heap ≡ u64_at header 24 → expect.level ≡ 0 → IsWellFormed w expect → IsSpot w expect key (spots.Row at)
    → size ≡ u16_at w (64 + 4 * at + 2) → size ≢ 8 + long → (expect.root ≡ true) ⊎ (size ≤ 8 + long) → 64 + 4 * count + (8 + long) ≤ heap → true ≡ fits_beside expect.root key long w
over_done expect key at count heap size long w header known count_is heap_is level well spot size_is other full room =
    let count_w : count ≡ entry_count w = count_is ∙ u64_at-same 0 64 8 w header known (omega arith) (omega arith) in
    let heap_w : heap ≡ heap_start w = heap_is ∙ u64_at-same 0 64 24 w header known (omega arith) (omega arith) in
    let row = at_row expect key at w level well spot in
    let longer : (expect.root ≡ true) ⊎ ((slot_of w at).size ≤ 8 + long) = elim full [ inl root ↦ inl root | inr more ↦ inr (omega (arith, size_is, more)) ] in
    sym (row_fits expect key at long w row ∙ fits_by expect.root (slot_of w at).size (8 + long) (64 + 4 * entry_count w + (8 + long)) (heap_start w) (λ e. other (size_is ∙ e)) longer (omega (arith, count_w, heap_w, room)))

pub over_left : (expect : Expect) (key at count heap place size long : ℕ) (w header : List ℕ) → Same 0 64 w header → count ≡ u64_at header 8 → heap ≡ u64_at header 24 → expect.level ≡ 0 → IsWellFormed w expect → IsSpot w expect key (spots.Row at)
    → place ≡ u16_at w (64 + 4 * at) → size ≡ u16_at w (64 + 4 * at + 2) → (68 + 4 * at ≤ place → place + size ≤ 4096 → size ≢ 8 + long)
    → (at < count → heap ≤ 4096 → size ≢ 8 + long → (heap < 64 + 4 * count + (8 + long)) ⊎ ((expect.root ≡ false) × (8 + long < size))) → false ≡ fits_beside expect.root key long w
over_left expect key at count heap place size long w header known count_is heap_is level well spot place_is size_is behind none =
    let count_w : count ≡ entry_count w = count_is ∙ u64_at-same 0 64 8 w header known (omega arith) (omega arith) in
    let heap_w : heap ≡ heap_start w = heap_is ∙ u64_at-same 0 64 24 w header known (omega arith) (omega arith) in
    let row = at_row expect key at w level well spot in
    let below = row.facts.below_heap in
    let top = row.facts.heap in
    let inside = row.slot in
    let other : size ≢ 8 + long = behind (omega (arith, place_is, inside.above, below, row.within)) (omega (arith, place_is, size_is, inside.below)) in
    let why : (heap_start w < 64 + 4 * entry_count w + (8 + long)) ⊎ ((expect.root ≡ false) × (8 + long < (slot_of w at).size)) =
    elim (none (omega (arith, count_w, row.within)) (omega (arith, heap_w, top)) other) [
      | inl short ↦ inl (omega (arith, count_w, heap_w, short))
      | inr low ↦ inr (low.0, omega (arith, size_is, low.1))
    ] in
    sym (row_fits expect key at long w row ∙ fails_by expect.root (slot_of w at).size (8 + long) (64 + 4 * entry_count w + (8 + long)) (heap_start w) (λ e. other (size_is ∙ e)) why)
