-- How many pages a tree of so many rows has at most, and how many rows a high tree has at least.
use Rattle.std.proofs.Common.{◌≡◌, ℕ, zero, suc, ◌+◌, ◌*◌, ◌/◌, ◌^◌, ◌<◌, ◌≤◌, Bool, true, false, List, [], ◌∷◌, length, refl, arith, nat_le, ◌&&◌, length-append, flat_map, mul-suc, mul-zero, pow-suc, mul-le-mul_left, le_trans}
use Rattle.std.specs.List.{list_all}
use Rattle.std.proofs.lemmas.Bool.{leb-true, and_parts}
use Rattle.std.proofs.lemmas.List.{length-map}
use Rattle.std.proofs.lemmas.List.Sums.{sum_by-cons}
use Rattle.line_pages.specs.Lines.{Lines}
use Rattle.line_pages.specs.Bytes.{bytes_of}
use Rattle.page_format.specs.Node.{Slot, Child, slots, leaf_rows, row_in, children, bytes_used, is_in_heap, entry_count, heap_start}
use Rattle.rows.specs.Rows.{Each}
use Rattle.page_format.specs.Spans.{Span, spans}
use Rattle.tree_search.specs.Tree.{IsTree, tree_rows, tree_pages}
use Rattle.page_format.proofs.PageFacts.{leaf_facts, inner_facts}
use Rattle.tree_search.proofs.TreeLaws.{Each-map}
use Rattle.tree_search.proofs.OrderLaws.{length-children, IsChildTree}

used_bound : (heap : ℕ) (all : List Slot) → list_all (is_in_heap heap) all ≡ true → bytes_used all ≤ 492 * length all
used_bound heap [] fits = omega arith
used_bound heap (slot ∷ rest) fits =
    let parts = and_parts (is_in_heap heap slot) (list_all (is_in_heap heap) rest) fits in
    let here = and_parts (nat_le heap slot.place && nat_le (slot.place + slot.size) 4096 && nat_le 8 slot.size) (nat_le slot.size 488) parts.0 in
    let ih = used_bound heap rest parts.1 in
    let step = sum_by-cons (λ (s : Slot). 4 + s.size) slot rest in
    omega (arith, step, leb-true slot.size 488 here.1, ih)

pub length-leaf_rows : (bytes : List ℕ) → length (leaf_rows bytes) ≡ length (slots bytes)
unfolding leaf_rows
length-leaf_rows bytes = length-map (slots bytes) (row_in bytes)

-- a leaf below a root has three rows or more
pub three_rows : (count : ℕ) (lines : Lines) (page low high : ℕ) → IsTree count lines 0 page low high false → 3 ≤ length (tree_rows lines 0 page)
three_rows count lines page low high is =
    let facts = leaf_facts (bytes_of lines page) _ refl is in
    let bound = used_bound (heap_start (bytes_of lines page)) (slots (bytes_of lines page)) facts.in_heap in
    omega (arith, facts.full refl, bound, length-leaf_rows (bytes_of lines page))

-- where each child has so much more rows than pages, the children have that much more together
fan_bound : (pages_at : ℕ → List ℕ) (rows_at : ℕ → List (ℕ × List ℕ)) (cs : List Child) (high : ℕ)
    → Each (λ (s : Span). 2 * length (pages_at s.page) + 1 ≤ length (rows_at s.page)) (spans cs high)
    → 2 * length (flat_map (λ (child : Child). pages_at child.1) cs) + length cs ≤ length (flat_map (λ (child : Child). rows_at child.1) cs)
fan_bound pages_at rows_at [] high all = omega arith
fan_bound pages_at rows_at (c ∷ cs) high all =
    let ih = fan_bound pages_at rows_at cs high all.1 in
    omega (arith, ih, all.0, length-append (pages_at c.1) (flat_map (λ (child : Child). pages_at child.1) cs), length-append (rows_at c.1) (flat_map (λ (child : Child). rows_at child.1) cs))

-- below a root a tree has more than twice as many rows as pages
pub pages_below : (count : ℕ) (lines : Lines) (level page low high : ℕ) → IsTree count lines level page low high false
    → 2 * length (tree_pages lines level page) + 1 ≤ length (tree_rows lines level page)
pages_below count lines zero page low high is = omega (arith, three_rows count lines page low high is)
pages_below count lines (suc level) page low high is =
    let cs = children (bytes_of lines page) in
    let facts = inner_facts (bytes_of lines page) _ (λ e. cc) is.0 in
    let all = Each-map (IsChildTree count lines level) (λ (s : Span). 2 * length (tree_pages lines level s.page) + 1 ≤ length (tree_rows lines level s.page)) (spans cs high)
    (λ s. pages_below count lines level s.page s.low s.high) is.1 in
    omega (arith, fan_bound (tree_pages lines level) (tree_rows lines level) cs high all, facts.full refl, length-children (bytes_of lines page))

-- a tree of r rows has at most r / 2 + 1 pages
pub page_most : (count : ℕ) (lines : Lines) (level page low high : ℕ) (root : Bool) → IsTree count lines level page low high root
    → length (tree_pages lines level page) ≤ length (tree_rows lines level page) / 2 + 1
page_most count lines zero page low high root is = omega arith
page_most count lines (suc level) page low high root is =
    let cs = children (bytes_of lines page) in
    let facts = inner_facts (bytes_of lines page) _ (λ e. cc) is.0 in
    let all = Each-map (IsChildTree count lines level) (λ (s : Span). 2 * length (tree_pages lines level s.page) + 1 ≤ length (tree_rows lines level s.page)) (spans cs high)
    (λ s. pages_below count lines level s.page s.low s.high) is.1 in
    omega (arith, fan_bound (tree_pages lines level) (tree_rows lines level) cs high all, facts.some, length-children (bytes_of lines page))

-- and at most r / 2 + 8, as a store keeps free for each of its tables
pub page_bound : (count : ℕ) (lines : Lines) (level page low high : ℕ) (root : Bool) → IsTree count lines level page low high root
    → length (tree_pages lines level page) ≤ length (tree_rows lines level page) / 2 + 8
page_bound count lines level page low high root is = omega (arith, page_most count lines level page low high root is)

fan_least : (rows_at : ℕ → List (ℕ × List ℕ)) (least : ℕ) (cs : List Child) (high : ℕ) → Each (λ (s : Span). least ≤ length (rows_at s.page)) (spans cs high)
    → least * length cs ≤ length (flat_map (λ (child : Child). rows_at child.1) cs)
fan_least rows_at least [] high all = omega (arith, mul-zero least)
fan_least rows_at least (c ∷ cs) high all =
    let ih = fan_least rows_at least cs high all.1 in
    omega (arith, ih, all.0, mul-suc least (length cs), length-append (rows_at c.1) (flat_map (λ (child : Child). rows_at child.1) cs))

-- below a root a tree of this level has at least 3 * 80 ^ level rows
pub rows_below : (count : ℕ) (lines : Lines) (level page low high : ℕ) → IsTree count lines level page low high false → 3 * 80 ^ level ≤ length (tree_rows lines level page)
rows_below count lines zero page low high is = three_rows count lines page low high is
rows_below count lines (suc level) page low high is =
    let cs = children (bytes_of lines page) in
    let facts = inner_facts (bytes_of lines page) _ (λ e. cc) is.0 in
    let all = Each-map (IsChildTree count lines level) (λ (s : Span). 3 * 80 ^ level ≤ length (tree_rows lines level s.page)) (spans cs high)
    (λ s. rows_below count lines level s.page s.low s.high) is.1 in
    let many : 80 ≤ length cs = omega (arith, facts.full refl, length-children (bytes_of lines page)) in
    let power = pow-suc 80 level in
    le_trans (omega (arith, power)) (le_trans (mul-le-mul_left (3 * 80 ^ level) many) (fan_least (tree_rows lines level) (3 * 80 ^ level) cs high all))

-- a root at level 3 that is full has more than a million rows under it
pub full_root_rows : (count : ℕ) (lines : Lines) (page low high : ℕ) (root : Bool) → IsTree count lines 3 page low high root → entry_count (bytes_of lines page) ≡ 240
    → 1000000 < length (tree_rows lines 3 page)
full_root_rows count lines page low high root is full =
    let cs = children (bytes_of lines page) in
    let all = Each-map (IsChildTree count lines 2) (λ (s : Span). 3 * 80 ^ 2 ≤ length (tree_rows lines 2 s.page)) (spans cs high) (λ s. rows_below count lines 2 s.page s.low s.high) is.1 in
    omega (arith, fan_least (tree_rows lines 2) (3 * 80 ^ 2) cs high all, length-children (bytes_of lines page), full)
