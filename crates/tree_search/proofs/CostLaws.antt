-- What a search for a row costs.
use Rattle.std.proofs.Common.{◌≡◌, ℕ, zero, suc, ◌+◌, ◌-◌, ◌*◌, ◌≤◌, true, false, List, ◌++◌, length, length-append, Result, Ok, Err, OnOk, refl, sym, ap, subst, ◌∙◌, arith}
use Rattle.line_pages.specs.declared.stop.Stop.{Stop}
use Rattle.line_pages.specs.Lines.{Lines}
use Rattle.line_pages.specs.Bytes.{bytes_of, u16_at}
use Rattle.line_pages.specs.Standing.{Standing}
use Rattle.line_pages.specs.Cost.{lines_of, AddsLines, Costs}
use Rattle.line_pages.proofs.CostLaws.{Costs-trans, Costs-weaker, length-lines_of}
use Rattle.page_format.specs.declared.root.Expect.{Expect}
use Rattle.page_format.specs.declared.spot.Spot.TheVariants.{Child}
use Rattle.rows.specs.Rows.{last_key}
use Rattle.page_format.specs.Sound.{slot_of}
use Rattle.page_format.specs.Search.{IsSpot, IsSafeSpot}
use Rattle.page_search.specs.Cost.{search_lines}
use Rattle.page_search.proofs.ProbeLaws.{then_lines}
use Rattle.tree_search.specs.Tree.{IsTree}
use Rattle.tree_search.specs.Record.{row_lines}
use Rattle.tree_search.proofs.SearchLaws.{child_of_spot, one_above}

-- a row's slot, and then its record
pub row_read : {A T E : Type 0} (a b c : Standing A) (r : Result T E) (bytes : List ℕ) (at place size : ℕ) → place ≡ u16_at bytes (64 + 4 * at) → size ≡ u16_at bytes (64 + 4 * at + 2)
    → AddsLines (λ lines. lines ≡ lines_of (64 + 4 * at) 2 ++ lines_of (64 + 4 * at + 2) 2) a b → OnOk r (AddsLines (λ lines. lines ≡ lines_of place size) b c)
    → OnOk r (AddsLines (λ lines. lines ≡ row_lines bytes at) a c)
row_read a b c r bytes at place size is_place is_size slot record_read =
    let slot_lines : List ℕ = lines_of (64 + 4 * at) 2 ++ lines_of (64 + 4 * at + 2) 2 in
    then_lines (λ lines. lines ≡ row_lines bytes at) a b c r
    (λ x y one two. ap (λ ls. ls ++ y) one ∙ ap (λ ls. slot_lines ++ ls) (two ∙ ap (λ (p : ℕ). lines_of p size) is_place ∙ ap (λ (s : ℕ). lines_of (slot_of bytes at).place s) is_size))
    slot record_read

-- they are eleven at most, since a record has at most 488 bytes
pub row_cost : (bytes lines : List ℕ) (at : ℕ) → (slot_of bytes at).size ≤ 488 → lines ≡ row_lines bytes at → length lines ≤ 11
row_cost bytes lines at short is =
    let first = lines_of (64 + 4 * at) 2 in
    let second = lines_of (64 + 4 * at + 2) 2 in
    let place = (slot_of bytes at).place in
    let size = (slot_of bytes at).size in
    let one : length (lines_of (64 + 4 * at) 2) ≤ 1 = omega (arith, length-lines_of (64 + 4 * at) 2) in
    let two : length (lines_of (64 + 4 * at + 2) 2) ≤ 1 = omega (arith, length-lines_of (64 + 4 * at + 2) 2) in
    let rest : length (lines_of place size) ≤ 9 = nine place size short in
    omega (arith, one, two, rest, ap length is, length-append (first ++ second) (lines_of place size), length-append first second)
  where
    nine : (place size : ℕ) → size ≤ 488 → length (lines_of place size) ≤ 9
    nine place size short = omega (arith, short, length-lines_of place size)

-- a call that costs at most more
pub costs_more : {A T E : Type 0} (m n : ℕ) (a b : Standing A) (r : Result T E) → m ≤ n → OnOk r (Costs m a b) → OnOk r (Costs n a b)
costs_more m n a b (Ok v) less costs = Costs-weaker less costs
costs_more m n a b (Err e) less costs = tt

-- one call and then another
pub costs_then : {A T E : Type 0} (m n most : ℕ) (a b c : Standing A) (r : Result T E) → m + n ≤ most → Costs m a b → OnOk r (Costs n b c) → OnOk r (Costs most a c)
costs_then m n most a b c (Ok v) less first second = Costs-weaker less (Costs-trans first second)
costs_then m n most a b c (Err e) less first second = tt

pub leaf_lines : (level : ℕ) → level ≡ 0 → search_lines level ≡ 28
leaf_lines zero e = refl
leaf_lines (suc level) e = absurd (omega (arith, e))

pub inner_lines : (level : ℕ) → 1 ≤ level → search_lines level ≡ 10
inner_lines zero some = absurd (omega (arith, some))
inner_lines (suc level) some = refl

-- the search goes on in a child
pub cost_child : {A T : Type 0} (expect : Expect) (page key at child low high : ℕ) (old mid new : Standing A) (r : Result T Stop) → mid.current ≡ old.current
    → IsTree expect.pages old.current expect.level page expect.low expect.high expect.root → expect.low ≤ key → key ≤ expect.high
    → IsSafeSpot expect key (Child at child low high) → IsSpot (bytes_of old.current page) expect key (Child at child low high) → Costs (search_lines expect.level) old mid
    → (IsTree expect.pages mid.current (expect.level - 1) child low high false → OnOk r (Costs (10 * (expect.level - 1) + 39) mid new))
    → OnOk r (Costs (10 * expect.level + 39) old new)
cost_child expect page key at child low high old mid new r same tree above within safe spot first rest =
    let is_level = one_above expect.level safe.0 in
    let down = child_of_spot old.current expect page key at child low high (expect.level - 1) is_level tree above within safe spot in
    let below = rest (subst (λ (lines : Lines). IsTree expect.pages lines (expect.level - 1) child low high false) (sym same) down.tree) in
    costs_then (search_lines expect.level) (10 * (expect.level - 1) + 39) (10 * expect.level + 39) old mid new r (omega (arith, inner_lines expect.level safe.0, safe.0)) first below

-- the same from a root
pub cost_rooted : {A T E : Type 0} (old new : Standing A) (r : Result T E) (expect : Expect) (page levels pages count : ℕ)
    → expect ≡ record { level = levels - 1; low = 0; high = last_key; root = true; pages = pages } → pages ≡ count → 1 ≤ levels → IsTree count old.current (levels - 1) page 0 last_key true
    → (IsTree expect.pages old.current expect.level page expect.low expect.high expect.root → OnOk r (Costs (10 * expect.level + 39) old new))
    → OnOk r (Costs (10 * levels + 29) old new)
cost_rooted old new r expect page levels pages count is same some tree rest =
    let there : IsTree pages old.current (levels - 1) page 0 last_key true = subst (λ (n : ℕ). IsTree n old.current (levels - 1) page 0 last_key true) (sym same) tree in
    let at_root : IsTree expect.pages old.current expect.level page expect.low expect.high expect.root = subst (λ (e : Expect). IsTree e.pages old.current e.level page e.low e.high e.root) (sym is) there in
    let level : expect.level ≡ levels - 1 = ap (λ (e : Expect). e.level) is in
    costs_more (10 * expect.level + 39) (10 * levels + 29) old new r (omega (arith, level, some)) (rest at_root)
