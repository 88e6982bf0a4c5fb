-- How many entries a binary search probes, and the lines of these.
use Rattle.std.proofs.Common.{◌≡◌, ℕ, zero, suc, ◌+◌, ◌-◌, ◌*◌, ◌/◌, ◌^◌, ◌<◌, ◌≤◌, List, [], ◌∷◌, ◌++◌, length, length-append, flat_map, Result, Ok, Err, OnOk, refl, sym, ap, subst, ◌∙◌, arith, pow-suc, true}
use Rattle.std.specs.List.{list_all}
use Rattle.std.proofs.lemmas.Bool.{and_parts}
use Rattle.std.proofs.lemmas.List.{flat_map_more}
use Rattle.std.proofs.lemmas.List.Sums.{sum_by-cons}
use Rattle.line_pages.specs.Standing.{Standing}
use Rattle.line_pages.specs.Lines.{Lines}
use Rattle.line_pages.specs.Cost.{lines_of, AddsLines}
use Rattle.line_pages.proofs.CostLaws.{AddsLines-trans, AddsLines-weaker, lines_then, length-lines_of}
use Rattle.line_pages.specs.Bytes.{u16_at, bytes_of}
use Rattle.page_format.specs.declared.root.Expect.{Expect}
use Rattle.rows.specs.Rows.{Each}
use Rattle.page_format.specs.Node.{Slot, entry_count, heap_start, slots, bytes_used, is_in_heap, IsWellFormed}
use Rattle.page_format.proofs.PageFacts.{leaf_facts, inner_facts}
use Rattle.page_format.proofs.SlotLemmas.{length-slots, in_heap_one}
use Rattle.page_search.specs.Cost.{row_probe, child_probe, Probes, ProbesChildren, Searches, search_lines}

-- a call that goes on with these lines
pub then_lines : {A T E : Type 0} {First Second : List ℕ → Type 0} (Both : List ℕ → Type 0) (a b c : Standing A) (r : Result T E) → ((x y : List ℕ) → First x → Second y → Both (x ++ y))
    → AddsLines First a b → OnOk r (AddsLines Second b c) → OnOk r (AddsLines Both a c)
then_lines Both a b c (Ok v) join first second = AddsLines-trans join first second
then_lines Both a b c (Err e) join first second = tt

-- Entries that were probed while a width of `whole` came down to `width`.
pub record Halves (probe : ℕ → List ℕ) (count whole width : ℕ) (lines : List ℕ) : Type 0 where
  pub entries : List ℕ
  pub inside : Each (λ at. at < count) entries
  pub few : (n : ℕ) → whole < 2 ^ n → (length entries ≤ n) × (width < 2 ^ (n - length entries))
  pub lines_are : lines ≡ flat_map probe entries

-- none was probed
pub halves_none : (probe : ℕ → List ℕ) (count whole : ℕ) → Halves probe count whole whole []
halves_none probe count whole = record {
  entries = [];
  inside = tt;
  few = λ n below.
      let all : n ≡ n - 0 = omega arith in
      (omega arith, subst (λ (k : ℕ). whole < 2 ^ k) all below);
  lines_are = refl;
}

-- half of a width below a power of two
pub halved : (m width next : ℕ) → 1 ≤ width → width < 2 ^ m → next ≤ width / 2 → (1 ≤ m) × (next < 2 ^ (m - 1))
halved zero width next some below half = let none : width < 1 = below in absurd (omega (arith, some, none))
halved (suc m) width next some below half =
    let next_below : next < 2 ^ m = omega (arith, half, below, pow-suc 2 m) in
    let less : m ≡ suc m - 1 = omega arith in
    (omega arith, subst (λ (k : ℕ). next < 2 ^ k) less next_below)

each_more : (count at : ℕ) (xs : List ℕ) → Each (λ x. x < count) xs → at < count → Each (λ x. x < count) (xs ++ at ∷ [])
each_more count at [] all inside = (inside, tt)
each_more count at (x ∷ xs) all inside = (all.0, each_more count at xs all.1 inside)

-- one more, behind which half of the width is left
pub halves_more : (probe : ℕ → List ℕ) (count whole width next at : ℕ) (x y : List ℕ) → 1 ≤ width → next ≤ width / 2 → at < count → Halves probe count whole width x → y ≡ probe at
    → Halves probe count whole next (x ++ y)
halves_more probe count whole width next at x y some half inside before is =
    let more : length (before.entries ++ at ∷ []) ≡ length before.entries + 1 = length-append before.entries (at ∷ []) in
    record {
      entries = before.entries ++ at ∷ [];
      inside = each_more count at before.entries before.inside inside;
      few = λ n below.
          let so_far = before.few n below in
          let h = halved (n - length before.entries) width next some so_far.1 half in
          let left : n - length before.entries - 1 ≡ n - length (before.entries ++ at ∷ []) = omega (arith, more) in
          (omega (arith, so_far.0, h.0, more), subst (λ (k : ℕ). next < 2 ^ k) left h.1);
      lines_are = ap (λ l. l ++ y) before.lines_are ∙ ap (λ l. flat_map probe before.entries ++ l) is ∙ flat_map_more probe [] before.entries at;
    }

-- the search is over
pub halves_end : (probe : ℕ → List ℕ) (count whole width : ℕ) (x : List ℕ) → Halves probe count whole width x → Probes probe count whole x
halves_end probe count whole width x before = record { entries = before.entries; inside = before.inside; few = λ n below. (before.few n below).0; lines_are = before.lines_are }

-- the probe of a row touches three lines at most, that of a child one
pub three_lines : (at place : ℕ) → length (lines_of (64 + 4 * at) 2 ++ lines_of place 8) ≤ 3
three_lines at place =
    let slot : length (lines_of (64 + 4 * at) 2) ≤ 1 = omega (arith, length-lines_of (64 + 4 * at) 2) in
    let key : length (lines_of place 8) ≤ 2 = omega (arith, length-lines_of place 8) in
    omega (arith, length-append (lines_of (64 + 4 * at) 2) (lines_of place 8), slot, key)

row_lines : (bytes : List ℕ) (at : ℕ) → length (row_probe bytes at) ≤ 3
row_lines bytes at = three_lines at (u16_at bytes (64 + 4 * at))

rows_lines : (bytes : List ℕ) (entries : List ℕ) → length (flat_map (row_probe bytes) entries) ≤ 3 * length entries
rows_lines bytes [] = omega arith
rows_lines bytes (at ∷ rest) = omega (arith, rows_lines bytes rest, row_lines bytes at, length-append (row_probe bytes at) (flat_map (row_probe bytes) rest))

child_line : (at : ℕ) → length (child_probe at) ≤ 1
child_line at = omega (arith, length-lines_of (64 + 16 * at) 8)

children_lines : (entries : List ℕ) → length (flat_map child_probe entries) ≤ length entries
children_lines [] = omega arith
children_lines (at ∷ rest) = omega (arith, children_lines rest, child_line at, length-append (child_probe at) (flat_map child_probe rest))

-- a row takes twelve bytes at least
slots_use : (heap : ℕ) (all : List Slot) → list_all (is_in_heap heap) all ≡ true → 12 * length all ≤ bytes_used all
slots_use heap [] holds = omega arith
slots_use heap (slot ∷ rest) holds =
    let parts = and_parts (is_in_heap heap slot) (list_all (is_in_heap heap) rest) holds in
    omega (arith, slots_use heap rest parts.1, (in_heap_one heap slot parts.0).key, sum_by-cons (λ (s : Slot). 4 + s.size) slot rest)

pub search_cost : (level : ℕ) (bytes lines : List ℕ) (expect : Expect) → expect.level ≡ level → IsWellFormed bytes expect → Searches level bytes lines → length lines ≤ search_lines level
search_cost zero bytes lines expect is well searches =
    let facts = leaf_facts bytes expect is well in
    let count : entry_count bytes < 512 = omega (arith, slots_use (heap_start bytes) (slots bytes) facts.in_heap, length-slots bytes, facts.used) in
    let few : length searches.probes.entries ≤ 9 = searches.probes.few 9 count in
    let all : length lines ≡ 1 + length searches.rest = ap length searches.lines_are ∙ omega arith in
    omega (arith, few, rows_lines bytes searches.probes.entries, all, ap length searches.probes.lines_are)
search_cost (suc level) bytes lines expect is well searches =
    let facts = inner_facts bytes expect (λ e. omega (arith, e, is)) well in
    let width : entry_count bytes - 1 < 256 = omega (arith, facts.room) in
    let keys = searches.probes.keys in
    let number = lines_of (72 + 16 * searches.probes.child) 8 in
    let few : length searches.probes.probes.entries ≤ 8 = searches.probes.probes.few 8 width in
    let all : length lines ≡ 1 + length searches.rest = ap length searches.lines_are ∙ omega arith in
    let rest : length searches.rest ≡ length keys + length number = ap length searches.probes.lines_are ∙ length-append keys number in
    let one : length number ≤ 1 = omega (arith, length-lines_of (72 + 16 * searches.probes.child) 8) in
    omega (arith, few, children_lines searches.probes.probes.entries, all, rest, one, ap length searches.probes.probes.lines_are)

-- a probe of a row in the middle
pub row_probed : {A : Type 0} {a b c d : Standing A} (bytes : List ℕ) (count low high next middle place : ℕ) → low < high → next ≤ (high - low) / 2 → middle < count → place ≡ u16_at bytes (64 + 4 * middle)
    → AddsLines (Halves (row_probe bytes) count count (high - low)) a b → AddsLines (λ lines. lines ≡ lines_of (64 + 4 * middle) 2) b c → AddsLines (λ lines. lines ≡ lines_of place 8) c d
    → AddsLines (Halves (row_probe bytes) count count next) a d
row_probed {b = b} {d = d} bytes count low high next middle place some half inside is before slot key =
    let probe : AddsLines (λ lines. lines ≡ row_probe bytes middle) b d = AddsLines-weaker (λ x lines_are. lines_are ∙ ap (λ (p : ℕ). lines_of (64 + 4 * middle) 2 ++ lines_of p 8) is) (lines_then slot key) in
    AddsLines-trans (λ x y h lines_are. halves_more (row_probe bytes) count count (high - low) next middle x y (omega (arith, some)) half inside h lines_are) before probe

pub rows_probed : {A : Type 0} {a b : Standing A} (bytes : List ℕ) (count width : ℕ) → AddsLines (Halves (row_probe bytes) count count width) a b → AddsLines (Probes (row_probe bytes) count count) a b
rows_probed bytes count width all = AddsLines-weaker (λ x h. halves_end (row_probe bytes) count count width x h) all

-- a probe of a child in the middle
pub child_probed : {A : Type 0} {a b c : Standing A} (count low high next middle : ℕ) → low + 1 < high → next ≤ (high - low - 1) / 2 → middle < count
    → AddsLines (Halves child_probe count (count - 1) (high - low - 1)) a b → AddsLines (λ lines. lines ≡ lines_of (64 + 16 * middle) 8) b c
    → AddsLines (Halves child_probe count (count - 1) next) a c
child_probed count low high next middle some half inside before key =
    AddsLines-trans (λ x y h lines_are. halves_more child_probe count (count - 1) (high - low - 1) next middle x y (omega (arith, some)) half inside h lines_are) before key

-- and the number of its page
pub child_read : {A : Type 0} {a b c : Standing A} (bytes : List ℕ) (count width child : ℕ) → count ≡ entry_count bytes → child < count
    → AddsLines (Halves child_probe count (count - 1) width) a b → AddsLines (λ lines. lines ≡ lines_of (72 + 16 * child) 8) b c → AddsLines (ProbesChildren bytes) a c
child_read bytes count width child known inside keys number =
    AddsLines-trans (λ x y h lines_are. record {
      keys = x;
      probes = subst (λ (n : ℕ). Probes child_probe n (n - 1) x) known (halves_end child_probe count (count - 1) width x h);
      child = child;
      inside = omega (arith, known, inside);
      lines_are = ap (λ ls. x ++ ls) lines_are;
    }) keys number

-- line 0, and then the probes
pub leaf_searched : {A T E : Type 0} (a b c : Standing A) (r : Result T E) (old now : Lines) (page count : ℕ) (expect : Expect) → now ≡ old → expect.level ≡ 0 → count ≡ entry_count (bytes_of old page) → IsWellFormed (bytes_of old page) expect
    → AddsLines (λ lines. lines ≡ 0 ∷ []) a b → (IsWellFormed (bytes_of now page) expect → OnOk r (AddsLines (Probes (row_probe (bytes_of now page)) count count) b c))
    → OnOk r (AddsLines (Searches expect.level (bytes_of old page)) a c)
leaf_searched a b c r old now page count expect same leaf known well first rest =
    then_lines (Searches expect.level (bytes_of old page)) a b c r
    (λ x y is probes. subst (λ (level : ℕ). Searches level (bytes_of old page) (x ++ y)) (sym leaf) (record {
      rest = y;
      lines_are = ap (λ ls. ls ++ y) is;
      probes = subst (λ (n : ℕ). Probes (row_probe (bytes_of old page)) n n y) known probes;
    })) first
    (subst (λ (lines : Lines). OnOk r (AddsLines (Probes (row_probe (bytes_of lines page)) count count) b c)) same (rest (subst (λ (lines : Lines). IsWellFormed (bytes_of lines page) expect) (sym same) well)))

pub inner_searched : {A T E : Type 0} (a b c : Standing A) (r : Result T E) (old now : Lines) (page level : ℕ) (expect : Expect) → now ≡ old → expect.level ≡ suc level → IsWellFormed (bytes_of old page) expect
    → AddsLines (λ lines. lines ≡ 0 ∷ []) a b → (IsWellFormed (bytes_of now page) expect → OnOk r (AddsLines (ProbesChildren (bytes_of now page)) b c))
    → OnOk r (AddsLines (Searches expect.level (bytes_of old page)) a c)
inner_searched a b c r old now page level expect same inner well first rest =
    then_lines (Searches expect.level (bytes_of old page)) a b c r
    (λ x y is probes. subst (λ (l : ℕ). Searches l (bytes_of old page) (x ++ y)) (sym inner) (record { rest = y; lines_are = ap (λ ls. ls ++ y) is; probes = probes })) first
    (subst (λ (lines : Lines). OnOk r (AddsLines (ProbesChildren (bytes_of lines page)) b c)) same (rest (subst (λ (lines : Lines). IsWellFormed (bytes_of lines page) expect) (sym same) well)))
