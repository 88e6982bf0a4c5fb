-- The most lines that a search touches, whatever the page holds.
use Rattle.std.proofs.Common.{◌≡◌, ℕ, zero, suc, ◌+◌, ◌-◌, ◌*◌, ◌/◌, ◌^◌, ◌<◌, ◌≤◌, List, [], ◌∷◌, ◌++◌, length, length-append, Result, OnOk, refl, ap, subst, arith, mul-suc}
use Rattle.line_pages.specs.Standing.{Standing}
use Rattle.line_pages.specs.Cost.{lines_from, lines_of, AddsLines, Costs}
use Rattle.line_pages.proofs.CostLaws.{AddsLines-trans, AddsLines-weaker, lines_then, length-lines_of, length-lines_from}
use Rattle.page_search.specs.Cost.{most_lines}
use Rattle.page_search.proofs.ProbeLaws.{then_lines, halved, three_lines}

-- Probes of so many lines each at most, while a width below 2^n came down to `width`.
pub record Turns (each n width : ℕ) (lines : List ℕ) : Type 0 where
  pub turns : ℕ
  pub few : turns ≤ n
  pub left : width < 2 ^ (n - turns)
  pub most : length lines ≤ each * turns

pub turns_none : (each n width : ℕ) → width < 2 ^ n → Turns each n width []
turns_none each n width below =
    let all : n ≡ n - 0 = omega arith in
    record { turns = 0; few = omega arith; left = subst (λ (k : ℕ). width < 2 ^ k) all below; most = omega arith }

pub turns_more : (each n width next : ℕ) (x y : List ℕ) → 1 ≤ width → next ≤ width / 2 → Turns each n width x → length y ≤ each → Turns each n next (x ++ y)
turns_more each n width next x y some half before few =
    let h = halved (n - before.turns) width next some before.left half in
    let left : n - before.turns - 1 ≡ n - suc before.turns = omega arith in
    record {
      turns = suc before.turns;
      few = omega (arith, before.few, h.0);
      left = subst (λ (k : ℕ). next < 2 ^ k) left h.1;
      most = omega (arith, before.most, few, length-append x y, mul-suc each before.turns);
    }

-- a probe of a row, and one that ends at its slot
pub row_turn : {A : Type 0} {a b c d : Standing A} (low high next at place : ℕ) → low < high → next ≤ (high - low) / 2 → AddsLines (Turns 3 10 (high - low)) a b
    → AddsLines (λ lines. lines ≡ lines_of (64 + 4 * at) 2) b c → AddsLines (λ lines. lines ≡ lines_of place 8) c d → AddsLines (Turns 3 10 next) a d
row_turn low high next at place some half before slot key =
    AddsLines-trans (λ x y h is. turns_more 3 10 (high - low) next x y (omega (arith, some)) half h (omega (arith, ap length is, three_lines at place))) before (lines_then slot key)

pub slot_turn : {A : Type 0} {a b c : Standing A} (low high at : ℕ) → low < high → AddsLines (Turns 3 10 (high - low)) a b → AddsLines (λ lines. lines ≡ lines_of (64 + 4 * at) 2) b c → AddsLines (Turns 3 10 0) a c
slot_turn low high at some before slot =
    AddsLines-trans (λ x y h is. turns_more 3 10 (high - low) 0 x y (omega (arith, some)) (omega arith) h (omega (arith, ap length is, length-lines_of (64 + 4 * at) 2))) before slot

pub rows_bound : {A : Type 0} {a b : Standing A} (width : ℕ) → AddsLines (Turns 3 10 width) a b → Costs 30 a b
rows_bound width all = AddsLines-weaker (λ x h. omega (arith, h.most, h.few)) all

-- a probe of a child
pub child_turn : {A : Type 0} {a b c : Standing A} (low high next at : ℕ) → low + 1 < high → next ≤ (high - low - 1) / 2 → AddsLines (Turns 1 8 (high - low - 1)) a b
    → AddsLines (λ lines. lines ≡ lines_of (64 + 16 * at) 8) b c → AddsLines (Turns 1 8 next) a c
child_turn low high next at some half before key =
    AddsLines-trans (λ x y h is. turns_more 1 8 (high - low - 1) next x y (omega (arith, some)) half h (omega (arith, ap length is, length-lines_of (64 + 16 * at) 8))) before key

pub keys_bound : {A : Type 0} {a b : Standing A} (width : ℕ) → AddsLines (Turns 1 8 width) a b → Costs 9 a b
keys_bound width all = AddsLines-weaker (λ x h. omega (arith, h.most, h.few)) all

-- and the number of its page
pub number_bound : {A : Type 0} {a b c : Standing A} (width child : ℕ) → AddsLines (Turns 1 8 width) a b → AddsLines (λ lines. lines ≡ lines_of (72 + 16 * child) 8) b c → Costs 9 a c
number_bound width child keys number =
    AddsLines-trans (λ x y h is. omega (arith, h.most, h.few, ap length is, length-append x y, length-lines_of (72 + 16 * child) 8)) keys number

pub leaf_most : (level : ℕ) → level ≡ 0 → most_lines level ≡ 31
leaf_most zero e = refl
leaf_most (suc level) e = absurd (omega (arith, e))

pub inner_most : (level : ℕ) → 1 ≤ level → most_lines level ≡ 10
inner_most zero some = absurd (omega (arith, some))
inner_most (suc level) some = refl

-- line 0 alone, or with so many more
pub header_bound : {A : Type 0} {a b : Standing A} (level : ℕ) → AddsLines (λ lines. lines ≡ 0 ∷ []) a b → Costs (most_lines level) a b
header_bound level first = AddsLines-weaker (λ x is. omega (arith, ap length is, some level)) first
  where
    some : (level : ℕ) → 1 ≤ most_lines level
    some zero = omega arith
    some (suc level) = omega arith

pub probes_bound : {A T E : Type 0} (level rest : ℕ) (a b c : Standing A) (r : Result T E) → rest + 1 ≤ most_lines level → AddsLines (λ lines. lines ≡ 0 ∷ []) a b → OnOk r (Costs rest b c)
    → OnOk r (Costs (most_lines level) a c)
probes_bound level rest a b c r within first more =
    then_lines (λ lines. length lines ≤ most_lines level) a b c r (λ x y is few. omega (arith, ap length is, few, within, length-append x y)) first more

-- and then all lines of the page
pub whole_bound : {A T E : Type 0} (most : ℕ) (a b c : Standing A) (r : Result T E) → Costs most a b → OnOk r (AddsLines (λ lines. lines ≡ lines_from 0 64) b c) → OnOk r (Costs (most + 64) a c)
whole_bound most a b c r first all =
    then_lines (λ lines. length lines ≤ most + 64) a b c r (λ x y few is. omega (arith, few, ap length is, length-lines_from 0 64, length-append x y)) first all
