-- The lines of calls in a row.
use Rattle.std.proofs.Common.{◌≡◌, ℕ, zero, suc, ◌+◌, ◌-◌, ◌/◌, ◌%◌, ◌<◌, ◌≤◌, false, List, [], ◌∷◌, ◌++◌, map, length, length-append, Ok, refl, sym, ap, subst, ◌∙◌, arith, append_assoc, append-nil}
use Rattle.std.proofs.lemmas.List.{map-append}
use Rattle.line_pages.specs.Touch.{Touch, touch_of}
use Rattle.line_pages.specs.Standing.{Standing, Reads}
use Rattle.line_pages.specs.Cost.{lines_from, lines_of, AddsLines, Costs}

-- no touch yet
pub AddsLines-refl : {A : Type 0} {Fact : List ℕ → Type 0} (s : Standing A) → Fact [] → AddsLines Fact s s
AddsLines-refl s none = record { added = []; touches = sym (append-nil s.touches); fact = none }

-- one call after another
pub AddsLines-trans : {A : Type 0} {First Second Both : List ℕ → Type 0} {a b c : Standing A} → ((x y : List ℕ) → First x → Second y → Both (x ++ y))
    → AddsLines First a b → AddsLines Second b c → AddsLines Both a c
AddsLines-trans {Both = Both} {a = a} join first second = record {
  added = first.added ++ second.added;
  touches = second.touches ∙ ap (λ ts. ts ++ second.added) first.touches ∙ append_assoc a.touches first.added second.added;
  fact = subst Both (sym (map-append (λ (t : Touch). t.line) first.added second.added))
      (join (map (λ (t : Touch). t.line) first.added) (map (λ (t : Touch). t.line) second.added) first.fact second.fact);
}

-- the same touches, of which less is said
pub AddsLines-weaker : {A : Type 0} {Fact Less : List ℕ → Type 0} {a b : Standing A} → ((x : List ℕ) → Fact x → Less x) → AddsLines Fact a b → AddsLines Less a b
AddsLines-weaker less adds = record { added = adds.added; touches = adds.touches; fact = less (map (λ (t : Touch). t.line) adds.added) adds.fact }

-- these lines and then those
pub lines_then : {A : Type 0} {xs ys : List ℕ} {a b c : Standing A} → AddsLines (λ lines. lines ≡ xs) a b → AddsLines (λ lines. lines ≡ ys) b c → AddsLines (λ lines. lines ≡ xs ++ ys) a c
lines_then {xs = xs} {ys = ys} first second = AddsLines-trans (λ x y one two. ap (λ l. l ++ y) one ∙ ap (λ l. xs ++ l) two) first second

-- so many touches and then so many
pub Costs-trans : {A : Type 0} {m n : ℕ} {a b c : Standing A} → Costs m a b → Costs n b c → Costs (m + n) a c
Costs-trans first second = AddsLines-trans (λ x y one two. omega (arith, one, two, length-append x y)) first second

-- at most so many, and so at most more
pub Costs-weaker : {A : Type 0} {m n : ℕ} {a b : Standing A} → m ≤ n → Costs m a b → Costs n a b
Costs-weaker less costs = AddsLines-weaker (λ x few. omega (arith, few, less)) costs

-- one read
pub one_line : {A T E : Type 0} {page line : ℕ} {old new : Standing A} (found : T) → Reads {T = T} {E = E} page line old new (Ok found) → AddsLines (λ lines. lines ≡ line ∷ []) old new
one_line {page = page} {line = line} {old = old} found read = record { added = touch_of old.access page line false ∷ []; touches = read.touch.touches; fact = refl }

pub length-lines_from : (first n : ℕ) → length (lines_from first n) ≡ n
length-lines_from first zero = refl
length-lines_from first (suc n) = ap suc (length-lines_from (suc first) n)

-- one more line
pub lines_more : (first n line : ℕ) → line ≡ first + n → lines_from first n ++ line ∷ [] ≡ lines_from first (n + 1)
lines_more first n line is = longer first n line is ∙ ap (lines_from first) (sym {b = suc n} (omega arith))
  where
    longer : (first n line : ℕ) → line ≡ first + n → lines_from first n ++ line ∷ [] ≡ lines_from first (suc n)
    longer first zero line is = ap (λ (l : ℕ). l ∷ []) (omega (arith, is))
    longer first (suc n) line is = ap (λ ls. first ∷ ls) (longer (suc first) n line (omega (arith, is)))

pub length-lines_of : (place size : ℕ) → length (lines_of place size) ≡ (place + size + 63) / 64 - place / 64
unfolding lines_of
length-lines_of place size = length-lines_from (place / 64) ((place + size + 63) / 64 - place / 64)

-- bytes that lie in one line, or in two
pub in_one_line : (place size line : ℕ) → line ≡ place / 64 → 1 ≤ size → place % 64 + size ≤ 64 → lines_of place size ≡ line ∷ []
unfolding lines_of
in_one_line place size line is some within =
    let one : (place + size + 63) / 64 - place / 64 ≡ 1 = omega (arith, some, within) in
    ap (lines_from (place / 64)) one ∙ ap (λ (l : ℕ). l ∷ []) (sym is)

pub in_two_lines : (place size line : ℕ) → line ≡ place / 64 → 64 < place % 64 + size → place % 64 + size ≤ 128 → lines_of place size ≡ line ∷ (line + 1) ∷ []
unfolding lines_of
in_two_lines place size line is past within =
    let two : (place + size + 63) / 64 - place / 64 ≡ 2 = omega (arith, past, within) in
    ap (lines_from (place / 64)) two ∙ rw is (ap (λ (l : ℕ). place / 64 ∷ l ∷ []) (omega arith))
