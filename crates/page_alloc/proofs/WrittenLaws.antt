-- Lines that changed, and pages written line by line.
use Rattle.std.proofs.Common.{◌≡◌, ◌≢◌, ℕ, zero, suc, ◌+◌, ◌-◌, ◌*◌, ◌<◌, ◌≤◌, inl, inr, true, false, List, length, take, drop, get_or, get_or-drop, get_or-take, length-drop, Result, Ok, Err, OnOk, refl, sym, ap, subst, ◌∙◌, arith, cond, add-one, zero-add, ◌==◌, ◌&&◌}
use Rattle.std.specs.Str.{bytes_eq}
use Rattle.std.proofs.lemmas.Slice.Eq.{bytes_eq-Decides}
use Rattle.std.proofs.lemmas.Bool.{cases_eq, cases_Bool, ne_eqb, eq-eqb}
use Rattle.nvm_model.specs.declared.line.Line.{Line}
use Rattle.ssd_model.specs.Page.{Same}
use Rattle.line_pages.specs.Lines.{Lines, with_line}
use Rattle.line_pages.specs.Touch.{begins}
use Rattle.line_pages.specs.Standing.{Standing}
use Rattle.line_pages.proofs.TouchLaws.{goes_on_writing}
use Rattle.line_pages.specs.Bytes.{bytes_of, page_bytes}
use Rattle.nvm_model.specs.LineBytes.{line_bytes}
use Rattle.line_pages.proofs.ByteLaws.{lines_are_page, length-page_bytes, length-line_bytes}
use Rattle.nvm_model.proofs.PieceLaws.{get_or-pieces}
use Rattle.std.proofs.lemmas.List.{ext_get_or, length-take-le}
use Rattle.line_pages.proofs.NumberLaws.{range-same}
use Rattle.page_alloc.specs.Written.{Rewrites, SameElsewhere, Visited, line_part, changed_in, lines_changed}

pub changed_step : (old new : List ℕ) (l n : ℕ) → changed_in old new l (suc n) ≡ cond (bytes_eq (line_part old l) (line_part new l)) 0 1 + changed_in old new (suc l) n
unfolding changed_in
changed_step old new l n = refl

pub changed_none : (old new : List ℕ) (l : ℕ) → changed_in old new l 0 ≡ 0
unfolding changed_in
changed_none old new l = refl

pub changed_few : (old new : List ℕ) (l n : ℕ) → changed_in old new l n ≤ n
unfolding changed_in
changed_few old new l zero = omega arith
changed_few old new l (suc n) =
    let ih = changed_few old new (suc l) n in
    elim (cases_Bool (bytes_eq (line_part old l) (line_part new l))) [
      | inl e ↦ rw e (omega (arith, ih))
      | inr e ↦ rw e (omega (arith, ih))
    ]

pub changed_most : (old new : List ℕ) → lines_changed old new ≤ 64
unfolding lines_changed
changed_most old new = changed_few old new 0 64

pub changed_all : (old new : List ℕ) → lines_changed old new ≡ changed_in old new 0 64
unfolding lines_changed
changed_all old new = refl

pub with_line_elsewhere : (page line : ℕ) (value : Line) (lines : Lines) → SameElsewhere page line lines (with_line page line value lines)
with_line_elsewhere page line value lines = record {
  pages = λ n ne. λ i l. at n l ne i;
  lines = λ l ne. rw (ne_eqb l line ne) (other l);
}
  where
    at : (n l : ℕ) → n ≢ page → with_line page line value lines n l ≡ lines n l
    at n l ne = rw (ne_eqb n page ne) refl

    other : (l : ℕ) → cond ((page == page) && false) value (lines page l) ≡ lines page l
    other l = rw (eq-eqb page page refl) refl

pub visited_on : {A : Type 0} (page : ℕ) (a b c : Standing A) → Visited page a b → Visited page b c → (begins b.access page true ≡ false → c.visits ≤ b.visits) → Visited page a c
visited_on page a b c (inl p) (inl q) again = inl (q.0 ∙ p.0, q.1 ∙ p.1)
visited_on page a b c (inl p) (inr q) again = inr (omega (arith, p.0, q.0), q.1)
visited_on page a b c (inr p) (inl q) again = inr (omega (arith, p.0, q.0), q.1 ∙ p.1)
visited_on page a b c (inr p) (inr q) again = let same = again (ap (λ o. begins o page true) p.1 ∙ goes_on_writing page) in inr (omega (arith, p.0, same), q.1)

pub visited_few : {A : Type 0} (page : ℕ) (a b : Standing A) (last : ℕ) → Visited page a b → (begins b.access page true ≡ false → last ≤ b.visits) → last ≤ b.visits + 1 → last ≤ a.visits + 1
visited_few page a b last (inl p) again few = omega (arith, p.0, few)
visited_few page a b last (inr p) again few = let same = again (ap (λ o. begins o page true) p.1 ∙ goes_on_writing page) in omega (arith, p.0, same)

pub visited_one : {A : Type 0} (page : ℕ) (a b : Standing A) → Visited page a b → b.visits ≤ a.visits + 1
visited_one page a b (inl p) = omega (arith, p.0)
visited_one page a b (inr p) = p.0

-- lines that are the same are not counted
pub changed_same : (old new : List ℕ) (l n : ℕ) → ((k : ℕ) → l ≤ k → k < l + n → line_part old k ≡ line_part new k) → changed_in old new l n ≡ 0
changed_same old new l zero same = changed_none old new l
changed_same old new l (suc n) same =
    let ih = changed_same old new (suc l) n (λ k low high. same k (omega (arith, low)) (omega (arith, high))) in
    let here = bytes_eq-true (line_part old l) (line_part new l) (same l (omega arith) (omega arith)) in
    changed_step old new l n ∙ ap (λ b. cond b 0 1 + changed_in old new (suc l) n) here ∙ omega (arith, ih)
  where
    bytes_eq-true : (xs ys : List ℕ) → xs ≡ ys → bytes_eq xs ys ≡ true
    bytes_eq-true xs ys e = (bytes_eq-Decides xs ys).1 e

pub changed_parts : (old new : List ℕ) (l m n : ℕ) → changed_in old new l (m + n) ≡ changed_in old new l m + changed_in old new (l + m) n
changed_parts old new l zero n =
    let e : l + 0 ≡ l = omega arith in
    ap (changed_in old new l) (zero-add n) ∙ omega (arith, changed_none old new l, ap (λ (k : ℕ). changed_in old new k n) e)
changed_parts old new l (suc m) n =
    let ih = changed_parts old new (suc l) m n in
    let e : suc m + n ≡ suc (m + n) = omega arith in
    let at : suc l + m ≡ l + suc m = omega arith in
    ap (changed_in old new l) e ∙ changed_step old new l (m + n)
    ∙ omega (arith, ih, changed_step old new l m, ap (λ (k : ℕ). changed_in old new k n) at)

part_same : (old new : List ℕ) (from end l : ℕ) → length old ≡ 4096 → length new ≡ 4096 → Same from end old new → from ≤ 64 * l → 64 * l + 64 ≤ end → end ≤ 4096 → line_part old l ≡ line_part new l
part_same old new from end l size size_new same low high within = sym (range-same from end (64 * l) (64 * l + 64) old new same low high (omega (arith, within, size)) (size_new ∙ sym size))

-- at most so many lines differ where the bytes of the others are the same
pub changed_first : (old new : List ℕ) (n : ℕ) → length old ≡ 4096 → length new ≡ 4096 → n ≤ 64 → Same (64 * n) 4096 old new → lines_changed old new ≤ n
changed_first old new n size size_new few same =
    let whole : n + (64 - n) ≡ 64 = omega (arith, few) in
    let parts = changed_parts old new 0 n (64 - n) in
    let at : 0 + n ≡ n = omega arith in
    let rest = changed_same old new n (64 - n) (λ k low high. part_same old new (64 * n) 4096 k size size_new same (omega (arith, low)) (omega (arith, high, few)) (omega arith)) in
    omega (arith, changed_all old new, parts, ap (changed_in old new 0) whole, ap (λ (k : ℕ). changed_in old new k (64 - n)) at, rest, changed_few old new 0 n)

pub changed_two : (old new : List ℕ) (p q r : ℕ) → length old ≡ 4096 → length new ≡ 4096 → p ≤ q → q ≤ r → r ≤ 64 → Same (64 * p) (64 * q) old new → Same (64 * r) 4096 old new → lines_changed old new ≤ p + (r - q)
changed_two old new p q r size size_new pq qr few same last =
    let whole : p + (64 - p) ≡ 64 = omega (arith, pq, qr, few) in
    let second : (q - p) + (64 - q) ≡ 64 - p = omega (arith, pq, qr, few) in
    let third : (r - q) + (64 - r) ≡ 64 - q = omega (arith, qr, few) in
    let one = changed_parts old new 0 p (64 - p) in
    let two = changed_parts old new p (q - p) (64 - q) in
    let three = changed_parts old new q (r - q) (64 - r) in
    let at_p : 0 + p ≡ p = omega arith in
    let at_q : p + (q - p) ≡ q = omega (arith, pq) in
    let at_r : q + (r - q) ≡ r = omega (arith, qr) in
    let none = changed_same old new p (q - p) (λ k low high. part_same old new (64 * p) (64 * q) k size size_new same (omega (arith, low)) (omega (arith, high, pq)) (omega (arith, qr, few))) in
    let end = changed_same old new r (64 - r) (λ k low high. part_same old new (64 * r) 4096 k size size_new last (omega (arith, low)) (omega (arith, high, few)) (omega arith)) in
    omega (
      arith,
      changed_all old new,
      ap (changed_in old new 0) whole,
      ap (changed_in old new p) second,
      ap (changed_in old new q) third,
      one,
      two,
      three,
      ap (λ (k : ℕ). changed_in old new k (64 - p)) at_p,
      ap (λ (k : ℕ). changed_in old new k (64 - q)) at_q,
      ap (λ (k : ℕ). changed_in old new k (64 - r)) at_r,
      none,
      end,
      changed_few old new 0 p,
      changed_few old new q (r - q),
    )

pub rewrites_from : {T E : Type 0} (old first new : Lines) (page : ℕ) (bytes buffer : List ℕ) (r : Result T E) → first ≡ old → buffer ≡ bytes_of old page → (buffer ≡ bytes_of first page → OnOk r (Rewrites page bytes first new)) → OnOk r (Rewrites page bytes old new)
rewrites_from old first new page bytes buffer r same is writes =
    subst (λ (lines : Lines). OnOk r (Rewrites page bytes lines new)) same (writes (is ∙ ap (λ (lines : Lines). bytes_of lines page) (sym same)))

pub at_most_64 : {T E : Type 0} (r : Result T E) (old first new n : ℕ) → first ≡ old → n ≤ 64 → OnOk r (new + n ≡ first) → OnOk r (old ≤ new + 64)
at_most_64 (Ok v) old first new n same few e = omega (arith, same, few, e)
at_most_64 (Err s) old first new n same few e = tt
