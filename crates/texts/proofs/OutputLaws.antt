-- What was acknowledged, and what strip leaves, as the output grows.
use Rattle.std.proofs.Common.{◌≡◌, ℕ, ◌+◌, ◌≤◌, Bool, true, false, cond, List, [], ◌∷◌, ◌++◌, zero-add, refl, ap, sym, ◌∙◌, arith, append_assoc, inl, inr, subst, take, drop}
use Rattle.std.proofs.lemmas.List.{append-nil, take-append-drop}
use Rattle.std.proofs.lemmas.List.Elements.{filter-append}
use Rattle.std.proofs.lemmas.Bool.{cases_Bool, eqb-true, ne_eqb}
use Rattle.std.specs.Prelude.{codes, not, ◌==◌, ◌&&◌, ◌||◌, nat_eq, filter, flat_map, count_by}
use Rattle.std.specs.List.{onto_first, starts_with}
use Rattle.std.proofs.lemmas.List.Sums.{sum_by-append}
use Rattle.std.proofs.lemmas.List.Concat.{flat_map-append}
use Rattle.texts.specs.Lines.{line_feed, has_line_feed}
use Rattle.texts.specs.Output.{IsWhole, no_line, whole_lines, pieces, is_aside, strip, acknowledges, acked, IsPrefix}

abbrev pub keeps : List ℕ → Bool
keeps piece = not (is_aside piece)

-- what is left of some lines
abbrev pub kept : List (List ℕ) → List ℕ
kept ps = flat_map (λ piece. piece) (filter keeps ps)

-- ---- pieces

abbrev HasFirst : List (List ℕ) → Type 0
HasFirst ps = (q : List ℕ) × (qs : List (List ℕ)) × (ps ≡ q ∷ qs)

HasFirst-onto_first : (x : ℕ) (ps : List (List ℕ)) → HasFirst (onto_first x ps)
HasFirst-onto_first x [] = (x ∷ [], [], refl)
HasFirst-onto_first x (p ∷ ps) = (x ∷ p, ps, refl)

HasFirst-pieces : (x : ℕ) (xs : List ℕ) → HasFirst (pieces (x ∷ xs))
HasFirst-pieces x xs =
    elim (x == line_feed) as (λ b. HasFirst (cond b ((x ∷ []) ∷ pieces xs) (onto_first x (pieces xs))))
    [ true ↦ (x ∷ [], pieces xs, refl) | false ↦ HasFirst-onto_first x (pieces xs) ]

HasFirst-ended : (xs : List ℕ) → HasFirst (pieces (xs ++ line_feed ∷ []))
HasFirst-ended [] = (line_feed ∷ [], [], refl)
HasFirst-ended (x ∷ xs) = HasFirst-pieces x (xs ++ line_feed ∷ [])

onto_first-append : (x : ℕ) (ps qs : List (List ℕ)) → HasFirst ps → onto_first x (ps ++ qs) ≡ onto_first x ps ++ qs
onto_first-append x ps qs h = rw h.2 refl

-- whole lines, and what follows them
pub pieces-append : (xs ys : List ℕ) → pieces ((xs ++ line_feed ∷ []) ++ ys) ≡ pieces (xs ++ line_feed ∷ []) ++ pieces ys
pieces-append [] ys = refl
pieces-append (x ∷ xs) ys =
    rw (pieces-append xs ys)
    (elim (x == line_feed) as (λ b. cond b ((x ∷ []) ∷ (pieces (xs ++ line_feed ∷ []) ++ pieces ys)) (onto_first x (pieces (xs ++ line_feed ∷ []) ++ pieces ys))
    ≡ cond b ((x ∷ []) ∷ pieces (xs ++ line_feed ∷ [])) (onto_first x (pieces (xs ++ line_feed ∷ []))) ++ pieces ys)
    [ true ↦ refl | false ↦ onto_first-append x (pieces (xs ++ line_feed ∷ [])) (pieces ys) (HasFirst-ended xs) ])

or_first : (a b : Bool) → (a || b) ≡ false → a ≡ false
or_first true b h = h
or_first false b h = refl

or_second : (a b : Bool) → (a || b) ≡ false → b ≡ false
or_second true b h = absurd cc
or_second false b h = h

-- one line with its line feed
pub pieces_line : (line ys : List ℕ) → has_line_feed line ≡ false → pieces (line ++ line_feed ∷ ys) ≡ (line ++ line_feed ∷ []) ∷ pieces ys
pieces_line [] ys h = refl
pieces_line (x ∷ line) ys h =
    let here : (x == line_feed) ≡ false = or_first (x == line_feed) (has_line_feed line) h in
    let rest : has_line_feed line ≡ false = or_second (x == line_feed) (has_line_feed line) h in
    rw (here, pieces_line line ys rest) refl

-- ---- whole lines first

pub acked-append : (xs ys : List ℕ) → acked ((xs ++ line_feed ∷ []) ++ ys) ≡ acked (xs ++ line_feed ∷ []) + acked ys
acked-append xs ys =
    ap (λ ps. count_by acknowledges ps) (pieces-append xs ys)
    ∙ sum_by-append (λ p. cond (acknowledges p) 1 0) (pieces (xs ++ line_feed ∷ [])) (pieces ys)

kept-append : (ps qs : List (List ℕ)) → kept (ps ++ qs) ≡ kept ps ++ kept qs
kept-append ps qs =
    ap (λ rs. flat_map (λ piece. piece) rs) (filter-append keeps ps qs)
    ∙ flat_map-append (λ piece. piece) (filter keeps ps) (filter keeps qs)

pub strip-append : (xs ys : List ℕ) → strip ((xs ++ line_feed ∷ []) ++ ys) ≡ strip (xs ++ line_feed ∷ []) ++ strip ys
strip-append xs ys = ap kept (pieces-append xs ys) ∙ kept-append (pieces (xs ++ line_feed ∷ [])) (pieces ys)

-- ---- any beginning

-- The lines of a beginning: those of the whole, and at the end a part of one that is not empty and has no line feed.
pub data Begins : List (List ℕ) → List (List ℕ) → Type 0 where
  nothing : {qs : List (List ℕ)} → Begins [] qs
  part : {x : ℕ} {p q : List ℕ} {qs : List (List ℕ)} (more : List ℕ) → (x ∷ p) ++ more ≡ q → has_line_feed (x ∷ p) ≡ false → Begins ((x ∷ p) ∷ []) (q ∷ qs)
  line : {p : List ℕ} {ps qs : List (List ℕ)} → Begins ps qs → Begins (p ∷ ps) (p ∷ qs)

-- a byte more at the front, which is no line feed
Begins-onto_first : (x : ℕ) (ps qs : List (List ℕ)) → (x == line_feed) ≡ false → Begins ps qs → Begins (onto_first x ps) (onto_first x qs)
Begins-onto_first x [] [] h b = part [] refl (rw h refl)
Begins-onto_first x [] (q ∷ qs) h b = part q refl (rw h refl)
Begins-onto_first x (p ∷ ps) qs h (part more e f) = part more (ap (λ l. x ∷ l) e) (rw h f)
Begins-onto_first x (p ∷ ps) qs h (line b) = line b

pub Begins-pieces : (xs ys : List ℕ) → Begins (pieces xs) (pieces (xs ++ ys))
Begins-pieces [] ys = nothing
Begins-pieces (x ∷ xs) ys =
    elim (cases_Bool (x == line_feed)) [
      | inl e ↦ rw e (line (Begins-pieces xs ys))
      | inr e ↦ rw e (Begins-onto_first x (pieces xs) (pieces (xs ++ ys)) e (Begins-pieces xs ys))
    ]

count_by-cons : (p : List ℕ → Bool) (x : List ℕ) (xs : List (List ℕ)) → count_by p (x ∷ xs) ≡ cond (p x) 1 0 + count_by p xs
count_by-cons p x xs =
    sum_by-append (λ y. cond (p y) 1 0) (x ∷ []) xs ∙ ap (λ n. n + count_by p xs) (zero-add (cond (p x) 1 0))

-- what is no whole line acknowledges nothing
unfinished : (p : List ℕ) → has_line_feed p ≡ false → acknowledges p ≡ false
unfinished p h = rw h (elim (starts_with nat_eq p (codes "committed ")) as (λ b. (b && false) ≡ false) [ true ↦ refl | false ↦ refl ])

Begins-acked : {ps qs : List (List ℕ)} → Begins ps qs → count_by acknowledges ps ≤ count_by acknowledges qs
Begins-acked nothing = omega arith
Begins-acked (part {x = x} {p = p} more e f) = rw (count_by-cons acknowledges (x ∷ p) [], unfinished (x ∷ p) f) (omega arith)
Begins-acked (line {p = p} {ps = ps} {qs = qs} b) = omega (arith, count_by-cons acknowledges p ps, count_by-cons acknowledges p qs, Begins-acked b)

-- a beginning of the output acknowledges no more than the whole
pub acked_prefix : (xs ys : List ℕ) → acked xs ≤ acked (xs ++ ys)
acked_prefix xs ys = Begins-acked (Begins-pieces xs ys)

IsPrefix-append : (p xs ys : List ℕ) → IsPrefix xs ys → IsPrefix (p ++ xs) (p ++ ys)
IsPrefix-append p xs ys h = (h.0, append_assoc p xs h.0 ∙ ap (λ l. p ++ l) h.1)

Begins-kept : {ps qs : List (List ℕ)} → Begins ps qs → IsPrefix (kept ps) (kept qs)
Begins-kept (nothing {qs = qs}) = (kept qs, refl)
Begins-kept (part {x = x} {p = p} {qs = qs} more e f) =
    rw (← e)
    (elim (is_aside (x ∷ p)) as (λ b. IsPrefix (flat_map (λ l. l) (cond (not b) ((x ∷ p) ∷ []) [])) (flat_map (λ l. l) (cond (not b) (((x ∷ p) ++ more) ∷ filter keeps qs) (filter keeps qs)))) [
      | true ↦ (kept qs, refl)
      | false ↦ (more ++ kept qs, ap (λ l. l ++ (more ++ kept qs)) (append-nil (x ∷ p)) ∙ sym (append_assoc (x ∷ p) more (kept qs)))
    ])
Begins-kept (line {p = p} {ps = ps} {qs = qs} b) =
    elim (is_aside p) as (λ b. IsPrefix (flat_map (λ l. l) (cond (not b) (p ∷ filter keeps ps) (filter keeps ps))) (flat_map (λ l. l) (cond (not b) (p ∷ filter keeps qs) (filter keeps qs))))
    [ true ↦ Begins-kept b | false ↦ IsPrefix-append p (kept ps) (kept qs) (Begins-kept b) ]

-- what is left of a beginning is a beginning of what is left
pub strip_prefix : (xs ys : List ℕ) → IsPrefix (strip xs) (strip (xs ++ ys))
strip_prefix xs ys = Begins-kept (Begins-pieces xs ys)

-- ---- lines that stand aside acknowledge nothing

-- Pieces: lines without a line feed inside, each with one at its end; the last one may lack it, and is not empty.
pub data ArePieces : List (List ℕ) → Type 0 where
  none : ArePieces []
  last : {x : ℕ} {p : List ℕ} → has_line_feed (x ∷ p) ≡ false → ArePieces ((x ∷ p) ∷ [])
  more : {p : List ℕ} {ps : List (List ℕ)} (l : List ℕ) → has_line_feed l ≡ false → l ++ line_feed ∷ [] ≡ p → ArePieces ps → ArePieces (p ∷ ps)

ArePieces-onto_first : (x : ℕ) (ps : List (List ℕ)) → (x == line_feed) ≡ false → ArePieces ps → ArePieces (onto_first x ps)
ArePieces-onto_first x [] h none = last (rw h refl)
ArePieces-onto_first x (p ∷ ps) h (last f) = last (rw h f)
ArePieces-onto_first x (p ∷ ps) h (more l f e a) = more (x ∷ l) (rw h f) (ap (λ t. x ∷ t) e) a

pub ArePieces-pieces : (xs : List ℕ) → ArePieces (pieces xs)
ArePieces-pieces [] = none
ArePieces-pieces (x ∷ xs) =
    elim (cases_Bool (x == line_feed)) [
      | inl e ↦ rw e (more [] refl (ap (λ c. c ∷ []) (sym (eqb-true x line_feed e))) (ArePieces-pieces xs))
      | inr e ↦ rw e (ArePieces-onto_first x (pieces xs) e (ArePieces-pieces xs))
    ]

pieces_unfinished : (x : ℕ) (p : List ℕ) → has_line_feed (x ∷ p) ≡ false → pieces (x ∷ p) ≡ (x ∷ p) ∷ []
pieces_unfinished x [] h = rw (or_first (x == line_feed) false h) refl
pieces_unfinished x (y ∷ p) h =
    rw (or_first (x == line_feed) (has_line_feed (y ∷ p)) h) (ap (λ ps. onto_first x ps) (pieces_unfinished y p (or_second (x == line_feed) (has_line_feed (y ∷ p)) h)))

-- pieces put together are cut again at the same places
pub pieces-kept : {ps : List (List ℕ)} → ArePieces ps → pieces (kept ps) ≡ filter keeps ps
pieces-kept none = refl
pieces-kept (last {x = x} {p = p} h) =
    elim (is_aside (x ∷ p)) as (λ b. pieces (flat_map (λ l. l) (cond (not b) ((x ∷ p) ∷ []) [])) ≡ cond (not b) ((x ∷ p) ∷ []) [])
    [ true ↦ refl | false ↦ ap pieces (append-nil (x ∷ p)) ∙ pieces_unfinished x p h ]
pieces-kept (more {p = p} {ps = ps} l h e a) =
    elim (is_aside p) as (λ b. pieces (flat_map (λ l. l) (cond (not b) (p ∷ filter keeps ps) (filter keeps ps))) ≡ cond (not b) (p ∷ filter keeps ps) (filter keeps ps)) [
      | true ↦ pieces-kept a
      | false ↦ rw (← e) (ap pieces (append_assoc l (line_feed ∷ []) (kept ps)) ∙ pieces_line l (kept ps) h ∙ ap (λ qs. (l ++ line_feed ∷ []) ∷ qs) (pieces-kept a))
    ]

pub pieces-strip : (xs : List ℕ) → pieces (strip xs) ≡ filter keeps (pieces xs)
pieces-strip xs = pieces-kept (ArePieces-pieces xs)

-- what stands aside acknowledges nothing
aside_silent : (p : List ℕ) → is_aside p ≡ true → acknowledges p ≡ false
aside_silent [] h = absurd cc
aside_silent (x ∷ p) h =
    let other : (99 == x) ≡ false = ne_eqb 99 x (λ e. absurd (let f : is_aside (99 ∷ p) ≡ true = rw (← e) at h in cc)) in
    rw other refl

count-filter : (ps : List (List ℕ)) → count_by acknowledges (filter keeps ps) ≡ count_by acknowledges ps
count-filter [] = refl
count-filter (p ∷ ps) =
    elim (cases_Bool (is_aside p)) [
      | inl e ↦ rw e (count-filter ps ∙ sym (count_by-cons acknowledges p ps ∙ rw (aside_silent p e) (zero-add (count_by acknowledges ps))))
      | inr e ↦ rw e (count_by-cons acknowledges p (filter keeps ps) ∙ ap (λ n. cond (acknowledges p) 1 0 + n) (count-filter ps) ∙ sym (count_by-cons acknowledges p ps))
    ]

-- so the replies alone acknowledge what the output does
pub acked-strip : (xs : List ℕ) → acked (strip xs) ≡ acked xs
acked-strip xs = ap (λ ps. count_by acknowledges ps) (pieces-strip xs) ∙ count-filter (pieces xs)

-- ---- whole lines

pub IsWhole-empty : IsWhole []
IsWhole-empty = no_line

pub IsWhole-line : (bytes : List ℕ) → IsWhole (bytes ++ line_feed ∷ [])
IsWhole-line bytes = whole_lines bytes refl

pub IsWhole-append : {xs ys : List ℕ} → IsWhole xs → IsWhole ys → IsWhole (xs ++ ys)
IsWhole-append {xs = xs} x no_line = subst IsWhole (sym (append-nil xs)) x
IsWhole-append {xs = xs} x (whole_lines front e) = whole_lines (xs ++ front) (ap (λ l. xs ++ l) e ∙ sym (append_assoc xs front (line_feed ∷ [])))

-- behind whole lines the acknowledgements are counted anew
pub acked-whole : {xs : List ℕ} (ys : List ℕ) → IsWhole xs → acked (xs ++ ys) ≡ acked xs + acked ys
acked-whole ys no_line = sym (zero-add (acked ys))
acked-whole ys (whole_lines front e) = rw e (acked-append front ys)

pub strip-whole : {xs : List ℕ} (ys : List ℕ) → IsWhole xs → strip (xs ++ ys) ≡ strip xs ++ strip ys
strip-whole ys no_line = refl
strip-whole ys (whole_lines front e) = rw e (strip-append front ys)

-- the first bytes of the output acknowledge no more than the whole
pub acked-take : (k : ℕ) (bytes : List ℕ) → acked (take k bytes) ≤ acked bytes
acked-take k bytes = subst (λ (all : List ℕ). acked (take k bytes) ≤ acked all) (take-append-drop k bytes) (acked_prefix (take k bytes) (drop k bytes))
