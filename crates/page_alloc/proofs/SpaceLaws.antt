-- Laws of the free list and of sets of pages that are counted.
use Rattle.std.proofs.Common.{◌≡◌, ◌≢◌, ℕ, zero, suc, ◌+◌, ◌≤◌, inl, inr, cond, List, [], ◌∷◌, length, refl, sym, ap, subst, ◌∙◌, arith, nat_lt, nat_eq}
use Rattle.std.proofs.lemmas.Bool.{ltb-true, lt-ltb, le-ltb, eq-eqb, ne_eqb, cases_lt, cases_eq, and_parts, and_from}
use Rattle.nvm_model.specs.declared.line.Line.{Line}
use Rattle.line_pages.specs.Lines.{Lines, with_line}
use Rattle.page_alloc.specs.Space.{word, with_word, kind_of, next_of, high_of, free_head, IsFreeFrom, IsFreeList, page_taken, header_after_take, after_take}
use Rattle.page_alloc.specs.Counted.{times}
use Rattle.page_alloc.specs.Moves.{AreExactly}
use Rattle.std.proofs.lemmas.List.{get_or-set_other, get_or-set_same}

-- there is one free list at most
pub free_from-unique : (lines : Lines) (first : ℕ) (xs ys : List ℕ) → IsFreeFrom lines first xs → IsFreeFrom lines first ys → xs ≡ ys
free_from-unique lines first [] [] a b = refl
free_from-unique lines first [] (y ∷ ys) a b = absurd (b.1 (sym b.0 ∙ a))
free_from-unique lines first (x ∷ xs) [] a b = absurd (a.1 (sym a.0 ∙ b))
free_from-unique lines first (x ∷ xs) (y ∷ ys) a b =
    let same : y ≡ x = sym b.0 ∙ a.0 in
    let rest = free_from-unique lines (next_of lines x) xs ys a.4 (subst (λ p. IsFreeFrom lines (next_of lines p) ys) same b.4) in
    rw (same, rest) refl

-- the free list is as it was where the high water has not fallen and its pages' headers are as they were
pub free_from-same : (old new : Lines) (first : ℕ) (pages : List ℕ) → high_of old ≤ high_of new → ((n : ℕ) → 1 ≤ times n pages → new n 0 ≡ old n 0)
    → IsFreeFrom old first pages → IsFreeFrom new first pages
free_from-same old new first [] higher same is = is
free_from-same old new first (page ∷ pages) higher same is =
    let here : new page 0 ≡ old page 0 = same page (rw (eq-eqb page page refl) (omega arith)) in
    let parts = and_parts (nat_eq (kind_of old page) 3) (nat_lt (next_of old page) (high_of old)) is.3 in
    let next : next_of new page ≡ next_of old page = ap (λ line. word line 1) here in
    let kind : kind_of new page ≡ kind_of old page = ap (λ line. word line 0) here in (
      is.0,
      is.1,
      omega (arith, is.2),
      and_from (nat_eq (kind_of new page) 3) (nat_lt (next_of new page) (high_of new)) (rw kind parts.0)
          (lt-ltb (next_of new page) (high_of new) (omega (arith, next, ltb-true (next_of old page) (high_of old) parts.1))),
      subst (λ n. IsFreeFrom new n pages) (sym next) (free_from-same old new (next_of old page) pages higher (λ n among. same n (omega (arith, among))) is.4),
    )

-- no free page is page 0
pub free_from-not_zero : (lines : Lines) (first : ℕ) (pages : List ℕ) → IsFreeFrom lines first pages → times 0 pages ≡ 0
free_from-not_zero lines first [] is = refl
free_from-not_zero lines first (page ∷ pages) is = let ih = free_from-not_zero lines (next_of lines page) pages is.4 in rw (ne_eqb page 0 is.1) (omega (arith, ih))

-- the list without one n
pub without : ℕ → List ℕ → List ℕ
without n [] = []
without n (x ∷ xs) = cond (nat_eq x n) xs (x ∷ without n xs)

pub times-without : (n m : ℕ) (xs : List ℕ) → n ≢ m → times m (without n xs) ≡ times m xs
unfolding without
times-without n m [] ne = refl
times-without n m (x ∷ xs) ne =
    elim (cases_eq x n) [
      | inl e ↦ rw (eq-eqb x n e, ne_eqb x m (λ f. ne (sym e ∙ f))) (omega arith)
      | inr other ↦ let ih = times-without n m xs ne in rw (ne_eqb x n other) (omega (arith, ih))
    ]

past : (x n : ℕ) (xs : List ℕ) → x ≢ n → 1 ≤ times n (x ∷ xs) → 1 ≤ times n xs
past x n xs other some = let there = rw (ne_eqb x n other) at some in omega (arith, there)

pub times-without_same : (n : ℕ) (xs : List ℕ) → 1 ≤ times n xs → suc (times n (without n xs)) ≡ times n xs
unfolding without
times-without_same n [] some = absurd (omega arith)
times-without_same n (x ∷ xs) some =
    elim (cases_eq x n) [
      | inl e ↦ rw (eq-eqb x n e) (omega arith)
      | inr other ↦
          let there : 1 ≤ times n xs = past x n xs other some in
          let ih = times-without_same n xs there in
          rw (ne_eqb x n other) (rw (ne_eqb x n other) (omega (arith, ih)))
    ]

pub length-without : (n : ℕ) (xs : List ℕ) → 1 ≤ times n xs → suc (length (without n xs)) ≡ length xs
unfolding without
length-without n [] some = absurd (omega arith)
length-without n (x ∷ xs) some =
    elim (cases_eq x n) [
      | inl e ↦ rw (eq-eqb x n e) refl
      | inr other ↦ let ih = length-without n xs (past x n xs other some) in rw (ne_eqb x n other) (omega (arith, ih))
    ]

pub none_at_all : (xs : List ℕ) → ((n : ℕ) → times n xs ≡ 0) → xs ≡ []
none_at_all [] none = refl
none_at_all (x ∷ xs) none = let here : times x (x ∷ xs) ≡ 0 = none x in let more : 1 ≤ times x (x ∷ xs) = rw (eq-eqb x x refl) (omega arith) in absurd (omega (arith, here, more))

-- pages that are exactly those below the high water are as many
pub length-exactly : (high : ℕ) (pages : List ℕ) → AreExactly high pages → length pages ≡ high
length-exactly zero pages exact = ap length (none_at_all pages (λ n. exact n ∙ (rw (le-ltb n 0 (omega arith)) refl)))
length-exactly (suc high) pages exact =
    let some : times high pages ≡ 1 = exact high ∙ (rw (lt-ltb high (suc high) (omega arith)) refl) in
    let fewer : AreExactly high (without high pages) =
    λ n. elim (cases_eq n high) [
      | inl e ↦ let gone = times-without_same high pages (omega (arith, some)) in rw e (rw (le-ltb high high (omega arith)) (omega (arith, gone, some)))
      | inr ne ↦ times-without high n pages (λ f. ne (sym f)) ∙ exact n ∙ same_test n high ne
    ] in
    let ih = length-exactly high (without high pages) fewer in
    omega (arith, ih, length-without high pages (omega (arith, some)))
  where
    same_test : (n h : ℕ) → n ≢ h → ◌≡◌ {A = ℕ} (cond (nat_lt n (suc h)) 1 0) (cond (nat_lt n h) 1 0)
    same_test n h ne = elim (cases_lt n h) [
      | inl lt ↦ rw (lt-ltb n h lt, lt-ltb n (suc h) (omega (arith, lt))) refl
      | inr ge ↦ rw (le-ltb n h ge, le-ltb n (suc h) (omega (arith, ge, ne))) refl
    ]

-- What a page that is taken does: it leaves the free list, or the high water rises past it.
pub record IsTaken (old new : Lines) (page : ℕ) (before after : List ℕ) : Type 0 where
  pub after_is : IsFreeList new after
  pub shorter : (n : ℕ) → times n before + cond (nat_lt n (high_of new)) 1 0 ≡ times n (page ∷ after) + cond (nat_lt n (high_of old)) 1 0
  pub other_pages : (n : ℕ) → n ≢ 0 → new n ≡ old n
  pub other_lines : (l : ℕ) → l ≢ 0 → new 0 l ≡ old 0 l
  pub kind : kind_of new 0 ≡ kind_of old 0
  pub tables : word (new 0 0) 1 ≡ word (old 0 0) 1

with_line-other_page : (lines : Lines) (line n : ℕ) (value : Line) → n ≢ 0 → with_line 0 line value lines n ≡ lines n
with_line-other_page lines line n value ne = λ i l. at l i
  where
    at : (l : ℕ) → with_line 0 line value lines n l ≡ lines n l
    at l = rw (ne_eqb n 0 ne) refl

with_line-other_line : (lines : Lines) (l : ℕ) (value : Line) → l ≢ 0 → with_line 0 0 value lines 0 l ≡ lines 0 l
with_line-other_line lines l value ne = rw (ne_eqb l 0 ne) refl

word-with_word : (line : Line) (w v value : ℕ) → v ≢ w → word (with_word w value line) v ≡ word line v
word-with_word line w v value ne = get_or-set_other line.words w v value 0 ne

one_more : (n high : ℕ) → ◌≡◌ {A = ℕ} (cond (nat_lt n (high + 1)) 1 0) (cond (nat_eq high n) 1 0 + cond (nat_lt n high) 1 0)
one_more n high =
    elim (cases_lt n high) [
      | inl lt ↦ rw (lt-ltb n high lt, lt-ltb n (high + 1) (omega (arith, lt)), ne_eqb high n (λ e. omega (arith, lt, e))) refl
      | inr ge ↦
          elim (cases_eq high n) [
            | inl e ↦ rw (le-ltb n high ge, lt-ltb n (high + 1) (omega (arith, e)), eq-eqb high n e) refl
            | inr ne ↦ rw (le-ltb n high ge, le-ltb n (high + 1) (omega (arith, ge, ne)), ne_eqb high n ne) refl
          ]
    ]

pub take_page-effect : (lines : Lines) (free : List ℕ) → length (lines 0 0).words ≡ 8 → IsFreeList lines free
    → (rest : List ℕ) × IsTaken lines (after_take lines) (page_taken lines) free rest
take_page-effect lines [] eight is =
    let header : header_after_take lines ≡ with_word 2 (high_of lines + 1) (lines 0 0) = rw (eq-eqb (free_head lines) 0 is) refl in
    let taken : page_taken lines ≡ high_of lines = rw (eq-eqb (free_head lines) 0 is) refl in
    let higher : high_of (after_take lines) ≡ high_of lines + 1 = ap (λ h. word h 2) header ∙ get_or-set_same (lines 0 0).words 2 (high_of lines + 1) 0 (omega arith) in (
      [],
      record {
        after_is = ap (λ h. word h 3) header ∙ word-with_word (lines 0 0) 2 3 (high_of lines + 1) (λ e. omega (arith, e)) ∙ is;
        shorter = λ n. let more = one_more n (high_of lines) in rw (higher, taken) (omega (arith, more));
        other_pages = λ n ne. with_line-other_page lines 0 n (header_after_take lines) ne;
        other_lines = λ l ne. with_line-other_line lines l (header_after_take lines) ne;
        kind = ap (λ h. word h 0) header ∙ word-with_word (lines 0 0) 2 0 (high_of lines + 1) (λ e. omega (arith, e));
        tables = ap (λ h. word h 1) header ∙ word-with_word (lines 0 0) 2 1 (high_of lines + 1) (λ e. omega (arith, e));
      },
    )
take_page-effect lines (page ∷ rest) eight is =
    let some : free_head lines ≢ 0 = λ e. is.1 (sym is.0 ∙ e) in
    let header : header_after_take lines ≡ with_word 3 (next_of lines (free_head lines)) (lines 0 0) = rw (ne_eqb (free_head lines) 0 some) refl in
    let taken : page_taken lines ≡ page = (rw (ne_eqb (free_head lines) 0 some) is.0) in
    let level : high_of (after_take lines) ≡ high_of lines = ap (λ h. word h 2) header ∙ word-with_word (lines 0 0) 3 2 (next_of lines (free_head lines)) (λ e. omega (arith, e)) in
    let head : free_head (after_take lines) ≡ next_of lines page =
    ap (λ h. word h 3) header ∙ get_or-set_same (lines 0 0).words 3 (next_of lines (free_head lines)) 0 (omega arith) ∙ ap (next_of lines) is.0 in (
      rest,
      record {
        after_is = subst (λ first. IsFreeFrom (after_take lines) first rest) (sym head)
            (free_from-same lines (after_take lines) (next_of lines page) rest (omega (arith, level))
            (λ n among. ap (λ f. f 0) (with_line-other_page lines 0 n (header_after_take lines) (λ e. omega (arith, among, e_zero n rest e, free_from-not_zero lines (next_of lines page) rest is.4)))) is.4);
        shorter = λ n. rw (level, taken) refl;
        other_pages = λ n ne. with_line-other_page lines 0 n (header_after_take lines) ne;
        other_lines = λ l ne. with_line-other_line lines l (header_after_take lines) ne;
        kind = ap (λ h. word h 0) header ∙ word-with_word (lines 0 0) 3 0 (next_of lines (free_head lines)) (λ e. omega (arith, e));
        tables = ap (λ h. word h 1) header ∙ word-with_word (lines 0 0) 3 1 (next_of lines (free_head lines)) (λ e. omega (arith, e));
      },
    )
  where
    e_zero : (n : ℕ) (xs : List ℕ) → n ≡ 0 → times n xs ≡ times 0 xs
    e_zero n xs e = ap (λ m. times m xs) e
