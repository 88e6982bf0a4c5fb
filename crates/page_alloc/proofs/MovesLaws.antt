-- Pages pass between a tree and the free list.
use Rattle.std.proofs.Common.{◌≡◌, ◌≢◌, ℕ, ◌<◌, ◌≤◌, inl, inr, List, ◌∷◌, ◌++◌, length, refl, sym, ap, subst, ◌∙◌, arith, nat_lt, nat_eq}
use Rattle.std.proofs.lemmas.Bool.{lt-ltb, le-ltb, eq-eqb, ne_eqb, and_from}
use Rattle.std.proofs.lemmas.List.{get_or-set_other, get_or-set_same}
use Rattle.line_pages.specs.Lines.{Lines}
use Rattle.page_alloc.specs.Space.{word, kind_of, next_of, high_of, free_head, IsFreeFrom, IsFreeList, free_line, after_give}
use Rattle.page_alloc.specs.Counted.{times}
use Rattle.page_alloc.specs.Moves.{below, Moves}
use Rattle.page_alloc.proofs.CountedLaws.{times-append}
use Rattle.page_alloc.proofs.SpaceLaws.{IsTaken, free_from-same, free_from-not_zero}

pub Moves-refl : (count : ℕ) (lines : Lines) (used free : List ℕ) → high_of lines ≤ count → IsFreeList lines free → Moves count lines lines used used free free
Moves-refl count lines used free within is = record {
  is_free = is;
  higher = omega arith;
  within = within;
  kept = λ n. refl;
  others = λ n ne none side. refl;
  kind = refl;
  tables = refl;
}

below_high : (n high : ℕ) → n < high → below n high ≡ 1
below_high n high lt = rw (lt-ltb n high lt) refl

not_below : (n high : ℕ) → high ≤ n → below n high ≡ 0
not_below n high ge = rw (le-ltb n high ge) refl

pub Moves-trans : {count : ℕ} {a b c : Lines} {used used1 used2 free free1 free2 : List ℕ} → Moves count a b used used1 free free1 → Moves count b c used1 used2 free1 free2 → Moves count a c used used2 free free2
Moves-trans {a = a} {b = b} {c = c} first second = record {
  is_free = second.is_free;
  higher = omega (arith, first.higher, second.higher);
  within = second.within;
  kept = λ n. omega (arith, first.kept n, second.kept n);
  others = λ n ne none side. elim side [
    | inl low ↦
        let lower = below_high n (high_of a) low in
        let upper = below_high n (high_of b) (omega (arith, low, first.higher)) in
        second.others n ne (omega (arith, first.kept n, none, lower, upper)) (inl (omega (arith, low, first.higher))) ∙ first.others n ne none (inl low)
    | inr high ↦
        let lower = not_below n (high_of a) (omega (arith, high, first.higher, second.higher)) in
        let upper = not_below n (high_of b) (omega (arith, high, second.higher)) in
        second.others n ne (omega (arith, first.kept n, none, lower, upper)) (inr high) ∙ first.others n ne none (inr (omega (arith, high, second.higher)))
  ];
  kind = second.kind ∙ first.kind;
  tables = second.tables ∙ first.tables;
}

-- a page that is taken joins the tree
pub take_moves : (count : ℕ) (old new : Lines) (page : ℕ) (used free rest : List ℕ) → high_of old ≤ high_of new → high_of new ≤ count → IsTaken old new page free rest → Moves count old new used (page ∷ used) free rest
take_moves count old new page used free rest higher within taken = record {
  is_free = taken.after_is;
  higher = higher;
  within = within;
  kept = λ n. omega (arith, taken.shorter n, times-append n (page ∷ used) rest, times-append n used free);
  others = λ n ne none side. taken.other_pages n ne;
  kind = taken.kind;
  tables = taken.tables;
}

-- a page of the tree that is given back joins the free list
pub give_moves : (count : ℕ) (lines : Lines) (page : ℕ) (used free : List ℕ) → length (lines 0 0).words ≡ 8 → page ≢ 0 → page < high_of lines → high_of lines ≤ count → times page free ≡ 0 → IsFreeList lines free
    → free_head lines < high_of lines → Moves count lines (after_give page lines) (page ∷ used) used free (page ∷ free)
give_moves count lines page used free eight some low within once is head_low =
    let after = after_give page lines in
    let level : high_of after ≡ high_of lines = get_or-set_other (lines 0 0).words 3 2 page 0 (λ e. omega (arith, e)) in
    let head : free_head after ≡ page = get_or-set_same (lines 0 0).words 3 page 0 (omega (arith, eight)) in
    let here : after page 0 ≡ free_line (free_head lines) = own_line page some in
    let next : next_of after page ≡ free_head lines = ap (λ line. word line 1) here in
    let rest : IsFreeFrom after (free_head lines) free = free_from-same lines after (free_head lines) free (omega (arith, level)) (λ n among. other_line n among) is in
    record {
      is_free = (
        head,
        some,
        omega (arith, low, level),
        and_from (nat_eq (kind_of after page) 3) (nat_lt (next_of after page) (high_of after)) (eq-eqb (kind_of after page) 3 (ap (λ line. word line 0) here))
            (lt-ltb (next_of after page) (high_of after) (omega (arith, next, level, head_low))),
        subst (λ first. IsFreeFrom after first free) (sym next) rest,
      );
      higher = omega (arith, level);
      within = omega (arith, level, within);
      kept = λ n. rw level (omega (arith, times-append n used (page ∷ free), times-append n (page ∷ used) free));
      others = λ n ne none side. other_page n ne none;
      kind = get_or-set_other (lines 0 0).words 3 0 page 0 (λ e. omega (arith, e));
      tables = get_or-set_other (lines 0 0).words 3 1 page 0 (λ e. omega (arith, e));
    }
  where
    own_line : (p : ℕ) → p ≢ 0 → after_give p lines p 0 ≡ free_line (free_head lines)
    own_line p ne = rw (ne_eqb p 0 ne, eq-eqb p p refl) refl

    unwritten : (n l : ℕ) → n ≢ 0 → n ≢ page → after_give page lines n l ≡ lines n l
    unwritten n l ne other = rw (ne_eqb n 0 ne, ne_eqb n page other) refl

    other_page : (n : ℕ) → n ≢ 0 → times n ((page ∷ used) ++ free) ≡ 0 → after_give page lines n ≡ lines n
    other_page n ne none = λ i l. unwritten n l ne (λ e. let own = rw (eq-eqb page n (sym e)) at none in omega (arith, own)) i

    other_line : (n : ℕ) → 1 ≤ times n free → after_give page lines n 0 ≡ lines n 0
    other_line n among = unwritten n 0 (λ e. omega (arith, among, ap (λ m. times m free) e, zero_free)) (λ e. omega (arith, among, ap (λ m. times m free) e, once))
      where
        zero_free : times 0 free ≡ 0
        zero_free = free_from-not_zero lines (free_head lines) free is
