-- Pages that are written, taken, given back and left alone.
use Rattle.std.proofs.Common.{◌≡◌, ◌≢◌, ℕ, ◌+◌, ◌<◌, ◌≤◌, inl, inr, List, [], ◌∷◌, ◌++◌, length, Result, Ok, Err, IfOk, OnOk, refl, sym, ap, subst, ◌∙◌, arith}
use Rattle.std.proofs.lemmas.Bool.{lt-ltb, le-ltb, eq-eqb, ne_eqb, cases_lt, cases_eq}
use Rattle.std.proofs.lemmas.List.{get_or-set_other, get_or-set_same}
use Rattle.line_pages.specs.Lines.{Lines}
use Rattle.page_alloc.specs.Space.{word, with_word, next_of, high_of, free_head, IsFreeFrom, IsFreeList, FitsHeader, header_after_take, page_taken, after_take, after_give}
use Rattle.page_alloc.specs.Counted.{times, SameOn}
use Rattle.page_alloc.specs.Moves.{below, ArePart, Moves, SameEntries, Taken, Takes, Given, Gives}
use Rattle.page_alloc.specs.Written.{Rewrites}
use Rattle.page_alloc.proofs.CountedLaws.{times-append}
use Rattle.page_alloc.proofs.SpaceLaws.{free_from-same, take_page-effect}
use Rattle.page_alloc.proofs.MovesLaws.{take_moves, give_moves}

-- the same step, seen by a tree with more pages
pub Moves-widen : {count : ℕ} {a b : Lines} {used used' free free' : List ℕ} (wide wide' : List ℕ) → Moves count a b used used' free free'
    → ((n : ℕ) → times n wide + times n used' ≡ times n wide' + times n used) → ((n : ℕ) → times n used ≤ times n wide) → Moves count a b wide wide' free free'
Moves-widen {used = used} {used' = used'} {free = free} {free' = free'} wide wide' m same more = record {
  is_free = m.is_free;
  higher = m.higher;
  within = m.within;
  kept = λ n. omega (arith, m.kept n, same n, times-append n used' free', times-append n used free, times-append n wide' free', times-append n wide free);
  others = λ n ne none side. m.others n ne (omega (arith, more n, none, times-append n used free, times-append n wide free)) side;
  kind = m.kind;
  tables = m.tables;
}

-- a page of a part of the store is no other of that part
pub in_part : (lines : Lines) (pages : List ℕ) (n : ℕ) → ArePart lines pages → 1 ≤ times n pages → (n ≢ 0) × (n < high_of lines) × (times n pages ≡ 1)
in_part lines pages n part among =
    elim (cases_lt n (high_of lines)) [
      | inl lt ↦
          let b : below n (high_of lines) ≡ 1 = rw (lt-ltb n (high_of lines) lt) refl in
          (λ e. let own = rw (eq-eqb 0 n (sym e)) at (part n) in omega (arith, own, b, among), lt, omega (arith, part n, b, among))
      | inr ge ↦ let b : below n (high_of lines) ≡ 0 = rw (le-ltb n (high_of lines) ge) refl in absurd (omega (arith, part n, b, among))
    ]

pub part_after : {count : ℕ} {a b : Lines} {used used' free free' : List ℕ} → ArePart a (used ++ free) → Moves count a b used used' free free' → ArePart b (used' ++ free')
part_after part m = λ n. omega (arith, part n, m.kept n)

-- pages of the whole beside those that a step touches are as they were
pub same_beside : {count : ℕ} {a b : Lines} {used used' free free' : List ℕ} (wide rest : List ℕ) → ArePart a (wide ++ free) → Moves count a b used used' free free'
    → ((n : ℕ) → times n used + times n rest ≤ times n wide) → SameOn rest a b
same_beside {a = a} {used = used} {free = free} wide rest part m apart =
    λ n among.
    let here = in_part a (wide ++ free) n part (omega (arith, times-append n wide free, apart n, among)) in
    m.others n here.0 (omega (arith, here.2, times-append n wide free, times-append n used free, apart n, among)) (inl here.1)

pub record Wrote (count : ℕ) (old new : Lines) (page : ℕ) (free : List ℕ) : Type 0 where
  pub moves : Moves count old new (page ∷ []) (page ∷ []) free free
  pub entries : SameEntries old new

pub Moves-write : (count : ℕ) (old new : Lines) (page : ℕ) (bytes free : List ℕ) → Rewrites page bytes old new → IsFreeList old free → ArePart old (page ∷ free) → high_of old ≤ count
    → Wrote count old new page free
Moves-write count old new page bytes free wrote is part within =
    let here = in_part old (page ∷ free) page part (rw (eq-eqb page page refl) (omega arith)) in
    let none : times page free ≡ 0 = let own = rw (eq-eqb page page refl) at here.2 in omega (arith, own) in
    let first : new 0 ≡ old 0 = wrote.others 0 (λ e. here.0 (sym e)) in
    let high : high_of new ≡ high_of old = ap (λ p. word (p 0) 2) first in
    let head : free_head new ≡ free_head old = ap (λ p. word (p 0) 3) first in
    record {
      moves = record {
        is_free = subst (λ h. IsFreeFrom new h free) (sym head)
            (free_from-same old new (free_head old) free (omega (arith, high)) (λ n among. ap (λ p. p 0) (wrote.others n (λ e. omega (arith, among, none, ap (λ m. times m free) e)))) is);
        higher = omega (arith, high);
        within = omega (arith, high, within);
        kept = λ n. rw high refl;
        others = λ n ne nowhere side. wrote.others n (λ e. let own = rw (eq-eqb page n (sym e)) at nowhere in omega (arith, own));
        kind = ap (λ p. word (p 0) 0) first;
        tables = ap (λ p. word (p 0) 1) first;
      };
      entries = λ l ne. ap (λ p. p l) first;
    }

-- a page taken, and a page given back, by the pages that pass between a tree and the free list
high_after : (count : ℕ) (lines : Lines) → length (lines 0 0).words ≡ 8 → high_of lines ≤ count → (free_head lines ≡ 0 → high_of lines ≢ count) → (high_of lines ≤ high_of (after_take lines)) × (high_of (after_take lines) ≤ count)
high_after count lines eight within left =
    elim (cases_eq (free_head lines) 0) [
      | inl none ↦
          let header : header_after_take lines ≡ with_word 2 (high_of lines + 1) (lines 0 0) = rw (eq-eqb (free_head lines) 0 none) refl in
          let higher : high_of (after_take lines) ≡ high_of lines + 1 = ap (λ h. word h 2) header ∙ get_or-set_same (lines 0 0).words 2 (high_of lines + 1) 0 (omega (arith, eight)) in
          let more : high_of lines ≢ count = left none in
          (omega (arith, higher), omega (arith, higher, within, more))
      | inr some ↦
          let header : header_after_take lines ≡ with_word 3 (next_of lines (free_head lines)) (lines 0 0) = rw (ne_eqb (free_head lines) 0 some) refl in
          let level : high_of (after_take lines) ≡ high_of lines = ap (λ h. word h 2) header ∙ get_or-set_other (lines 0 0).words 3 2 (next_of lines (free_head lines)) 0 (λ e. omega (arith, e)) in
          (omega (arith, level), omega (arith, level, within))
    ]

pub take_takes : (count : ℕ) (lines new : Lines) (page : ℕ) (header : _) → new ≡ after_take lines → page ≡ page_taken lines → header ≡ lines 0 0 → length header.words ≡ 8 → FitsHeader count header
    → (word header 3 ≡ 0 → word header 2 ≢ count) → Takes count lines new page
take_takes count lines new page header now is_page is eight fits left free is_free =
    let fit : FitsHeader count (lines 0 0) = subst (FitsHeader count) is fits in
    let eight_words : length (lines 0 0).words ≡ 8 = subst (λ h. length h.words ≡ 8) is eight in
    let more : free_head lines ≡ 0 → high_of lines ≢ count = subst (λ h. word h 3 ≡ 0 → word h 2 ≢ count) is left in
    let heights = high_after count lines eight_words fit.within more in
    let r = take_page-effect lines free eight_words is_free in
    subst (λ l. Taken count lines l page free) (sym now) (subst (λ p. Taken count lines (after_take lines) p free) (sym is_page) (record {
      rest = r.0;
      moves = take_moves count lines (after_take lines) (page_taken lines) [] free r.0 heights.0 heights.1 r.1;
      entries = r.1.other_lines;
    }))

pub give_gives : (count : ℕ) (lines new : Lines) (page : ℕ) (header : _) → new ≡ after_give page lines → header ≡ lines 0 0 → length header.words ≡ 8 → FitsHeader count header → page ≢ 0 → Gives count lines new page
give_gives count lines new page header now is eight fits some free is_free part within =
    let fit : FitsHeader count (lines 0 0) = subst (FitsHeader count) is fits in
    let here = in_part lines (page ∷ free) page part (rw (eq-eqb page page refl) (omega arith)) in
    let none : times page free ≡ 0 = let own = rw (eq-eqb page page refl) at here.2 in omega (arith, own) in
    subst (λ l. Given count lines l page free) (sym now) (record {
      moves = give_moves count lines page [] free (subst (λ h. length h.words ≡ 8) is eight) some here.1 within none is_free fit.head;
      entries = entry lines page some;
    })
  where
    entry : (lines : Lines) (page : ℕ) → page ≢ 0 → SameEntries lines (after_give page lines)
    entry lines page ne l other = rw (ne_eqb l 0 other, ne_eqb 0 page (λ e. ne (sym e))) refl

pub take_answer : {E : Type 0} (count : ℕ) (old lines new : Lines) (header : _) (r : Result ℕ E) → lines ≡ old → IfOk r (λ page. page ≡ page_taken lines) → OnOk r (new ≡ after_take lines) → header ≡ old 0 0
    → length header.words ≡ 8 → FitsHeader count header → OnOk r (word header 3 ≡ 0 → word header 2 ≢ count) → IfOk r (Takes count old new)
take_answer count old lines new header (Ok page) same is_page now is eight fits left =
    take_takes count old new page header (subst (λ l. new ≡ after_take l) same now) (subst (λ l. page ≡ page_taken l) same is_page) is eight fits left
take_answer count old lines new header (Err stop) same is_page now is eight fits left = tt

pub give_answer : {T E : Type 0} (count : ℕ) (old lines new : Lines) (page : ℕ) (header : _) (r : Result T E) → lines ≡ old → OnOk r (new ≡ after_give page lines) → header ≡ old 0 0
    → length header.words ≡ 8 → FitsHeader count header → 1 ≤ page → OnOk r (Gives count old new page)
give_answer count old lines new page header (Ok v) same now is eight fits some =
    give_gives count old new page header (subst (λ l. new ≡ after_give page l) same now) is eight fits (λ e. omega (arith, e, some))
give_answer count old lines new page header (Err stop) same now is eight fits some = tt
