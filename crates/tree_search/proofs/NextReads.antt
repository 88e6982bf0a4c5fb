-- The search for the next row reads pages of the tree alone.
use Rattle.std.proofs.Common.{◌≡◌, ℕ, zero, suc, ◌+◌, ◌-◌, ◌≤◌, false, cond, inl, inr, List, [], ◌∷◌, ◌++◌, flat_map, append-nil, length, Option, Some, None, Result, Ok, Err, OnOk, refl, sym, ap, subst, ◌∙◌, arith, slice_get}
use Rattle.std.proofs.lemmas.Bool.{cases_Bool, eq-eqb}
use Rattle.std.proofs.lemmas.List.Concat.{flat_map-append}
use Rattle.line_pages.specs.Lines.{Lines}
use Rattle.line_pages.specs.Bytes.{bytes_of}
use Rattle.line_pages.specs.Touch.{Touch, Access, begins, accesses, accesses_from, access_after, begun_from, last_from}
use Rattle.line_pages.specs.Standing.{Standing, ReadsPage, AddsReads}
use Rattle.line_pages.proofs.TouchLaws.{same_access, accesses_from-begun, stays_open, alone_reads}
use Rattle.line_pages.proofs.StandingLaws.{page_adds, AddsReads-trans}
use Rattle.page_format.specs.declared.root.Expect.{Expect}
use Rattle.rows.specs.Rows.{Each}
use Rattle.page_format.specs.Spans.{spans}
use Rattle.page_format.specs.Node.{Child, children}
use Rattle.page_alloc.specs.Counted.{times}
use Rattle.tree_search.specs.Tree.{IsTree, tree_pages}
use Rattle.tree_search.specs.Way.{AreReadsIn}
use Rattle.page_alloc.proofs.CountedLaws.{times-append}
use Rattle.tree_search.proofs.OrderLaws.{located, IsChildTree, Each-get}

reads-append : (pages : List ℕ) (xs ys : List Access) → AreReadsIn pages xs → AreReadsIn pages ys → AreReadsIn pages (xs ++ ys)
reads-append pages [] ys all more = more
reads-append pages (x ∷ xs) ys all more = (all.0, reads-append pages xs ys all.1 more)

reads-begun : (pages : List ℕ) (open_one : Option Access) (ys : List Access) → AreReadsIn pages ys → AreReadsIn pages (begun_from open_one ys)
reads-begun pages open_one [] all = tt
reads-begun pages open_one (y ∷ ys) all =
    elim (cases_Bool (begins open_one y.0 y.1)) [
      | inl new_one ↦ rw new_one all
      | inr same ↦ rw same all.1
    ]

reads-wider : (pages wide : List ℕ) → ((n : ℕ) → times n pages ≤ times n wide) → (ys : List Access) → AreReadsIn pages ys → AreReadsIn wide ys
reads-wider pages wide more [] all = tt
reads-wider pages wide more (y ∷ ys) all = ((all.0.0, omega (arith, more y.0, all.0.1)), reads-wider pages wide more ys all.1)

-- reads after reads, all of these pages
pub reads_then : {A : Type 0} (pages : List ℕ) {a b c : Standing A} → AddsReads (AreReadsIn pages) a b → AddsReads (AreReadsIn pages) b c → AddsReads (AreReadsIn pages) a c
reads_then pages first second = AddsReads-trans (λ x y one two. reads-append pages x (begun_from (last_from None x) y) one (reads-begun pages (last_from None x) y two)) first second

pub reads_wider : {A : Type 0} (pages wide : List ℕ) {a b : Standing A} → ((n : ℕ) → times n pages ≤ times n wide) → AddsReads (AreReadsIn pages) a b → AddsReads (AreReadsIn wide) a b
reads_wider pages wide more r = record {
  added = r.added;
  touches = r.touches;
  visits = r.visits;
  begun = r.begun;
  access = r.access;
  reads = r.reads;
  fact = reads-wider pages wide more _ r.fact;
}

-- reads that go on in an open access of their page
on_in : (page : ℕ) (pages : List ℕ) (zs : List Access) → 1 ≤ times page pages → begun_from (Some (page, false)) zs ≡ [] → AreReadsIn pages zs
on_in page pages [] there none = tt
on_in page pages (z ∷ zs) there none =
    elim (cases_Bool (begins (Some (page, false)) z.0 z.1)) [
      | inl new_one ↦ let some : z ∷ zs ≡ [] = rw new_one at none in absurd (cc)
      | inr same ↦
          let rest : zs ≡ [] = rw same at none in
          let is : Some (page, false) ≡ Some (z.0, z.1) = same_access (Some (page, false)) z.0 z.1 same in
          let both : (page, false) ≡ (z.0, z.1) = cc in (
            (sym (ap (λ (a : Access). a.1) both), subst (λ (n : ℕ). 1 ≤ times n pages) (ap (λ (a : Access). a.0) both) there),
            subst (AreReadsIn pages) (sym rest) tt,
          )
    ]

-- reads of one of these pages
pub page_reads : {A : Type 0} (page : ℕ) (pages : List ℕ) {old new : Standing A} → 1 ≤ times page pages → ReadsPage page old new → AddsReads (AreReadsIn pages) old new
page_reads page pages {old = old} {new = new} there reads =
    elim (cases_Bool (begins old.access page false)) [
      | inl starts ↦
          let a = page_adds reads starts in
          record {
            added = a.added;
            touches = a.touches;
            visits = a.visits;
            begun = a.begun;
            access = a.access;
            reads = a.reads;
            fact = subst (AreReadsIn pages) (sym a.fact) ((refl, there), tt);
          }
      | inr on ↦
          let was : old.access ≡ Some (page, false) = same_access old.access page false on in
          let none : accesses reads.added ≡ [] = reads.begun ∙ ap (λ b. cond b ((page, false) ∷ []) []) on in
          record {
            added = reads.added;
            touches = reads.touches;
            visits = reads.visits ∙ ap (λ b. old.visits + cond b 1 0) on ∙ ap (λ xs. old.visits + length xs) (sym none);
            begun = none ∙ sym (ap (λ o. accesses_from o reads.added) was ∙ reads.alone);
            access = reads.access ∙ sym (ap (λ o. access_after o reads.added) was ∙ stays_open (page, false) reads.added reads.alone);
            reads = alone_reads page reads.added reads.alone;
            fact = on_in page pages (accesses_from None reads.added) there (sym (accesses_from-begun (Some (page, false)) reads.added) ∙ reads.alone);
          }
    ]

pub top_in : (lines : Lines) (level page : ℕ) → 1 ≤ times page (tree_pages lines level page)
top_in lines zero page = rw (eq-eqb page page refl) (omega arith)
top_in lines (suc level) page = rw (eq-eqb page page refl) (omega arith)

-- the pages under a child are pages of the tree
pub child_in : (lines : Lines) (level page at child low high most : ℕ) → 1 ≤ level → slice_get (spans (children (bytes_of lines page)) most) at ≡ Some (record { page = child; low = low; high = high })
    → (n : ℕ) → times n (tree_pages lines (level - 1) child) ≤ times n (tree_pages lines level page)
child_in lines level page at child low high most some spot n =
    let is_level : level ≡ suc (level - 1) = omega (arith, some) in
    subst (λ (l : ℕ). times n (tree_pages lines (level - 1) child) ≤ times n (tree_pages lines l page)) (sym is_level) (under (level - 1))
  where
    under : (l : ℕ) → times n (tree_pages lines l child) ≤ times n (tree_pages lines (suc l) page)
    under l =
        let s = located (children (bytes_of lines page)) most at (record { page = child; low = low; high = high }) spot in
        let pages_at = λ (c : Child). tree_pages lines l c.1 in
        let all = ap (flat_map pages_at) s.is ∙ flat_map-append pages_at s.xs (((low, child) ∷ []) ++ s.ys) in
        omega (arith, ap (times n) all, times-append n (flat_map pages_at s.xs) (tree_pages lines l child ++ flat_map pages_at s.ys), times-append n (tree_pages lines l child) (flat_map pages_at s.ys))

-- a page read, and then pages under its child
pub reads_under : {A : Type 0} (page at child low high most level : ℕ) (old mid new : Standing A) → 1 ≤ level → mid.current ≡ old.current
    → slice_get (spans (children (bytes_of old.current page)) most) at ≡ Some (record { page = child; low = low; high = high }) → ReadsPage page old mid
    → AddsReads (AreReadsIn (tree_pages mid.current (level - 1) child)) mid new → AddsReads (AreReadsIn (tree_pages old.current level page)) old new
reads_under page at child low high most level old mid new some same spot first rest =
    let pages = tree_pages old.current level page in
    reads_then pages (page_reads page pages (top_in old.current level page) first)
    (reads_wider (tree_pages old.current (level - 1) child) pages (child_in old.current level page at child low high most some spot) (subst (λ (l : Lines). AddsReads (AreReadsIn (tree_pages l (level - 1) child)) mid new) same rest))

pub reads_child : {A T E : Type 0} (page at child low high most level : ℕ) (old mid new : Standing A) (result : Result T E) → 1 ≤ level → mid.current ≡ old.current
    → slice_get (spans (children (bytes_of old.current page)) most) at ≡ Some (record { page = child; low = low; high = high }) → ReadsPage page old mid
    → OnOk result (AddsReads (AreReadsIn (tree_pages mid.current (level - 1) child)) mid new) → OnOk result (AddsReads (AreReadsIn (tree_pages old.current level page)) old new)
reads_child page at child low high most level old mid new (Ok v) some same spot first rest = reads_under page at child low high most level old mid new some same spot first rest
reads_child page at child low high most level old mid new (Err e) some same spot first rest = tt

-- and then more of the tree's pages
pub reads_on : {A T E : Type 0} (page level : ℕ) (old mid new : Standing A) (result : Result T E) → mid.current ≡ old.current → AddsReads (AreReadsIn (tree_pages old.current level page)) old mid
    → OnOk result (AddsReads (AreReadsIn (tree_pages mid.current level page)) mid new) → OnOk result (AddsReads (AreReadsIn (tree_pages old.current level page)) old new)
reads_on page level old mid new (Ok v) same first rest = reads_then (tree_pages old.current level page) first (subst (λ (l : Lines). AddsReads (AreReadsIn (tree_pages l level page)) mid new) same rest)
reads_on page level old mid new (Err e) same first rest = tt

-- reads of the top page alone
pub reads_top : {A T E : Type 0} (page level : ℕ) (old new : Standing A) (result : Result T E) → OnOk result (ReadsPage page old new) → OnOk result (AddsReads (AreReadsIn (tree_pages old.current level page)) old new)
reads_top page level old new (Ok v) reads = page_reads page (tree_pages old.current level page) (top_in old.current level page) reads
reads_top page level old new (Err e) reads = tt

-- no reads at all
pub reads_none : {A : Type 0} (pages : List ℕ) (s : Standing A) → AddsReads (AreReadsIn pages) s s
reads_none pages s = record { added = []; touches = sym (append-nil s.touches); visits = omega arith; begun = refl; access = refl; reads = refl; fact = tt }

-- the tree under a child that a search names
pub child_tree : (e : Expect) (old mid : Lines) (page at child low high : ℕ) → mid ≡ old → 1 ≤ e.level → IsTree e.pages old e.level page e.low e.high e.root
    → slice_get (spans (children (bytes_of old page)) e.high) at ≡ Some (record { page = child; low = low; high = high }) → IsTree e.pages mid (e.level - 1) child low high false
child_tree e old mid page at child low high same some tree spot =
    let is_level : e.level ≡ suc (e.level - 1) = omega (arith, some) in
    let down : IsTree e.pages old (suc (e.level - 1)) page e.low e.high e.root = subst (λ (l : ℕ). IsTree e.pages old l page e.low e.high e.root) is_level tree in
    subst (λ (lines : Lines). IsTree e.pages lines (e.level - 1) child low high false) (sym same)
    (Each-get (IsChildTree e.pages old (e.level - 1)) (spans (children (bytes_of old page)) e.high) at (record { page = child; low = low; high = high }) down.1 spot)

each_from : (pages : List ℕ) (a : Access) (ts : List Touch) → a.1 ≡ false → 1 ≤ times a.0 pages → AreReadsIn pages (accesses_from (Some a) ts) → Each (λ (t : Touch). (t.writes ≡ false) × (1 ≤ times t.page pages)) ts
each_from pages a [] is there all = tt
each_from pages a (t ∷ ts) is there all =
    elim (cases_Bool (begins (Some a) t.page t.writes)) [
      | inl new_one ↦ let own : AreReadsIn pages ((t.page, t.writes) ∷ accesses_from (Some (t.page, t.writes)) ts) = rw new_one at all in (own.0, each_from pages (t.page, t.writes) ts own.0.0 own.0.1 own.1)
      | inr same ↦
          let own : AreReadsIn pages (accesses_from (Some a) ts) = rw same at all in
          let open_one : Some a ≡ Some (t.page, t.writes) = same_access (Some a) t.page t.writes same in
          let both : a ≡ (t.page, t.writes) = cc in
          ((sym (ap (λ (x : Access). x.1) both) ∙ is, subst (λ (n : ℕ). 1 ≤ times n pages) (ap (λ (x : Access). x.0) both) there), each_from pages a ts is there own)
    ]

-- each of the touches is a read of one of the pages
pub each_touch : (pages : List ℕ) (ts : List Touch) → AreReadsIn pages (accesses_from None ts) → Each (λ (t : Touch). (t.writes ≡ false) × (1 ≤ times t.page pages)) ts
each_touch pages [] all = tt
each_touch pages (t ∷ ts) all = (all.0, each_from pages (t.page, t.writes) ts all.0.0 all.0.1 all.1)
