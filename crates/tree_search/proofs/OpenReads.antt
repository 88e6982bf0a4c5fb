-- Reads of a page that may go on in an access that is open already.
use Rattle.std.proofs.Common.{cond, ◌≡◌, ℕ, ◌+◌, ◌≤◌, ◌<◌, inl, inr, false, true, List, [], ◌∷◌, ◌++◌, length, Some, None, map, refl, sym, ap, subst, ◌∙◌, arith, length-append}
use Rattle.std.proofs.lemmas.Bool.{cases_Bool}
use Rattle.std.proofs.lemmas.List.{length-map}
use Rattle.line_pages.specs.Touch.{Touch, Access, begins, accesses, accesses_from, access_after, begun_from}
use Rattle.line_pages.specs.Standing.{Standing, ReadsPage, AddsReads}
use Rattle.line_pages.specs.Cost.{AddsLines}
use Rattle.line_pages.proofs.TouchLaws.{accesses_from-begun, alone_reads, same_access, stays_open}
use Rattle.line_pages.proofs.StandingLaws.{page_adds}
use Rattle.page_search.specs.Cost.{Searches}

on_fact : (page : ℕ) (all : List Access) → 1 ≤ length all → begun_from (Some (page, false)) all ≡ [] → all ≡ (page, false) ∷ []
on_fact page [] some none = absurd (omega (arith, some))
on_fact page (z ∷ zs) some none =
    elim (cases_Bool (begins (Some (page, false)) z.0 z.1)) [
      | inl more ↦ let never = rw more at none in absurd (cc)
      | inr same ↦
          let rest : zs ≡ [] = rw same at none in
          let is : Some (page, false) ≡ Some (z.0, z.1) = same_access (Some (page, false)) z.0 z.1 same in
          let both : (page, false) ≡ (z.0, z.1) = cc in
          ap (λ (a : Access). a ∷ zs) (sym both) ∙ ap (λ (l : List Access). (page, false) ∷ l) rest
    ]

some_access : (touches : List Touch) → 1 ≤ length touches → 1 ≤ length (accesses_from None touches)
some_access [] some = absurd (omega (arith, some))
some_access (t ∷ ts) some = omega arith

-- one access to the page, whether it goes on in an open one or not
pub some_adds : {A : Type 0} {page : ℕ} {old new : Standing A} → (reads : ReadsPage page old new) → length old.touches + 1 ≤ length new.touches → AddsReads (λ pages. pages ≡ (page, false) ∷ []) old new
some_adds {page = page} {old = old} {new = new} reads more =
    elim (cases_Bool (begins old.access page false)) [
      | inl starts ↦ page_adds reads starts
      | inr on ↦
          let was : old.access ≡ Some (page, false) = same_access old.access page false on in
          let none : accesses reads.added ≡ [] = reads.begun ∙ ap (λ b. cond b ((page, false) ∷ []) []) on in
          let some : 1 ≤ length reads.added = omega (arith, more, ap length reads.touches, length-append old.touches reads.added) in
          record {
            added = reads.added;
            touches = reads.touches;
            visits = reads.visits ∙ ap (λ b. old.visits + cond b 1 0) on ∙ ap (λ xs. old.visits + length xs) (sym none);
            begun = none ∙ sym (ap (λ o. accesses_from o reads.added) was ∙ reads.alone);
            access = reads.access ∙ sym (ap (λ o. access_after o reads.added) was ∙ stays_open (page, false) reads.added reads.alone);
            reads = alone_reads page reads.added reads.alone;
            fact = on_fact page (accesses_from None reads.added) (some_access reads.added some) (sym (accesses_from-begun (Some (page, false)) reads.added) ∙ reads.alone);
          }
    ]

-- a search touches a line at least
pub search_touches : {A : Type 0} (level : ℕ) (bytes : List ℕ) (old new : Standing A) → AddsLines (Searches level bytes) old new → length old.touches + 1 ≤ length new.touches
search_touches level bytes old new adds =
    omega (arith, ap length adds.touches, length-append old.touches adds.added, ap length adds.fact.lines_are, length-map adds.added (λ (t : Touch). t.line))

pub reads_more : {A : Type 0} (page : ℕ) (old new : Standing A) → ReadsPage page old new → length old.touches ≤ length new.touches
reads_more page old new reads = omega (arith, ap length reads.touches, length-append old.touches reads.added)
