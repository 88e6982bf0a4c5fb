-- Touches in a row.
use Rattle.std.proofs.Common.{◌≡◌, ℕ, ◌+◌, inl, inr, Bool, true, false, not, cond, List, [], ◌∷◌, ◌++◌, filter, length, refl, sym, ap, ◌∙◌, arith, Option, Some, None}
use Rattle.std.proofs.lemmas.Bool.{cases_Bool, cases_eq, eq-eqb, ne_eqb}
use Rattle.line_pages.specs.Touch.{Touch, Access, same_kind, accesses, begins, accesses_from, access_after, begun_from, last_from, writes_line}

-- a touch at the end counts as an access where it begins one
pub accesses_push : (ts : List Touch) (t : Touch) → length (accesses (ts ++ t ∷ [])) ≡ length (accesses ts) + cond t.begins 1 0
accesses_push [] t = elim (cases_Bool t.begins) [ inl e ↦ rw e refl | inr e ↦ rw e refl ]
accesses_push (x ∷ ts) t =
    let ih = accesses_push ts t in
    elim (cases_Bool x.begins) [ inl e ↦ rw e (omega (arith, ih)) | inr e ↦ rw e ih ]

pub accesses-append : (xs ys : List Touch) → accesses (xs ++ ys) ≡ accesses xs ++ accesses ys
accesses-append [] ys = refl
accesses-append (x ∷ xs) ys =
    let ih = accesses-append xs ys in
    elim (cases_Bool x.begins) [ inl e ↦ rw e (ap (λ r. (x.page, x.writes) ∷ r) ih) | inr e ↦ rw e ih ]

pub writes-append : (xs ys : List Touch) → filter writes_line xs ≡ [] → filter writes_line ys ≡ [] → filter writes_line (xs ++ ys) ≡ []
writes-append [] ys none_first none_second = none_second
writes-append (x ∷ xs) ys none_first none_second =
    elim (cases_Bool x.writes) [
      | inl e ↦ let none = rw e at none_first in absurd (cc)
      | inr e ↦ let none = rw e at none_first in rw e (writes-append xs ys none none_second)
    ]

-- an open read access of the page goes on
pub goes_on : (page : ℕ) → begins (Some (page, false)) page false ≡ false
goes_on page = rw (eq-eqb page page refl) refl

-- an open write access of the page goes on
pub goes_on_writing : (page : ℕ) → begins (Some (page, true)) page true ≡ false
goes_on_writing page = rw (eq-eqb page page refl) refl

-- where a touch begins no access, that of its page and kind is open
pub same_access : (access : Option Access) (page : ℕ) (writes : Bool) → begins access page writes ≡ false → access ≡ Some (page, writes)
same_access None page writes none = absurd (cc)
same_access (Some a) page writes none =
    elim (cases_eq a.0 page) [
      | inl same ↦ let kind = rw (eq-eqb a.0 page same) at none in let kinds = same_kinds a.1 writes kind in λ i. Some (same i, kinds i)
      | inr other ↦ let broken = rw (ne_eqb a.0 page other) at none in absurd (cc)
    ]
  where
    same_kinds : (a b : Bool) → not (same_kind a b) ≡ false → a ≡ b
    same_kinds true true e = refl
    same_kinds true false e = absurd (cc)
    same_kinds false true e = absurd (cc)
    same_kinds false false e = refl

pub access_after-append : (access : Option Access) (xs ys : List Touch) → access_after access (xs ++ ys) ≡ access_after (access_after access xs) ys
access_after-append access [] ys = refl
access_after-append access (x ∷ xs) ys = access_after-append (Some (x.page, x.writes)) xs ys

pub accesses_from-append : (access : Option Access) (xs ys : List Touch) → accesses_from access (xs ++ ys) ≡ accesses_from access xs ++ accesses_from (access_after access xs) ys
accesses_from-append access [] ys = refl
accesses_from-append access (x ∷ xs) ys =
    elim (cases_Bool (begins access x.page x.writes)) [
      | inl e ↦ rw e (ap (λ r. (x.page, x.writes) ∷ r) (accesses_from-append (Some (x.page, x.writes)) xs ys))
      | inr e ↦
          rw e (accesses_from-append access xs ys ∙ ap (λ o. accesses_from access xs ++ accesses_from (access_after o xs) ys) (same_access access x.page x.writes e))
    ]

-- the accesses by those from none on
pub accesses_from-begun : (access : Option Access) (ts : List Touch) → accesses_from access ts ≡ begun_from access (accesses_from None ts)
accesses_from-begun access [] = refl
accesses_from-begun access (t ∷ ts) =
    elim (cases_Bool (begins access t.page t.writes)) [ inl e ↦ rw e refl | inr e ↦ rw e (ap (λ o. accesses_from o ts) (same_access access t.page t.writes e)) ]

-- what is open after touches is the last of their accesses
pub access_after-last : (access : Option Access) (ts : List Touch) → access_after access ts ≡ last_from access (accesses_from access ts)
access_after-last access [] = refl
access_after-last access (t ∷ ts) =
    elim (cases_Bool (begins access t.page t.writes)) [
      | inl e ↦ rw e (access_after-last (Some (t.page, t.writes)) ts)
      | inr e ↦ rw e (access_after-last (Some (t.page, t.writes)) ts ∙ ap (λ o. last_from o (accesses_from o ts)) (sym (same_access access t.page t.writes e)))
    ]

-- touches that go on in an open access leave it open
pub stays_open : (a : Access) (ts : List Touch) → accesses_from (Some a) ts ≡ [] → access_after (Some a) ts ≡ Some a
stays_open a ts alone = access_after-last (Some a) ts ∙ ap (last_from (Some a)) alone

-- more of them
pub alone-append : (a : Access) (xs ys : List Touch) → accesses_from (Some a) xs ≡ [] → accesses_from (Some a) ys ≡ [] → accesses_from (Some a) (xs ++ ys) ≡ []
alone-append a xs ys first second =
    accesses_from-append (Some a) xs ys ∙ ap (λ r. r ++ accesses_from (access_after (Some a) xs) ys) first ∙ ap (λ o. accesses_from o ys) (stays_open a xs first) ∙ second

-- reads of one page write nothing
pub alone_reads : (page : ℕ) (ts : List Touch) → accesses_from (Some (page, false)) ts ≡ [] → filter writes_line ts ≡ []
alone_reads page [] alone = refl
alone_reads page (t ∷ ts) alone =
    elim (cases_Bool (begins (Some (page, false)) t.page t.writes)) [
      | inl e ↦ let none = rw e at alone in absurd (cc)
      | inr e ↦
          let rest = rw e at alone in
          let read : t.writes ≡ false = ap (λ o. kind_of o) (sym (same_access (Some (page, false)) t.page t.writes e)) in
          rw read (alone_reads page ts rest)
    ]
  where
    kind_of : Option Access → Bool
    kind_of None = false
    kind_of (Some a) = a.1

-- touches of one page and kind, at least one, are one access
pub run_alone : (a x : Access) (ts : List Touch) → accesses ts ≡ x ∷ [] → accesses_from (Some a) ts ≡ [] → accesses_from None ts ≡ a ∷ []
run_alone a x [] some alone = absurd (cc)
run_alone a x (t ∷ ts) some alone =
    elim (cases_Bool (begins (Some a) t.page t.writes)) [
      | inl e ↦ let none = rw e at alone in absurd (cc)
      | inr e ↦
          let rest : accesses_from (Some a) ts ≡ [] = rw e at alone in
          let same : Some a ≡ Some (t.page, t.writes) = same_access (Some a) t.page t.writes e in
          let here : (t.page, t.writes) ≡ a = cc in
          ap (λ o. (t.page, t.writes) ∷ accesses_from o ts) (sym same) ∙ ap (λ r. (t.page, t.writes) ∷ r) rest ∙ ap (λ (y : Access). y ∷ []) here
    ]

pub run_open : (access : Option Access) (a x : Access) (ts : List Touch) → accesses ts ≡ x ∷ [] → accesses_from (Some a) ts ≡ [] → access_after access ts ≡ Some a
run_open access a x [] some alone = absurd (cc)
run_open access a x (t ∷ ts) some alone = stays_open a (t ∷ ts) alone
