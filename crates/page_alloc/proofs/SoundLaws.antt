-- Calls on pages in order answer no damage.
use Rattle.std.proofs.Common.{◌≡◌, ◌≢◌, ℕ, ◌+◌, ◌-◌, ◌<◌, ◌≤◌, inl, inr, true, List, [], ◌∷◌, length, Some, None, Result, Ok, Err, IfErr, not, ◌==◌, ◌&&◌, ◌||◌, refl, sym, ap, subst, ◌∙◌, arith}
use Rattle.std.proofs.lemmas.Bool.{cases_eq, eq-eqb, ne_eqb, le-leb, lt-ltb, and_from}
use Rattle.line_pages.specs.declared.stop.Stop.{Stop}
use Rattle.line_pages.specs.declared.stop.Stop.TheVariants.{Nvm, Ssd, Damaged}
use Rattle.damage.specs.declared.evidence.Evidence.{Evidence}
use Rattle.damage.specs.declared.evidence.Evidence.TheVariants.{Super, Frames, Log, Page, Walk}
use Rattle.nvm_model.specs.declared.line.Line.{Line}
use Rattle.line_pages.specs.Lines.{Lines}
use Rattle.line_pages.specs.Standing.{Standing, HasCause, Never}
use Rattle.damage.specs.Checks.{first_failure}
use Rattle.page_alloc.specs.Space.{word, high_of, free_head, is_free_page, FitsHeader, IsFreeList, IsPageEvidence, IsSpaceDamage, header_checks, take_checks}
use Rattle.page_alloc.specs.Stops.{IsFault, IsShort, spare_pages}
use Rattle.page_alloc.specs.Moves.{ArePart, Moves}
use Rattle.page_alloc.specs.Written.{Rewrites}
use Rattle.page_alloc.proofs.Places.{in_part, Moves-write}

-- calls that answer no damage
pub sound_never : {A T : Type 0} {old new : Standing A} (result : Result T Stop) → HasCause Never old new result → IfErr result IsFault
sound_never (Ok v) cause = tt
sound_never (Err Nvm) cause = tt
sound_never (Err Ssd) cause = tt
sound_never (Err (Damaged e)) cause = absurd cause.failed

-- a header in order passes its checks
pub header_holds : (count : ℕ) (lines : Lines) → FitsHeader count (lines 0 0) → first_failure (header_checks count lines) ≡ None
header_holds count lines fits =
    rw (eq-eqb _ _ fits.kind, and_from _ _ (le-leb _ _ fits.some) (le-leb _ _ fits.within), lt-ltb _ _ fits.head) refl

-- and shows no damage
pub sound_header : {A T : Type 0} {told : Type 0} {buffer : List ℕ} {old new : Standing A} (count : ℕ) (lines : Lines) (result : Result T Stop) → told → FitsHeader count (lines 0 0)
    → HasCause (λ e. told → IsSpaceDamage (header_checks count lines) lines buffer e) old new result → IfErr result IsFault
sound_header count lines (Ok v) t fits cause = tt
sound_header count lines (Err Nvm) t fits cause = tt
sound_header count lines (Err Ssd) t fits cause = tt
sound_header count lines (Err (Damaged e)) t fits cause = let broken = sym (cause.failed t).first ∙ header_holds count lines fits in absurd (cc)

number_of : (x y : ℕ × ℕ) → Some x ≡ Some y → x.0 ≡ y.0
number_of x y e = let same : x ≡ y = cc in ap (λ (p : ℕ × ℕ). p.0) same

-- before a page is taken only check 37 can fail, and only where no page is left
take_fails : (count : ℕ) (lines : Lines) (free : List ℕ) (number page : ℕ) → FitsHeader count (lines 0 0) → IsFreeList lines free → first_failure (take_checks count lines) ≡ Some (number, page)
    → (number ≡ 37) × (spare_pages count lines free ≤ 0)
take_fails count lines free number page fits is_free first =
    by_free count lines free number page is_free (rw (eq-eqb _ _ fits.kind, and_from _ _ (le-leb _ _ fits.some) (le-leb _ _ fits.within), lt-ltb _ _ fits.head) at first)
  where
    by_free : (count : ℕ) (lines : Lines) (free : List ℕ) (number page : ℕ) → IsFreeList lines free
        → first_failure {X = ℕ × ℕ} (((36, free_head lines), (free_head lines == 0) || is_free_page lines (free_head lines)) ∷ ((37, 0), not ((free_head lines == 0) && (high_of lines == count))) ∷ []) ≡ Some (number, page)
        → (number ≡ 37) × (spare_pages count lines free ≤ 0)
    by_free count lines [] number page is first =
        elim (cases_eq (high_of lines) count) [
          | inl e ↦ let there = rw (eq-eqb (free_head lines) 0 is, eq-eqb (high_of lines) count e) at first in (sym (number_of (37, 0) (number, page) there), omega (arith, e))
          | inr ne ↦ let there = rw (eq-eqb (free_head lines) 0 is, ne_eqb (high_of lines) count ne) at first in absurd (cc)
        ]
    by_free count lines (p ∷ free) number page is first =
        let some : free_head lines ≢ 0 = λ e. is.1 (sym is.0 ∙ e) in
        let ok : is_free_page lines (free_head lines) ≡ true = subst (λ (n : ℕ). is_free_page lines n ≡ true) (sym is.0) is.3 in
        let there = rw (ne_eqb (free_head lines) 0 some, ok) at first in
        absurd (cc)

shown_short : (number page : ℕ) (spare : ℕ) (e : Evidence) → number ≡ 37 → spare ≤ 0 → IsPageEvidence page number e → IsShort spare 0 (Damaged e)
shown_short number page spare (Page n level low high check) is none shown = inl (shown.4 ∙ is, none)
shown_short number page spare (Super words check) is none shown = shown
shown_short number page spare (Frames first second entry check) is none shown = shown
shown_short number page spare (Log offset line tail check) is none shown = shown
shown_short number page spare (Walk n kept found check) is none shown = shown

pub sound_take : {A T : Type 0} {told : Type 0} {buffer : List ℕ} {old new : Standing A} (count : ℕ) (lines : Lines) (free : List ℕ) (result : Result T Stop) → told → FitsHeader count (lines 0 0) → IsFreeList lines free
    → HasCause (λ e. told → IsSpaceDamage (take_checks count lines) lines buffer e) old new result → IfErr result (IsShort (spare_pages count lines free) 0)
sound_take count lines free (Ok v) t fits is_free cause = tt
sound_take count lines free (Err Nvm) t fits is_free cause = tt
sound_take count lines free (Err Ssd) t fits is_free cause = tt
sound_take count lines free (Err (Damaged e)) t fits is_free cause =
    let d = cause.failed t in
    let at = take_fails count lines free d.number d.page fits is_free d.first in
    shown_short d.number d.page (spare_pages count lines free) e at.0 at.1 d.shown

-- the same after calls that changed no line
pub sound_take_on : {A T : Type 0} {told : Type 0} {buffer : List ℕ} {old new : Standing A} (count mid_count : ℕ) (lines mid : Lines) (free : List ℕ) (result : Result T Stop) → told → mid_count ≡ count → mid ≡ lines
    → FitsHeader count (lines 0 0) → IsFreeList lines free → HasCause (λ e. told → IsSpaceDamage (take_checks mid_count mid) mid buffer e) old new result → IfErr result (IsShort (spare_pages count lines free) 0)
sound_take_on {told = told} {buffer = buffer} {old = old} {new = new} count mid_count lines mid free result t is_count same fits is_free cause =
    sound_take count lines free result t fits is_free
    (subst (λ (l : Lines). HasCause (λ e. told → IsSpaceDamage (take_checks count l) l buffer e) old new result) same
    (subst (λ (n : ℕ). HasCause (λ e. told → IsSpaceDamage (take_checks n mid) mid buffer e) old new result) is_count cause))

-- a fault is one of the stops of a call that takes a page
pub fault_short : {T : Type 0} (spare most : ℕ) (result : Result T Stop) → IfErr result IsFault → IfErr result (IsShort spare most)
fault_short spare most (Ok v) is = tt
fault_short spare most (Err Nvm) is = tt
fault_short spare most (Err Ssd) is = tt
fault_short spare most (Err (Damaged e)) is = absurd is

-- a header in order stays so where another page is written, and so do the free pages
pub written_header : (count : ℕ) (old new : Lines) (page : ℕ) (bytes : List ℕ) → Rewrites page bytes old new → 1 ≤ page → FitsHeader count (old 0 0) → FitsHeader count (new 0 0)
written_header count old new page bytes wrote some fits =
    subst (λ (f : ℕ → Line). FitsHeader count (f 0)) (sym (wrote.others 0 (λ e. omega (arith, some, e)))) fits

one_or_more : (n : ℕ) → n ≢ 0 → 1 ≤ n
one_or_more n some = omega (arith, some)

pub sound_cut : {T : Type 0} (count mid_count : ℕ) (old mid : Lines) (page : ℕ) (bytes free : List ℕ) (result : Result T Stop) → mid_count ≡ count → Rewrites page bytes old mid → IsFreeList old free → ArePart old (page ∷ free) → FitsHeader count (old 0 0)
    → (FitsHeader mid_count (mid 0 0) → (free : List ℕ) → IsFreeList mid free → IfErr result (IsShort (spare_pages mid_count mid free) 0)) → IfErr result (IsShort (spare_pages count old free) 0)
sound_cut count mid_count old mid page bytes free result is_count wrote is_free part fits below =
    let inside = in_part old (page ∷ free) page part (rw (eq-eqb page page refl) (omega arith)) in
    let moves = Moves-write count old mid page bytes free wrote is_free part fits.within in
    let some = one_or_more page inside.0 in
    let header = written_header count old mid page bytes wrote some fits in
    let high : high_of mid ≡ high_of old = ap (λ (f : ℕ → Line). word (f 0) 2) (wrote.others 0 (λ e. omega (arith, some, e))) in
    let stops = below (subst (λ (n : ℕ). FitsHeader n (mid 0 0)) (sym is_count) header) free moves.moves.is_free in
    subst (λ (n : ℕ). IfErr result (IsShort (length free + (count - n)) 0)) high (subst (λ (n : ℕ). IfErr result (IsShort (spare_pages n mid free) 0)) is_count stops)

-- calls that move pages leave the header in order
pub moved_header : {count : ℕ} {old new : Lines} {used used' free free' : List ℕ} → Moves count old new used used' free free' → FitsHeader count (old 0 0) → FitsHeader count (new 0 0)
moved_header {new = new} {free' = free'} m fits = record {
  kind = m.kind ∙ fits.kind;
  some = omega (arith, m.higher, fits.some);
  within = m.within;
  head = head_below new free' (omega (arith, m.higher, fits.some)) m.is_free;
}
  where
    head_below : (lines : Lines) (free : List ℕ) → 1 ≤ high_of lines → IsFreeList lines free → free_head lines < high_of lines
    head_below lines [] some is = omega (arith, is, some)
    head_below lines (page ∷ rest) some is = omega (arith, is.0, is.2)
