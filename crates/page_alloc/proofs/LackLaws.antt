-- Stops of calls on pages in order, and the pages at hand.
use Rattle.std.proofs.Common.{◌≡◌, ℕ, zero, suc, ◌≤◌, inl, inr, List, [], ◌∷◌, ◌++◌, length, Result, Ok, Err, IfErr, refl, sym, ap, subst, arith, length-append}
use Rattle.std.proofs.lemmas.Bool.{cases_lt, cases_eq, lt-ltb, le-ltb, eq-eqb, ne_eqb}
use Rattle.line_pages.specs.declared.stop.Stop.{Stop}
use Rattle.line_pages.specs.declared.stop.Stop.TheVariants.{Nvm, Ssd, Damaged}
use Rattle.damage.specs.declared.evidence.Evidence.TheVariants.{Super, Frames, Log, Page, Walk}
use Rattle.line_pages.specs.Lines.{Lines}
use Rattle.page_alloc.specs.Space.{high_of, IsFreeList, FitsHeader}
use Rattle.page_alloc.specs.Counted.{times}
use Rattle.page_alloc.specs.Moves.{below, ArePart, Moves}
use Rattle.page_alloc.specs.Stops.{IsFault, StopsFor, IsShort, spare_pages, pages_at_hand}
use Rattle.line_pages.specs.Bytes.{bytes_of}
use Rattle.page_alloc.proofs.CountedLaws.{times-append}
use Rattle.page_alloc.proofs.SpaceLaws.{without, times-without, times-without_same, length-without, none_at_all}

-- a stop with a reason that has another
stop_wider : (A A' B B' : Type 0) → (A → A') → (B → B') → (stop : Stop) → StopsFor A B stop → StopsFor A' B' stop
stop_wider A A' B B' left right Nvm stops = tt
stop_wider A A' B B' left right Ssd stops = tt
stop_wider A A' B B' left right (Damaged (Page page level low high check)) (inl stops) = inl (stops.0, left stops.1)
stop_wider A A' B B' left right (Damaged (Page page level low high check)) (inr stops) = inr (stops.0, right stops.1)
stop_wider A A' B B' left right (Damaged (Super words check)) stops = stops
stop_wider A A' B B' left right (Damaged (Frames first second entry check)) stops = stops
stop_wider A A' B B' left right (Damaged (Log offset line tail check)) stops = stops
stop_wider A A' B B' left right (Damaged (Walk page kept found check)) stops = stops

pub stops_wider : {T : Type 0} (A A' B B' : Type 0) → (A → A') → (B → B') → (result : Result T Stop) → IfErr result (StopsFor A B) → IfErr result (StopsFor A' B')
stops_wider A A' B B' left right (Ok v) stops = tt
stops_wider A A' B B' left right (Err stop) stops = stop_wider A A' B B' left right stop stops

-- a fault is one of the stops
pub fault_stops : {T : Type 0} (A B : Type 0) (result : Result T Stop) → IfErr result IsFault → IfErr result (StopsFor A B)
fault_stops A B (Ok v) fault = tt
fault_stops A B (Err Nvm) fault = tt
fault_stops A B (Err Ssd) fault = tt
fault_stops A B (Err (Damaged e)) fault = absurd fault

-- numbers that stand equally often in two lists: the lists are as long
pub length-same : (xs ys : List ℕ) → ((n : ℕ) → times n xs ≡ times n ys) → length xs ≡ length ys
length-same [] ys same = sym (ap length (none_at_all ys (λ n. sym (same n))))
length-same (x ∷ xs) ys same =
    let there : 1 ≤ times x ys = let here = same x in let own = rw (eq-eqb x x refl) at here in omega (arith, own) in
    let ih = length-same xs (without x ys)
    (λ n. elim (cases_eq x n) [
      | inl e ↦
          let gone = times-without_same x ys there in
          let here = rw (eq-eqb x x refl) at (same x) in
          subst (λ (m : ℕ). times m xs ≡ times m (without x ys)) e (omega (arith, gone, here))
      | inr ne ↦
          let here = rw (ne_eqb x n ne) at (same n) in
          let other = times-without x n ys ne in
          omega (arith, here, other)
    ]) in
    omega (arith, ih, length-without x ys there)

-- the numbers below a number
up_to : ℕ → List ℕ
up_to zero = []
up_to (suc n) = n ∷ up_to n

times-up_to : (n high : ℕ) → times n (up_to high) ≡ below n high
unfolding up_to
times-up_to n zero = rw (le-ltb n 0 (omega arith)) refl
times-up_to n (suc high) =
    let ih = times-up_to n high in
    elim (cases_lt n high) [
      | inl lt ↦ let h = rw (lt-ltb n high lt) at ih in rw (lt-ltb n (suc high) (omega (arith, lt)), ne_eqb high n (λ e. omega (arith, lt, e))) (omega (arith, h))
      | inr ge ↦
          let h = rw (le-ltb n high ge) at ih in
          elim (cases_eq high n) [
            | inl e ↦ rw (lt-ltb n (suc high) (omega (arith, e)), eq-eqb high n e) (omega (arith, h))
            | inr ne ↦ rw (le-ltb n (suc high) (omega (arith, ge, ne)), ne_eqb high n ne) (omega (arith, h))
          ]
    ]

length-up_to : (high : ℕ) → length (up_to high) ≡ high
unfolding up_to
length-up_to zero = refl
length-up_to (suc high) = let ih = length-up_to high in omega (arith, ih)

-- the pages at hand stay where pages pass between a tree and the free list
pub at_hand-kept : {count : ℕ} {old new : Lines} {used used' free free' : List ℕ} → Moves count old new used used' free free' → pages_at_hand count new used' free' ≡ pages_at_hand count old used free
at_hand-kept {count = count} {old = old} {new = new} {used = used} {used' = used'} {free = free} {free' = free'} m =
    let all = length-same ((used' ++ free') ++ up_to (high_of old)) ((used ++ free) ++ up_to (high_of new))
    (λ n. omega (arith, m.kept n, times-append n (used' ++ free') (up_to (high_of old)), times-append n (used ++ free) (up_to (high_of new)), times-up_to n (high_of old), times-up_to n (high_of new))) in
    omega (
      arith,
      all,
      length-append (used' ++ free') (up_to (high_of old)),
      length-append (used ++ free) (up_to (high_of new)),
      length-append used' free',
      length-append used free,
      length-up_to (high_of old),
      length-up_to (high_of new),
      m.higher,
      m.within,
    )

-- a page that is stored after calls that changed no line
pub stored_sound : {T : Type 0} (count n : ℕ) (old first : Lines) (page : ℕ) (spare free : List ℕ) (result : Result T Stop) → n ≡ count → first ≡ old → spare ≡ bytes_of first page
    → IsFreeList old free → ArePart old (page ∷ free) → FitsHeader count (old 0 0)
    → (spare ≡ bytes_of first page → (free : List ℕ) → IsFreeList first free → ArePart first (page ∷ free) → FitsHeader n (first 0 0) → IfErr result (IsShort (spare_pages n first free) 0))
    → IfErr result (IsShort (spare_pages count old free) 0)
stored_sound count n old first page spare free result is_count same are is_free part fits sound =
    subst (λ (m : ℕ). FitsHeader m (old 0 0) → IfErr result (IsShort (spare_pages m old free) 0)) is_count
    (subst (λ (lines : Lines). IsFreeList lines free → ArePart lines (page ∷ free) → FitsHeader n (lines 0 0) → IfErr result (IsShort (spare_pages n lines free) 0)) same (sound are free) is_free part) fits
