-- Laws of the clock: there is a victim where a place stands, its steps are at most two turns, and a sweep goes place by place.
use Rattle.std.proofs.Common.{◌≡◌, ℕ, zero, suc, cond, ◌+◌, ◌*◌, ◌≤◌, Bool, true, false, [], ◌∷◌, ◌++◌, length, refl, ap, sym, ◌∙◌, arith, append_assoc, length-append, ◌||◌}
use Rattle.std.specs.Prelude.{Option, Some, None, ◌==◌}
use Rattle.std.proofs.lemmas.Bool.{eq-eqb}
use Rattle.std.specs.List.{list_any}
use Rattle.std.specs.Option.{option_map}
use Rattle.std.proofs.lemmas.List.{map-append, append-nil}
use Rattle.clock_sweep.specs.declared.clock.Slot.{Slot}
use Rattle.clock_sweep.specs.declared.clock.Slot.TheVariants.{Empty, Clear, Set}
use Rattle.clock_sweep.specs.Circles.{turned}
use Rattle.clock_sweep.specs.Clock.{Circle, stands, is_clear, cleared, any_stands, Cut, with_first, cut_here, first_cut, passed, Swept, swept, victim, with_slot, inserted, touched, places_from}

-- ---- there is a victim where a place stands

cut-some : (test : Slot → Bool) (circle : Circle) → list_any (λ e. test e.1) circle ≡ true → (cut : Cut) × (first_cut test circle ≡ Some cut)
unfolding first_cut
cut-some test [] h = absurd (cc)
cut-some test (e ∷ circle) h =
    elim (test e.1) as (λ b. b || list_any (λ x. test x.1) circle ≡ true → (cut : Cut) × (cut_here b e circle (first_cut test circle) ≡ Some cut)) [
      | true ↦ λ _. (record { before = []; place = e.0; behind = circle }, refl)
      | false ↦ λ later. let found = cut-some test circle later in (with_first e found.0, ap (option_map (with_first e)) found.1)
    ] h

swept-some : (n : ℕ) (clear standing : Option Cut) (cut : Cut) → standing ≡ Some cut → (v : Swept) × (swept n clear standing ≡ Some v)
swept-some n (Some clear) standing cut e = (record { place = clear.place; steps = length clear.before + 1; clock = clear.behind ++ passed clear.before ++ (clear.place, Empty) ∷ [] }, refl)
swept-some n None (Some cut') cut e = (record { place = cut'.place; steps = n + (length cut'.before + 1); clock = passed cut'.behind ++ passed cut'.before ++ (cut'.place, Empty) ∷ [] }, refl)
swept-some n None None cut e = absurd (cc)

pub victim-some : (circle : Circle) → any_stands circle ≡ true → (v : Swept) × (victim circle ≡ Some v)
unfolding victim
victim-some circle h =
    let found = cut-some stands circle h in
    swept-some (length circle) (first_cut is_clear circle) (first_cut stands circle) found.0 found.1

-- ---- at most two turns

-- what holds of a cut that is found later, from what holds of the cut of the rest
later-length : (e : ℕ × Slot) (circle : Circle) (o : Option Cut) → ((cut : Cut) → o ≡ Some cut → length circle ≡ length cut.before + (length cut.behind + 1))
    → (cut : Cut) → option_map (with_first e) o ≡ Some cut → suc (length circle) ≡ length cut.before + (length cut.behind + 1)
later-length e circle None rest cut h = absurd (cc)
later-length e circle (Some found) rest cut h =
    let same : cut ≡ with_first e found = cc in
    let short = rest found refl in
    rw same (omega arith)

cut-length : (test : Slot → Bool) (circle : Circle) (cut : Cut) → first_cut test circle ≡ Some cut → length circle ≡ length cut.before + (length cut.behind + 1)
unfolding first_cut
cut-length test [] cut h = absurd (cc)
cut-length test (e ∷ circle) cut h =
    let rest = cut-length test circle in
    elim (test e.1) as (λ b. cut_here b e circle (first_cut test circle) ≡ Some cut → suc (length circle) ≡ length cut.before + (length cut.behind + 1)) [
      | true ↦ λ here. let same : cut ≡ record { before = []; place = e.0; behind = circle } = cc in rw same (omega arith)
      | false ↦ λ later. later-length e circle (first_cut test circle) rest cut later
    ] h

swept-steps : (circle : Circle) (clear standing : Option Cut)
    → ((cut : Cut) → clear ≡ Some cut → length circle ≡ length cut.before + (length cut.behind + 1))
    → ((cut : Cut) → standing ≡ Some cut → length circle ≡ length cut.before + (length cut.behind + 1))
    → (v : Swept) → swept (length circle) clear standing ≡ Some v → v.steps ≤ 2 * length circle
swept-steps circle (Some cut) standing here there v h =
    let short = here cut refl in
    let same : v.steps ≡ length cut.before + 1 = cc in
    omega arith
swept-steps circle None (Some cut) here there v h =
    let short = there cut refl in
    let same : v.steps ≡ length circle + (length cut.before + 1) = cc in
    omega arith
swept-steps circle None None here there v h = absurd (cc)

pub victim-steps : (circle : Circle) (v : Swept) → victim circle ≡ Some v → v.steps ≤ 2 * length circle
unfolding victim
victim-steps circle v h = swept-steps circle (first_cut is_clear circle) (first_cut stands circle) (cut-length is_clear circle) (cut-length stands circle) v h

-- ---- a sweep goes place by place

-- the same sweep, begun n steps earlier
abbrev pub later : ℕ → Swept → Swept
later n v = record { place = v.place; steps = v.steps + n; clock = v.clock }

-- a cut of a circle with one more place at its end
abbrev with_last : ℕ × Slot → Cut → Cut
with_last e cut = record { before = cut.before; place = cut.place; behind = cut.behind ++ e ∷ [] }

abbrev cut_last : Bool → ℕ × Slot → Circle → Option Cut
cut_last true e circle = Some (record { before = circle; place = e.0; behind = [] })
cut_last false e circle = None

abbrev or_last : (Slot → Bool) → ℕ × Slot → Circle → Option Cut → Option Cut
or_last test e circle None = cut_last (test e.1) e circle
or_last test e circle (Some cut) = Some (with_last e cut)

or_last-first : (test : Slot → Bool) (d e : ℕ × Slot) (circle : Circle) (o : Option Cut)
    → option_map (with_first d) (or_last test e circle o) ≡ or_last test e (d ∷ circle) (option_map (with_first d) o)
or_last-first test d e circle None = elim (test e.1) as (λ b. option_map (with_first d) (cut_last b e circle) ≡ cut_last b e (d ∷ circle)) [ true ↦ refl | false ↦ refl ]
or_last-first test d e circle (Some cut) = refl

cut-append : (test : Slot → Bool) (circle : Circle) (e : ℕ × Slot) → first_cut test (circle ++ e ∷ []) ≡ or_last test e circle (first_cut test circle)
unfolding first_cut
cut-append test [] e = elim (test e.1) as (λ b. cut_here b e [] None ≡ cut_last b e []) [ true ↦ refl | false ↦ refl ]
cut-append test (d ∷ circle) e =
    let rest = cut-append test circle e in
    elim (test d.1) as (λ b. cut_here b d (circle ++ e ∷ []) (first_cut test (circle ++ e ∷ [])) ≡ or_last test e (d ∷ circle) (cut_here b d circle (first_cut test circle))) [
      | true ↦ refl
      | false ↦ ap (option_map (with_first d)) rest ∙ or_last-first test d e circle (first_cut test circle)
    ]

turned_past : (a b : Circle) (e x : ℕ × Slot) → (a ++ (e ∷ b)) ++ x ∷ [] ≡ ((a ++ e ∷ []) ++ b) ++ x ∷ []
turned_past a b e x = ap (λ t. t ++ x ∷ []) (sym (append_assoc a (e ∷ []) b))

same_swept : (p m n : ℕ) (c d : Circle) → m ≡ n → c ≡ d → ◌≡◌ {A = Option Swept} (Some (record { place = p; steps = m; clock = c })) (Some (record { place = p; steps = n; clock = d }))
same_swept p m n c d e f = λ i. Some (record { place = p; steps = e i; clock = f i })

past-empty : (place n m : ℕ) (rest : Circle) (clear standing : Option Cut) → n ≡ m + 1 → m + 1 ≡ suc (length rest)
    → swept n (option_map (with_first (place, Empty)) clear) (option_map (with_first (place, Empty)) standing)
    ≡ option_map (later 1) (swept (m + 1) (or_last is_clear (place, Empty) rest clear) (or_last stands (place, Empty) rest standing))
past-empty place n m rest (Some cut) standing e f = same_swept _ _ _ _ _ (omega arith) (turned_past cut.behind (passed cut.before) (place, Empty) (cut.place, Empty))
past-empty place n m rest None (Some cut) e f =
    same_swept _ _ _ _ _ (omega arith)
    (turned_past (passed cut.behind) (passed cut.before) (place, Empty) (cut.place, Empty)
    ∙ ap (λ t. (t ++ passed cut.before) ++ (cut.place, Empty) ∷ []) (sym (map-append (λ e. (e.0, cleared e.1)) cut.behind ((place, Empty) ∷ []))))
past-empty place n m rest None None e f = refl

past-set : (place n m : ℕ) (rest : Circle) (clear standing : Option Cut) → n ≡ suc (length rest)
    → swept n (option_map (with_first (place, Set)) clear) (Some (record { before = []; place = place; behind = rest }))
    ≡ option_map (later 1) (swept m (or_last is_clear (place, Clear) rest clear) standing)
past-set place n m rest (Some cut) standing e = same_swept _ _ _ _ _ (omega arith) (turned_past cut.behind (passed cut.before) (place, Clear) (cut.place, Empty))
past-set place n m rest None standing e = same_swept _ _ _ _ _ (omega arith) (ap (λ t. t ++ (place, Empty) ∷ []) (append-nil (passed rest)))

pub turn-none : (circle : Circle) → (turned circle).0 ≡ None → victim circle ≡ option_map (later 1) (victim (turned circle).1)
unfolding victim first_cut
turn-none [] h = refl
turn-none ((place, Empty) ∷ rest) h =
    let size : length (rest ++ (place, Empty) ∷ []) ≡ length rest + 1 = length-append rest ((place, Empty) ∷ []) in
    rw (cut-append is_clear rest (place, Empty), cut-append stands rest (place, Empty), size)
    (past-empty place (suc (length rest)) (length rest) rest (first_cut is_clear rest) (first_cut stands rest) (omega arith) (omega arith))
turn-none ((place, Clear) ∷ rest) h = absurd (cc)
turn-none ((place, Set) ∷ rest) h =
    rw (cut-append is_clear rest (place, Clear))
    (past-set place (suc (length rest)) (length (rest ++ (place, Clear) ∷ [])) rest (first_cut is_clear rest) (first_cut stands (rest ++ (place, Clear) ∷ [])) refl)

pub turn-found : (circle : Circle) (found : ℕ) → (turned circle).0 ≡ Some found → victim circle ≡ Some (record { place = found; steps = 1; clock = (turned circle).1 })
unfolding victim first_cut
turn-found [] found h = absurd (cc)
turn-found ((place, Empty) ∷ rest) found h = absurd (cc)
turn-found ((place, Clear) ∷ rest) found h =
    let same : place ≡ found = cc in
    rw (← same) (same_swept _ _ _ _ _ refl (ap (λ t. t ++ (place, Empty) ∷ []) (append-nil rest)))
turn-found ((place, Set) ∷ rest) found h = absurd (cc)

-- a turn leaves as many places
pub length-turned : (circle : Circle) → length (turned circle).1 ≡ length circle
length-turned [] = refl
length-turned (e ∷ circle) = omega (arith, length-append {A = ℕ × Slot})

-- ---- what a sweep keeps, in the words of its loop

pub later_later : (m n : ℕ) (v : Swept) → later n (later m v) ≡ later (m + n) v
later_later m n v = ap (λ s. record { place = v.place; steps = s; clock = v.clock }) (omega arith)

pub later_none : (v : Swept) → later 0 v ≡ v
later_none v = ap (λ s. record { place = v.place; steps = s; clock = v.clock }) (omega arith)

option_later : (o : Option Swept) (n : ℕ) (v : Swept) → option_map (later n) o ≡ Some v → (w : Swept) × (o ≡ Some w) × (v ≡ later n w)
option_later None n v h = absurd (cc)
option_later (Some w) n v h = (w, refl, cc)

-- from a sweep that goes on: the sweep of the next circle, one step shorter
pub sweep_on : (circle next : Circle) (v : Swept) → victim circle ≡ Some v → (None, next) ≡ turned circle → (w : Swept) × (victim next ≡ Some w) × (v ≡ later 1 w)
sweep_on circle next v h e =
    let none : (turned circle).0 ≡ None = ap (λ t. t.0) (sym e) in
    let same : (turned circle).1 ≡ next = ap (λ t. t.1) (sym e) in
    let step = turn-none circle none in
    option_later (victim next) 1 v (rw (← same) (sym step ∙ h))

-- from a sweep that ends
pub sweep_ends : (circle next : Circle) (place : ℕ) (v : Swept) → victim circle ≡ Some v → (Some place, next) ≡ turned circle → v ≡ record { place = place; steps = 1; clock = next }
sweep_ends circle next place v h e =
    let found : (turned circle).0 ≡ Some place = ap (λ t. t.0) (sym e) in
    let same : (turned circle).1 ≡ next = ap (λ t. t.1) (sym e) in
    let step = turn-found circle place found in
    rw (← same) (cc)

-- ---- what callers need to sweep again

-- a place that gets a bit leaves all that stand
touched_stands : (b : Bool) (slot : Slot) (rest rest' : Bool) → (rest ≡ true → rest' ≡ true) → stands slot || rest ≡ true → stands (cond b Set slot) || rest' ≡ true
touched_stands true slot rest rest' on h = refl
touched_stands false Empty rest rest' on h = on h
touched_stands false Clear rest rest' on h = refl
touched_stands false Set rest rest' on h = refl

pub stands-touched : (place : ℕ) (circle : Circle) → any_stands circle ≡ true → any_stands (touched place circle) ≡ true
stands-touched place [] h = absurd (cc)
stands-touched place (e ∷ circle) h = touched_stands (e.0 == place) e.1 (any_stands circle) (any_stands (touched place circle)) (stands-touched place circle) h

-- a victim that is put back stands
pub stands-inserted : (place : ℕ) (circle : Circle) → any_stands (inserted place (circle ++ (place, Empty) ∷ [])) ≡ true
stands-inserted place [] = rw (eq-eqb place place refl) refl
stands-inserted place (e ∷ circle) = elim (stands (cond (e.0 == place) Set e.1)) as (λ b. b || any_stands (inserted place (circle ++ (place, Empty) ∷ [])) ≡ true) [ true ↦ refl | false ↦ stands-inserted place circle ]

swept_ends : (n : ℕ) (clear standing : Option Cut) (v : Swept) → swept n clear standing ≡ Some v → (front : Circle) × (v.clock ≡ front ++ (v.place, Empty) ∷ [])
swept_ends n (Some cut) standing v h = let same : v ≡ record { place = cut.place; steps = length cut.before + 1; clock = cut.behind ++ passed cut.before ++ (cut.place, Empty) ∷ [] } = cc in
    (cut.behind ++ passed cut.before, rw same refl)
swept_ends n None (Some cut) v h = let same : v ≡ record { place = cut.place; steps = n + (length cut.before + 1); clock = passed cut.behind ++ passed cut.before ++ (cut.place, Empty) ∷ [] } = cc in
    (passed cut.behind ++ passed cut.before, rw same refl)
swept_ends n None None v h = absurd (cc)

pub stands-victim : (circle : Circle) (v : Swept) → victim circle ≡ Some v → any_stands (inserted v.place v.clock) ≡ true
unfolding victim
stands-victim circle v h =
    let end = swept_ends (length circle) (first_cut is_clear circle) (first_cut stands circle) v h in
    rw end.1 (stands-inserted v.place end.0)

pub length-with_slot : (place : ℕ) (slot : Slot) (circle : Circle) → length (with_slot place slot circle) ≡ length circle
length-with_slot place slot [] = refl
length-with_slot place slot (e ∷ circle) = ap suc (length-with_slot place slot circle)

pub length-new : (k n : ℕ) → length (places_from k n) ≡ n
length-new k zero = refl
length-new k (suc n) = ap suc (length-new (k + 1) n)

-- the last place of a new clock
places-last : (k n : ℕ) → places_from k (suc n) ≡ places_from k n ++ (k + n, Empty) ∷ []
places-last k zero = ap (λ i. (i, Empty) ∷ []) (omega arith)
places-last k (suc n) = ap (λ t. (k, Empty) ∷ t) (places-last (k + 1) n ∙ ap (λ i. places_from (k + 1) n ++ (i, Empty) ∷ []) (omega arith))

pub stands-last : (n place : ℕ) → n ≡ place + 1 → any_stands (inserted place (places_from 0 n)) ≡ true
stands-last n place e =
    let last : places_from 0 n ≡ places_from 0 place ++ (place, Empty) ∷ [] =
    ap (places_from 0) (let s : n ≡ suc place = omega arith in s) ∙ places-last 0 place ∙ ap (λ i. places_from 0 place ++ (i, Empty) ∷ []) (omega arith) in
    rw last (stands-inserted place (places_from 0 place))
