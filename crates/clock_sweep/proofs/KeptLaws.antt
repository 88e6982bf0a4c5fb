-- What a change of one slot leaves of what a clock keeps, and the lowest empty place by it.
use Rattle.std.proofs.Common.{◌≡◌, ◌≢◌, ℕ, ◌+◌, ◌-◌, ◌<◌, ◌≤◌, ◌^◌, inl, inr, ◌⊎◌, true, false, cond, min, replicate, zero, suc, List, length, take, drop, get_or, set, refl, sym, ap, ◌∙◌, arith}
use Rattle.std.specs.Prelude.{Option, Some, None, sum_by, ◌==◌}
use Rattle.std.specs.List.{position}
use Rattle.std.specs.Global.{Vec}
use Rattle.std.specs.Vec.{with_items}
use Rattle.std.proofs.lemmas.Bool.{cases_eq, cases_lt, eqb-true, eq-eqb, false_from_ne_true}
use Rattle.std.proofs.lemmas.List.{with_items_is, length-set, length-replicate, length-drop, take_all, get_or-drop, get_or-set_same, get_or-set_other}
use Rattle.std.proofs.lemmas.List.Quantifiers.{position-Some}
use Rattle.std.proofs.lemmas.List.Sums.{sum_by-cons, sum_by-set, sum_by-le, get_or-le-sum_by}
use Rattle.clock_sweep.specs.declared.clock.Slot.{Slot}
use Rattle.clock_sweep.specs.declared.clock.Slot.TheVariants.{Empty, Clear, Set}
use Rattle.clock_sweep.specs.Clock.{is_empty, lowest_empty}
use Rattle.clock_sweep.specs.Circles.{numbered, vacancy, IsKept, left_behind, found_at, low_after, vacant_found, low_found}
use Rattle.clock_sweep.proofs.CircleLaws.{first-lowest, none-lowest, none_found}

-- ---- the count

at_most_one : (slot : Slot) → vacancy slot ≤ 1
at_most_one Empty = omega arith
at_most_one Clear = omega arith
at_most_one Set = omega arith

pub vacancies : (slots : List Slot) → sum_by vacancy slots ≤ length slots
vacancies slots = let most = sum_by-le vacancy 1 slots (λ k d inside. at_most_one (get_or slots k d)) in omega arith

-- ---- one slot changes

pub kept-set : (slots : List Slot) (hand vacant low place : ℕ) (slot : Slot) (hand' vacant' low' : ℕ) → IsKept slots hand vacant low → place < length slots → hand' ≤ length slots
    → vacant' + vacancy (get_or slots place Empty) ≡ vacant + vacancy slot → low' ≤ length slots
    → (place < low' → is_empty slot ≡ false) → ((k : ℕ) → k < low' → k ≢ place → k < low)
    → IsKept (set slots place slot) hand' vacant' low'
kept-set slots hand vacant low place slot hand' vacant' low' kept inside hand_in count low_in here others =
    let size = length-set slots place slot in
    let sum = sum_by-set vacancy slots place slot Empty inside in
    let counted = kept.counted in
    record {
      hand_in = rw size hand_in;
      few = rw size kept.few;
      counted = omega arith;
      low_in = rw size low_in;
      standing = λ k less. elim (cases_eq k place) [
        | inl e ↦ rw (e, get_or-set_same slots place slot Empty inside) (here (omega arith))
        | inr n ↦ rw (get_or-set_other slots place k slot Empty n) (kept.standing k (others k less n))
      ];
    }

-- where a place that is not empty is the low one, the next is it
raised : (low place : ℕ) → ((low ≡ place) × (cond (low == place) (place + 1) low ≡ place + 1)) ⊎ (cond (low == place) (place + 1) low ≡ low)
raised low place = elim (cases_eq low place) [
  | inl e ↦ inl (e, rw (eq-eqb low place e) refl)
  | inr n ↦ inr (rw (false_from_ne_true (low == place) (λ t. n (eqb-true low place t))) refl)
]

raised-put : (slots : List Slot) (hand vacant low place : ℕ) (slot : Slot) (vacant' : ℕ) → IsKept slots hand vacant low → place < length slots
    → vacant' + vacancy (get_or slots place Empty) ≡ vacant + vacancy slot → is_empty slot ≡ false
    → IsKept (set slots place slot) hand vacant' (cond (low == place) (place + 1) low)
raised-put slots hand vacant low place slot vacant' kept inside count full =
    let low_in = kept.low_in in
    elim (raised low place) [
      | inl e ↦ let up = e.1 in let same = e.0 in kept-set slots hand vacant low place slot hand vacant' (cond (low == place) (place + 1) low) kept inside kept.hand_in count (omega arith) (λ less. full) (λ k less n. omega arith)
      | inr same ↦ kept-set slots hand vacant low place slot hand vacant' (cond (low == place) (place + 1) low) kept inside kept.hand_in count (omega arith) (λ less. full) (λ k less n. omega arith)
    ]

-- a place gets a slot
pub kept-put : (slots : List Slot) (hand vacant low place : ℕ) (slot : Slot) (vacant' : ℕ) → IsKept slots hand vacant low → place < length slots
    → vacant' + vacancy (get_or slots place Empty) ≡ vacant + vacancy slot
    → IsKept (set slots place slot) hand vacant' (low_after low place slot)
kept-put slots hand vacant low place Empty vacant' kept inside count =
    let low_in = kept.low_in in
    kept-set slots hand vacant low place Empty hand vacant' (min low place) kept inside kept.hand_in count (omega arith) (λ less. absurd (omega arith)) (λ k less n. omega arith)
kept-put slots hand vacant low place Clear vacant' kept inside count = raised-put slots hand vacant low place Clear vacant' kept inside count refl
kept-put slots hand vacant low place Set vacant' kept inside count = raised-put slots hand vacant low place Set vacant' kept inside count refl

-- no place below low is empty
low_stands : (slots : List Slot) (hand vacant low place : ℕ) → IsKept slots hand vacant low → is_empty (get_or slots place Empty) ≡ true → low ≤ place
low_stands slots hand vacant low place kept empty = elim (cases_lt place low) [ inl less ↦ absurd (let full = kept.standing place less in cc) | inr more ↦ more ]

-- a look of a sweep at a place
pub kept-look : (slots : List Slot) (hand vacant low place : ℕ) → IsKept slots hand vacant low → place < length slots
    → IsKept (set slots place (left_behind (get_or slots place Empty))) (place + 1) (vacant_found vacant (found_at (get_or slots place Empty) place)) (low_found low place (found_at (get_or slots place Empty) place))
kept-look slots hand vacant low place kept inside = look (get_or slots place Empty) refl
  where
    look : (slot : Slot) → get_or slots place Empty ≡ slot
        → IsKept (set slots place (left_behind slot)) (place + 1) (vacant_found vacant (found_at slot place)) (low_found low place (found_at slot place))
    look Empty e =
        let low_in = kept.low_in in
        let above = low_stands slots hand vacant low place kept (ap is_empty e) in
        kept-set slots hand vacant low place Empty (place + 1) vacant low kept inside (omega arith) (ap (λ s. vacant + vacancy s) e) low_in (λ less. absurd (omega arith)) (λ k less n. less)
    look Clear e =
        let low_in = kept.low_in in
        kept-set slots hand vacant low place Empty (place + 1) (vacant + 1) (min low place) kept inside (omega arith) (ap (λ s. vacant + 1 + vacancy s) e ∙ omega arith) (omega arith) (λ less. absurd (omega arith)) (λ k less n. omega arith)
    look Set e =
        kept-set slots hand vacant low place Clear (place + 1) vacant low kept inside (omega arith) (ap (λ s. vacant + vacancy s) e) kept.low_in (λ less. refl) (λ k less n. less)

-- ---- the lowest empty place

vacancy-none : (slot : Slot) → vacancy slot ≤ 0 → is_empty slot ≡ false
vacancy-none Empty h = absurd (omega arith)
vacancy-none Clear h = refl
vacancy-none Set h = refl

-- where none is counted
pub full-lowest : (slots : List Slot) (hand vacant low : ℕ) → IsKept slots hand vacant low → vacant ≡ 0 → lowest_empty (numbered 0 slots) ≡ None
full-lowest slots hand vacant low kept none = none-lowest 0 slots (λ j less.
    let one = get_or-le-sum_by vacancy slots j Empty less in
    let counted = kept.counted in
    vacancy-none (get_or slots j Empty) (omega arith))

-- the first empty slot from low on
pub found-lowest : (slots : List Slot) (hand vacant low i : ℕ) → IsKept slots hand vacant low → position is_empty (drop low slots) ≡ Some i → lowest_empty (numbered 0 slots) ≡ Some (low + i)
found-lowest slots hand vacant low i kept h =
    let at = position-Some is_empty (drop low slots) i Empty h in
    let size = length-drop low slots in
    let inside = at.0 in
    first-lowest 0 slots (low + i) (omega arith) (ap is_empty (sym (get_or-drop low slots i Empty)) ∙ at.1) (λ j less. elim (cases_lt j low) [
      | inl below ↦ kept.standing j below
      | inr above ↦
          let moved : get_or (drop low slots) (j - low) Empty ≡ get_or slots j Empty = get_or-drop low slots (j - low) Empty ∙ ap (λ n. get_or slots n Empty) (omega arith) in
          ap is_empty (sym moved) ∙ at.2 (j - low) (omega arith)
    ]) ∙ ap Some (omega arith)

pub missed-lowest : (slots : List Slot) (hand vacant low : ℕ) → IsKept slots hand vacant low → position is_empty (drop low slots) ≡ None → lowest_empty (numbered 0 slots) ≡ None
missed-lowest slots hand vacant low kept h =
    let size = length-drop low slots in
    none-lowest 0 slots (λ j inside. elim (cases_lt j low) [
      | inl below ↦ kept.standing j below
      | inr above ↦
          let moved : get_or (drop low slots) (j - low) Empty ≡ get_or slots j Empty = get_or-drop low slots (j - low) Empty ∙ ap (λ n. get_or slots n Empty) (omega arith) in
          ap is_empty (sym moved) ∙ none_found (drop low slots) h (j - low) (omega arith)
    ])

-- what a vector holds after one place of it was written
pub written : {A : Type 0} (v : Vec A) (old new : List A) (k : ℕ) (x : A) → old ≡ v.items → new ≡ set old k x → (with_items v new).items ≡ set v.items k x
written v old new k x e f =
    let kept : length new ≡ length v.items = ap length f ∙ length-set old k x ∙ ap length e in
    let size = v.ok.0 in
    with_items_is v new (omega arith) ∙ f ∙ ap (λ xs. set xs k x) e

-- what a clock keeps after a look of a sweep at a place of its vector
pub after_look : (v : Vec Slot) (hand vacant low place : ℕ) (old new : List Slot) (found : Option ℕ) (vacant' low' : ℕ) → IsKept v.items hand vacant low → place < length v.items
    → old ≡ v.items → found ≡ found_at (get_or old place Empty) place → new ≡ set old place (left_behind (get_or old place Empty))
    → vacant' ≡ vacant_found vacant found → low' ≡ low_found low place found
    → IsKept (with_items v new).items (place + 1) vacant' low'
after_look v hand vacant low place old new found vacant' low' kept inside e found-is new-is vacant-is low-is =
    let here : found ≡ found_at (get_or v.items place Empty) place = found-is ∙ ap (λ xs. found_at (get_or xs place Empty) place) e in
    let slots = written v old new place (left_behind (get_or v.items place Empty)) e (new-is ∙ ap (λ xs. set old place (left_behind (get_or xs place Empty))) e) in
    rw (slots, vacant-is, low-is, here) (kept-look v.items hand vacant low place kept inside)

-- ---- a new clock

vacancies-replicate : (n : ℕ) → sum_by vacancy (replicate n Empty) ≡ n
vacancies-replicate zero = refl
vacancies-replicate (suc n) = let rest = vacancies-replicate n in sum_by-cons vacancy Empty (replicate n Empty) ∙ omega arith

pub kept-new : (n : ℕ) → n < 2 ^ 32 → IsKept (replicate n Empty) 0 n 0
kept-new n few = record {
  hand_in = omega arith;
  few = rw length-replicate few;
  counted = sym (vacancies-replicate n);
  low_in = omega arith;
  standing = λ k less. absurd (omega arith);
}

-- what a search from low on looks at
pub searched : (old items : List Slot) (low : ℕ) (result : Option ℕ) → result ≡ position is_empty (take (length old - low) (drop low old)) → old ≡ items → position is_empty (drop low items) ≡ result
searched old items low result h e =
    let size = length-drop low old in
    let whole : take (length old - low) (drop low old) ≡ drop low old = take_all (length old - low) (drop low old) (omega arith) in
    ap (λ xs. position is_empty (drop low xs)) (sym e) ∙ ap (position is_empty) (sym whole) ∙ sym h
