-- Copies in DRAM that are loaded, written or dropped, with no device call: the facts stay.
use Rattle.std.proofs.Common.{◌≡◌, ◌⊎◌, ℕ, Bool, true, false, ◌&&◌, List, refl, sym, ap, ◌∙◌, subst, inl, inr, eqb, Option, Some, None}
use Rattle.std.proofs.lemmas.Bool.{cases_eq, cases_Bool, and_parts, eqb-true, cond-true, cond-false}
use Rattle.nvm_model.specs.declared.line.Line.{Line}
use Rattle.devices.specs.State.{State, Image, Leaves, current}
use Rattle.store_model.specs.Log.{Words}
use Rattle.store_model.specs.Format.{word_in}
use Rattle.store_model.specs.Recovered.{home}
use Rattle.store_model.specs.StoreFacts.{Bookkeeping, IsWord, is_written, StoreFacts}
use Rattle.store_model.specs.Copies.{with_copy, with_line, CanWriteCopy, IsLoaded, copy_loaded, copy_dropped, copy_written}
use Rattle.store_model.specs.Pending.{PendingStands}
use Rattle.home_laws.proofs.FactsLaws.{current_leaves}
use Rattle.home_laws.proofs.SeenLaws.{facts_by_images, facts_written}

-- Other copies and other current words keep the facts, where each word that is not written has its current word as before,
-- and its home in each copy.
pub copies_facts : (b : Bookkeeping) (s : State) → StoreFacts b s → (words : Words) (copy : ℕ → ℕ → Option Line)
    → ((i : Image) → Leaves s i → (p l w : ℕ) → IsWord b.sizes p l w → is_written b i p l w ≡ false → b.current p l w ≡ words p l w)
    → ((i : Image) → Leaves s i → (p l w : ℕ) (line : Line) → IsWord b.sizes p l w → copy p l ≡ Some line → is_written b i p l w ≡ false → word_in line w ≡ home i p l w)
    → StoreFacts (record b { current = words; copy = copy }) s
copies_facts b s facts words copy same right = facts_by_images (record b { current = words; copy = copy }) s
    (record { sizes = facts.gates.sizes; others = facts.gates.others; changing = facts.gates.changing })
    (λ i left. record {
      sizes = facts.sizes i left;
      durable = record { log = (facts.durable i left).log; homes = (facts.durable i left).homes };
      homes = record {
        current = λ p l w word h. (facts.homes i left).current p l w word h ∙ same i left p l w word h;
        committed = (facts.homes i left).committed;
      };
      log = record { logged = (facts.log i left).logged; pending = (facts.log i left).pending };
      copies = right i left;
      store = facts.stores i left;
    })

-- what stands of the pending records has nothing to do with them
pub copies_stand : (b : Bookkeeping) (s : State) (lines : List Line) → PendingStands b s lines → (words : Words) (copy : ℕ → ℕ → Option Line) → PendingStands (record b { current = words; copy = copy }) s lines
copies_stand b s lines stands words copy = record {
  behind = record { room = stands.behind.room; flushed = stands.behind.flushed; are_lines = stands.behind.are_lines; passes = stands.behind.passes };
  holds = stands.holds;
  right = stands.right;
}

-- a copy that is put at one line: it is there, and the others are as they were
pub copy_here : (copy : ℕ → ℕ → Option Line) (page line : ℕ) (value : Option Line) (p l : ℕ) (x : Line) → with_copy copy page line value p l ≡ Some x
    → ((p ≡ page) × (l ≡ line) × (value ≡ Some x)) ⊎ (copy p l ≡ Some x)
copy_here copy page line value p l x h = elim (cases_Bool (eqb p page && eqb l line)) [
  | inl here ↦
      (let parts : (eqb p page ≡ true) × (eqb l line ≡ true) = and_parts (eqb p page) (eqb l line) here in
      inl (eqb-true p page parts.0, eqb-true l line parts.1, sym (cond-true (eqb p page && eqb l line) value (copy p l) here) ∙ h))
  | inr other ↦ inr (sym (cond-false (eqb p page && eqb l line) value (copy p l) other) ∙ h)
]

pub some_line : (x y : Line) → Some x ≡ Some y → x ≡ y
some_line x y e = cc

-- A copy is loaded from its home.
pub copy_loaded_facts : (b : Bookkeeping) (s : State) → StoreFacts b s → b.changing ≡ None → (page line : ℕ) (value : Line) → IsLoaded b s page line value
    → StoreFacts (copy_loaded b page line value) s
copy_loaded_facts b s facts still page line value loaded = copies_facts b s facts b.current (with_copy b.copy page line (Some value)) (λ i left p l w word h. refl)
    (λ i left p l w x word at h. elim (copy_here b.copy page line (Some value) p l x at) [
      | inr before ↦ facts.copies i left p l w x word before h
      | inl here ↦
          (let word' : IsWord b.sizes page line w = subst (λ n. IsWord b.sizes page n w) here.1 (subst (λ n. IsWord b.sizes n l w) here.0 word) in
          ap (λ (y : Line). word_in y w) (sym (some_line value x here.2)) ∙ loaded w word'
          ∙ ap (λ n. home (current s) n line w) (sym here.0) ∙ ap (λ n. home (current s) p n w) (sym here.1)
          ∙ (facts.homes (current s) (current_leaves s)).current p l w word (sym (facts_written b s facts still i left p l w) ∙ h)
          ∙ sym ((facts.homes i left).current p l w word h))
    ])

-- A copy is dropped.
pub copy_dropped_facts : (b : Bookkeeping) (s : State) → StoreFacts b s → (page line : ℕ) → StoreFacts (copy_dropped b page line) s
copy_dropped_facts b s facts page line = copies_facts b s facts b.current (with_copy b.copy page line None) (λ i left p l w word h. refl)
    (λ i left p l w x word at h. elim (copy_here b.copy page line None p l x at) [
      | inr before ↦ facts.copies i left p l w x word before h
      | inl here ↦ absurd (none_some x here.2)
    ])
  where
    none_some : (x : Line) → None ≡ Some x → ⊥
    none_some x e = cc

-- A copy gets another value, which is the current line from then on.
pub copy_written_facts : (b : Bookkeeping) (s : State) → StoreFacts b s → (page line : ℕ) (old new : Line) → CanWriteCopy b s page line old new → StoreFacts (copy_written b page line new) s
copy_written_facts b s facts page line old new can = copies_facts b s facts (with_line b.current page line new) (with_copy b.copy page line (Some new))
    (λ i left p l w word h. elim (cases_Bool (eqb p page && eqb l line)) [
      | inr other ↦ sym (cond-false (eqb p page && eqb l line) (word_in new w) (b.current p l w) other)
      | inl here ↦
          (let parts : (eqb p page ≡ true) × (eqb l line ≡ true) = and_parts (eqb p page) (eqb l line) here in
          sym ((facts.homes i left).current p l w word h) ∙ sym (as_home i left p l w word h (eqb-true p page parts.0) (eqb-true l line parts.1))
          ∙ sym (cond-true (eqb p page && eqb l line) (word_in new w) (b.current p l w) here))
    ])
    (λ i left p l w x word at h. elim (copy_here b.copy page line (Some new) p l x at) [
      | inr before ↦ facts.copies i left p l w x word before h
      | inl here ↦ ap (λ (y : Line). word_in y w) (sym (some_line new x here.2)) ∙ as_home i left p l w word h here.0 here.1
    ])
  where
    true_false : {x : Bool} → x ≡ true → x ≡ false → ⊥
    true_false e f = cc

    -- a word that is not written is the old one, and that is the home
    as_home : (i : Image) → Leaves s i → (p l w : ℕ) → IsWord b.sizes p l w → is_written b i p l w ≡ false → p ≡ page → l ≡ line → word_in new w ≡ home i p l w
    as_home i left p l w word h e f =
        let word' : IsWord b.sizes page line w = subst (λ n. IsWord b.sizes page n w) f (subst (λ n. IsWord b.sizes n l w) e word) in
        let h' : is_written b i page line w ≡ false = subst (λ n. is_written b i page n w ≡ false) f (subst (λ n. is_written b i n l w ≡ false) e h) in
        elim (cases_eq (word_in new w) (word_in old w)) [
          | inr differs ↦ absurd (true_false (can.words i left w word' differs) h')
          | inl same ↦ same ∙ facts.copies i left page line w old word' can.resident h' ∙ ap (λ n. home i n line w) (sym e) ∙ ap (λ n. home i p n w) (sym f)
        ]
