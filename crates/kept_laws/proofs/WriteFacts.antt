-- A write to a line that has a copy in DRAM, with batched records: its record is appended behind the tail, with no fence, and
-- then the copy gets the new line. The facts hold at each moment, and all else that a store keeps between its calls.
use Rattle.std.proofs.Common.{◌≡◌, ℕ, ◌+◌, Bool, true, false, ◌||◌, ◌&&◌, List, [], ◌∷◌, ◌++◌, length, refl, sym, ap, ◌∙◌, subst, inl, inr, eqb, Some, None}
use Rattle.std.proofs.lemmas.Bool.{cases_Bool, and_parts, eqb-true, eq-eqb, cond-true, cond-false}
use Rattle.std.specs.Int.{bit_at}
use Rattle.nvm_model.specs.declared.line.Line.{Line}
use Rattle.devices.specs.State.{State, current, after_all, Amid}
use Rattle.store_model.specs.Log.{Words, Change, names, named_in, is_logged}
use Rattle.store_model.specs.Log.Item.{write}
use Rattle.store_model.specs.Log.Entry.{item}
use Rattle.store_model.specs.Format.{word_in}
use Rattle.store_model.specs.Recovered.{super_of, log_of}
use Rattle.store_model.specs.StoreFacts.{Bookkeeping, IsWord, StoreFacts}
use Rattle.store_model.specs.Put.{put_calls}
use Rattle.store_model.specs.Pending.{PendingStands, EndsRight, pending_with, CanPutEntry}
use Rattle.store_model.specs.Copies.{with_copy, with_line, CanWriteCopy, RecordsWrite, after_write}
use Rattle.store_model.specs.Shown.{ShowsCurrent}
use Rattle.log_laws.proofs.PendingFacts.{append_pending_facts, append_pending_done, append_pending_stands}
use Rattle.log_laws.proofs.EndsFacts.{has_before, append_ends}
use Rattle.kept_laws.proofs.CopyFacts.{copies_stand, copy_written_facts, copy_here, some_line}
use Rattle.log_laws.proofs.LengthenedFacts.{append_lengthened}

pub named_last : (cs : List Change) (c : Change) (p l w : ℕ) → names c p l w ≡ true → named_in (cs ++ c ∷ []) p l w ≡ true
named_last [] c p l w h = rw h refl
named_last (x ∷ cs) c p l w h = or_right (names x p l w) (named_in (cs ++ c ∷ []) p l w) (named_last cs c p l w h)
  where
    or_right : (x y : Bool) → y ≡ true → (x || y) ≡ true
    or_right true y e = refl
    or_right false y e = e

-- the words with one line changed
pub with_line-here : (words : Words) (page line : ℕ) (value : Line) (p l w : ℕ) → p ≡ page → l ≡ line → with_line words page line value p l w ≡ word_in value w
with_line-here words page line value p l w e f = cond-true (eqb p page && eqb l line) (word_in value w) (words p l w) (rw (eq-eqb p page e, eq-eqb l line f) refl)

pub with_line-other : (words : Words) (page line : ℕ) (value : Line) (p l w : ℕ) → (eqb p page && eqb l line) ≡ false → with_line words page line value p l w ≡ words p l w
with_line-other words page line value p l w h = cond-false (eqb p page && eqb l line) (word_in value w) (words p l w) h

module _ (b : Bookkeeping) (s : State) (facts : StoreFacts b s) (still : b.changing ≡ None) (lines : List Line) (stands : PendingStands b s lines) (ends : EndsRight b s) (shows : ShowsCurrent b s)
    (page line : ℕ) (old new : Line) (c : Change) (records : RecordsWrite b page line old new c)
    (ys : List Line) (can : CanPutEntry b s (length lines) ys (item (write c))) where
  abbrev written : State
  written = after_all (put_calls b.sizes ((super_of (current s)).tail + length lines) ys) s

  -- what the record names is of this line
  of_line : (p l w : ℕ) → names c p l w ≡ true → (p ≡ page) × (l ≡ line)
  of_line p l w h =
      let first : (eqb c.page p ≡ true) × ((eqb c.line l && eqb (bit_at c.mask w) 1) ≡ true) = and_parts (eqb c.page p) (eqb c.line l && eqb (bit_at c.mask w) 1) h in
      let second : (eqb c.line l ≡ true) × (eqb (bit_at c.mask w) 1 ≡ true) = and_parts (eqb c.line l) (eqb (bit_at c.mask w) 1) first.1 in
      (sym (eqb-true c.page p first.0) ∙ records.page_is, sym (eqb-true c.line l second.0) ∙ records.line_is)

  here : (p l w : ℕ) → p ≡ page → l ≡ line → IsWord b.sizes p l w → IsWord b.sizes page line w
  here p l w e f word = subst (λ n. IsWord b.sizes page n w) f (subst (λ n. IsWord b.sizes n l w) e word)

  -- At each moment of the append the facts are those from before.
  pub write_facts : (mid : State) → Amid s (put_calls b.sizes ((super_of (current s)).tail + length lines) ys) mid → StoreFacts b mid
  write_facts = append_pending_facts b s facts still lines stands c ys can

  can_write : CanWriteCopy (pending_with b c) written page line old new
  can_write = record {
    resident = records.resident;
    words = λ i left w word differs. elim (cases_Bool (names c page line w)) [
      | inl named ↦ or_right (is_logged (log_of b.format i) page line w) (named_in (b.pending ++ c ∷ []) page line w) (named_last b.pending c page line w named)
      | inr unnamed ↦ absurd (differs (records.rest w word unnamed))
    ];
  }
    where
      or_right : (x y : Bool) → y ≡ true → (x || y) ≡ true
      or_right true y e = refl
      or_right false y e = e

  -- When the copy has the new line the facts hold with it, and with the record pending,
  pub write_done : StoreFacts (after_write b page line new c) written
  write_done = copy_written_facts (pending_with b c) written (append_pending_done b s facts still lines stands c ys can) page line old new can_write

  -- its lines stand behind the others,
  pub write_stands : PendingStands (after_write b page line new c) written (lines ++ ys)
  write_stands = copies_stand (pending_with b c) written (lines ++ ys)
      (append_pending_stands b s facts still lines stands c ys can (has_before b s facts still lines stands ends c (λ p l w word named.
      let at : (p ≡ page) × (l ≡ line) = of_line p l w named in
      let word' : IsWord b.sizes page line w = here p l w at.0 at.1 word in
      let named' : names c page line w ≡ true = subst (λ n. names c page n w ≡ true) at.1 (subst (λ n. names c n l w ≡ true) at.0 named) in
      records.before w word' named' ∙ shows.copies page line w old word' records.resident ∙ ap (λ n. b.current n line w) (sym at.0) ∙ ap (λ n. b.current p n w) (sym at.1))))
      (with_line b.current page line new) (with_copy b.copy page line (Some new))

  -- a commit would give the new line,
  pub write_ends : EndsRight (after_write b page line new c) written
  write_ends = append_ends b s facts still lines stands ends c ys can (with_line b.current page line new) (with_copy b.copy page line (Some new))
      (λ p l w word named.
      let at : (p ≡ page) × (l ≡ line) = of_line p l w named in
      let word' : IsWord b.sizes page line w = here p l w at.0 at.1 word in
      let named' : names c page line w ≡ true = subst (λ n. names c page n w ≡ true) at.1 (subst (λ n. names c n l w ≡ true) at.0 named) in
      records.after w word' named' ∙ sym (with_line-here b.current page line new p l w at.0 at.1))
      (λ p l w word unnamed. elim (cases_Bool (eqb p page && eqb l line)) [
        | inr other ↦ sym (with_line-other b.current page line new p l w other)
        | inl same ↦
            (let parts : (eqb p page ≡ true) × (eqb l line ≡ true) = and_parts (eqb p page) (eqb l line) same in
            let e : p ≡ page = eqb-true p page parts.0 in
            let f : l ≡ line = eqb-true l line parts.1 in
            let word' : IsWord b.sizes page line w = here p l w e f word in
            let unnamed' : names c page line w ≡ false = subst (λ n. names c page n w ≡ false) f (subst (λ n. names c n l w ≡ false) e unnamed) in
            ap (λ n. b.current n l w) e ∙ ap (λ n. b.current page n w) f ∙ sym (shows.copies page line w old word' records.resident) ∙ sym (records.rest w word' unnamed')
            ∙ sym (with_line-here b.current page line new p l w e f))
      ])

  -- and the copies and loads give the current words.
  pub write_shows : ShowsCurrent (after_write b page line new c) written
  write_shows = record {
    copies = λ p l w x word at. elim (copy_here b.copy page line (Some new) p l x at) [
      | inl put ↦ ap (λ (y : Line). word_in y w) (sym (some_line new x put.2)) ∙ sym (with_line-here b.current page line new p l w put.0 put.1)
      | inr before ↦ elim (cases_Bool (eqb p page && eqb l line)) [
        | inr other ↦ shows.copies p l w x word before ∙ sym (with_line-other b.current page line new p l w other)
        | inl same ↦
            (let parts : (eqb p page ≡ true) × (eqb l line ≡ true) = and_parts (eqb p page) (eqb l line) same in
            let is_new : Some new ≡ Some x = sym (cond-true (eqb p page && eqb l line) (Some new) (b.copy p l) same) ∙ at in
            ap (λ (y : Line). word_in y w) (sym (some_line new x is_new)) ∙ sym (with_line-here b.current page line new p l w (eqb-true p page parts.0) (eqb-true l line parts.1)))
      ]
    ];
    homes = λ p l w word none. elim (cases_Bool (eqb p page && eqb l line)) [
      | inl same ↦ absurd (some_none new (sym (cond-true (eqb p page && eqb l line) (Some new) (b.copy p l) same) ∙ none))
      | inr other ↦ (append_lengthened b s facts still lines stands.behind ys can.room can.are_lines can.passes).all_pages p l w word
          ∙ shows.homes p l w word (sym (cond-false (eqb p page && eqb l line) (Some new) (b.copy p l) other) ∙ none) ∙ sym (with_line-other b.current page line new p l w other)
    ];
  }
    where
      some_none : (x : Line) → Some x ≡ None → ⊥
      some_none x e = cc
