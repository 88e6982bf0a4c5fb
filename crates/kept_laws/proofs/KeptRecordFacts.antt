-- A record that is made durable at once, whose line changes behind it.
use Rattle.std.proofs.Common.{◌≡◌, ◌⊎◌, ℕ, ◌+◌, Bool, true, false, ◌||◌, ◌&&◌, List, [], ◌∷◌, ◌++◌, length, refl, sym, ap, ◌∙◌, subst, inl, inr, arith, eqb}
use Rattle.std.proofs.lemmas.Bool.{cases_Bool, and_parts, eqb-true}
use Rattle.std.specs.Int.{bit_at}
use Rattle.nvm_model.specs.declared.line.Line.{Line}
use Rattle.devices.specs.State.{State, Image, Leaves, current, after_all}
use Rattle.store_model.specs.Log.{Change, Log, grouped, extended, names, named_in, is_logged}
use Rattle.store_model.specs.Log.Item.{write}
use Rattle.store_model.specs.Log.Entry.{item}
use Rattle.store_model.specs.Recovered.{Super, super_of, log_of}
use Rattle.store_model.specs.StoreFacts.{Bookkeeping, IsWord, is_written, StoreFacts}
use Rattle.store_model.specs.Put.{put_calls}
use Rattle.store_model.specs.Pending.{harden_calls, end_calls, PendingStands, EndsRight, pending_with, none_pending, CanPutEntry, IsConstant}
use Rattle.store_model.specs.Copies.{with_line, RecordsWrite, after_write}
use Rattle.store_model.specs.Shown.{Lengthened, ShowsCurrent, HomesFlushed}
use Rattle.store_model.specs.Kept.{KeptShown, KeptAlone, RecordsLine, after_record}
use Rattle.devices.proofs.GrowthLaws.{after_all_append}
use Rattle.log_laws.proofs.PendingFacts.{nothing_stands, append_pending_done, append_pending_stands, harden_done}
use Rattle.log_laws.proofs.EndsFacts.{log_after, has_before, append_ends, harden_ends}
use Rattle.log_laws.proofs.EndsLaws.{record_logged}
use Rattle.kept_laws.proofs.CopyFacts.{copies_facts, copies_stand}
use Rattle.kept_laws.proofs.WriteFacts.{named_last, with_line-here, with_line-other}
use Rattle.log_laws.proofs.BehindLaws.{put_super}
use Rattle.home_laws.proofs.ShownLaws.{lengthened_shows}
use Rattle.log_laws.proofs.LengthenedFacts.{append_lengthened, harden_lengthened}
use Rattle.kept_laws.proofs.KeptLogFacts.{alone_kept, write_kept, harden_kept, put_flushed, harden_flushed}

stands_none : (b : Bookkeeping) (s : State) → KeptAlone b s → PendingStands b s []
stands_none b s old = nothing_stands b s (old.shown.facts) (old.shown.still) (old.shown.alone)

-- the tail behind lines that were stored, for the state in which they stand
module _ (b : Bookkeeping) (s : State) (old : KeptAlone b s) (c : Change) (ys : List Line) (can : CanPutEntry b s 0 ys (item (write c))) where
  abbrev tail : ℕ
  tail = (super_of (current s)).tail

  abbrev put : State
  put = after_all (put_calls b.sizes (tail + 0) ys) s

  put_tail : (super_of (current put)).tail ≡ tail
  put_tail = ap (λ (x : Super). x.tail) (put_super b s old.shown.facts old.shown.still [] (stands_none b s old).behind ys can.room can.are_lines can.passes)

  put_new_tail : (super_of (current put)).tail + length ys ≡ tail + 0 + length ys
  put_new_tail = let same : (super_of (current put)).tail ≡ tail = put_tail in omega arith

  put_ended : after_all (harden_calls ((super_of (current put)).tail + length ys)) put ≡ after_all (end_calls b.sizes (tail + 0) ys) s
  put_ended = ap (λ n. after_all (harden_calls n) put) put_new_tail ∙ sym (after_all_append (put_calls b.sizes (tail + 0) ys) (harden_calls (tail + 0 + length ys)) s)

  put_constant : IsConstant b tail (tail + 0 + length ys) → IsConstant b (super_of (current put)).tail ((super_of (current put)).tail + length ys)
  put_constant constant p l w = ap (λ n. b.committed n p l w) put_new_tail ∙ constant p l w ∙ sym (ap (λ n. b.committed n p l w) put_tail)

-- A write to a line that has a copy: when its record is durable, the copy has the line.
pub write_through_kept : (b : Bookkeeping) (s : State) → KeptAlone b s → (page line : ℕ) (old new : Line) (c : Change) → RecordsWrite b page line old new c
    → (ys : List Line) → CanPutEntry b s 0 ys (item (write c)) → IsConstant b (super_of (current s)).tail ((super_of (current s)).tail + 0 + length ys)
    → KeptAlone (none_pending (after_write b page line new c)) (after_all (end_calls b.sizes ((super_of (current s)).tail + 0) ys) s)
write_through_kept b s kept page line old new c records ys can constant = subst (λ (t : State). KeptAlone (none_pending (after_write b page line new c)) t) (put_ended b s kept c ys can)
    (harden_kept (after_write b page line new c) (put b s kept c ys can) ys (write_kept b s [] (alone_kept b s kept) page line old new c records ys can) (put_constant b s kept c ys can constant))

-- A write to any line: when its record is durable, the copy or the line in its frame can change.
module _ (b : Bookkeeping) (s : State) (old : KeptAlone b s) (page line : ℕ) (new : Line) (c : Change) (records : RecordsLine b page line new c)
    (ys : List Line) (can : CanPutEntry b s 0 ys (item (write c))) where
  abbrev during : Bookkeeping
  during = record b { pending = b.pending ++ c ∷ []; current = with_line b.current page line new }

  abbrev put_state : State
  put_state = put b s old c ys can

  here : (p l w : ℕ) → p ≡ page → l ≡ line → IsWord b.sizes p l w → IsWord b.sizes page line w
  here p l w e f word = subst (λ n. IsWord b.sizes page n w) f (subst (λ n. IsWord b.sizes n l w) e word)

  of_line : (p l w : ℕ) → names c p l w ≡ true → (p ≡ page) × (l ≡ line)
  of_line p l w h =
      let first : (eqb c.page p ≡ true) × ((eqb c.line l && eqb (bit_at c.mask w) 1) ≡ true) = and_parts (eqb c.page p) (eqb c.line l && eqb (bit_at c.mask w) 1) h in
      let second : (eqb c.line l ≡ true) × (eqb (bit_at c.mask w) 1 ≡ true) = and_parts (eqb c.line l) (eqb (bit_at c.mask w) 1) first.1 in
      (sym (eqb-true c.page p first.0) ∙ records.page_is, sym (eqb-true c.line l second.0) ∙ records.line_is)

  -- what the record doesn't name is current
  unnamed : (p l w : ℕ) → IsWord b.sizes p l w → names c p l w ≡ false → b.current p l w ≡ with_line b.current page line new p l w
  unnamed p l w word none = elim (cases_Bool (eqb p page && eqb l line)) [
    | inr other ↦ sym (with_line-other b.current page line new p l w other)
    | inl same ↦
        (let parts : (eqb p page ≡ true) × (eqb l line ≡ true) = and_parts (eqb p page) (eqb l line) same in
        let e : p ≡ page = eqb-true p page parts.0 in
        let f : l ≡ line = eqb-true l line parts.1 in
        let none' : names c page line w ≡ false = subst (λ n. names c page n w ≡ false) f (subst (λ n. names c n l w ≡ false) e none) in
        ap (λ n. b.current n l w) e ∙ ap (λ n. b.current page n w) f ∙ sym (records.rest w (here p l w e f word) none') ∙ sym (with_line-here b.current page line new p l w e f))
  ]

  put_facts : StoreFacts during put_state
  put_facts = copies_facts (pending_with b c) put_state (append_pending_done b s old.shown.facts old.shown.still [] (stands_none b s old) c ys can) (with_line b.current page line new) b.copy
      (λ i left p l w word h. unnamed p l w word (not_named i p l w h (cases_Bool (names c p l w))))
      ((append_pending_done b s old.shown.facts old.shown.still [] (stands_none b s old) c ys can).copies)
    where
      or_clash : (x y : Bool) → y ≡ true → (x || y) ≡ false → ⊥
      or_clash true y e h = cc
      or_clash false y e h = cc

      not_named : (i : Image) (p l w : ℕ) → is_written (pending_with b c) i p l w ≡ false → (names c p l w ≡ true) ⊎ (names c p l w ≡ false) → names c p l w ≡ false
      not_named i p l w h (inl named) = absurd (or_clash (is_logged (log_of b.format i) p l w) (named_in (b.pending ++ c ∷ []) p l w) (named_last b.pending c p l w named) h)
      not_named i p l w h (inr none) = none

  put_stands : PendingStands during put_state ys
  put_stands = copies_stand (pending_with b c) put_state ys
      (append_pending_stands b s old.shown.facts old.shown.still [] (stands_none b s old) c ys can (has_before b s old.shown.facts old.shown.still [] (stands_none b s old) old.ends c (λ p l w word named.
      let at : (p ≡ page) × (l ≡ line) = of_line p l w named in
      let named' : names c page line w ≡ true = subst (λ n. names c page n w ≡ true) at.1 (subst (λ n. names c n l w ≡ true) at.0 named) in
      records.before w (here p l w at.0 at.1 word) named' ∙ ap (λ n. b.current n line w) (sym at.0) ∙ ap (λ n. b.current p n w) (sym at.1))))
      (with_line b.current page line new) b.copy

  put_ends : EndsRight during put_state
  put_ends = append_ends b s old.shown.facts old.shown.still [] (stands_none b s old) old.ends c ys can (with_line b.current page line new) b.copy
      (λ p l w word named.
      let at : (p ≡ page) × (l ≡ line) = of_line p l w named in
      let named' : names c page line w ≡ true = subst (λ n. names c page n w ≡ true) at.1 (subst (λ n. names c n l w ≡ true) at.0 named) in
      records.after w (here p l w at.0 at.1 word) named' ∙ sym (with_line-here b.current page line new p l w at.0 at.1))
      unnamed

  -- the facts of the record alone, with the line unchanged
  put_shown : StoreFacts (pending_with b c) put_state
  put_shown = append_pending_done b s old.shown.facts old.shown.still [] (stands_none b s old) c ys can

  shown_stands : PendingStands (pending_with b c) put_state ys
  shown_stands = copies_stand during put_state ys put_stands b.current b.copy

  -- When the record is durable all holds as before, but that a commit would give the new line.
  module _ (constant : IsConstant b (super_of (current s)).tail ((super_of (current s)).tail + 0 + length ys)) where
    pub record_shown : KeptShown (none_pending b) (after_all (end_calls b.sizes ((super_of (current s)).tail + 0) ys) s)
    record_shown = subst (λ (t : State). KeptShown (none_pending b) t) (put_ended b s old c ys can) (record {
      facts = harden_done (pending_with b c) put_state put_shown old.shown.still ys shown_stands (put_constant b s old c ys can constant);
      still = old.shown.still;
      alone = refl;
      shows = (let shows : ShowsCurrent b ended = lengthened_shows b put_state ended _ ys (lengthened_shows b s put_state _ [] old.shown.shows first) longer in record { copies = shows.copies; homes = shows.homes });
      flushed = (let flushed : HomesFlushed b ended = harden_flushed b put_state ((super_of (current put_state)).tail + length ys)
          (put_flushed b s old.shown.facts old.shown.still [] (stands_none b s old).behind ys can.room can.are_lines can.passes old.shown.flushed) in
          record { frames = flushed.frames; blocks = flushed.blocks });
    })
      where
        ended : State
        ended = after_all (harden_calls ((super_of (current put_state)).tail + length ys)) put_state

        first : Lengthened b.sizes s put_state (super_of (current s)) []
        first = append_lengthened b s old.shown.facts old.shown.still [] (stands_none b s old).behind ys can.room can.are_lines can.passes

        longer : Lengthened b.sizes put_state ended (record (super_of (current put_state)) { tail = (super_of (current put_state)).tail + length ys }) ys
        longer = harden_lengthened (pending_with b c) put_state put_shown old.shown.still ys shown_stands.behind

    pub record_ends : EndsRight (none_pending (after_record b page line new)) (after_all (end_calls b.sizes ((super_of (current s)).tail + 0) ys) s)
    record_ends = subst (λ (t : State). EndsRight (none_pending (after_record b page line new)) t) (put_ended b s old c ys can)
        (harden_ends during put_state put_facts old.shown.still ys put_stands put_ends (put_constant b s old c ys can constant))

    -- The log names then what the record names, in every image: so its line can change.
    pub record_names : (j : Image) → Leaves (after_all (end_calls b.sizes ((super_of (current s)).tail + 0) ys) s) j → (p l w : ℕ) → names c p l w ≡ true → is_logged (log_of b.format j) p l w ≡ true
    record_names = subst (λ (t : State). (j : Image) → Leaves t j → (p l w : ℕ) → names c p l w ≡ true → is_logged (log_of b.format j) p l w ≡ true) (put_ended b s old c ys can) (λ j left p l w named.
        let ended : State = after_all (harden_calls ((super_of (current put_state)).tail + length ys)) put_state in
        let log : log_of b.format j ≡ extended (log_of b.format (current put_state)) (item (write c)) =
        log_after (pending_with b c) put_state ended _ ys put_shown (none_pending b) refl (harden_done (pending_with b c) put_state put_shown old.shown.still ys shown_stands (put_constant b s old c ys can constant)) old.shown.still
        (harden_lengthened (pending_with b c) put_state put_shown old.shown.still ys shown_stands.behind) j left
        ∙ ap (grouped (log_of b.format (current put_state))) can.holds in
        ap (λ (x : Log). is_logged x p l w) log ∙ record_logged (log_of b.format (current put_state)) c p l w
        ∙ or_right (is_logged (log_of b.format (current put_state)) p l w) (names c p l w) named)
      where
        or_right : (x y : Bool) → y ≡ true → (x || y) ≡ true
        or_right true y e = refl
        or_right false y e = e
