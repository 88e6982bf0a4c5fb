-- Lines that change where a durable record allows it, or where an abort takes back what was written: copies in DRAM and lines
-- of frames get other values. Each word that changes is one that the log names.
use Rattle.std.proofs.Common.{List, ◌≡◌, ◌⊎◌, ℕ, true, false, ◌&&◌, refl, sym, ap, ◌∙◌, subst, inl, inr, eqb, Some, None}
use Rattle.std.proofs.lemmas.Bool.{cases_Bool, and_parts, or_parts, eqb-true, cond-true, cond-false}
use Rattle.nvm_model.specs.declared.line.Line.{Line}
use Rattle.devices.specs.State.{State, Image, Leaves, current, after_all}
use Rattle.store_model.specs.Layout.{Sizes}
use Rattle.store_model.specs.Log.{Log, no_log, grouped, extended, is_logged, named_in}
use Rattle.store_model.specs.Format.{entries, word_in}
use Rattle.store_model.specs.Recovered.{log_lines, log_of, home, replay}
use Rattle.store_model.specs.StoreFacts.{Bookkeeping, IsWord, is_written}
use Rattle.store_model.specs.Install.{store_calls, CanStore}
use Rattle.store_model.specs.Copies.{with_line, CanWriteCopy, copy_written}
use Rattle.store_model.specs.Shown.{HomesFlushed}
use Rattle.store_model.specs.Kept.{KeptShown, KeptAlone, Moves, after_record}
use Rattle.home_laws.proofs.FactsLaws.{current_leaves}
use Rattle.kept_laws.proofs.CopyFacts.{copy_written_facts, some_line}
use Rattle.kept_laws.proofs.WriteFacts.{with_line-here, with_line-other}
use Rattle.kept_laws.proofs.KeptPlaceFacts.{stored_state, stored_shows, stored_flushed, stored_facts, stored_log, home_frame}
use Rattle.home_laws.proofs.SeenLaws.{facts_log}
use Rattle.store_model.specs.Log.Entry.{commit}
use Rattle.store_model.specs.Pending.{with_records, EndsRight}

some_none : (x : Line) → Some x ≡ None → ⊥
some_none x e = cc

-- A copy gets another value.
pub copy_changed : (b : Bookkeeping) (s : State) → KeptShown b s → (page line : ℕ) (old new : Line) → CanWriteCopy b s page line old new → KeptShown (copy_written b page line new) s
copy_changed b s back page line old new can = record {
  facts = copy_written_facts b s back.facts page line old new can;
  still = back.still;
  alone = back.alone;
  shows = record {
    copies = λ p l w x word at. elim (cases_Bool (eqb p page && eqb l line)) [
      | inl same ↦
          (let parts : (eqb p page ≡ true) × (eqb l line ≡ true) = and_parts (eqb p page) (eqb l line) same in
          let is_new : Some new ≡ Some x = sym (cond-true (eqb p page && eqb l line) (Some new) (b.copy p l) same) ∙ at in
          ap (λ (y : Line). word_in y w) (sym (some_line new x is_new)) ∙ sym (with_line-here b.current page line new p l w (eqb-true p page parts.0) (eqb-true l line parts.1)))
      | inr other ↦ back.shows.copies p l w x word (sym (cond-false (eqb p page && eqb l line) (Some new) (b.copy p l) other) ∙ at) ∙ sym (with_line-other b.current page line new p l w other)
    ];
    homes = λ p l w word none. elim (cases_Bool (eqb p page && eqb l line)) [
      | inl same ↦ absurd (some_none new (sym (cond-true (eqb p page && eqb l line) (Some new) (b.copy p l) same) ∙ none))
      | inr other ↦ back.shows.homes p l w word (sym (cond-false (eqb p page && eqb l line) (Some new) (b.copy p l) other) ∙ none) ∙ sym (with_line-other b.current page line new p l w other)
    ];
  };
  flushed = record { frames = back.flushed.frames; blocks = back.flushed.blocks };
}

-- So a commit gives the new line then, where it did before.
pub copy_changed_alone : (b : Bookkeeping) (s : State) → KeptShown b s → (page line : ℕ) (old new : Line) → CanWriteCopy b s page line old new → EndsRight (after_record b page line new) s → KeptAlone (copy_written b page line new) s
copy_changed_alone b s back page line old new can ends = record { shown = copy_changed b s back page line old new can; ends = ends }

-- A line without a copy is stored in its frame.
pub line_changed : (b : Bookkeeping) (s : State) → KeptShown b s → (k page l₀ : ℕ) (line : Line) → CanStore b.format s k page l₀ line → b.copy page l₀ ≡ None
    → KeptShown (after_record b page l₀ line) (after_all (store_calls b.sizes k l₀ line) s)
line_changed b s back k page l₀ line store uncopied =
    subst (λ (g : Sizes). KeptShown (after_record b page l₀ line) (after_all (store_calls g k l₀ line) s)) (back.facts.sizes (current s) (current_leaves s)) (record {
      facts = stored_facts b s back.facts k page l₀ line store (with_line b.current page l₀ line) (λ i left p l w word h. same i left p l w word h (cases_Bool (eqb p page && eqb l l₀)));
      still = back.still;
      alone = back.alone;
      shows = record {
        copies = λ p l w x word at. back.shows.copies p l w x word at ∙ elsewhere p l w (λ e f. some_none x (sym at ∙ ap (λ n. b.copy n l) e ∙ ap (b.copy page) f ∙ uncopied));
        homes = stored_shows b s back.facts k page l₀ line store (with_line b.current page l₀ line) (λ w word. sym (with_line-here b.current page l₀ line page l₀ w refl refl)) b.copy
            (λ p l w word none apart. back.shows.homes p l w word none ∙ elsewhere p l w (λ e f. elim apart [ inl other ↦ other e | inr other ↦ other f ]));
      };
      flushed = (let flushed : HomesFlushed b (stored_state b s back.facts k page l₀ line store) = stored_flushed b s back.facts k page l₀ line store back.flushed in record { frames = flushed.frames; blocks = flushed.blocks });
    })
  where
    elsewhere : (p l w : ℕ) → (p ≡ page → l ≡ l₀ → ⊥) → b.current p l w ≡ with_line b.current page l₀ line p l w
    elsewhere p l w apart = elim (cases_Bool (eqb p page && eqb l l₀)) [
      | inr other ↦ sym (with_line-other b.current page l₀ line p l w other)
      | inl here ↦
          (let parts : (eqb p page ≡ true) × (eqb l l₀ ≡ true) = and_parts (eqb p page) (eqb l l₀) here in
          absurd (apart (eqb-true p page parts.0) (eqb-true l l₀ parts.1)))
    ]

    same : (i : Image) → Leaves s i → (p l w : ℕ) → IsWord b.sizes p l w → is_written b i p l w ≡ false → ((eqb p page && eqb l l₀) ≡ true) ⊎ ((eqb p page && eqb l l₀) ≡ false) → b.current p l w ≡ with_line b.current page l₀ line p l w
    same i left p l w word h (inr other) = sym (with_line-other b.current page l₀ line p l w other)
    same i left p l w word h (inl here) =
        let parts : (eqb p page ≡ true) × (eqb l l₀ ≡ true) = and_parts (eqb p page) (eqb l l₀) here in
        let e : p ≡ page = eqb-true p page parts.0 in
        let f : l ≡ l₀ = eqb-true l l₀ parts.1 in
        let unlogged : is_logged (log_of b.format i) p l w ≡ false = (or_parts (is_logged (log_of b.format i) p l w) (named_in b.pending p l w) h).0 in
        let unlogged' : is_logged (log_of b.format i) page l₀ w ≡ false = subst (λ n. is_logged (log_of b.format i) page n w ≡ false) f (subst (λ n. is_logged (log_of b.format i) n l w ≡ false) e unlogged) in
        sym ((back.facts.homes i left).current p l w word h) ∙ ap (λ n. home i n l w) e ∙ ap (λ n. home i page n w) f ∙ sym (store.words i left w word.word unlogged') ∙ sym (with_line-here b.current page l₀ line p l w e f)

-- The log is as it was then.
pub line_changed_log : (b : Bookkeeping) (s : State) → KeptShown b s → (k page l₀ : ℕ) (line : Line) → CanStore b.format s k page l₀ line → log_lines (current (after_all (store_calls b.sizes k l₀ line) s)) ≡ log_lines (current s)
line_changed_log b s old k page l₀ line store = subst (λ (g : Sizes). log_lines (current (after_all (store_calls g k l₀ line) s)) ≡ log_lines (current s)) (old.facts.sizes (current s) (current_leaves s))
    (stored_log b s old.facts k page l₀ line store)

-- So a commit gives the new line then, where it did before.
pub line_changed_alone : (b : Bookkeeping) (s : State) → KeptShown b s → (k page l₀ : ℕ) (line : Line) → CanStore b.format s k page l₀ line → b.copy page l₀ ≡ None
    → EndsRight (after_record b page l₀ line) s → KeptAlone (after_record b page l₀ line) (after_all (store_calls b.sizes k l₀ line) s)
line_changed_alone b s old k page l₀ line store uncopied ends = record {
  shown = new;
  ends = λ j left p l w word h homes.
      let log : log_of b.format j ≡ log_of b.format (current s) =
      ap (λ (xs : List Line). grouped no_log (entries b.format 0 xs)) (facts_log (after_record b page l₀ line) (after_all (store_calls b.sizes k l₀ line) s) (new.facts) (new.still) j left ∙ line_changed_log b s old k page l₀ line store) in
      ap (λ (x : Log). replay b.format (extended (with_records x b.pending) commit) homes p l w) log
      ∙ ends (current s) (current_leaves s) p l w word (sym (ap (λ (x : Log). is_logged (extended (with_records x b.pending) commit) p l w) log) ∙ h) homes;
}
  where
    new : KeptShown (after_record b page l₀ line) (after_all (store_calls b.sizes k l₀ line) s)
    new = line_changed b s old k page l₀ line store uncopied

-- A copy is stored back to the frame of its page: then the home gives it.
pub copy_stored_moves : (b : Bookkeeping) (s : State) → KeptShown b s → (k page l₀ : ℕ) (line : Line) → CanStore b.format s k page l₀ line → b.copy page l₀ ≡ Some line
    → Moves b s (after_all (store_calls b.sizes k l₀ line) s)
copy_stored_moves b s old k page l₀ line store copied = subst (λ (g : Sizes). Moves b s (after_all (store_calls g k l₀ line) s)) (old.facts.sizes (current s) (current_leaves s)) (record {
  shown = record {
    facts = stored_facts b s old.facts k page l₀ line store b.current (λ i left p l w word h. refl);
    still = old.still;
    alone = old.alone;
    shows = record {
      copies = old.shows.copies;
      homes = stored_shows b s old.facts k page l₀ line store b.current (λ w word. old.shows.copies page l₀ w line word copied) b.copy (λ p l w word none apart. old.shows.homes p l w word none);
    };
    flushed = stored_flushed b s old.facts k page l₀ line store old.flushed;
  };
  log = stored_log b s old.facts k page l₀ line store;
})

pub copy_stored_home : (b : Bookkeeping) (s : State) → KeptShown b s → (k page l₀ : ℕ) (line : Line) → CanStore b.format s k page l₀ line → (w : ℕ) → IsWord b.sizes page l₀ w
    → home (current (after_all (store_calls b.sizes k l₀ line) s)) page l₀ w ≡ word_in line w
copy_stored_home b s old k page l₀ line store w word = subst (λ (g : Sizes). home (current (after_all (store_calls g k l₀ line) s)) page l₀ w ≡ word_in line w) (old.facts.sizes (current s) (current_leaves s))
    (home_frame b s old.facts k page l₀ line store w word)
