-- Copies in DRAM that are loaded and dropped keep what a store keeps between its calls, whether records are pending or not.
use Rattle.std.proofs.Common.{◌≡◌, ℕ, true, ◌&&◌, List, sym, ap, ◌∙◌, subst, inl, inr, eqb, Some, None}
use Rattle.std.proofs.lemmas.Bool.{cases_Bool, and_parts, eqb-true, cond-true, cond-false}
use Rattle.nvm_model.specs.declared.line.Line.{Line}
use Rattle.devices.specs.State.{State, current}
use Rattle.store_model.specs.Format.{word_in}
use Rattle.store_model.specs.Recovered.{home}
use Rattle.store_model.specs.StoreFacts.{Bookkeeping, IsWord}
use Rattle.store_model.specs.Copies.{with_copy, IsLoaded, copy_loaded, copy_dropped}
use Rattle.store_model.specs.Shown.{ShowsCurrent}
use Rattle.store_model.specs.Kept.{Kept, KeptShown}
use Rattle.kept_laws.proofs.CopyFacts.{copy_loaded_facts, copy_dropped_facts, copies_stand, copy_here, some_line}

-- what loads and the copies give with one copy more
loaded_shows : (b : Bookkeeping) (s : State) → ShowsCurrent b s → (page line : ℕ) (value : Line) → b.copy page line ≡ None → IsLoaded b s page line value → ShowsCurrent (copy_loaded b page line value) s
loaded_shows b s shows page line value none loaded = record {
  copies = λ p l w x word at. elim (copy_here b.copy page line (Some value) p l x at) [
    | inr before ↦ shows.copies p l w x word before
    | inl here ↦
        (let word' : IsWord b.sizes page line w = subst (λ n. IsWord b.sizes page n w) here.1 (subst (λ n. IsWord b.sizes n l w) here.0 word) in
        ap (λ (y : Line). word_in y w) (sym (some_line value x here.2)) ∙ loaded w word' ∙ shows.homes page line w word' none ∙ ap (λ n. b.current n line w) (sym here.0) ∙ ap (λ n. b.current p n w) (sym here.1))
  ];
  homes = λ p l w word at. elim (cases_Bool (eqb p page && eqb l line)) [
    | inl same ↦ absurd (some_none value (sym (cond-true (eqb p page && eqb l line) (Some value) (b.copy p l) same) ∙ at))
    | inr other ↦ shows.homes p l w word (sym (cond-false (eqb p page && eqb l line) (Some value) (b.copy p l) other) ∙ at)
  ];
}
  where
    some_none : (x : Line) → Some x ≡ None → ⊥
    some_none x e = cc

-- and with one less
dropped_shows : (b : Bookkeeping) (s : State) → ShowsCurrent b s → (page line : ℕ) → ((w : ℕ) → IsWord b.sizes page line w → home (current s) page line w ≡ b.current page line w) → ShowsCurrent (copy_dropped b page line) s
dropped_shows b s shows page line same = record {
  copies = λ p l w x word at. elim (copy_here b.copy page line None p l x at) [
    | inr before ↦ shows.copies p l w x word before
    | inl here ↦ absurd (none_some x here.2)
  ];
  homes = λ p l w word at. elim (cases_Bool (eqb p page && eqb l line)) [
    | inr other ↦ shows.homes p l w word (sym (cond-false (eqb p page && eqb l line) None (b.copy p l) other) ∙ at)
    | inl here ↦
        (let parts : (eqb p page ≡ true) × (eqb l line ≡ true) = and_parts (eqb p page) (eqb l line) here in
        let e : p ≡ page = eqb-true p page parts.0 in
        let f : l ≡ line = eqb-true l line parts.1 in
        let word' : IsWord b.sizes page line w = subst (λ n. IsWord b.sizes page n w) f (subst (λ n. IsWord b.sizes n l w) e word) in
        ap (λ n. home (current s) n l w) e ∙ ap (λ n. home (current s) page n w) f ∙ same w word' ∙ ap (λ n. b.current n line w) (sym e) ∙ ap (λ n. b.current p n w) (sym f))
  ];
}
  where
    none_some : (x : Line) → None ≡ Some x → ⊥
    none_some x e = cc

-- A copy is loaded where there was none,
pub copy_loaded_kept : (b : Bookkeeping) (s : State) (lines : List Line) (old : Kept b s lines) (page line : ℕ) (value : Line) → b.copy page line ≡ None → IsLoaded b s page line value → Kept (copy_loaded b page line value) s lines
copy_loaded_kept b s lines old page line value none loaded = record {
  facts = copy_loaded_facts b s old.facts old.still page line value loaded;
  still = old.still;
  stands = copies_stand b s lines old.stands b.current (with_copy b.copy page line (Some value));
  ends = old.ends;
  shows = loaded_shows b s old.shows page line value none loaded;
  flushed = record { frames = old.flushed.frames; blocks = old.flushed.blocks };
}

pub copy_loaded_shown : (b : Bookkeeping) (s : State) (old : KeptShown b s) (page line : ℕ) (value : Line) → b.copy page line ≡ None → IsLoaded b s page line value → KeptShown (copy_loaded b page line value) s
copy_loaded_shown b s old page line value none loaded = record {
  facts = copy_loaded_facts b s old.facts old.still page line value loaded;
  still = old.still;
  alone = old.alone;
  shows = loaded_shows b s old.shows page line value none loaded;
  flushed = record { frames = old.flushed.frames; blocks = old.flushed.blocks };
}

-- and one is dropped whose words are those of its home.
pub copy_dropped_kept : (b : Bookkeeping) (s : State) (lines : List Line) (old : Kept b s lines) (page line : ℕ) → ((w : ℕ) → IsWord b.sizes page line w → home (current s) page line w ≡ b.current page line w)
    → Kept (copy_dropped b page line) s lines
copy_dropped_kept b s lines old page line same = record {
  facts = copy_dropped_facts b s old.facts page line;
  still = old.still;
  stands = copies_stand b s lines old.stands b.current (with_copy b.copy page line None);
  ends = old.ends;
  shows = dropped_shows b s old.shows page line same;
  flushed = record { frames = old.flushed.frames; blocks = old.flushed.blocks };
}

pub copy_dropped_shown : (b : Bookkeeping) (s : State) (old : KeptShown b s) (page line : ℕ) → ((w : ℕ) → IsWord b.sizes page line w → home (current s) page line w ≡ b.current page line w)
    → KeptShown (copy_dropped b page line) s
copy_dropped_shown b s old page line same = record {
  facts = copy_dropped_facts b s old.facts page line;
  still = old.still;
  alone = old.alone;
  shows = dropped_shows b s old.shows page line same;
  flushed = record { frames = old.flushed.frames; blocks = old.flushed.blocks };
}
