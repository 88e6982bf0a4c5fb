-- What an abort takes back: the before values of the open group, from last to first, are the committed words.
use Rattle.std.proofs.Common.{◌≡◌, ◌≢◌, ℕ, ◌<◌, Bool, true, false, ◌||◌, List, refl, sym, ap, ◌∙◌, subst, inl, inr}
use Rattle.std.proofs.lemmas.Bool.{cases_Bool, cases_eq, or_parts}
use Rattle.nvm_model.specs.declared.line.Line.{Line}
use Rattle.nvm_model.specs.Word.{Word}
use Rattle.devices.specs.State.{State, Image, Call, Amid, Leaves, current, after_all, line_stored}
use Rattle.devices.specs.Growth.{Grows, no_write}
use Rattle.flat_store_meaning.specs.Layout.{Sizes, pages, frame_line}
use Rattle.flat_store_meaning.specs.Log.{Words, Change, Log, named_in, named_in_groups, names, changes, undone, written, is_logged, applied, applied_all}
use Rattle.flat_store_meaning.specs.Format.Format.{whole_lines}
use Rattle.flat_store_meaning.specs.Recovered.{Super, super_of, log_lines, log_of, home, lines_of}
use Rattle.flat_store_meaning.specs.Put.{CanPut}
use Rattle.flat_store_meaning.specs.InPlace.{store_calls, CanStore}
use Rattle.flat_store_meaning.specs.StoreFacts.{Bookkeeping, IsWord, is_written, StoreFacts}
use Rattle.flat_store_meaning.proofs.LogLaws.{undone_named, undone_other, written_named, written_other}
use Rattle.devices.proofs.GrowthLaws.{Amid_end, Amid-grows, Grows-leaves}
use Rattle.devices.proofs.DurableLaws.{line_stores}
use Rattle.flat_store_meaning.proofs.LayoutLaws.{frame_apart}
use Rattle.devices.proofs.StateLaws.{line_stored_same, line_stored_other, flushed_other, flushed_same}
use Rattle.flat_store_meaning.proofs.FactsLaws.{current_leaves}
use Rattle.flat_store_meaning.proofs.PutLaws.{durable_super}
use Rattle.flat_store_meaning.proofs.AtEndLaws.{log_durable}
use Rattle.flat_store_meaning.proofs.StoreLaws.{Stored, store_same, store_facts}
use Rattle.flat_store_laws.specs.OpenFacts.{OpenFacts, keeping}
use Rattle.flat_store_laws.specs.Undoing.{Undoing}
use Rattle.flat_store_laws.proofs.OpenLaws.{same_words, facts_can_store, store_by}
use Rattle.flat_store_laws.specs.Steps.{IsStoreOf}
use Rattle.flat_store_laws.proofs.WriteLaws.{record_at, names_here, names_place}

pub or_right : (x y : Bool) → y ≡ true → (x || y) ≡ true
or_right true y e = refl
or_right false y e = e

-- The before values over the current words are the committed words.
pub abort_words : (g : Sizes) (start tail : ℕ) (s : State) (it : OpenFacts g start tail s) (j : Image) → Leaves s j → (p l w : ℕ) → IsWord g p l w
    → undone (changes (log_of whole_lines j).open_items) it.words p l w ≡ it.kept p l w
abort_words g start tail s it j left p l w word =
    let log : Log = log_of whole_lines j in
    elim (cases_Bool (named_in (changes log.open_items) p l w)) [
      | inl named ↦ undone_named (changes log.open_items) it.words (applied_all applied log.closed (home j)) p l w named
          ∙ ((it.facts).log j left).logged p l w word (or_right (named_in_groups log.closed p l w) (named_in (changes log.open_items) p l w) named) (home j)
      | inr other ↦ undone_other (changes log.open_items) it.words p l w other ∙ same_words g start tail s it j left p l w word other
    ]

-- One line taken back, which each image's log names.
module _ (g : Sizes) (start tail : ℕ) (words kept : Words) (s : State) (it : Undoing g start tail words kept s) (page line : ℕ) (value : Line)
    (hl : line < 64)
    (logged : (i : Image) → Leaves s i → (w : ℕ) → w < 8 → is_logged (log_of whole_lines i) page line w ≡ true) where
  abbrev b : Bookkeeping
  b = keeping g words kept

  abbrev r : Change
  r = record_at page line value value

  can : CanPut s 0
  can = facts_can_store b s it.facts refl

  clash : (y : Bool) → y ≡ true → y ≡ false → ⊥
  clash y e f = absurd (cc)

  store : CanStore whole_lines s page line value
  store = record {
    can = can;
    in_page = hl;
    words = λ i left w hw unlogged. absurd (clash (is_logged (log_of whole_lines i) page line w) (logged i left w hw) unlogged);
  }

  abbrev words₂ : Words
  words₂ = written r value words

  same_current : (i : Image) → Leaves s i → (p l w : ℕ) → IsWord g p l w → is_written b i p l w ≡ false → words p l w ≡ words₂ p l w
  same_current i left p l w word unwritten = elim (cases_Bool (names r p l w)) [
    | inl named ↦
        (let at : (page ≡ p) × (line ≡ l) = names_place page line value value p l w named in
        let here : is_logged (log_of whole_lines i) p l w ≡ true =
        ap (λ n. is_logged (log_of whole_lines i) n l w) (sym at.0) ∙ ap (λ n. is_logged (log_of whole_lines i) page n w) (sym at.1) ∙ logged i left w word.word in
        absurd (clash (is_logged (log_of whole_lines i) p l w) here (or_parts (is_logged (log_of whole_lines i) p l w) false unwritten).0))
    | inr other ↦ sym (written_other r value words p l w other)
  ]

  calls_are : store_calls (super_of (current s)).sizes page line value ≡ store_calls g page line value
  calls_are = ap (λ (x : Super). store_calls x.sizes page line value) it.super_words

  -- at each moment the facts hold, so each image is a store that recovers to the committed pages
  pub undo_moment : (mid : State) → Amid s (store_calls g page line value) mid → StoreFacts (keeping g words₂ kept) mid
  undo_moment mid amid = store_facts b s it.facts page line value store words₂ same_current mid (subst (λ (cs : List Call). Amid s cs mid) (sym calls_are) amid)

  pub undo_pages : (mid : State) → Amid s (store_calls g page line value) mid → (i : Image) → Leaves mid i → IsStoreOf g (lines_of (pages g) kept) i
  undo_pages mid amid i left = store_by (keeping g words₂ kept) mid (undo_moment mid amid) refl kept (λ n p l w. refl) i left

  abbrev s₂ : State
  s₂ = after_all (store_calls g page line value) s

  stored : (i : Image) → Leaves s₂ i → (j : Image) × Leaves s j × Stored whole_lines s page line value store i j
  stored i left =
      let stores : ℕ → ℕ → ℕ → Type 0 = line_stores (frame_line (super_of (current s)).sizes page line) value in
      let amid : Amid s (store_calls (super_of (current s)).sizes page line value) s₂ = subst (λ (cs : List Call). Amid s cs s₂) (sym calls_are) (Amid_end (store_calls g page line value) s) in
      let grows : Grows stores no_write s s₂ = Amid-grows stores no_write (store_calls (super_of (current s)).sizes page line value) s s₂ ((λ w hw. (refl, hw, refl)), (tt, tt)) amid in
      store_same whole_lines s page line value store i (Grows-leaves stores no_write s s₂ i grows left)

  newest₂ : (p l w : ℕ) → IsWord g p l w → (s₂.nvm (frame_line g p l) w).newest ≡ words₂ p l w
  newest₂ p l w word = elim (cases_eq (frame_line g p l) (frame_line g page line)) [
    | inl here ↦
        (let apart : (p ≡ page) × (l ≡ line) = frame_apart g p page l line word.line hl here in
        ap (λ n. (s₂.nvm n w).newest) here
        ∙ ap (λ (x : Word). x.newest) (flushed_same (frame_line g page line) (line_stored (frame_line g page line) value s) w)
        ∙ ap (λ (x : Word). x.newest) (line_stored_same (frame_line g page line) value s w word.word)
        ∙ sym (written_named r value words page line w (names_here page line value value w word.word))
        ∙ ap (λ n. words₂ n line w) (sym apart.0) ∙ ap (λ n. words₂ p n w) (sym apart.1))
    | inr other ↦
        ap (λ (x : Word). x.newest) (flushed_other (frame_line g page line) (line_stored (frame_line g page line) value s) (frame_line g p l) w other)
        ∙ ap (λ (x : Word). x.newest) (line_stored_other (frame_line g page line) value s (frame_line g p l) w other)
        ∙ it.newest p l w word
        ∙ sym (written_other r value words p l w (unnamed p l w other))
  ]
    where
      unnamed : (p l w : ℕ) → frame_line g p l ≢ frame_line g page line → names r p l w ≡ false
      unnamed p l w other = elim (cases_Bool (names r p l w)) [
        | inl named ↦
            (let at : (page ≡ p) × (line ≡ l) = names_place page line value value p l w named in
            absurd (other (ap (λ n. frame_line g n l) (sym at.0) ∙ ap (λ n. frame_line g page n) (sym at.1))))
        | inr not ↦ not
      ]

  flushed₂ : (p l w : ℕ) → IsWord g p l w → (s₂.nvm (frame_line g p l) w).kept ≡ 0
  flushed₂ p l w word = elim (cases_eq (frame_line g p l) (frame_line g page line)) [
    | inl here ↦ ap (λ n. (s₂.nvm n w).kept) here ∙ ap (λ (x : Word). x.kept) (flushed_same (frame_line g page line) (line_stored (frame_line g page line) value s) w)
    | inr other ↦
        ap (λ (x : Word). x.kept) (flushed_other (frame_line g page line) (line_stored (frame_line g page line) value s) (frame_line g p l) w other)
        ∙ ap (λ (x : Word). x.kept) (line_stored_other (frame_line g page line) value s (frame_line g p l) w other)
        ∙ it.flushed p l w word
  ]

  -- the log stays
  pub undo_lines : log_lines (current s₂) ≡ log_lines (current s)
  undo_lines =
      let end : (j : Image) × Leaves s j × Stored whole_lines s page line value store (current s₂) j = stored (current s₂) (current_leaves s₂) in
      (end.2).lines ∙ log_durable s 0 can end.0 end.1

  pub undo_done : Undoing g start tail words₂ kept s₂
  undo_done =
      let end : (j : Image) × Leaves s j × Stored whole_lines s page line value store (current s₂) j = stored (current s₂) (current_leaves s₂) in
      record {
        super_words = (end.2).super_words ∙ same_super end.0 end.1 ∙ it.super_words;
        facts = undo_moment s₂ (Amid_end (store_calls g page line value) s);
        newest = newest₂;
        flushed = flushed₂;
      }
    where
      same_super : (j : Image) → Leaves s j → super_of j ≡ super_of (current s)
      same_super j left = durable_super s 0 can j left
