-- A write in place keeps the facts of an open store at each moment, and changes one line.
use Rattle.std.proofs.Common.{◌≡◌, ◌≢◌, ◌⊎◌, ℕ, zero, suc, ◌+◌, ◌<◌, ◌≤◌, Bool, true, false, ◌||◌, ◌&&◌, List, ◌++◌, refl, sym, ap, ◌∙◌, subst, inl, inr, arith, slice_index, get_or, eqb, ltb, leb, cond, Some, None}
use Rattle.std.proofs.lemmas.Bool.{cases_Bool, cases_eq, eqb-true, eq-eqb, and_parts, or_parts, cond-true, cond-false, ltb-true, lt-ltb, lt-leb}
use mathlib.Core.Path.{fun_ext}
use Rattle.std.specs.Int.{bit_at}
use Rattle.nvm_model.specs.declared.line.Line.{Line}
use Rattle.nvm_model.specs.Word.{Word}
use Rattle.nvm_model.specs.Memory.{line_of}
use Rattle.devices.specs.State.{State, Image, Call, Amid, Leaves, current, line_at, after_all, line_stored}
use Rattle.devices.specs.Growth.{Grows, no_write}
use Rattle.flat_store_meaning.specs.Layout.{Sizes, pages, frame_line, ring_lines}
use Rattle.flat_store_meaning.specs.Log.{Words, Change, Log, names, named_in, changes, is_logged, written, grouped, no_log}
use Rattle.flat_store_meaning.specs.Log.Item.{write}
use Rattle.flat_store_meaning.specs.Log.Entry.{item}
use Rattle.flat_store_meaning.specs.Format.{entries, zero_line, word_in, head_check, entry_check, log_check}
use Rattle.flat_store_meaning.specs.Format.Format.{whole_lines}
use Rattle.flat_store_meaning.specs.Recovered.{Super, super_of, log_lines, log_of, lines_of}
use Rattle.flat_store_meaning.specs.Put.{append_calls, IsLine, CanPut}
use Rattle.flat_store_meaning.specs.Append.{head_line, record_of}
use Rattle.flat_store_meaning.specs.InPlace.{store_calls, CanStore}
use Rattle.flat_store_meaning.specs.StoreFacts.{Bookkeeping, IsWord, is_written, StoreFacts, moving}
use Rattle.flat_store_meaning.specs.AtEnd.{LogEnds}
use Rattle.devices.proofs.StateLaws.{line_stored_same, line_stored_other, flushed_other, flushed_same}
use Rattle.devices.proofs.GrowthLaws.{Amid_append, Amid_end, after_all_append, Amid-grows, Grows-leaves}
use Rattle.devices.proofs.DurableLaws.{line_stores}
use Rattle.flat_store_meaning.proofs.LogLaws.{written_named, written_other}
use Rattle.flat_store_meaning.proofs.LayoutLaws.{frame_apart}
use Rattle.flat_store_meaning.proofs.AtEndLaws.{log_durable}
use Rattle.flat_store_meaning.proofs.CheckLaws.{entry_from, fault_from}
use Rattle.flat_store_meaning.proofs.FactsLaws.{record_facts, facts_can_put, current_leaves}
use Rattle.flat_store_meaning.proofs.StoreLaws.{Stored, store_same, store_facts}
use Rattle.flat_store_meaning.proofs.RecoveredLaws.{line_of-same}
use Rattle.flat_store_meaning.proofs.EndsLaws.{record_logged, record_ends}
use Rattle.flat_store_laws.specs.OpenFacts.{OpenFacts, keeping, super_with}
use Rattle.flat_store_laws.specs.Steps.{HoldsFacts, IsStoreOf}
use Rattle.flat_store_laws.specs.Calls.{write_calls}
use Rattle.flat_store_laws.specs.ShownPages.{pages_in, words_in, committed_in}
use Rattle.line_pages.specs.Lines.{with_line}
use Rattle.flat_store_laws.proofs.OpenLaws.{same_words, open_pages, store_by, same_store, open_undoing}
use Rattle.flat_store_laws.proofs.BehindLaws.{PutsEntry, Behind, can_put, calls_are, amid_put, behind, super_behind, newest_behind, kept_behind, facts_behind}

-- word w of the line of eight words
word_of : (f : ℕ → ℕ) (w : ℕ) → w < 8 → slice_index (line_of f).words w ≡ f w
word_of f zero h = refl
word_of f (suc zero) h = refl
word_of f (suc (suc zero)) h = refl
word_of f (suc (suc (suc zero))) h = refl
word_of f (suc (suc (suc (suc zero)))) h = refl
word_of f (suc (suc (suc (suc (suc zero))))) h = refl
word_of f (suc (suc (suc (suc (suc (suc zero)))))) h = refl
word_of f (suc (suc (suc (suc (suc (suc (suc zero))))))) h = refl
word_of f (suc (suc (suc (suc (suc (suc (suc (suc w)))))))) h = absurd (omega arith)

-- the record of a write
abbrev pub record_at : ℕ → ℕ → Line → Line → Change
record_at page line before after = record { page = page; line = line; mask = 255; before = before; after = after }

-- it names the words of its line
pub names_here : (page line : ℕ) (before after : Line) (w : ℕ) → w < 8 → names (record_at page line before after) page line w ≡ true
names_here page line before after w hw = rw (eq-eqb page page refl, eq-eqb line line refl) (bits w hw)
  where
    bits : (w : ℕ) → w < 8 → eqb (bit_at 255 w) 1 ≡ true
    bits zero h = refl
    bits (suc zero) h = refl
    bits (suc (suc zero)) h = refl
    bits (suc (suc (suc zero))) h = refl
    bits (suc (suc (suc (suc zero)))) h = refl
    bits (suc (suc (suc (suc (suc zero))))) h = refl
    bits (suc (suc (suc (suc (suc (suc zero)))))) h = refl
    bits (suc (suc (suc (suc (suc (suc (suc zero))))))) h = refl
    bits (suc (suc (suc (suc (suc (suc (suc (suc w)))))))) h = absurd (omega arith)

-- and no other
pub names_place : (page line : ℕ) (before after : Line) (p l w : ℕ) → names (record_at page line before after) p l w ≡ true → (page ≡ p) × (line ≡ l)
names_place page line before after p l w h =
    let outer : (eqb page p ≡ true) × _ = and_parts (eqb page p) _ h in
    let inner : (eqb line l ≡ true) × _ = and_parts (eqb line l) _ outer.1 in
    (eqb-true page p outer.0, eqb-true line l inner.0)

-- a record of a line of the store passes the checks
record_passes : (g : Sizes) (page line : ℕ) (before after : Line) → page < pages g → line < 64 → (at : ℕ) → log_check whole_lines g at 0 (record_of page line before after) ≡ None
record_passes g page line before after hp hl at =
    let in_store : leb (pages g) page ≡ false = lt-leb (pages g) page hp in
    let in_page : leb 64 line ≡ false = lt-leb 64 line hl in
    let head : head_check whole_lines g (head_line 1 page line 0) ≡ None =
    cond-false (leb (pages g) page || (leb 64 line || false)) (Some 8) None (rw (in_store, in_page) refl) in
    fault_from (entry_check whole_lines g (head_line 1 page line 0) 2) at None (entry_from (head_check whole_lines g (head_line 1 page line 0)) false head refl) refl

module _ (g : Sizes) (start tail : ℕ) (s : State) (it : OpenFacts g start tail s) (page line : ℕ) (value : Line)
    (hp : page < pages g) (hl : line < 64) (is_line : IsLine value) (room : tail + 3 ≤ start + ring_lines g) where
  abbrev before : Line
  before = line_at s (frame_line g page line)

  abbrev xs : List Line
  xs = record_of page line before value

  abbrev r : Change
  r = record_at page line before value

  abbrev b : Bookkeeping
  b = keeping g it.words it.kept

  abbrev sup : Super
  sup = super_of (current s)

  puts : PutsEntry g start tail it.words it.kept s xs (item (write r))
  puts = record {
    it = open_undoing it;
    are_lines = are_lines;
    entry = refl;
    room = room;
  }
    where
      are_lines : (k : ℕ) → k < 3 → IsLine (get_or xs k zero_line)
      are_lines zero h = refl
      are_lines (suc zero) h = refl
      are_lines (suc (suc zero)) h = is_line
      are_lines (suc (suc (suc k))) h = absurd (omega arith)

  passes : (at : ℕ) → log_check whole_lines g at 0 xs ≡ None
  passes = record_passes g page line before value hp hl

  before_is : (j : Image) → Leaves s j → (p l w : ℕ) → IsWord g p l w → names r p l w ≡ true → named_in (changes (log_of whole_lines j).open_items) p l w ≡ false
      → it.kept p l w ≡ slice_index before.words w
  before_is j left p l w word named unnamed =
      let place : (page ≡ p) × (line ≡ l) = names_place page line before value p l w named in
      sym (same_words g start tail s it j left p l w word unnamed)
      ∙ sym (it.newest p l w word)
      ∙ ap (λ n. (s.nvm n w).newest) (sym (ap (λ n. frame_line g n l) place.0) ∙ sym (ap (λ n. frame_line g page n) place.1))
      ∙ sym (word_of (λ w. (s.nvm (frame_line g page line) w).newest) w word.word)

  -- while the record is put
  put_moment : (mid : State) → Amid s (append_calls sup.sizes sup.tail xs) mid → StoreFacts (moving b sup.tail (sup.tail + 3) (λ n. it.kept)) mid
  put_moment mid amid = record_facts b s it.facts xs (can_put puts) puts.are_lines passes r refl (λ p l w. refl) before_is mid amid

  pub record_moment : (mid : State) → Amid s (append_calls g tail xs) mid → StoreFacts (moving b sup.tail (sup.tail + 3) (λ n. it.kept)) mid
  record_moment mid amid = put_moment mid (amid_put puts mid amid)

  -- and when it stands
  abbrev s₁ : State
  s₁ = after_all (append_calls sup.sizes sup.tail xs) s

  facts₁ : StoreFacts b s₁
  facts₁ = facts_behind puts (λ n. it.kept) put_moment it.kept (λ p l w. refl)

  logged_behind : (i : Image) (x : Behind puts i) (p l w : ℕ) → is_logged (log_of whole_lines i) p l w ≡ (is_logged (log_of whole_lines x.j) p l w || names r p l w)
  logged_behind i x p l w = ap (λ (log : Log). is_logged log p l w) x.log ∙ record_logged (log_of whole_lines x.j) r p l w

  logged_here : (i : Image) → Behind puts i → (p l w : ℕ) → names r p l w ≡ true → is_logged (log_of whole_lines i) p l w ≡ false → ⊥
  logged_here i x p l w named unlogged = clash (names r p l w) named (or_parts (is_logged (log_of whole_lines x.j) p l w) (names r p l w) (sym (logged_behind i x p l w) ∙ unlogged)).1
    where
      clash : (y : Bool) → y ≡ true → y ≡ false → ⊥
      clash y e f = absurd (cc)

  sup₁_is : super_of (current s₁) ≡ super_with g start (tail + 3)
  sup₁_is = super_behind puts

  can₁ : CanPut s₁ 0
  can₁ = facts_can_put b s₁ 0 facts₁ refl (subst (λ (x : Super). x.tail + 0 ≤ x.start + ring_lines g) (sym sup₁_is) (omega arith))

  store : CanStore whole_lines s₁ page line value
  store = record {
    can = can₁;
    in_page = hl;
    words = λ i left w hw unlogged. absurd (logged_here i (behind puts i left) page line w (names_here page line before value w hw) unlogged);
  }

  -- the current words with the line
  abbrev words₂ : Words
  words₂ = written r value it.words

  same_current : (i : Image) → Leaves s₁ i → (p l w : ℕ) → IsWord g p l w → is_written b i p l w ≡ false → it.words p l w ≡ words₂ p l w
  same_current i left p l w word unwritten = elim (cases_Bool (names r p l w)) [
    | inl named ↦ absurd (logged_here i (behind puts i left) p l w named (or_parts (is_logged (log_of whole_lines i) p l w) false unwritten).0)
    | inr other ↦ sym (written_other r value it.words p l w other)
  ]

  store_calls_are : store_calls (super_of (current s₁)).sizes page line value ≡ store_calls g page line value
  store_calls_are = ap (λ (x : Super). store_calls x.sizes page line value) sup₁_is

  -- while the line is stored
  store_moment : (mid : State) → Amid s₁ (store_calls g page line value) mid → StoreFacts (keeping g words₂ it.kept) mid
  store_moment mid amid =
      store_facts b s₁ facts₁ page line value store words₂ same_current mid (subst (λ (cs : List Call). Amid s₁ cs mid) (sym store_calls_are) amid)

  abbrev s₂ : State
  s₂ = after_all (store_calls g page line value) s₁

  amid₂ : Amid s₁ (store_calls (super_of (current s₁)).sizes page line value) s₂
  amid₂ = subst (λ (cs : List Call). Amid s₁ cs s₂) (sym store_calls_are) (Amid_end (store_calls g page line value) s₁)

  behind₂ : (i : Image) → Leaves s₂ i → Behind puts i
  behind₂ i left =
      let stores : ℕ → ℕ → ℕ → Type 0 = line_stores (frame_line (super_of (current s₁)).sizes page line) value in
      let grows : Grows stores no_write s₁ s₂ = Amid-grows stores no_write (store_calls (super_of (current s₁)).sizes page line value) s₁ s₂ ((λ w hw. (refl, hw, refl)), (tt, tt)) amid₂ in
      let found : (j : Image) × Leaves s₁ j × Stored whole_lines s₁ page line value store i j =
      store_same whole_lines s₁ page line value store i (Grows-leaves stores no_write s₁ s₂ i grows left) in
      let x : Behind puts found.0 = behind puts found.0 found.1 in
      record {
        j = x.j;
        left = x.left;
        super_words = (found.2).super_words ∙ x.super_words;
        lines = (found.2).lines ∙ x.lines;
        log = ap (λ (lines : List Line). grouped no_log (entries whole_lines 0 lines)) (found.2).lines ∙ x.log;
      }

  place : ℕ
  place = frame_line g page line

  newest₂ : (p l w : ℕ) → IsWord g p l w → (s₂.nvm (frame_line g p l) w).newest ≡ words₂ p l w
  newest₂ p l w word = elim (cases_eq (frame_line g p l) (frame_line g page line)) [
    | inl here ↦
        (let apart : (p ≡ page) × (l ≡ line) = frame_apart g p page l line word.line hl here in
        ap (λ n. (s₂.nvm n w).newest) here
        ∙ ap (λ (x : Word). x.newest) (flushed_same (frame_line g page line) (line_stored (frame_line g page line) value s₁) w)
        ∙ ap (λ (x : Word). x.newest) (line_stored_same (frame_line g page line) value s₁ w word.word)
        ∙ sym (written_named r value it.words page line w (names_here page line before value w word.word))
        ∙ ap (λ n. words₂ n line w) (sym apart.0) ∙ ap (λ n. words₂ p n w) (sym apart.1))
    | inr other ↦
        ap (λ (x : Word). x.newest) (flushed_other (frame_line g page line) (line_stored (frame_line g page line) value s₁) (frame_line g p l) w other)
        ∙ ap (λ (x : Word). x.newest) (line_stored_other (frame_line g page line) value s₁ (frame_line g p l) w other)
        ∙ newest_behind puts p l w
        ∙ it.newest p l w word
        ∙ sym (written_other r value it.words p l w (unnamed p l w other))
  ]
    where
      unnamed : (p l w : ℕ) → frame_line g p l ≢ frame_line g page line → names r p l w ≡ false
      unnamed p l w other = elim (cases_Bool (names r p l w)) [
        | inl named ↦
            (let at : (page ≡ p) × (line ≡ l) = names_place page line before value p l w named in
            absurd (other (ap (λ n. frame_line g n l) (sym at.0) ∙ ap (λ n. frame_line g page n) (sym at.1))))
        | inr not ↦ not
      ]

  flushed₂ : (p l w : ℕ) → IsWord g p l w → (s₂.nvm (frame_line g p l) w).kept ≡ 0
  flushed₂ p l w word = elim (cases_eq (frame_line g p l) (frame_line g page line)) [
    | inl here ↦ ap (λ n. (s₂.nvm n w).kept) here ∙ ap (λ (x : Word). x.kept) (flushed_same (frame_line g page line) (line_stored (frame_line g page line) value s₁) w)
    | inr other ↦
        ap (λ (x : Word). x.kept) (flushed_other (frame_line g page line) (line_stored (frame_line g page line) value s₁) (frame_line g p l) w other)
        ∙ ap (λ (x : Word). x.kept) (line_stored_other (frame_line g page line) value s₁ (frame_line g p l) w other)
        ∙ kept_behind puts p l w ∙ it.flushed p l w word
  ]

  -- When the write is done the facts hold with the record last.
  pub write_done : OpenFacts g start (tail + 3) (after_all (store_calls g page line value) (after_all (append_calls sup.sizes sup.tail xs) s))
  write_done = record {
    words = words₂;
    kept = it.kept;
    super_words = (behind₂ (current s₂) (current_leaves s₂)).super_words ∙ ap (λ (x : Super). record x { tail = x.tail + 3 }) it.super_words;
    facts = store_moment s₂ (Amid_end (store_calls g page line value) s₁);
    newest = newest₂;
    flushed = flushed₂;
    ends = λ i left. subst (λ (log : Log). LogEnds g log words₂) (sym (behind₂ i left).log)
        (record_ends g (log_of whole_lines (behind₂ i left).j) r it.words (it.ends (behind₂ i left).j (behind₂ i left).left));
  }

  calls_done : after_all (write_calls g tail page line value s) s ≡ s₂
  calls_done = after_all_append (append_calls g tail xs) (store_calls g page line value) s ∙ ap (λ (cs : List Call). after_all (store_calls g page line value) (after_all cs s)) (sym (calls_are puts))

  pub write_facts : OpenFacts g start (tail + 3) (after_all (write_calls g tail page line value s) s)
  write_facts = subst (λ (x : State). OpenFacts g start (tail + 3) x) (sym calls_done) write_done

  -- the log has the record last
  pub write_log : log_lines (current (after_all (write_calls g tail page line value s) s)) ≡ log_lines (current s) ++ record_of page line (line_at s (frame_line g page line)) value
  write_log =
      let x : Behind puts (current s₂) = behind₂ (current s₂) (current_leaves s₂) in
      ap (λ (t : State). log_lines (current t)) calls_done ∙ x.lines ∙ ap (λ (lines : List Line). lines ++ xs) (log_durable s 3 (can_put puts) x.j x.left)

  -- At each moment every image is a store that recovers to the committed pages.
  pub write_moment : (mid : State) → Amid s (write_calls g tail page line value s) mid → (i : Image) → Leaves mid i → IsStoreOf g (committed_in s) i
  write_moment mid amid i left = elim (Amid_append (append_calls g tail xs) (store_calls g page line value) s mid amid) [
    | inl first ↦ again (store_by (moving b sup.tail (sup.tail + 3) (λ n. it.kept)) mid (record_moment mid first) refl it.kept (λ n p l w. refl) i left)
    | inr second ↦ again (store_by (keeping g words₂ it.kept) mid (store_moment mid (subst (λ (cs : List Call). Amid (after_all cs s) (store_calls g page line value) mid) (sym (calls_are puts)) second)) refl it.kept (λ n p l w. refl) i left)
  ]
    where
      again : IsStoreOf g (lines_of (pages g) it.kept) i → IsStoreOf g (committed_in s) i
      again found = same_store g (lines_of (pages g) it.kept) (committed_in s) i found (sym (open_pages g start tail s it (current s) (current_leaves s)))

  -- At each moment the facts of a store hold.
  pub write_held : (mid : State) → Amid s (write_calls g tail page line value s) mid → HoldsFacts g mid
  write_held mid amid = elim (Amid_append (append_calls g tail xs) (store_calls g page line value) s mid amid) [
    | inl first ↦ record { keeps = moving b sup.tail (sup.tail + 3) (λ n. it.kept); format = refl; sizes = refl; facts = record_moment mid first }
    | inr second ↦ record {
      keeps = keeping g words₂ it.kept;
      format = refl;
      sizes = refl;
      facts = store_moment mid (subst (λ (cs : List Call). Amid (after_all cs s) (store_calls g page line value) mid) (sym (calls_are puts)) second);
    }
  ]

  -- The newest lines are the old ones but for this line.
  pub write_lines : pages_in g (after_all (write_calls g tail page line value s) s) ≡ with_line page line value (pages_in g s)
  write_lines = ap (pages_in g) calls_done ∙ fun_ext (λ p. fun_ext (λ l. at p l))
    where
      same_line : (p l : ℕ) → p < pages g → l < 64 → ((eqb p page && eqb l line) ≡ true) ⊎ ((eqb p page && eqb l line) ≡ false)
          → line_of (words_in g s₂ p l) ≡ cond (eqb p page && eqb l line) value (line_of (words_in g s p l))
      same_line p l hp' hl' (inl here) =
          let parts : (eqb p page ≡ true) × (eqb l line ≡ true) = and_parts (eqb p page) (eqb l line) here in
          line_of-same (words_in g s₂ p l) (word_in value)
          (λ w hw. newest₂ p l w (record { page = hp'; line = hl'; word = hw })
          ∙ ap (λ n. words₂ n l w) (eqb-true p page parts.0) ∙ ap (λ n. words₂ page n w) (eqb-true l line parts.1)
          ∙ written_named r value it.words page line w (names_here page line before value w hw))
          ∙ is_line ∙ sym (cond-true (eqb p page && eqb l line) value (line_of (words_in g s p l)) here)
      same_line p l hp' hl' (inr other) =
          line_of-same (words_in g s₂ p l) (words_in g s p l)
          (λ w hw. newest₂ p l w (record { page = hp'; line = hl'; word = hw })
          ∙ written_other r value it.words p l w (unnamed w)
          ∙ sym (it.newest p l w (record { page = hp'; line = hl'; word = hw })))
          ∙ sym (cond-false (eqb p page && eqb l line) value (line_of (words_in g s p l)) other)
        where
          unnamed : (w : ℕ) → names r p l w ≡ false
          unnamed w = elim (cases_Bool (names r p l w)) [
            | inl named ↦
                (let place : (page ≡ p) × (line ≡ l) = names_place page line before value p l w named in
                let both : (eqb p page && eqb l line) ≡ true = rw (eq-eqb p page (sym place.0), eq-eqb l line (sym place.1)) refl in absurd (cc))
            | inr not ↦ not
          ]

      at : (p l : ℕ) → pages_in g s₂ p l ≡ with_line page line value (pages_in g s) p l
      at p l = elim (cases_Bool (ltb p (pages g) && ltb l 64)) [
        | inl inside ↦
            (let parts : (ltb p (pages g) ≡ true) × (ltb l 64 ≡ true) = and_parts (ltb p (pages g)) (ltb l 64) inside in
            cond-true (ltb p (pages g) && ltb l 64) (line_of (words_in g s₂ p l)) zero_line inside
            ∙ same_line p l (ltb-true p (pages g) parts.0) (ltb-true l 64 parts.1) (cases_Bool (eqb p page && eqb l line))
            ∙ ap (λ (x : Line). cond (eqb p page && eqb l line) value x) (sym (cond-true (ltb p (pages g) && ltb l 64) (line_of (words_in g s p l)) zero_line inside)))
        | inr outside ↦
            cond-false (ltb p (pages g) && ltb l 64) (line_of (words_in g s₂ p l)) zero_line outside
            ∙ sym (cond-false (ltb p (pages g) && ltb l 64) (line_of (words_in g s p l)) zero_line outside)
            ∙ sym (cond-false (eqb p page && eqb l line) value (pages_in g s p l) (elsewhere p l outside))
      ]
        where
          elsewhere : (p l : ℕ) → (ltb p (pages g) && ltb l 64) ≡ false → (eqb p page && eqb l line) ≡ false
          elsewhere p l outside = elim (cases_Bool (eqb p page && eqb l line)) [
            | inl here ↦
                (let parts : (eqb p page ≡ true) × (eqb l line ≡ true) = and_parts (eqb p page) (eqb l line) here in
                let below : ltb p (pages g) ≡ true = ap (λ n. ltb n (pages g)) (eqb-true p page parts.0) ∙ lt-ltb page (pages g) hp in
                let in_page : ltb l 64 ≡ true = ap (λ n. ltb n 64) (eqb-true l line parts.1) ∙ lt-ltb line 64 hl in
                let both : (ltb p (pages g) && ltb l 64) ≡ true = rw (below, in_page) refl in absurd (cc))
            | inr not ↦ not
          ]
