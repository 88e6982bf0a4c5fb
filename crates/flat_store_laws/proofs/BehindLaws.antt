-- What holds when the lines of one entry stand behind the log of a store: those of a record, or an end.
use Rattle.std.proofs.Common.{◌≡◌, ℕ, zero, suc, ◌+◌, ◌<◌, ◌≤◌, List, [], ◌∷◌, ◌++◌, length, refl, sym, ap, ◌∙◌, subst, arith, get_or}
use Rattle.nvm_model.specs.declared.line.Line.{Line}
use Rattle.nvm_model.specs.Word.{Word}
use Rattle.devices.specs.State.{State, Image, Call, Amid, Leaves, current, after_all}
use Rattle.flat_store_meaning.specs.Layout.{Sizes, pages, frame_line, ring_start, ring_lines}
use Rattle.flat_store_meaning.specs.Log.{Words, Log, Entry, extended, grouped}
use Rattle.flat_store_meaning.specs.Format.{entries, zero_line}
use Rattle.flat_store_meaning.specs.Format.Format.{whole_lines}
use Rattle.flat_store_meaning.specs.Recovered.{Super, super_of, log_lines, log_of, lines_of}
use Rattle.flat_store_meaning.specs.View.{Extends}
use Rattle.flat_store_meaning.specs.Put.{append_calls, IsLine, IsFree, CanPut}
use Rattle.flat_store_meaning.specs.StoreFacts.{Bookkeeping, StoreFacts, moving}
use Rattle.flat_store_meaning.specs.AtEnd.{LogEnds}
use Rattle.devices.proofs.GrowthLaws.{Amid_end}
use Rattle.flat_store_meaning.proofs.PutLaws.{put_done, put_gate, put_newest, put_word, durable_super, free_high}
use Rattle.flat_store_meaning.proofs.AppendLaws.{extended_log}
use Rattle.flat_store_meaning.proofs.CheckLaws.{store_whole}
use Rattle.flat_store_meaning.proofs.FactsLaws.{facts_done, facts_can_put, current_leaves}
use Rattle.flat_store_meaning.proofs.AtEndLaws.{facts_committed, log_durable}
use Rattle.flat_store_meaning.proofs.RecoveredLaws.{lines_of-same}
use Rattle.flat_store_laws.specs.OpenFacts.{OpenFacts, keeping, super_with}
use Rattle.flat_store_laws.specs.Undoing.{Undoing}
use Rattle.flat_store_laws.specs.ShownPages.{pages_in, words_in, committed_in}
use Rattle.flat_store_laws.specs.Steps.{HoldsFacts}
use Rattle.flat_store_laws.proofs.OpenLaws.{pages_by}

-- These lines are one entry, and there is room for them behind the log.
pub record PutsEntry (g : Sizes) (start tail : ℕ) (words kept : Words) (s : State) (xs : List Line) (e : Entry) : Type 0 where
  pub it : Undoing g start tail words kept s
  pub are_lines : (k : ℕ) → k < length xs → IsLine (get_or xs k zero_line)
  pub entry : entries whole_lines 0 xs ≡ e ∷ []
  pub room : tail + length xs ≤ start + ring_lines g

-- one line of eight words
pub one_line : (x : Line) → IsLine x → (k : ℕ) → k < 1 → IsLine (get_or (x ∷ []) k zero_line)
one_line x is zero h = is
one_line x is (suc k) h = absurd (omega arith)

module _ {g : Sizes} {start tail : ℕ} {words kept : Words} {s : State} {xs : List Line} {e : Entry} (puts : PutsEntry g start tail words kept s xs e) where
  abbrev b : Bookkeeping
  b = keeping g words kept

  abbrev sup : Super
  sup = super_of (current s)

  sup_is : sup ≡ super_with g start tail
  sup_is = (puts.it).super_words

  pub can_put : CanPut s (length xs)
  can_put = facts_can_put b s (length xs) (puts.it).facts refl (subst (λ (x : Super). x.tail + length xs ≤ x.start + ring_lines g) (sym sup_is) puts.room)

  -- the calls, by the superblock and by the offsets
  pub calls_are : append_calls sup.sizes sup.tail xs ≡ append_calls g tail xs
  calls_are = ap (λ (x : Super). append_calls x.sizes x.tail xs) sup_is

  pub amid_put : (mid : State) → Amid s (append_calls g tail xs) mid → Amid s (append_calls sup.sizes sup.tail xs) mid
  amid_put mid amid = subst (λ (cs : List Call). Amid s cs mid) (sym calls_are) amid

  abbrev s₁ : State
  s₁ = after_all (append_calls sup.sizes sup.tail xs) s

  -- What holds of an image when the lines stand.
  pub record Behind (i : Image) : Type 0 where
    pub j : Image
    pub left : Leaves s j
    pub super_words : super_of i ≡ record sup { tail = sup.tail + length xs }
    pub lines : log_lines i ≡ log_lines j ++ xs
    pub log : log_of whole_lines i ≡ extended (log_of whole_lines j) e

  pub behind : (i : Image) → Leaves s₁ i → Behind i
  behind i left =
      let found : (j : Image) × Leaves s j × Extends i j xs = put_done s xs can_put puts.are_lines i left in
      record {
        j = found.0;
        left = found.1;
        super_words = (found.2).super_words ∙ ap (λ (x : Super). record x { tail = x.tail + length xs }) (durable_super s (length xs) can_put found.0 found.1);
        lines = (found.2).log;
        log = extended_log whole_lines i found.0 xs found.2 (store_whole whole_lines found.0 ((puts.it).facts.stores found.0 found.1))
            ∙ ap (grouped (log_of whole_lines found.0)) puts.entry;
      }

  pub super_behind : super_of (current s₁) ≡ super_with g start (tail + length xs)
  super_behind = (behind (current s₁) (current_leaves s₁)).super_words ∙ ap (λ (x : Super). record x { tail = x.tail + length xs }) sup_is

  -- the frames are as they were
  not_free : (p l : ℕ) → IsFree sup.sizes sup.tail (length xs) (frame_line g p l) → ⊥
  not_free p l free =
      let low : frame_line g p l < ring_start g + ring_lines g =
      subst (λ (x : Super). frame_line g p l < ring_start x.sizes + ring_lines x.sizes) sup_is (free_high s xs can_put (frame_line g p l) free).1 in omega arith

  pub newest_behind : (p l w : ℕ) → (s₁.nvm (frame_line g p l) w).newest ≡ (s.nvm (frame_line g p l) w).newest
  newest_behind p l w = put_newest s xs can_put (frame_line g p l) w (λ at. omega arith) (not_free p l)

  pub kept_behind : (p l w : ℕ) → (s₁.nvm (frame_line g p l) w).kept ≡ (s.nvm (frame_line g p l) w).kept
  kept_behind p l w = ap (λ (x : Word). x.kept) (put_word s xs can_put (frame_line g p l) w (λ at. omega arith) (not_free p l))

  -- The current lines are those that they were, and the log has the lines last.
  pub lines_behind : pages_in g (after_all (append_calls g tail xs) s) ≡ lines_of (pages g) words
  lines_behind =
      ap (λ (cs : List Call). pages_in g (after_all cs s)) (sym calls_are)
      ∙ lines_of-same (pages g) (words_in g s₁) words (λ p l w hp hl hw. newest_behind p l w ∙ (puts.it).newest p l w (record { page = hp; line = hl; word = hw }))

  pub log_behind : log_lines (current (after_all (append_calls g tail xs) s)) ≡ log_lines (current s) ++ xs
  log_behind =
      let x : Behind (current s₁) = behind (current s₁) (current_leaves s₁) in
      ap (λ (cs : List Call). log_lines (current (after_all cs s))) (sym calls_are) ∙ x.lines ∙ ap (λ (lines : List Line). lines ++ xs) (log_durable s (length xs) can_put x.j x.left)

  -- Where the facts hold at each moment while the lines are put.
  module _ (committed : ℕ → Words)
      (moment : (mid : State) → Amid s (append_calls sup.sizes sup.tail xs) mid → StoreFacts (moving b sup.tail (sup.tail + length xs) committed) mid) where
    pub held_behind : (mid : State) → Amid s (append_calls g tail xs) mid → HoldsFacts g mid
    held_behind mid amid = record {
      keeps = moving b sup.tail (sup.tail + length xs) committed;
      format = refl;
      sizes = refl;
      facts = moment mid (amid_put mid amid);
    }

    -- and these words are committed with the new tail
    module _ (kept₁ : Words) (same : (p l w : ℕ) → committed (sup.tail + length xs) p l w ≡ kept₁ p l w) where
      pub facts_behind : StoreFacts (keeping g words kept₁) s₁
      facts_behind =
          facts_committed b committed (λ n. kept₁) s₁
          (facts_done b sup.tail (sup.tail + length xs) committed s₁ (moment s₁ (Amid_end (append_calls sup.sizes sup.tail xs) s)) (ap (λ (x : Word). x.older) (put_gate s xs can_put)))
          (λ i left p l w. ap (λ (x : Super). committed x.tail p l w) (behind i left).super_words ∙ same p l w)

      pub committed_behind : committed_in (after_all (append_calls g tail xs) s) ≡ lines_of (pages g) kept₁
      committed_behind =
          ap (λ (cs : List Call). committed_in (after_all cs s)) (sym calls_are)
          ∙ pages_by (keeping g words kept₁) s₁ facts_behind kept₁ (λ n p l w. refl) (current s₁) (current_leaves s₁)

      -- The facts of an open store hold, where with a commit last the log then gives the current words.
      pub open_behind : ((j : Image) → Leaves s j → LogEnds g (extended (log_of whole_lines j) e) words) → OpenFacts g start (tail + length xs) (after_all (append_calls g tail xs) s)
      open_behind ends = subst (λ (cs : List Call). OpenFacts g start (tail + length xs) (after_all cs s)) calls_are (record {
        words = words;
        kept = kept₁;
        super_words = super_behind;
        facts = facts_behind;
        newest = λ p l w word. newest_behind p l w ∙ (puts.it).newest p l w word;
        flushed = λ p l w word. kept_behind p l w ∙ (puts.it).flushed p l w word;
        ends = λ i left. subst (λ (log : Log). LogEnds g log words) (sym (behind i left).log) (ends (behind i left).j (behind i left).left);
      })
