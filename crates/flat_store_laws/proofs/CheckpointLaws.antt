-- A checkpoint, where no transaction is open: a fence makes each home the committed word, and then the log is emptied.
use Rattle.std.proofs.Common.{◌≡◌, ◌≢◌, ℕ, true, List, [], ◌∷◌, take, refl, sym, ap, ◌∙◌, subst, inl, inr, arith}
use Rattle.nvm_model.specs.declared.line.Line.{Line}
use Rattle.nvm_model.specs.Word.{Word, IsSingle, trimmed}
use Rattle.devices.specs.State.{State, Image, Amid, Leaves, current, after_all, fenced, word_stored}
use Rattle.devices.specs.State.Call.{fence}
use Rattle.devices.specs.Growth.{Grows, no_store, no_write}
use Rattle.flat_store_meaning.specs.Layout.{Sizes, pages, frame_line, ring_line}
use Rattle.flat_store_meaning.specs.Log.{Change, Log, is_logged, changes, named_in, no_log, grouped}
use Rattle.flat_store_meaning.specs.Format.{entries}
use Rattle.flat_store_meaning.specs.Format.Format.{whole_lines}
use Rattle.flat_store_meaning.specs.Recovered.{Super, super_of, log_lines, log_of, home, lines_of}
use Rattle.flat_store_meaning.specs.Put.{CanPut, start_calls}
use Rattle.flat_store_meaning.specs.InOrder.{HomeStands}
use Rattle.flat_store_meaning.specs.StoreFacts.{gate_line, gate_word, Bookkeeping, IsWord, StoreFacts}
use Rattle.flat_store_meaning.specs.AtEnd.{LogEnds, starting}
use Rattle.devices.proofs.GrowthLaws.{Amid_end, Amid-grows, Grows-single, Grows-version, Grows-steady, Grows-settled}
use Rattle.devices.proofs.StateLaws.{word_stored_other, flushed_other}
use Rattle.nvm_model.proofs.WordLaws.{single_version}
use Rattle.flat_store_meaning.proofs.FactsLaws.{current_leaves}
use Rattle.flat_store_meaning.proofs.RecoveredLaws.{lines_of-same}
use Rattle.flat_store_meaning.proofs.StartLaws.{start_facts, start_done, start_single, start_super, start_empty}
use Rattle.flat_store_meaning.proofs.EndsLaws.{none_ends}
use Rattle.flat_store_laws.specs.OpenFacts.{OpenFacts, keeping, super_with}
use Rattle.flat_store_laws.specs.Calls.{checkpoint_calls}
use Rattle.flat_store_laws.specs.Steps.{HoldsFacts, IsStoreOf}
use Rattle.flat_store_laws.specs.ShownPages.{pages_in, words_in, committed_in}
use Rattle.flat_store_laws.proofs.OpenLaws.{same_words, open_pages, facts_can_store, open_store, store_by, same_store}

-- Where nothing was stored, each image is one of before, and the facts stay.
module _ (s mid : State) (grows : Grows no_store no_write s mid) where
  nothing : (l w v : ℕ) → no_store l w v → ⊥
  nothing l w v none = none

  pub grown_leaves : (i : Image) → Leaves mid i → Leaves s i
  grown_leaves i left = record {
    words = λ l w. Grows-version no_store no_write s mid grows l w (nothing l w) (i.nvm l w) (left.words l w);
    blocks = λ n settled. elim (grows.blocks n) [ inl written ↦ absurd written | inr kept ↦ left.blocks n (kept.0 settled) ∙ kept.1 ];
  }

  pub grown_facts : (b : Bookkeeping) → StoreFacts b s → StoreFacts b mid
  grown_facts b facts = record {
    gates = record {
      sizes = λ w low high. Grows-single no_store no_write s mid grows 0 w (nothing 0 w) (facts.gates.sizes w low high);
      others = λ gate other. Grows-single no_store no_write s mid grows (gate_line gate) (gate_word gate) (nothing (gate_line gate) (gate_word gate)) (facts.gates.others gate other);
      changing = λ change at v h. facts.gates.changing change at v
          (Grows-version no_store no_write s mid grows (gate_line change.gate) (gate_word change.gate) (nothing (gate_line change.gate) (gate_word change.gate)) v h);
    };
    sizes = λ i left. facts.sizes i (grown_leaves i left);
    durable = λ i left. record {
      log = λ o above below. record {
        in_nvm = λ drained w hw. Grows-single no_store no_write s mid grows (ring_line (super_of i).sizes o) w (nothing (ring_line (super_of i).sizes o) w)
            (((facts.durable i (grown_leaves i left)).log o above below).in_nvm drained w hw);
        in_ssd = λ under. Grows-settled no_store s mid grows _ (((facts.durable i (grown_leaves i left)).log o above below).in_ssd under);
      };
      homes = λ p l w word h. Grows-steady no_store no_write s mid grows (frame_line b.sizes p l) w (nothing (frame_line b.sizes p l) w)
          ((facts.durable i (grown_leaves i left)).homes p l w word h);
    };
    homes = λ i left. facts.homes i (grown_leaves i left);
    log = λ i left. facts.log i (grown_leaves i left);
    copies = λ i left. facts.copies i (grown_leaves i left);
    stores = λ i left. facts.stores i (grown_leaves i left);
  }

fence_grows : (s mid : State) → Amid s (fence ∷ []) mid → Grows no_store no_write s mid
fence_grows s mid amid = Amid-grows no_store no_write (fence ∷ []) s mid (tt, tt) amid

-- No transaction is open: no record stands behind the last end of the log.
module _ (g : Sizes) (start tail : ℕ) (s : State) (it : OpenFacts g start tail s) (closed : changes (log_of whole_lines (current s)).open_items ≡ []) where
  abbrev b : Bookkeeping
  b = keeping g it.words it.kept

  -- the current words are the committed ones
  pub closed_words : (p l w : ℕ) → IsWord g p l w → it.words p l w ≡ it.kept p l w
  closed_words p l w word = same_words g start tail s it (current s) (current_leaves s) p l w word (ap (λ (cs : List Change). named_in cs p l w) closed)

  abbrev s₁ : State
  s₁ = fenced s

  abbrev sup : Super
  sup = super_of (current s₁)

  sup_is : sup ≡ super_with g start tail
  sup_is = it.super_words

  facts₁ : StoreFacts b s₁
  facts₁ = grown_facts s s₁ (fence_grows s s₁ (Amid_end (fence ∷ []) s)) b it.facts

  can : CanPut s₁ 0
  can = facts_can_store b s₁ facts₁ refl

  single₁ : (p l w : ℕ) → IsWord g p l w → IsSingle (s₁.nvm (frame_line g p l) w)
  single₁ p l w word = ap (λ n. take n (s.nvm (frame_line g p l) w).older) (it.flushed p l w word)

  home₁ : (j : Image) → Leaves s₁ j → (p l w : ℕ) → IsWord g p l w → home j p l w ≡ it.words p l w
  home₁ j left p l w word =
      ap (λ (x : Sizes). j.nvm (frame_line x p l) w) (facts₁.sizes j left)
      ∙ single_version (s₁.nvm (frame_line g p l) w) (j.nvm (frame_line g p l) w) (single₁ p l w word) (left.words (frame_line g p l) w) ∙ it.newest p l w word

  stand : (j : Image) → Leaves s₁ j → (p l w : ℕ) → IsWord g p l w → is_logged (log_of whole_lines j) p l w ≡ true
      → HomeStands g s₁ p l w × (home j p l w ≡ it.words p l w) × (home j p l w ≡ it.kept p l w)
  stand j left p l w word logged = (
    (λ v version. single_version (s₁.nvm (frame_line g p l) w) v (single₁ p l w word) version),
    home₁ j left p l w word,
    home₁ j left p l w word ∙ closed_words p l w word,
  )

  -- while the log is emptied
  start_moment : (mid : State) → Amid s₁ (start_calls sup.tail) mid → StoreFacts (starting b s₁) mid
  start_moment mid amid = start_facts b s₁ facts₁ can refl stand (λ j left p l w line word none. absurd (cc)) mid amid

  abbrev s₂ : State
  s₂ = after_all (start_calls sup.tail) s₁

  same_tail : sup.tail ≡ tail
  same_tail = ap (λ (x : Super). x.tail) sup_is

  other_word : (l w : ℕ) → l ≢ 1 → s₂.nvm l w ≡ trimmed (s₁.nvm l w)
  other_word l w other = ap trimmed (flushed_other 1 (word_stored 1 0 sup.tail s₁) l w other ∙ word_stored_other 1 0 sup.tail s₁ l w (inl other))

  done : OpenFacts g tail tail s₂
  done = record {
    words = it.words;
    kept = it.kept;
    super_words = start_super s₁ can ∙ ap (λ (x : Super). record x { start = x.tail; drained = x.tail }) sup_is;
    facts = start_done b sup.start sup.tail s₂ (start_moment s₂ (Amid_end (start_calls sup.tail) s₁)) (ap (λ (x : Word). x.older) (start_single sup.tail s₁));
    newest = λ p l w word. ap (λ (x : Word). x.newest) (other_word (frame_line g p l) w (λ e. omega arith)) ∙ it.newest p l w word;
    flushed = λ p l w word. ap (λ (x : Word). x.kept) (other_word (frame_line g p l) w (λ e. omega arith)) ∙ it.flushed p l w word;
    ends = λ i left. subst (λ (log : Log). LogEnds g log it.words) (sym (ap (λ (lines : List Line). grouped no_log (entries whole_lines 0 lines)) (start_empty s₁ can i left))) (none_ends g it.words);
  }

  -- When the checkpoint is done the facts hold with an empty log.
  pub checkpoint_open : OpenFacts g tail tail (after_all (checkpoint_calls tail) s)
  checkpoint_open = subst (λ n. OpenFacts g tail tail (after_all (start_calls n) s₁)) same_tail done

  pub checkpoint_empty : (i : Image) → Leaves (after_all (checkpoint_calls tail) s) i → log_lines i ≡ []
  checkpoint_empty i left = start_empty s₁ can i (subst (λ n. Leaves (after_all (start_calls n) s₁) i) (sym same_tail) left)

  -- The current lines stay, and so do the committed ones.
  pub checkpoint_newest : pages_in g (after_all (checkpoint_calls tail) s) ≡ pages_in g s
  checkpoint_newest =
      ap (λ n. pages_in g (after_all (start_calls n) s₁)) (sym same_tail)
      ∙ lines_of-same (pages g) (words_in g s₂) (words_in g s) (λ p l w hp hl hw. ap (λ (x : Word). x.newest) (other_word (frame_line g p l) w (λ e. omega arith)))

  pub checkpoint_committed : committed_in (after_all (checkpoint_calls tail) s) ≡ committed_in s
  unfolding done
  checkpoint_committed =
      ap (λ n. committed_in (after_all (start_calls n) s₁)) (sym same_tail)
      ∙ open_pages g tail tail s₂ done (current s₂) (current_leaves s₂) ∙ sym (open_pages g start tail s it (current s) (current_leaves s))

  -- At each moment the facts of a store hold.
  pub checkpoint_held : (mid : State) → Amid s (checkpoint_calls tail) mid → HoldsFacts g mid
  checkpoint_held mid amid = elim amid [
    | inl part ↦ record { keeps = b; format = refl; sizes = refl; facts = grown_facts s mid (fence_grows s mid (inl part)) b it.facts }
    | inr later ↦ record { keeps = starting b s₁; format = refl; sizes = refl; facts = start_moment mid (subst (λ n. Amid s₁ (start_calls n) mid) (sym same_tail) later) }
  ]

  -- At each moment every image is a store that recovers to the committed pages.
  pub checkpoint_moment : (mid : State) → Amid s (checkpoint_calls tail) mid → (i : Image) → Leaves mid i → IsStoreOf g (committed_in s) i
  checkpoint_moment mid amid i left = elim amid [
    | inl part ↦ again (open_store g start tail s it i (grown_leaves s mid (fence_grows s mid (inl part)) i left))
    | inr later ↦ again (store_by (starting b s₁) mid (start_moment mid (subst (λ n. Amid s₁ (start_calls n) mid) (sym same_tail) later)) refl it.kept (λ n p l w. refl) i left)
  ]
    where
      again : IsStoreOf g (lines_of (pages g) it.kept) i → IsStoreOf g (committed_in s) i
      again found = same_store g (lines_of (pages g) it.kept) (committed_in s) i found (sym (open_pages g start tail s it (current s) (current_leaves s)))
