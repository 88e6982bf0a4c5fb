-- A recovery: at each moment every image is a store that recovers to the same lines, and at its end the log is empty and every
-- home is durable.
use Rattle.std.proofs.Common.{◌≡◌, ◌≢◌, ℕ, ◌*◌, ◌<◌, true, List, [], ◌∷◌, ◌++◌, refl, sym, ap, ◌∙◌, subst, inl, inr, arith}
use Rattle.nvm_model.specs.declared.line.Line.{Line}
use Rattle.nvm_model.specs.Word.{Word, IsSingle, trimmed}
use Rattle.nvm_model.proofs.WordLaws.{single_version}
use Rattle.devices.specs.State.{State, Image, Leaves, Amid, after_all, current, fenced, word_stored}
use Rattle.devices.specs.State.Call.{fence}
use Rattle.devices.specs.Growth.{Grows, no_store, no_write}
use Rattle.devices.proofs.GrowthLaws.{Amid_end, Amid_append, Amid-grows, after_all_append}
use Rattle.devices.proofs.StateLaws.{word_stored_other, flushed_other}
use Rattle.line_pages.specs.Lines.{Lines}
use Rattle.flat_store_meaning.specs.Layout.{Sizes, pages, frame_line}
use Rattle.flat_store_meaning.specs.Log.{Words, Log, is_logged, no_log, grouped, replayed as replay_log}
use Rattle.flat_store_meaning.specs.Format.{Format, entries}
use Rattle.flat_store_meaning.specs.Format.Format.{whole_lines}
use Rattle.flat_store_meaning.specs.Recovered.{Super, super_of, log_of, home, recovered, recovered_pages, lines_of, IsStore}
use Rattle.flat_store_meaning.specs.InOrder.{Stands, HomeStands}
use Rattle.flat_store_meaning.specs.Put.{CanPut, start_calls}
use Rattle.flat_store_meaning.specs.StoreFacts.{Bookkeeping, IsWord, StoreFacts}
use Rattle.flat_store_meaning.specs.AtEnd.{LogEnds, starting}
use Rattle.flat_store_meaning.proofs.EndsLaws.{none_ends}
use Rattle.flat_store_meaning.proofs.FactsLaws.{current_leaves, facts_recover}
use Rattle.flat_store_meaning.proofs.RecoveredLaws.{lines_of-same}
use Rattle.flat_store_meaning.proofs.StartLaws.{start_facts, start_done, start_single, start_super, start_empty}
use Rattle.flat_store_laws.specs.Calls.{checkpoint_calls}
use Rattle.flat_store_laws.specs.OpenFacts.{OpenFacts, keeping, super_with}
use Rattle.flat_store_laws.specs.Steps.{KeepsOpen}
use Rattle.flat_store_laws.specs.ShownPages.{words_in, pages_in, committed_in}
use Rattle.flat_store_laws.proofs.CheckpointLaws.{grown_leaves, grown_facts}
use Rattle.flat_store_laws.proofs.OpenLaws.{facts_can_store}
use Rattle.flat_recovery.specs.Calls.{flush_calls, super_calls, replay_calls, settle_calls, recover_calls}
use Rattle.flat_recovery.specs.Recovering.{LeavesStores, HoldsFacts}
use Rattle.flat_recovery.proofs.FlushLaws.{flushes_within, flushes_newest, flushes_made, fenced_single}
use Rattle.flat_recovery.proofs.StandsLaws.{stands_facts, stands_log, same_super}
use Rattle.flat_recovery.proofs.SuperLaws.{super_current, super_grows}
use Rattle.flat_recovery.proofs.ReplayLaws.{LogOfStore, Replays, replay_words, replay_logged, replays_moment}

-- Where the facts hold, every image is a store that recovers to the committed lines.
facts_leave : (g : Sizes) (lines : Lines) (s : State) → HoldsFacts g lines s → LeavesStores g lines s
facts_leave g lines s it i left =
    let facts : StoreFacts it.books s = it.facts in
    record {
      is_sized = record { store = subst (λ (f : Format). IsStore f i) it.format (facts.stores i left); sizes = facts.sizes i left ∙ it.sizes };
      pages = ap (λ (f : Format). recovered_pages f i) (sym it.format)
          ∙ ap (λ (x : Sizes). lines_of (pages x) (recovered (it.books).format i)) (facts.sizes i left ∙ it.sizes)
          ∙ lines_of-same (pages g) (recovered (it.books).format i) ((it.books).committed (super_of i).tail)
          (λ p l w hp hl hw. facts_recover it.books s facts i left p l w (record { page = subst (λ (x : Sizes). p < pages x) (sym it.sizes) hp; line = hl; word = hw }))
          ∙ it.committed (super_of i).tail;
    }

module _ (g : Sizes) (start tail lines blocks : ℕ) (s : State) (stands : Stands whole_lines lines blocks s) (is : super_of (current s) ≡ super_with g start tail)
    (of_store : LogOfStore g (log_of whole_lines (current s))) where
  abbrev given : Words
  given = recovered whole_lines (current s)

  abbrev log₀ : Log
  log₀ = log_of whole_lines (current s)

  abbrev b : Bookkeeping
  b = keeping g given given

  same_sizes : (super_of (current s)).sizes ≡ g
  same_sizes = ap (λ (x : Super). x.sizes) is

  begins : Replays g given (super_of (current s)) log₀ s
  begins = record {
    facts = subst (λ (x : Sizes). StoreFacts (keeping x given given) s) same_sizes (stands_facts lines blocks s stands);
    gates = λ i left. same_super lines blocks s stands i left;
    has = λ i left. stands_log lines blocks s stands i left;
  }

  -- while the superblock is made durable
  super_moment : (mid : State) → Amid s super_calls mid → Replays g given (super_of (current s)) log₀ mid
  super_moment mid amid =
      let grows : Grows no_store no_write s mid = super_grows s mid amid in
      record {
        facts = grown_facts s mid grows b begins.facts;
        gates = λ i left. begins.gates i (grown_leaves s mid grows i left);
        has = λ i left. begins.has i (grown_leaves s mid grows i left);
      }

  -- the superblock is durable; the replay is done; every line is flushed; a fence; the log is empty
  abbrev secured : State
  secured = after_all super_calls s

  abbrev replayed : State
  replayed = after_all (replay_calls g log₀) secured

  abbrev marked : State
  marked = after_all (flush_calls (frame_line g 0 0) (64 * pages g)) replayed

  abbrev durable : State
  durable = fenced marked

  replay_moment : (mid : State) → Amid secured (replay_calls g log₀) mid → Replays g given (super_of (current s)) log₀ mid
  replay_moment mid amid = replays_moment g given (super_of (current s)) log₀ (replay_calls g log₀) (replay_logged g log₀ of_store) secured (super_moment secured (Amid_end super_calls s)) mid amid

  ends : Replays g given (super_of (current s)) log₀ replayed
  ends = replay_moment replayed (Amid_end (replay_calls g log₀) secured)

  flush_moment : (mid : State) → Amid replayed (flush_calls (frame_line g 0 0) (64 * pages g)) mid → StoreFacts b mid
  flush_moment mid amid =
      grown_facts replayed mid (Amid-grows no_store no_write (flush_calls (frame_line g 0 0) (64 * pages g)) replayed mid (flushes_within no_store no_write (frame_line g 0 0) (64 * pages g)) amid) b ends.facts

  facts₂ : StoreFacts b marked
  facts₂ = flush_moment marked (Amid_end (flush_calls (frame_line g 0 0) (64 * pages g)) replayed)

  fence_moment : (mid : State) → Amid marked (fence ∷ []) mid → StoreFacts b mid
  fence_moment mid amid = grown_facts marked mid (Amid-grows no_store no_write (fence ∷ []) marked mid (tt, tt) amid) b facts₂

  facts₃ : StoreFacts b durable
  facts₃ = fence_moment durable (Amid_end (fence ∷ []) marked)

  can : CanPut durable 0
  can = facts_can_store b durable facts₃ refl

  -- every home has one version, which is what recovery gives
  home_single : (p l w : ℕ) → IsWord g p l w → IsSingle (durable.nvm (frame_line g p l) w)
  home_single p l w word =
      let hp : p < pages g = word.page in
      let hl : l < 64 = word.line in
      fenced_single (marked.nvm (frame_line g p l) w) (flushes_made (frame_line g 0 0) (64 * pages g) replayed (frame_line g p l) w (omega arith) (omega arith))

  home_newest : (p l w : ℕ) → IsWord g p l w → (durable.nvm (frame_line g p l) w).newest ≡ given p l w
  home_newest p l w word =
      flushes_newest (frame_line g 0 0) (64 * pages g) replayed (frame_line g p l) w
      ∙ replay_words g log₀ secured of_store p l w word.line word.word
      ∙ ap (λ (i : Image). replay_log log₀ (λ p l w. i.nvm (frame_line g p l) w) p l w) (super_current s)
      ∙ ap (λ (x : Sizes). replay_log log₀ (words_in x s) p l w) (sym same_sizes)

  home_is : (j : Image) → Leaves durable j → (p l w : ℕ) → IsWord g p l w → home j p l w ≡ given p l w
  home_is j left p l w word =
      ap (λ (x : Sizes). j.nvm (frame_line x p l) w) (facts₃.sizes j left)
      ∙ single_version (durable.nvm (frame_line g p l) w) (j.nvm (frame_line g p l) w) (home_single p l w word) (left.words (frame_line g p l) w) ∙ home_newest p l w word

  stand : (j : Image) → Leaves durable j → (p l w : ℕ) → IsWord g p l w → is_logged (log_of whole_lines j) p l w ≡ true
      → HomeStands g durable p l w × (home j p l w ≡ given p l w) × (home j p l w ≡ given p l w)
  stand j left p l w word logged = (
    (λ v version. single_version (durable.nvm (frame_line g p l) w) v (home_single p l w word) version),
    home_is j left p l w word,
    home_is j left p l w word,
  )

  abbrev sup : Super
  sup = super_of (current durable)

  sup_is : sup ≡ super_with g start tail
  sup_is =
      ends.gates (current durable) (grown_leaves replayed marked flush_grows (current durable) (grown_leaves marked durable fence_grows (current durable) (current_leaves durable))) ∙ is
    where
      flush_grows : Grows no_store no_write replayed marked
      flush_grows = Amid-grows no_store no_write (flush_calls (frame_line g 0 0) (64 * pages g)) replayed marked
          (flushes_within no_store no_write (frame_line g 0 0) (64 * pages g)) (Amid_end (flush_calls (frame_line g 0 0) (64 * pages g)) replayed)

      fence_grows : Grows no_store no_write marked durable
      fence_grows = Amid-grows no_store no_write (fence ∷ []) marked durable (tt, tt) (Amid_end (fence ∷ []) marked)

  same_tail : sup.tail ≡ tail
  same_tail = ap (λ (x : Super). x.tail) sup_is

  -- while the log is emptied
  start_moment : (mid : State) → Amid durable (start_calls sup.tail) mid → StoreFacts (starting b durable) mid
  start_moment mid amid = start_facts b durable facts₃ can refl stand (λ j left p l w line word none. absurd (cc)) mid amid

  abbrev emptied : State
  emptied = after_all (start_calls sup.tail) durable

  other_word : (l w : ℕ) → l ≢ 1 → emptied.nvm l w ≡ trimmed (durable.nvm l w)
  other_word l w other = ap trimmed (flushed_other 1 (word_stored 1 0 sup.tail durable) l w other ∙ word_stored_other 1 0 sup.tail durable l w (inl other))

  home_kept : (p l w : ℕ) → IsWord g p l w → (durable.nvm (frame_line g p l) w).kept ≡ 0
  home_kept p l w word =
      let hp : p < pages g = word.page in
      let hl : l < 64 = word.line in
      flushes_made (frame_line g 0 0) (64 * pages g) replayed (frame_line g p l) w (omega arith) (omega arith)

  done : OpenFacts g tail tail emptied
  done = record {
    words = given;
    kept = given;
    super_words = start_super durable can ∙ ap (λ (x : Super). record x { start = x.tail; drained = x.tail }) sup_is;
    facts = start_done b sup.start sup.tail emptied (start_moment emptied (Amid_end (start_calls sup.tail) durable)) (ap (λ (x : Word). x.older) (start_single sup.tail durable));
    newest = λ p l w word. ap (λ (x : Word). x.newest) (other_word (frame_line g p l) w (λ e. omega arith)) ∙ home_newest p l w word;
    flushed = λ p l w word. ap (λ (x : Word). x.kept) (other_word (frame_line g p l) w (λ e. omega arith)) ∙ home_kept p l w word;
    ends = λ i left. subst (λ (log : Log). LogEnds g log given) (sym (ap (λ (lines : List Line). grouped no_log (entries whole_lines 0 lines)) (start_empty durable can i left))) (none_ends g given);
  }

  after_recover : after_all (recover_calls g log₀ tail) s ≡ emptied
  after_recover =
      after_all_append super_calls (replay_calls g log₀ ++ settle_calls g tail) s
      ∙ after_all_append (replay_calls g log₀) (settle_calls g tail) secured
      ∙ after_all_append (flush_calls (frame_line g 0 0) (64 * pages g)) (checkpoint_calls tail) replayed
      ∙ ap (λ n. after_all (start_calls n) durable) (sym same_tail)

  -- When the calls are done the facts of an open store hold, with an empty log.
  pub recover_open : OpenFacts g tail tail (after_all (recover_calls g log₀ tail) s)
  recover_open = subst (λ (x : State). OpenFacts g tail tail x) (sym after_recover) done

  given_pages : committed_in s ≡ lines_of (pages g) given
  given_pages = ap (λ (x : Sizes). lines_of (pages x) given) same_sizes

  -- The current lines are what recovery gave before.
  pub recover_current : pages_in g (after_all (recover_calls g log₀ tail) s) ≡ committed_in s
  unfolding done
  recover_current =
      ap (λ (x : State). pages_in g x) after_recover
      ∙ lines_of-same (pages g) (words_in g emptied) given (λ p l w hp hl hw. done.newest p l w (record { page = hp; line = hl; word = hw }))
      ∙ sym given_pages

  holds_by : (mid : State) (x : Bookkeeping) → StoreFacts x mid → x.format ≡ whole_lines → x.sizes ≡ g → ((n p l w : ℕ) → x.committed n p l w ≡ given p l w) → HoldsFacts g (committed_in s) mid
  holds_by mid x facts format sizes committed = record {
    books = x;
    sizes = sizes;
    format = format;
    committed = λ n. lines_of-same (pages g) (x.committed n) given (λ p l w hp hl hw. committed n p l w) ∙ sym given_pages;
    facts = facts;
  }

  held : (mid : State) → StoreFacts b mid → HoldsFacts g (committed_in s) mid
  held mid facts = holds_by mid b facts refl refl (λ n p l w. refl)

  -- At each moment the facts hold, with what recovery gave before as the committed lines.
  pub recover_facts : (mid : State) → Amid s (recover_calls g log₀ tail) mid → HoldsFacts g (committed_in s) mid
  recover_facts mid amid = elim (Amid_append super_calls (replay_calls g log₀ ++ settle_calls g tail) s mid amid) [
    | inl first ↦ held mid (super_moment mid first).facts
    | inr rest ↦ elim (Amid_append (replay_calls g log₀) (settle_calls g tail) secured mid rest) [
      | inl replays ↦ held mid (replay_moment mid replays).facts
      | inr later ↦ elim (Amid_append (flush_calls (frame_line g 0 0) (64 * pages g)) (checkpoint_calls tail) replayed mid later) [
        | inl flushing ↦ held mid (flush_moment mid flushing)
        | inr last ↦ elim last [
          | inl fencing ↦ held mid (fence_moment mid (inl fencing))
          | inr starts ↦ holds_by mid (starting b durable) (start_moment mid (subst (λ n. Amid durable (start_calls n) mid) (sym same_tail) starts)) refl refl (λ n p l w. refl)
        ]
      ]
    ]
  ]

  -- So every image is a store that recovers to the same lines.
  pub recover_moment : (mid : State) → Amid s (recover_calls g log₀ tail) mid → LeavesStores g (committed_in s) mid
  recover_moment mid amid = facts_leave g (committed_in s) mid (recover_facts mid amid)

  -- So the calls keep the facts of an open store, and make the current lines what recovery gave before.
  pub recover_step : KeepsOpen g tail tail (λ lines. committed_in s) (recover_calls g log₀ tail) s
  recover_step = record { leads = record { facts = recover_open; moments = recover_moment }; current = recover_current }

-- Devices that stand for a store hold the facts, and leave no image but such a store.
pub stands_hold : (lines blocks : ℕ) (s : State) → Stands whole_lines lines blocks s → HoldsFacts (super_of (current s)).sizes (committed_in s) s
stands_hold lines blocks s stands = record {
  books = keeping (super_of (current s)).sizes (recovered whole_lines (current s)) (recovered whole_lines (current s));
  sizes = refl;
  format = refl;
  committed = λ n. refl;
  facts = stands_facts lines blocks s stands;
}

pub stands_leave : (lines blocks : ℕ) (s : State) → Stands whole_lines lines blocks s → LeavesStores (super_of (current s)).sizes (committed_in s) s
stands_leave lines blocks s stands = facts_leave (super_of (current s)).sizes (committed_in s) s (stands_hold lines blocks s stands)
