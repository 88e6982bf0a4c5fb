-- What a recovery leaves of any devices: one version of each word of the superblock and of each home, so that with an empty log the
-- facts of an open store hold, whatever a crash leaves.
use Rattle.std.proofs.Common.{◌≡◌, ◌≢◌, ◌⊎◌, ℕ, zero, suc, ◌-◌, ◌*◌, ◌<◌, ◌≤◌, List, [], ◌∷◌, ◌++◌, refl, sym, ap, ◌∙◌, subst, inl, inr, arith, None, slice_index}
use Rattle.nvm_model.specs.declared.line.Line.{Line}
use Rattle.nvm_model.specs.Word.{Word, IsSingle, trimmed}
use Rattle.nvm_model.proofs.WordLaws.{single_version}
use Rattle.devices.specs.State.{State, Call, Amid, after_all, current, fenced, word_stored}
use Rattle.devices.specs.Growth.{Grows, IsWithin, AreWithin, no_write}
use Rattle.devices.proofs.GrowthLaws.{Amid_end, Amid-grows, Grows-single, after_all_append}
use Rattle.devices.proofs.StateLaws.{word_stored_other, flushed_other}
use Rattle.flat_store_meaning.specs.Layout.{Sizes, pages, frame_line, nvm_lines, ssd_blocks}
use Rattle.flat_store_meaning.specs.Log.{Words, Log, no_log, grouped}
use Rattle.flat_store_meaning.specs.Format.{entries}
use Rattle.flat_store_meaning.specs.Format.Format.{whole_lines}
use Rattle.flat_store_meaning.specs.Recovered.{Super, super_of, super_check, image_log_check, from, log_line, log_lines, log_of, home, replay, recovered, IsStore}
use Rattle.flat_store_meaning.specs.InOrder.{IsNamed, Stands}
use Rattle.flat_store_meaning.specs.InOrder.IsNamed.{magic_word, tables, rows, writes, frames, log_blocks, start, drained, tail}
use Rattle.flat_store_meaning.specs.Put.{start_calls}
use Rattle.flat_store_meaning.specs.StoreFacts.{IsWord, StoreFacts}
use Rattle.flat_store_meaning.specs.AtEnd.{LogEnds}
use Rattle.flat_store_meaning.proofs.CheckLaws.{checks_none}
use Rattle.flat_store_meaning.proofs.EndsLaws.{none_ends}
use Rattle.flat_store_meaning.proofs.StartLaws.{start_single}
use Rattle.flat_store_laws.specs.Calls.{checkpoint_calls}
use Rattle.flat_store_laws.specs.OpenFacts.{OpenFacts, keeping, super_with}
use Rattle.flat_recovery.specs.Calls.{flush_calls, super_calls, replay_calls, settle_calls, recover_calls}
use Rattle.flat_recovery.proofs.FlushLaws.{within_append, flushes_within, flushes_made, fenced_single}
use Rattle.flat_recovery.proofs.SuperLaws.{super_single}
use Rattle.flat_recovery.proofs.StandsLaws.{stands_facts, stands_log}
use Rattle.flat_recovery.proofs.ReplayLaws.{LogOfStore, AreLoggedStores, IsLoggedStore, replay_logged}

-- One version of each named word of the superblock and of each word of a home, which is marked.
pub record IsSettled (g : Sizes) (s : State) : Type 0 where
  pub superblock : (l w : ℕ) → IsNamed l w → IsSingle (s.nvm l w)
  pub homes : (p l w : ℕ) → IsWord g p l w → IsSingle (s.nvm (frame_line g p l) w)
  pub marked : (p l w : ℕ) → IsWord g p l w → (s.nvm (frame_line g p l) w).kept ≡ 0

-- A replay stores in frames alone.
logged_within : (stores : ℕ → ℕ → ℕ → Type 0) (g : Sizes) (log : Log) (calls : List Call) → ((p l w v : ℕ) → stores (frame_line g p l) w v) → AreLoggedStores g log calls → AreWithin stores no_write calls
logged_within stores g log [] frame all = tt
logged_within stores g log (call ∷ calls) frame all = (one call all.0, logged_within stores g log calls frame all.1)
  where
    one : (call : Call) → IsLoggedStore g log call → IsWithin stores no_write call
    one call it = subst (λ (c : Call). IsWithin stores no_write c) (sym it.is) (λ w hw. frame it.page it.line w (slice_index it.value.words w))

-- What the calls of a recovery leave of any state.
module _ (g : Sizes) (log : Log) (of_store : LogOfStore g log) (to : ℕ) (s : State) where
  abbrev secured : State
  secured = after_all super_calls s

  abbrev replayed : State
  replayed = after_all (replay_calls g log) secured

  abbrev flushed : State
  flushed = after_all (flush_calls (frame_line g 0 0) (64 * pages g)) replayed

  abbrev durable : State
  durable = fenced flushed

  abbrev emptied : State
  emptied = after_all (start_calls to) durable

  -- behind the superblock the start and lines of frames are stored
  abbrev outside : ℕ → ℕ → ℕ → Type 0
  outside l w v = (l ≡ 1) ⊎ (4 ≤ l)

  settle_is : after_all (settle_calls g to) replayed ≡ emptied
  settle_is = after_all_append (flush_calls (frame_line g 0 0) (64 * pages g)) (checkpoint_calls to) replayed

  rest_is : after_all (replay_calls g log ++ settle_calls g to) secured ≡ emptied
  rest_is = after_all_append (replay_calls g log) (settle_calls g to) secured ∙ settle_is

  rest_within : AreWithin outside no_write (replay_calls g log ++ settle_calls g to)
  rest_within =
      within_append outside no_write (replay_calls g log) (settle_calls g to)
      (logged_within outside g log (replay_calls g log) (λ p l w v. inr (omega arith)) (replay_logged g log of_store))
      (within_append outside no_write (flush_calls (frame_line g 0 0) (64 * pages g)) (checkpoint_calls to) (flushes_within outside no_write (frame_line g 0 0) (64 * pages g)) (tt, (inl refl, (tt, (tt, tt)))))

  grown : Grows outside no_write secured emptied
  grown = Amid-grows outside no_write (replay_calls g log ++ settle_calls g to) secured emptied rest_within
      (subst (λ (x : State). Amid secured (replay_calls g log ++ settle_calls g to) x) rest_is (Amid_end (replay_calls g log ++ settle_calls g to) secured))

  kept_single : (l w : ℕ) → l < 4 → l ≢ 1 → IsSingle (emptied.nvm l w)
  kept_single l w low other = Grows-single outside no_write secured emptied grown l w (λ v at. elim at [ inl here ↦ other here | inr high ↦ absurd (omega arith) ]) (super_single s l w low)

  superblock_single : (l w : ℕ) → IsNamed l w → IsSingle (emptied.nvm l w)
  superblock_single l w magic_word = kept_single 0 0 (omega arith) (λ e. omega arith)
  superblock_single l w tables = kept_single 0 1 (omega arith) (λ e. omega arith)
  superblock_single l w rows = kept_single 0 2 (omega arith) (λ e. omega arith)
  superblock_single l w writes = kept_single 0 3 (omega arith) (λ e. omega arith)
  superblock_single l w frames = kept_single 0 4 (omega arith) (λ e. omega arith)
  superblock_single l w log_blocks = kept_single 0 5 (omega arith) (λ e. omega arith)
  superblock_single l w start = ap (λ (x : Word). x.older) (start_single to durable)
  superblock_single l w drained = kept_single 2 0 (omega arith) (λ e. omega arith)
  superblock_single l w tail = kept_single 3 0 (omega arith) (λ e. omega arith)

  other_word : (l w : ℕ) → l ≢ 1 → emptied.nvm l w ≡ trimmed (durable.nvm l w)
  other_word l w other = ap trimmed (flushed_other 1 (word_stored 1 0 to durable) l w other ∙ word_stored_other 1 0 to durable l w (inl other))

  home_kept : (p l w : ℕ) → IsWord g p l w → (flushed.nvm (frame_line g p l) w).kept ≡ 0
  home_kept p l w word =
      let hp : p < pages g = word.page in
      let hl : l < 64 = word.line in
      flushes_made (frame_line g 0 0) (64 * pages g) replayed (frame_line g p l) w (omega arith) (omega arith)

  emptied_settled : IsSettled g emptied
  emptied_settled = record {
    superblock = superblock_single;
    homes = λ p l w word. subst (λ (x : Word). IsSingle x) (sym (other_word (frame_line g p l) w (λ e. omega arith))) (fenced_single (durable.nvm (frame_line g p l) w) (home_kept p l w word));
    marked = λ p l w word. ap (λ (x : Word). x.kept) (other_word (frame_line g p l) w (λ e. omega arith)) ∙ home_kept p l w word;
  }

  pub recover_settled : IsSettled g (after_all (recover_calls g log to) s)
  recover_settled = subst (λ (x : State). IsSettled g x) (sym (after_all_append super_calls (replay_calls g log ++ settle_calls g to) s ∙ rest_is)) emptied_settled

no_lines_from : (f : ℕ → Line) (at n : ℕ) → n ≡ 0 → from f at n ≡ []
no_lines_from f at zero e = refl
no_lines_from f at (suc n) e = absurd (omega arith)

-- A store that is settled and whose log is empty.
module _ (g : Sizes) (end : ℕ) (s : State) (it : IsSettled g s) (super_words : super_of (current s) ≡ super_with g end end) (store : IsStore whole_lines (current s)) where
  abbrev sup : Super
  sup = super_of (current s)

  abbrev given : Words
  given = recovered whole_lines (current s)

  same_sizes : sup.sizes ≡ g
  same_sizes = ap (λ (x : Super). x.sizes) super_words

  no_lines : log_lines (current s) ≡ []
  no_lines = ap (λ (x : Super). from (log_line x.sizes x.drained (current s)) x.start (x.tail - x.start)) super_words ∙ no_lines_from (log_line g end (current s)) end (end - end) (omega arith)

  empty : log_of whole_lines (current s) ≡ no_log
  empty = ap (λ (lines : List Line). grouped no_log (entries whole_lines 0 lines)) no_lines

  stands : Stands whole_lines (nvm_lines sup.sizes) (ssd_blocks sup.sizes) s
  stands =
      let checks : (super_check sup ≡ None) × (image_log_check whole_lines (current s) ≡ None) = checks_none whole_lines (current s) store.checks in
      record {
        gates = record { superblock = it.superblock; magic = store.magic_word; super_checks = checks.0; nvm_fits = omega arith; ssd_fits = omega arith };
        log = record {
          lines = λ o above below. absurd (let first : sup.start ≡ end = ap (λ (x : Super). x.start) super_words in let last : sup.tail ≡ end = ap (λ (x : Super). x.tail) super_words in omega arith);
          checks = checks.1;
        };
        homes = λ p l w hp hl hw none v version. single_version (s.nvm (frame_line sup.sizes p l) w) v
            (subst (λ (x : Sizes). IsSingle (s.nvm (frame_line x p l) w)) (sym same_sizes) (it.homes p l w (record { page = subst (λ (x : Sizes). p < pages x) same_sizes hp; line = hl; word = hw }))) version;
      }

  -- The facts of an open store hold.
  pub settled_open : OpenFacts g end end s
  settled_open = record {
    words = given;
    kept = given;
    super_words = super_words;
    facts = subst (λ (x : Sizes). StoreFacts (keeping x given given) s) same_sizes (stands_facts (nvm_lines sup.sizes) (ssd_blocks sup.sizes) s stands);
    newest = λ p l w word. sym (ap (λ (log : Log). replay whole_lines log (home (current s)) p l w) empty ∙ ap (λ (x : Sizes). (s.nvm (frame_line x p l) w).newest) same_sizes);
    flushed = it.marked;
    ends = λ i left. subst (λ (log : Log). LogEnds g log given) (sym (stands_log (nvm_lines sup.sizes) (ssd_blocks sup.sizes) s stands i left ∙ empty)) (none_ends g given);
  }
