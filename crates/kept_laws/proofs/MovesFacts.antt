-- Moves of homes, a drain and a fence keep what a store keeps between its calls, and the log.
use Rattle.std.proofs.Common.{◌≡◌, ℕ, ◌+◌, ◌<◌, List, [], ◌∷◌, ◌++◌, get_or, append-nil, refl, sym, ap, ◌∙◌, subst, inl, arith, Option, None}
use Rattle.nvm_model.specs.declared.line.Line.{Line}
use Rattle.nvm_model.specs.Word.{Word}
use Rattle.devices.specs.State.{State, current, fenced, after_all}
use Rattle.devices.specs.State.Call.{fence, write_block, sync}
use Rattle.store_model.specs.Log.{Words, Log, no_log, grouped, extended, is_logged}
use Rattle.store_model.specs.Log.Entry.{commit}
use Rattle.store_model.specs.Pending.{with_records, EndsRight}
use Rattle.home_laws.proofs.SeenLaws.{facts_log}
use Rattle.home_laws.proofs.QuietLaws.{fence_facts}
use Rattle.devices.specs.Growth.{no_store, no_write}
use Rattle.store_model.specs.Layout.{Sizes, ring_block, page_block, entry_line, entry_word}
use Rattle.store_model.specs.Format.{entries, word_in, zero_line}
use Rattle.store_model.specs.Recovered.{super_of, log_lines, log_of, replay, block_word}
use Rattle.store_model.specs.StoreFacts.{Gate, Bookkeeping, IsWord, StoreFacts}
use Rattle.store_model.specs.Install.{frame_calls, entry_calls, install_calls, release_calls, CanInstall}
use Rattle.store_model.specs.Drain.{drain_calls, CanDrain}
use Rattle.store_model.specs.Seen.{CanName, CanClear, CanGiveUp, pass_calls}
use Rattle.store_model.specs.Shown.{Placed, Lengthened, HomesFlushed}
use Rattle.store_model.specs.Kept.{KeptShown, KeptAlone, Moves}
use Rattle.devices.proofs.GrowthLaws.{after_all_append}
use Rattle.home_laws.proofs.InstallLaws.{frame_stores, frame_within, frame_fits}
use Rattle.home_laws.proofs.FactsLaws.{current_leaves}
use Rattle.home_laws.proofs.InstallFacts.{frame_quiet, full, full_facts, can_name, frame_made_now, installed, installed_is, install_done}
use Rattle.home_laws.proofs.ReleaseFacts.{block_quiet, settled, settled_facts, can_clear, give_up_done, release_clean_done}
use Rattle.home_laws.proofs.PassFacts.{can_give_up}
use Rattle.log_laws.proofs.DrainFacts.{drain_quiet, drain_done}
use Rattle.log_laws.proofs.DrainFacts
use Rattle.home_laws.proofs.ShownLaws.{name_placed, clear_placed, placed_shows, lengthened_shows}
use Rattle.home_laws.proofs.PlacedFacts.{install_placed, release_placed}
use Rattle.log_laws.proofs.LengthenedFacts.{drain_lengthened}
use Rattle.kept_laws.proofs.FlushedFacts.{quiet_flushed, gate_flushed, name_flushed, clear_flushed}
use Rattle.home_laws.proofs.GateLaws.{gate_others}

-- a step that changes the place of a page
placed_moves : (b : Bookkeeping) (s t : State) (k entry page : ℕ) (words : ℕ → ℕ → ℕ) → KeptShown b s → StoreFacts b t → Placed b.sizes s t k entry page words
    → ((l w : ℕ) → IsWord b.sizes page l w → b.copy page l ≡ None → words l w ≡ b.current page l w) → HomesFlushed b t → Moves b s t
placed_moves b s t k entry page words old facts placed right flushed = record {
  shown = record {
    facts = facts;
    still = old.still;
    alone = old.alone;
    shows = placed_shows b s t k entry page words old.shows placed right;
    flushed = flushed;
  };
  log = placed.log;
}

pub Moves-trans : (b : Bookkeeping) (s t u : State) → Moves b s t → Moves b t u → Moves b s u
Moves-trans b s t u first second = record { shown = second.shown; log = second.log ∙ first.log }

-- Where the log that loads give is as it was, a commit at its end gives what it gave, whatever words these are.
pub ends_over : (b : Bookkeeping) (s t : State) → Moves b s t → (words : Words) (copy : ℕ → ℕ → Option Line)
    → EndsRight (record b { current = words; copy = copy }) s → EndsRight (record b { current = words; copy = copy }) t
ends_over b s t moves words copy ends j left p l w word h homes =
    let log : log_of b.format j ≡ log_of b.format (current s) =
    ap (λ (xs : List Line). grouped no_log (entries b.format 0 xs)) (facts_log b t (moves.shown.facts) (moves.shown.still) j left ∙ moves.log) in
    ap (λ (x : Log). replay b.format (extended (with_records x b.pending) commit) homes p l w) log
    ∙ ends (current s) (current_leaves s) p l w word (sym (ap (λ (x : Log). is_logged (extended (with_records x b.pending) commit) p l w) log) ∙ h) homes

pub moves_alone : (b : Bookkeeping) (s t : State) → KeptAlone b s → Moves b s t → KeptAlone b t
moves_alone b s t old moves = record { shown = moves.shown; ends = ends_over b s t moves b.current b.copy old.ends }

-- An install, where the lines are current where they have no copy.
pub install_moves : (b : Bookkeeping) (s : State) (old : KeptShown b s) (k page : ℕ) (lines : List Line) → CanInstall b.format s k page lines
    → ((l w : ℕ) → IsWord b.sizes page l w → b.copy page l ≡ None → word_in (get_or lines l zero_line) w ≡ b.current page l w) → Moves b s (after_all (install_calls b.sizes k page lines) s)
install_moves b s old k page lines can right =
    placed_moves b s (after_all (install_calls b.sizes k page lines) s) k (page + 1) page (λ l w. word_in (get_or lines l zero_line) w) old
    (install_done b s old.facts old.still k page lines can) (install_placed b s old.facts old.still k page lines can) right
    (subst (λ (t : State). HomesFlushed b t) (sym (installed_is b s old.facts old.still k page lines can))
    (name_flushed b filled k page named (λ l w hl hw. ap (λ (x : Word). x.kept) (frame_made_now b s old.facts old.still k page lines can l w (word l w hl hw)))
    (name_placed b filled (full_facts b s old.facts old.still k page lines can) old.still k page named).others
    (quiet_flushed b s old.facts (frame_stores g k) no_write (frame_quiet b s old.facts old.still k page lines can) (frame_calls g k 0 lines ++ fence ∷ [])
    (frame_within g k 0 lines (frame_fits b.format s k page lines can)) old.flushed)))
  where
    g : Sizes
    g = (super_of (current s)).sizes

    filled : State
    filled = full b s old.facts old.still k page lines can

    named : CanName b filled k page
    named = can_name b s old.facts old.still k page lines can

    word : (l w : ℕ) → l < 64 → w < 8 → IsWord b.sizes page l w
    word l w hl hw = record { page = named.in_store; line = hl; word = hw }

-- A release with a write, where the bytes are current where they have no copy.
pub release_moves : (b : Bookkeeping) (s : State) (old : KeptShown b s) (k page : ℕ) (bytes : List ℕ) → CanGiveUp b s k page bytes
    → ((l w : ℕ) → IsWord b.sizes page l w → b.copy page l ≡ None → block_word bytes l w ≡ b.current page l w) → Moves b s (after_all (release_calls b.sizes k page bytes) s)
release_moves b s old k page bytes can right =
    placed_moves b s (after_all (release_calls b.sizes k page bytes) s) k 0 page (block_word bytes) old
    (give_up_done b s old.facts old.still k page bytes can) (release_placed b s old.facts old.still k page bytes can) right
    (clear_flushed b written k page clear placed.here placed.others
    (quiet_flushed b s old.facts no_store (λ n. n ≡ page_block b.sizes page) (block_quiet b s old.facts old.still k page bytes can) (write_block (page_block b.sizes page) bytes ∷ sync ∷ []) (refl, (tt, tt)) old.flushed))
  where
    written : State
    written = settled b s old.facts old.still k page bytes can

    clear : CanClear b written k page
    clear = can_clear b s old.facts old.still k page bytes can

    placed : Placed b.sizes written (after_all (entry_calls k 0) written) k 0 page (block_word ((current written).ssd (page_block b.sizes page)))
    placed = clear_placed b written (settled_facts b s old.facts old.still k page bytes can) old.still k page clear

-- A release without a write, where the home block is current where it has no copy.
pub release_clean_moves : (b : Bookkeeping) (s : State) (old : KeptShown b s) (k page : ℕ) → CanClear b s k page
    → ((l w : ℕ) → IsWord b.sizes page l w → b.copy page l ≡ None → block_word ((current s).ssd (page_block b.sizes page)) l w ≡ b.current page l w) → Moves b s (after_all (entry_calls k 0) s)
release_clean_moves b s old k page can right =
    let placed : Placed b.sizes s (after_all (entry_calls k 0) s) k 0 page (block_word ((current s).ssd (page_block b.sizes page))) = clear_placed b s old.facts old.still k page can in
    placed_moves b s (after_all (entry_calls k 0) s) k 0 page (block_word ((current s).ssd (page_block b.sizes page))) old
    (release_clean_done b s old.facts old.still k page can) placed right (clear_flushed b s k page can placed.here placed.others old.flushed)

-- A pass, where the lines are current where they have no copy.
pub pass_moves : (b : Bookkeeping) (s : State) (old : KeptShown b s) (k page : ℕ) (lines : List Line) → CanInstall b.format s k page lines
    → ((l w : ℕ) → IsWord b.sizes page l w → b.copy page l ≡ None → word_in (get_or lines l zero_line) w ≡ b.current page l w)
    → (bytes : List ℕ) → ((l w : ℕ) → l < 64 → w < 8 → block_word bytes l w ≡ word_in (get_or lines l zero_line) w) → Moves b s (after_all (pass_calls b.sizes k page lines bytes) s)
pass_moves b s old k page lines can right bytes same =
    let first : Moves b s (installed b s old.facts old.still k page lines can) = install_moves b s old k page lines can right in
    subst (λ (t : State). Moves b s t) (sym (after_all_append (install_calls b.sizes k page lines) (release_calls b.sizes k page bytes) s))
    (Moves-trans b s (installed b s old.facts old.still k page lines can) _ first
    (release_moves b (installed b s old.facts old.still k page lines can) first.shown k page bytes
    (can_give_up b s old.facts old.still k page lines can bytes same)
    (λ l w word none. same l w word.line word.word ∙ right l w word none)))

-- A drain of 64 lines.
pub drain_moves : (b : Bookkeeping) (s : State) (old : KeptShown b s) (bytes : List ℕ) → CanDrain s bytes → Moves b s (after_all (drain_calls b.sizes (super_of (current s)).drained bytes) s)
drain_moves b s old bytes can =
    let t : State = after_all (drain_calls b.sizes (super_of (current s)).drained bytes) s in
    let longer : Lengthened b.sizes s t (record (super_of (current s)) { drained = (super_of (current s)).drained + 64 }) [] = drain_lengthened b s old.facts old.still bytes can in
    record {
      shown = record {
        facts = drain_done b s old.facts old.still bytes can;
        still = old.still;
        alone = old.alone;
        shows = lengthened_shows b s t _ [] old.shows longer;
        flushed = subst (λ (g : Sizes). HomesFlushed b (after_all (drain_calls g (super_of (current s)).drained bytes) s)) (old.facts.sizes (current s) (current_leaves s))
            (gate_flushed b written Gate.drained ((super_of (current s)).drained + 64) tt (λ k h. gate_others Gate.drained ((super_of (current s)).drained + 64) written (entry_line k) (entry_word k) (inl (λ at. omega arith)))
            (quiet_flushed b s old.facts no_store (λ n. n ≡ ring_block (super_of (current s)).sizes (super_of (current s)).drained) (drain_quiet b s old.facts old.still bytes can)
            (write_block (ring_block (super_of (current s)).sizes (super_of (current s)).drained) bytes ∷ sync ∷ []) (refl, (tt, tt)) old.flushed));
      };
      log = longer.log ∙ append-nil (log_lines (current s));
    }
  where
    written : State
    written = DrainFacts.settled b s old.facts old.still bytes can

-- A fence.
pub fence_moves : (b : Bookkeeping) (s : State) → KeptShown b s → Moves b s (fenced s)
fence_moves b s old = record {
  shown = record {
    facts = fence_facts b s old.facts old.still;
    still = old.still;
    alone = old.alone;
    shows = record { copies = old.shows.copies; homes = old.shows.homes };
    flushed = record { frames = old.flushed.frames; blocks = old.flushed.blocks };
  };
  log = refl;
}
