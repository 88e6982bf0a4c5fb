-- A drain of several blocks keeps what a store keeps between its calls, and the log.
use Rattle.std.proofs.Common.{◌≡◌, ℕ, ◌≤◌, List, [], ◌∷◌, ◌++◌, append-nil, sym, ap, ◌∙◌, subst, inl, arith}
use Rattle.devices.specs.State.{State, current, after_all}
use Rattle.devices.specs.State.Call.{sync}
use Rattle.devices.specs.Growth.{no_store}
use Rattle.devices.proofs.GrowthLaws.{after_all_append}
use Rattle.store_model.specs.Layout.{Sizes, frame_line, page_block, entry_line, entry_word}
use Rattle.store_model.specs.Recovered.{Super, super_of, log_lines}
use Rattle.store_model.specs.StoreFacts.{Gate, Bookkeeping}
use Rattle.store_model.specs.Blocks.{block_calls, drain_all_calls, CanDrainAll}
use Rattle.store_model.specs.Seen.{Moved, gate_calls}
use Rattle.store_model.specs.Shown.{Lengthened, HomesFlushed}
use Rattle.store_model.specs.Untouched.{Untouched}
use Rattle.store_model.specs.Kept.{KeptShown, Moves}
use Rattle.home_laws.proofs.FactsLaws.{current_leaves}
use Rattle.home_laws.proofs.GateLaws.{moved_current, gate_others}
use Rattle.home_laws.proofs.ShownLaws.{home_kept, lengthened_shows}
use Rattle.home_laws.proofs.UntouchedLaws.{calls_untouched}
use Rattle.log_laws.proofs.BlocksLaws.{writes, all_home_apart, all_within, drain_all_lines, drain_all_super}
use Rattle.devices.proofs.GrowthLaws.{Amid_end}
use Rattle.log_laws.proofs.BlocksFacts.{settled, new_drained, drain_all_quiet, drain_all_done}
use Rattle.kept_laws.proofs.FlushedFacts.{quiet_flushed, gate_flushed}

module _ (b : Bookkeeping) (s : State) (old : KeptShown b s) (blocks : List (List ℕ)) (can : CanDrainAll s blocks) where
  abbrev sup : Super
  sup = super_of (current s)

  abbrev pub all_drained : State
  all_drained = after_all (drain_all_calls b.sizes sup.drained blocks) s

  abbrev written : State
  written = settled b s old.facts old.still blocks can

  abbrev raised_to : ℕ
  raised_to = new_drained b s old.facts old.still blocks can

  same_sizes : sup.sizes ≡ b.sizes
  same_sizes = old.facts.sizes (current s) (current_leaves s)

  -- the blocks first, and then the gate
  in_order : all_drained ≡ after_all (gate_calls Gate.drained raised_to) written
  in_order = ap (λ (g : Sizes). after_all (drain_all_calls g sup.drained blocks) s) (sym same_sizes)
      ∙ after_all_append (block_calls sup.sizes sup.drained blocks ++ sync ∷ []) (gate_calls Gate.drained raised_to) s

  untouched : Untouched no_store (writes s blocks can) s written
  untouched = calls_untouched no_store (writes s blocks can) (block_calls sup.sizes sup.drained blocks ++ sync ∷ []) s (all_within s blocks can)

  moved : Moved Gate.drained raised_to (current all_drained) (current written)
  moved = subst (λ (t : State). Moved Gate.drained raised_to (current t) (current written)) (sym in_order) (moved_current Gate.drained raised_to written)

  super_is : super_of (current all_drained) ≡ record sup { drained = raised_to }
  super_is = subst (λ (g : Sizes). super_of (current (after_all (drain_all_calls g sup.drained blocks) s)) ≡ record sup { drained = raised_to }) same_sizes (drain_all_super s blocks can)

  word_kept : (l w : ℕ) → 16 ≤ l → (current all_drained).nvm l w ≡ (current s).nvm l w
  word_kept l w low = moved.words l w (inl (λ at. omega arith)) ∙ untouched.newest l w (λ v none. none)

  -- `drained` is raised, and the log, the entries and the pages are as they were
  pub drain_all_lengthened : Lengthened b.sizes s all_drained (record sup { drained = raised_to }) []
  drain_all_lengthened = record {
    super_is = super_is;
    log = subst (λ (g : Sizes). log_lines (current (after_all (drain_all_calls g sup.drained blocks) s)) ≡ log_lines (current s)) same_sizes
        (drain_all_lines s blocks can (after_all (drain_all_calls sup.sizes sup.drained blocks) s) (Amid_end (drain_all_calls sup.sizes sup.drained blocks) s)
        (current (after_all (drain_all_calls sup.sizes sup.drained blocks) s)) (current_leaves (after_all (drain_all_calls sup.sizes sup.drained blocks) s)))
        ∙ sym (append-nil (log_lines (current s)));
    entries = λ n h. word_kept (entry_line n) (entry_word n) (omega arith);
    all_pages = λ p l w word. home_kept b.sizes (current all_drained) (current s) (ap (λ (x : Super). x.sizes) super_is ∙ same_sizes) same_sizes
        (λ n h. word_kept (entry_line n) (entry_word n) (omega arith)) p l w
        (λ n h named. word_kept (frame_line b.sizes n l) w (omega arith))
        (λ none. moved.blocks (page_block b.sizes p) ∙ untouched.bytes (page_block b.sizes p) (subst (λ (g : Sizes). writes s blocks can (page_block g p) → ⊥) same_sizes (all_home_apart s blocks can p)));
  }

  -- A drain of several blocks.
  pub drain_all_moves : Moves b s all_drained
  drain_all_moves = record {
    shown = record {
      facts = drain_all_done b s old.facts old.still blocks can;
      still = old.still;
      alone = old.alone;
      shows = lengthened_shows b s all_drained _ [] old.shows drain_all_lengthened;
      flushed = subst (HomesFlushed b) (sym in_order)
          (gate_flushed b written Gate.drained raised_to tt (λ k h. gate_others Gate.drained raised_to written (entry_line k) (entry_word k) (inl (λ at. omega arith)))
          (quiet_flushed b s old.facts no_store (writes s blocks can) (drain_all_quiet b s old.facts old.still blocks can) (block_calls sup.sizes sup.drained blocks ++ sync ∷ []) (all_within s blocks can) old.flushed));
    };
    log = drain_all_lengthened.log ∙ append-nil (log_lines (current s));
  }
