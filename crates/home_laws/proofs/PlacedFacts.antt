-- What loads and reads give after an install, a release and a pass.
use Rattle.std.proofs.Common.{◌≡◌, ◌≢◌, ℕ, ◌+◌, ◌<◌, List, [], ◌∷◌, length, get_or, refl, sym, ap, ◌∙◌, subst, arith, eqb, None}
use Rattle.std.proofs.lemmas.Bool.{eq-eqb, ne_eqb, cond-true, cond-false}
use Rattle.nvm_model.specs.declared.line.Line.{Line}
use Rattle.nvm_model.specs.Word.{Word}
use Rattle.ssd_model.specs.Block.{Block}
use Rattle.devices.specs.State.{State, current, after_all}
use Rattle.devices.specs.State.Call.{fence}
use Rattle.devices.specs.Growth.{no_store, no_write}
use Rattle.store_model.specs.Layout.{Sizes, frame_line, page_block}
use Rattle.store_model.specs.Format.{word_in, zero_line}
use Rattle.store_model.specs.Recovered.{Super, super_of, entry_at, home, block_word}
use Rattle.store_model.specs.StoreFacts.{Bookkeeping, IsWord, StoreFacts}
use Rattle.store_model.specs.Install.{frame_calls, entry_calls, install_calls, release_calls, CanInstall}
use Rattle.store_model.specs.Seen.{CanGiveUp, pass_calls}
use Rattle.store_model.specs.Shown.{Placed}
use Rattle.devices.proofs.GrowthLaws.{after_all_append}
use Rattle.home_laws.proofs.LayoutLaws.{frame_apart}
use Rattle.home_laws.proofs.InstallLaws.{frame_other}
use Rattle.home_laws.proofs.FactsLaws.{current_leaves}
use Rattle.home_laws.proofs.QuietLaws.{quiet_log, quiet_super, quiet_entry}
use Rattle.home_laws.proofs.InstallFacts.{frame_quiet, full, full_grows, full_facts, can_name, frame_made_now, installed, installed_is, install_done}
use Rattle.home_laws.proofs.InstallLaws.{frame_stores}
use Rattle.home_laws.proofs.ReleaseFacts.{block_quiet, settled, settled_grows, settled_facts, can_clear}
use Rattle.home_laws.proofs.PassFacts.{can_give_up}
use Rattle.home_laws.proofs.ShownLaws.{home_kept, name_placed, clear_placed}

Placed-trans : (g : Sizes) (a b c : State) (k entry₁ entry₂ page : ℕ) (words₁ words₂ : ℕ → ℕ → ℕ) → Placed g a b k entry₁ page words₁ → Placed g b c k entry₂ page words₂ → Placed g a c k entry₂ page words₂
Placed-trans g a b c k entry₁ entry₂ page words₁ words₂ first second = record {
  super_words = second.super_words ∙ first.super_words;
  log = second.log ∙ first.log;
  here = second.here;
  others = λ n h apart. second.others n h apart ∙ first.others n h apart;
  page_words = second.page_words;
  other_pages = λ p l w apart word. second.other_pages p l w apart word ∙ first.other_pages p l w apart word;
}

-- An install: the page has these lines.
module _ (b : Bookkeeping) (s : State) (facts : StoreFacts b s) (still : b.changing ≡ None) (k page : ℕ) (lines : List Line) (can : CanInstall b.format s k page lines) where
  abbrev filled_state : State
  filled_state = full b s facts still k page lines can

  abbrev g : Sizes
  g = (super_of (current s)).sizes

  same_sizes : g ≡ b.sizes
  same_sizes = facts.sizes (current s) (current_leaves s)

  filled_word : (l w : ℕ) → ((m : ℕ) → m < 64 → l ≢ frame_line g k m) → (current filled_state).nvm l w ≡ (current s).nvm l w
  filled_word l w other =
      let whole : length lines ≡ 64 = can.whole in
      ap (λ (x : State). (x.nvm l w).newest) (after_all_append (frame_calls g k 0 lines) (fence ∷ []) s)
      ∙ ap (λ (x : Word). x.newest) (frame_other g k lines 0 s l w (λ m low high. other m (omega arith)))

  filled_blocks : (n : ℕ) → (current filled_state).ssd n ≡ (current s).ssd n
  filled_blocks n = ap (λ (x : State). (x.ssd n).bytes) (after_all_append (frame_calls g k 0 lines) (fence ∷ []) s) ∙ frame_blocks k lines 0 s n
    where
      frame_blocks : (k : ℕ) (xs : List Line) (u : ℕ) (s : State) (n : ℕ) → ((after_all (frame_calls g k u xs) s).ssd n).bytes ≡ (s.ssd n).bytes
      frame_blocks k [] u s n = refl
      frame_blocks k (x ∷ xs) u s n = frame_blocks k xs (u + 1) _ n

  filled_home : (p l w : ℕ) → IsWord b.sizes p l w → home (current filled_state) p l w ≡ home (current s) p l w
  filled_home p l w word = home_kept b.sizes (current filled_state) (current s)
      (ap (λ (x : Super). x.sizes) (quiet_super b s facts still (frame_stores g k) no_write (frame_quiet b s facts still k page lines can) filled_state (full_grows b s facts still k page lines can)) ∙ same_sizes)
      same_sizes (quiet_entry b s facts still (frame_stores g k) no_write (frame_quiet b s facts still k page lines can) filled_state (full_grows b s facts still k page lines can)) p l w
      (λ n h named. filled_word (frame_line b.sizes n l) w (λ m less at. unnamed n named (frame_apart g n k l m word.line less (ap (λ (x : Sizes). frame_line x n l) same_sizes ∙ at)).0))
      (λ none. filled_blocks (page_block b.sizes p))
    where
      unnamed : (n : ℕ) → entry_at (current s) n ≡ p + 1 → n ≡ k → ⊥
      unnamed n named e = let none : entry_at (current s) n ≡ 0 = ap (entry_at (current s)) e ∙ can.empty in omega arith

  pub install_placed : Placed b.sizes s (installed b s facts still k page lines can) k (page + 1) page (λ l w. word_in (get_or lines l zero_line) w)
  install_placed =
      let named : Placed b.sizes filled_state (after_all (entry_calls k (page + 1)) filled_state) k (page + 1) page (λ l w. (current filled_state).nvm (frame_line b.sizes k l) w) =
      name_placed b filled_state (full_facts b s facts still k page lines can) still k page (can_name b s facts still k page lines can) in
      subst (λ (t : State). Placed b.sizes s t k (page + 1) page (λ l w. word_in (get_or lines l zero_line) w)) (sym (installed_is b s facts still k page lines can)) (record {
        super_words = named.super_words ∙ quiet_super b s facts still (frame_stores g k) no_write (frame_quiet b s facts still k page lines can) filled_state (full_grows b s facts still k page lines can);
        log = named.log ∙ quiet_log b s facts still (frame_stores g k) no_write (frame_quiet b s facts still k page lines can) filled_state (full_grows b s facts still k page lines can);
        here = named.here;
        others = λ n h apart. named.others n h apart ∙ quiet_entry b s facts still (frame_stores g k) no_write (frame_quiet b s facts still k page lines can) filled_state (full_grows b s facts still k page lines can) n h;
        page_words = λ l w word. named.page_words l w word ∙ ap (λ (x : Word). x.newest) (frame_made_now b s facts still k page lines can l w word);
        other_pages = λ p l w apart word. named.other_pages p l w apart word ∙ filled_home p l w word;
      })

-- A release with a write: the page has these bytes.
module _ (b : Bookkeeping) (s : State) (facts : StoreFacts b s) (still : b.changing ≡ None) (k page : ℕ) (bytes : List ℕ) (can : CanGiveUp b s k page bytes) where
  abbrev settled_state : State
  settled_state = settled b s facts still k page bytes can

  settled_home : (p l w : ℕ) → p ≢ page → IsWord b.sizes p l w → home (current settled_state) p l w ≡ home (current s) p l w
  settled_home p l w apart word = home_kept b.sizes (current settled_state) (current s)
      (facts.sizes (current s) (current_leaves s)) (facts.sizes (current s) (current_leaves s)) (λ n h. refl) p l w
      (λ n h named. refl)
      (λ none. ap (λ (x : Block). x.bytes) (cond-false (eqb (page_block b.sizes p) (page_block b.sizes page)) _ (s.ssd (page_block b.sizes p)) (ne_eqb (page_block b.sizes p) (page_block b.sizes page) (λ e. apart (same e)))))
    where
      same : page_block b.sizes p ≡ page_block b.sizes page → p ≡ page
      same e = omega arith

  pub release_placed : Placed b.sizes s (after_all (release_calls b.sizes k page bytes) s) k 0 page (block_word bytes)
  release_placed =
      let cleared : Placed b.sizes settled_state (after_all (entry_calls k 0) settled_state) k 0 page (block_word ((current settled_state).ssd (page_block b.sizes page))) =
      clear_placed b settled_state (settled_facts b s facts still k page bytes can) still k page (can_clear b s facts still k page bytes can) in
      record {
        super_words = cleared.super_words;
        log = cleared.log ∙ quiet_log b s facts still no_store (λ n. n ≡ page_block b.sizes page) (block_quiet b s facts still k page bytes can) settled_state (settled_grows b s facts still k page bytes can);
        here = cleared.here;
        others = cleared.others;
        page_words = λ l w word. cleared.page_words l w word
            ∙ ap (λ xs. block_word xs l w) (ap (λ (x : Block). x.bytes) (cond-true (eqb (page_block b.sizes page) (page_block b.sizes page)) _ (s.ssd (page_block b.sizes page)) (eq-eqb (page_block b.sizes page) (page_block b.sizes page) refl)));
        other_pages = λ p l w apart word. cleared.other_pages p l w apart word ∙ settled_home p l w apart word;
      }

-- A pass: the page has these bytes, and the frame is empty again.
module _ (b : Bookkeeping) (s : State) (facts : StoreFacts b s) (still : b.changing ≡ None) (k page : ℕ) (lines : List Line) (can : CanInstall b.format s k page lines)
    (bytes : List ℕ) (same : (l w : ℕ) → l < 64 → w < 8 → block_word bytes l w ≡ word_in (get_or lines l zero_line) w) where
  pub pass_placed : Placed b.sizes s (after_all (pass_calls b.sizes k page lines bytes) s) k 0 page (block_word bytes)
  pass_placed = subst (λ (t : State). Placed b.sizes s t k 0 page (block_word bytes)) (sym (after_all_append (install_calls b.sizes k page lines) (release_calls b.sizes k page bytes) s))
      (Placed-trans b.sizes s (installed b s facts still k page lines can) (after_all (release_calls b.sizes k page bytes) (installed b s facts still k page lines can)) k (page + 1) 0 page _ (block_word bytes)
      (install_placed b s facts still k page lines can)
      (release_placed b (installed b s facts still k page lines can) (install_done b s facts still k page lines can) still k page bytes (can_give_up b s facts still k page lines can bytes same)))
