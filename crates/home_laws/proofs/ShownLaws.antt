-- What loads and reads give after each kind of step.
use Rattle.std.proofs.Common.{◌≡◌, ◌≢◌, ℕ, ◌+◌, ◌<◌, ◌≤◌, List, refl, sym, ap, ◌∙◌, subst, inl, inr, arith, Option, Some, None}
use Rattle.std.proofs.lemmas.Bool.{cases_eq}
use Rattle.nvm_model.specs.declared.line.Line.{Line}
use Rattle.devices.specs.State.{State, Image, current, after_all}
use Rattle.store_model.specs.Layout.{Sizes, frame_line, page_block}
use Rattle.store_model.specs.Log.{Log, no_log, grouped, extended, is_logged}
use Rattle.store_model.specs.Log.Entry.{commit}
use Rattle.store_model.specs.Format.{entries}
use Rattle.store_model.specs.Recovered.{Super, super_of, entry_at, frame_of, home_in, home, log_lines, log_of, block_word, replay}
use Rattle.store_model.specs.StoreFacts.{Gate, Bookkeeping, IsWord, StoreFacts}
use Rattle.store_model.specs.Install.{entry_calls}
use Rattle.store_model.specs.Pending.{with_records, EndsRight}
use Rattle.store_model.specs.Seen.{Moved, CanName, CanClear}
use Rattle.store_model.specs.Shown.{Placed, Lengthened, ShowsCurrent}
use Rattle.home_laws.proofs.RecoveredLaws.{frame_of-same, frame_of-found}
use Rattle.home_laws.proofs.InstallLaws.{frame_of-other, frame_of-here}
use Rattle.home_laws.proofs.ReleaseLaws.{frame_of-none}
use Rattle.home_laws.proofs.FactsLaws.{current_leaves}
use Rattle.home_laws.proofs.SeenLaws.{facts_log}
use Rattle.home_laws.proofs.QuietLaws.{frame_of-none_inv}
use Rattle.home_laws.proofs.GateLaws.{moved_current}
use Rattle.home_laws.proofs.EntryLaws.{moved_super, moved_sizes, other_entry, home_of, home_same, named_mirrors, cleared_mirrors}

-- a home is the same where the entries are, and the frame or the home block of the page
pub home_kept : (g : Sizes) (i j : Image) → (super_of i).sizes ≡ g → (super_of j).sizes ≡ g → ((k : ℕ) → k ≤ g.frames → entry_at i k ≡ entry_at j k) → (p l w : ℕ)
    → ((k : ℕ) → k ≤ g.frames → entry_at j k ≡ p + 1 → i.nvm (frame_line g k l) w ≡ j.nvm (frame_line g k l) w)
    → (((k : ℕ) → k ≤ g.frames → entry_at j k ≢ p + 1) → i.ssd (page_block g p) ≡ j.ssd (page_block g p)) → home i p l w ≡ home j p l w
home_kept g i j sized_i sized_j same p l w in_frame in_block =
    ap (λ (x : Sizes). home_in x i (frame_of (entry_at i) (x.frames + 1) p) p l w) sized_i
    ∙ ap (λ (f : Option ℕ). home_in g i f p l w) (frame_of-same (entry_at i) (entry_at j) (g.frames + 1) p (λ k less. same k (omega arith)))
    ∙ at (frame_of (entry_at j) (g.frames + 1) p) refl
    ∙ sym (ap (λ (x : Sizes). home_in x j (frame_of (entry_at j) (x.frames + 1) p) p l w) sized_j)
  where
    at : (f : Option ℕ) → frame_of (entry_at j) (g.frames + 1) p ≡ f → home_in g i f p l w ≡ home_in g j f p l w
    at None none = ap (λ xs. block_word xs l w) (in_block (λ k h. frame_of-none_inv (entry_at j) (g.frames + 1) p none k (omega arith)))
    at (Some k) found = let here : (k < g.frames + 1) × (entry_at j k ≡ p + 1) = frame_of-found (entry_at j) (g.frames + 1) p k found in in_frame k (let less : k < g.frames + 1 = here.0 in omega arith) here.1

-- A frame gets the entry of a page: the page has the words of the frame.
pub name_placed : (b : Bookkeeping) (s : State) → StoreFacts b s → b.changing ≡ None → (k page : ℕ) → CanName b s k page
    → Placed b.sizes s (after_all (entry_calls k (page + 1)) s) k (page + 1) page (λ l w. (current s).nvm (frame_line b.sizes k l) w)
name_placed b s facts still k page can =
    let i : Image = current (after_all (entry_calls k (page + 1)) s) in
    let moved : Moved (Gate.frame k) (page + 1) i (current s) = moved_current (Gate.frame k) (page + 1) s in
    let sized : (super_of (current s)).sizes ≡ b.sizes = facts.sizes (current s) (current_leaves s) in
    let other : (n : ℕ) → n ≢ k → entry_at i n ≡ entry_at (current s) n = other_entry b k can.frame (page + 1) i (current s) sized moved in
    record {
      super_words = moved_super b k can.frame (page + 1) i (current s) sized moved;
      log = (named_mirrors b s facts still k page can i (current s) (current_leaves s) moved).log;
      here = moved.at_gate;
      others = λ n h apart. other n apart;
      page_words = λ l w word. home_of b k can.frame (page + 1) i (current s) sized moved i (moved_sizes b k can.frame (page + 1) i (current s) sized moved) page l w
          ∙ ap (λ (f : Option ℕ). home_in b.sizes i f page l w) (frame_of-here (entry_at i) (b.sizes.frames + 1) k page (let framed : k ≤ b.sizes.frames = can.frame in omega arith) moved.at_gate
          (λ m less away named. can.unnamed m (omega arith) (sym (other m away) ∙ named)))
          ∙ moved.words (frame_line b.sizes k l) w (inl (λ at. omega arith));
      other_pages = λ p l w apart word. home_of b k can.frame (page + 1) i (current s) sized moved i (moved_sizes b k can.frame (page + 1) i (current s) sized moved) p l w
          ∙ ap (λ (f : Option ℕ). home_in b.sizes i f p l w) (frame_of-other (entry_at i) (entry_at (current s)) (b.sizes.frames + 1) k page p moved.at_gate can.empty (λ m less away. other m away) apart)
          ∙ home_same b k can.frame (page + 1) i (current s) sized moved (frame_of (entry_at (current s)) (b.sizes.frames + 1) p) p l w
          ∙ sym (home_of b k can.frame (page + 1) i (current s) sized moved (current s) sized p l w);
    }

-- A frame loses the entry of its page: the page has the words of its home block.
pub clear_placed : (b : Bookkeeping) (s : State) → StoreFacts b s → b.changing ≡ None → (k page : ℕ) → CanClear b s k page
    → Placed b.sizes s (after_all (entry_calls k 0) s) k 0 page (block_word ((current s).ssd (page_block b.sizes page)))
clear_placed b s facts still k page can =
    let i : Image = current (after_all (entry_calls k 0) s) in
    let moved : Moved (Gate.frame k) 0 i (current s) = moved_current (Gate.frame k) 0 s in
    let sized : (super_of (current s)).sizes ≡ b.sizes = facts.sizes (current s) (current_leaves s) in
    let other : (n : ℕ) → n ≢ k → entry_at i n ≡ entry_at (current s) n = other_entry b k can.frame 0 i (current s) sized moved in
    record {
      super_words = moved_super b k can.frame 0 i (current s) sized moved;
      log = (cleared_mirrors b s facts still k page can i (current s) (current_leaves s) moved).log;
      here = moved.at_gate;
      others = λ n h apart. other n apart;
      page_words = λ l w word. home_of b k can.frame 0 i (current s) sized moved i (moved_sizes b k can.frame 0 i (current s) sized moved) page l w
          ∙ ap (λ (f : Option ℕ). home_in b.sizes i f page l w) (frame_of-none (entry_at i) (b.sizes.frames + 1) page (λ m less named. elim (cases_eq m k) [
            | inl at_k ↦ (let zero_entry : entry_at i m ≡ 0 = ap (entry_at i) at_k ∙ moved.at_gate in omega arith)
            | inr away ↦ can.alone m (omega arith) away (sym (other m away) ∙ named)
          ]));
      other_pages = λ p l w apart word. home_of b k can.frame 0 i (current s) sized moved i (moved_sizes b k can.frame 0 i (current s) sized moved) p l w
          ∙ ap (λ (f : Option ℕ). home_in b.sizes i f p l w) (sym (frame_of-other (entry_at (current s)) (entry_at i) (b.sizes.frames + 1) k page p can.named moved.at_gate (λ m less away. sym (other m away)) apart))
          ∙ home_same b k can.frame 0 i (current s) sized moved (frame_of (entry_at (current s)) (b.sizes.frames + 1) p) p l w
          ∙ sym (home_of b k can.frame 0 i (current s) sized moved (current s) sized p l w);
    }

-- Where the log that loads give is as it was, a commit at its end gives what it gave.
pub ends_kept : (b : Bookkeeping) (s t : State) → StoreFacts b s → StoreFacts b t → b.changing ≡ None → log_lines (current t) ≡ log_lines (current s) → EndsRight b s → EndsRight b t
ends_kept b s t facts_s facts_t still same ends j left p l w word h homes =
    let log : log_of b.format j ≡ log_of b.format (current s) = ap (λ (xs : List Line). grouped no_log (entries b.format 0 xs)) (facts_log b t facts_t still j left ∙ same) in
    ap (λ (x : Log). replay b.format (extended (with_records x b.pending) commit) homes p l w) log
    ∙ ends (current s) (current_leaves s) p l w word (sym (ap (λ (x : Log). is_logged (extended (with_records x b.pending) commit) p l w) log) ∙ h) homes

-- Loads still give the current words where a page was placed with them.
pub placed_shows : (b : Bookkeeping) (s t : State) (k entry page : ℕ) (words : ℕ → ℕ → ℕ) → ShowsCurrent b s → Placed b.sizes s t k entry page words
    → ((l w : ℕ) → IsWord b.sizes page l w → b.copy page l ≡ None → words l w ≡ b.current page l w) → ShowsCurrent b t
placed_shows b s t k entry page words shows placed right = record {
  copies = shows.copies;
  homes = λ p l w word none. elim (cases_eq p page) [
    | inl here ↦
        (let word' : IsWord b.sizes page l w = subst (λ n. IsWord b.sizes n l w) here word in
        ap (λ n. home (current t) n l w) here ∙ placed.page_words l w word' ∙ right l w word' (ap (λ n. b.copy n l) (sym here) ∙ none) ∙ ap (λ n. b.current n l w) (sym here))
    | inr other ↦ placed.other_pages p l w other word ∙ shows.homes p l w word none
  ];
}

pub lengthened_shows : (b : Bookkeeping) (s t : State) (super_words : Super) (lines : List Line) → ShowsCurrent b s → Lengthened b.sizes s t super_words lines → ShowsCurrent b t
lengthened_shows b s t super_words lines shows longer = record { copies = shows.copies; homes = λ p l w word none. longer.all_pages p l w word ∙ shows.homes p l w word none }
