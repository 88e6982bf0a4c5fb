-- A line that is stored in its frame, and a log that is emptied, keep all that a store keeps between its calls.
use Rattle.std.proofs.Common.{false, ◌≡◌, ◌≢◌, ◌⊎◌, ℕ, ◌+◌, ◌-◌, ◌<◌, ◌≤◌, true, List, [], ◌∷◌, refl, sym, ap, ◌∙◌, subst, inl, inr, arith, Option, Some, None}
use Rattle.std.proofs.lemmas.Bool.{cases_eq}
use Rattle.nvm_model.specs.declared.line.Line.{Line}
use Rattle.nvm_model.specs.Word.{Word, marked}
use Rattle.devices.specs.State.{State, Image, Leaves, current, fenced, line_stored, after_all, Amid}
use Rattle.store_model.specs.Untouched.{Untouched}
use Rattle.devices.specs.Growth.{no_write}
use Rattle.store_model.specs.Layout.{Sizes, ring_line, frame_line, entry_line, entry_word}
use Rattle.store_model.specs.Log.{Words, Log, no_log, grouped, extended, is_logged}
use Rattle.store_model.specs.Log.Entry.{commit}
use Rattle.store_model.specs.Format.{entries, word_in}
use Rattle.store_model.specs.Recovered.{Super, super_of, entry_at, frame_of, home_in, home, log_line, log_lines, log_of, from}
use Rattle.store_model.specs.StoreFacts.{Gate, Bookkeeping, IsWord, is_written, StoreFacts}
use Rattle.store_model.specs.InOrder.{HomeStands}
use Rattle.store_model.specs.Install.{store_calls, CanStore}
use Rattle.store_model.specs.Pending.{with_records}
use Rattle.store_model.specs.Seen.{Moved, changing_to}
use Rattle.store_model.specs.Shown.{HomesFlushed}
use Rattle.store_model.specs.Kept.{KeptShown, KeptAlone}
use Rattle.devices.proofs.StateLaws.{line_stored_same, flushed_same}
use Rattle.devices.proofs.GrowthLaws.{Amid_end}
use Rattle.home_laws.proofs.LayoutLaws.{frame_apart}
use Rattle.devices.proofs.DurableLaws.{line_stores}
use Rattle.home_laws.proofs.RecoveredLaws.{from-same}
use Rattle.home_laws.proofs.PutLaws.{log_line-same, super_same, named_low, lines_by}
use Rattle.home_laws.proofs.InstallLaws.{frame_of-here}
use Rattle.home_laws.proofs.FactsLaws.{current_leaves}
use Rattle.home_laws.proofs.SeenLaws.{facts_super, facts_log, facts_alone}
use Rattle.home_laws.proofs.QuietLaws.{fence_facts}
use Rattle.home_laws.proofs.GateLaws.{moved_current}
use Rattle.log_laws.proofs.EndsLaws.{commit_logged}
use Rattle.log_laws.proofs.HardenLaws.{fence_leaves}
use Rattle.home_laws.proofs.UntouchedLaws.{calls_untouched}
use Rattle.kept_laws.proofs.FlushedFacts.{homes_durable, gate_flushed}
use Rattle.kept_laws.proofs.KeptLogFacts.{fence_flushed}
use Rattle.home_laws.proofs.ShownLaws.{home_kept}
use Rattle.home_laws.proofs.StoreLaws.{store_facts}
use Rattle.log_laws.proofs.StartLaws.{start_calls, start_facts, start_done, from_none, moved_start}

-- A line is stored in its frame: then loads give it.
module _ (b : Bookkeeping) (s : State) (facts : StoreFacts b s) (k page l₀ : ℕ) (line : Line) (store : CanStore b.format s k page l₀ line) where
  abbrev sup : Super
  sup = super_of (current s)

  abbrev pub stored_state : State
  stored_state = after_all (store_calls sup.sizes k l₀ line) s

  same_sizes : sup.sizes ≡ b.sizes
  same_sizes = facts.sizes (current s) (current_leaves s)

  framed : k ≤ b.sizes.frames
  framed = subst (λ (g : Sizes). k ≤ g.frames) same_sizes store.frame

  untouched : Untouched (line_stores (frame_line sup.sizes k l₀) line) no_write s stored_state
  untouched = calls_untouched (line_stores (frame_line sup.sizes k l₀) line) no_write (store_calls sup.sizes k l₀ line) s ((λ w hw. (refl, hw, refl)), (tt, tt))

  other_word : (l w : ℕ) → l ≢ frame_line sup.sizes k l₀ → (current stored_state).nvm l w ≡ (current s).nvm l w
  other_word l w apart = untouched.newest l w (λ v st. apart st.0)

  stored_word : (w : ℕ) → w < 8 → stored_state.nvm (frame_line sup.sizes k l₀) w ≡ record { newest = word_in line w; older = (s.nvm (frame_line sup.sizes k l₀) w).newest ∷ (s.nvm (frame_line sup.sizes k l₀) w).older; kept = 0 }
  stored_word w hw = flushed_same (frame_line sup.sizes k l₀) (line_stored (frame_line sup.sizes k l₀) line s) w ∙ ap marked (line_stored_same (frame_line sup.sizes k l₀) line s w hw)

  stored_super : super_of (current stored_state) ≡ sup
  stored_super = super_same (current stored_state) (current s) (λ l w named. other_word l w (λ at. let four : l < 4 = named_low l w named in omega arith))

  stored_entry : (n : ℕ) → n ≤ b.sizes.frames → entry_at (current stored_state) n ≡ entry_at (current s) n
  stored_entry n h = let h' : n ≤ sup.sizes.frames = subst (λ (g : Sizes). n ≤ g.frames) (sym same_sizes) h in other_word (entry_line n) (entry_word n) (λ at. omega arith)

  pub stored_log : log_lines (current stored_state) ≡ log_lines (current s)
  stored_log = ap (λ (x : Super). lines_by x (current stored_state)) stored_super
      ∙ from-same _ _ sup.start (sup.tail - sup.start) (λ o above below. log_line-same sup.sizes sup.drained (current stored_state) (current s) o
      (λ over w hw. other_word (ring_line sup.sizes o) w (λ at. let positive : 0 < sup.sizes.log_blocks = (store.can).ring in omega arith)) (λ n. refl))

  -- the frame of the page is this one
  pub home_frame : (w : ℕ) → IsWord b.sizes page l₀ w → home (current stored_state) page l₀ w ≡ word_in line w
  home_frame w word =
      ap (λ (g : Sizes). home_in g (current stored_state) (frame_of (entry_at (current stored_state)) (g.frames + 1) page) page l₀ w) (ap (λ (x : Super). x.sizes) stored_super)
      ∙ ap (λ (f : Option ℕ). home_in sup.sizes (current stored_state) f page l₀ w)
      (frame_of-here (entry_at (current stored_state)) (sup.sizes.frames + 1) k page (let below : k ≤ sup.sizes.frames = store.frame in omega arith) (stored_entry k framed ∙ store.named)
      (λ m less apart named. let below : m ≤ b.sizes.frames = subst (λ (g : Sizes). m ≤ g.frames) same_sizes (omega arith) in
      facts_alone b s facts k page framed store.named m below apart (sym (stored_entry m below) ∙ named)))
      ∙ ap (λ (x : Word). x.newest) (stored_word w word.word)

  other_home : (p l w : ℕ) → IsWord b.sizes p l w → (p ≢ page) ⊎ (l ≢ l₀) → home (current stored_state) p l w ≡ home (current s) p l w
  other_home p l w word apart = home_kept b.sizes (current stored_state) (current s) (ap (λ (x : Super). x.sizes) stored_super ∙ same_sizes) same_sizes stored_entry p l w
      (λ n h named. other_word (frame_line b.sizes n l) w (λ at.
      let same : (n ≡ k) × (l ≡ l₀) = frame_apart b.sizes n k l l₀ word.line store.in_page (at ∙ ap (λ (g : Sizes). frame_line g k l₀) same_sizes) in
      let entry : entry_at (current s) n ≡ page + 1 = ap (entry_at (current s)) same.0 ∙ store.named in
      elim apart [ inl other ↦ other (omega arith) | inr other ↦ other same.1 ]))
      (λ none. refl)

  -- so loads give these words, where they are current and the others gave them before,
  pub stored_shows : (words : Words) → ((w : ℕ) → IsWord b.sizes page l₀ w → word_in line w ≡ words page l₀ w) → (copy : ℕ → ℕ → Option Line)
      → ((p l w : ℕ) → IsWord b.sizes p l w → copy p l ≡ None → (p ≢ page) ⊎ (l ≢ l₀) → home (current s) p l w ≡ words p l w)
      → (p l w : ℕ) → IsWord b.sizes p l w → copy p l ≡ None → home (current stored_state) p l w ≡ words p l w
  stored_shows words right copy others p l w word none = shown (cases_eq p page) (cases_eq l l₀)
    where
      shown : (p ≡ page) ⊎ (p ≢ page) → (l ≡ l₀) ⊎ (l ≢ l₀) → home (current stored_state) p l w ≡ words p l w
      shown (inr other) line_case = other_home p l w word (inl other) ∙ others p l w word none (inl other)
      shown (inl e) (inr other) = other_home p l w word (inr other) ∙ others p l w word none (inr other)
      shown (inl e) (inl f) =
          let word' : IsWord b.sizes page l₀ w = subst (λ n. IsWord b.sizes page n w) f (subst (λ n. IsWord b.sizes n l w) e word) in
          ap (λ n. home (current stored_state) n l w) e ∙ ap (λ n. home (current stored_state) page n w) f ∙ home_frame w word' ∙ right w word'
          ∙ ap (λ n. words n l₀ w) (sym e) ∙ ap (λ n. words p n w) (sym f)

  -- and all homes stay flushed.
  pub stored_flushed : HomesFlushed b s → HomesFlushed b stored_state
  stored_flushed flushed = record {
    frames = λ n l w h named hl hw. all_flushed n l w h named hl hw;
    blocks = λ p hp none. flushed.blocks p hp (λ n h named. none n h (stored_entry n h ∙ named));
  }
    where
      all_flushed : (n l w : ℕ) → n ≤ b.sizes.frames → entry_at (current stored_state) n ≢ 0 → l < 64 → w < 8 → (stored_state.nvm (frame_line b.sizes n l) w).kept ≡ 0
      all_flushed n l w h named hl hw = elim (cases_eq (frame_line b.sizes n l) (frame_line sup.sizes k l₀)) [
        | inl here ↦ ap (λ m. (stored_state.nvm m w).kept) here ∙ ap (λ (x : Word). x.kept) (stored_word w hw)
        | inr apart ↦ untouched.flushed (frame_line b.sizes n l) w (λ v st. apart st.0) (flushed.frames n l w h (λ none. named (stored_entry n h ∙ none)) hl hw)
      ]

  -- the facts, with other current words for what is written
  pub stored_facts : (words : Words) → ((i : Image) → Leaves s i → (p l w : ℕ) → IsWord b.sizes p l w → is_written b i p l w ≡ false → b.current p l w ≡ words p l w) → StoreFacts (record b { current = words }) stored_state
  stored_facts words same = store_facts b s facts k page l₀ line store words same stored_state (Amid_end (store_calls sup.sizes k l₀ line) s)

-- Behind a fence the log can be emptied, where nothing is pending, every home is flushed and is the current and the committed word,
-- and the copies are current. It doesn't ask what a commit would give, so recovery ends by it too.
module _ (b : Bookkeeping) (s : State) (facts : StoreFacts b s) (still : b.changing ≡ None) (alone : b.pending ≡ []) (flushed : HomesFlushed b s)
    (settled : (p l w : ℕ) → IsWord b.sizes p l w → b.current p l w ≡ b.committed (super_of (current s)).tail p l w)
    (home_now : (p l w : ℕ) → IsWord b.sizes p l w → home (current s) p l w ≡ b.current p l w)
    (copies : (p l w : ℕ) (line : Line) → IsWord b.sizes p l w → b.copy p l ≡ Some line → word_in line w ≡ b.current p l w) where
  abbrev sup₁ : Super
  sup₁ = super_of (current s)

  durable : StoreFacts b (fenced s)
  durable = fence_facts b s facts still

  homes_stand : (j : Image) → Leaves (fenced s) j → (p l w : ℕ) → IsWord b.sizes p l w → is_logged (log_of b.format j) p l w ≡ true
      → HomeStands b.sizes (frame_of (entry_at j) (b.sizes.frames + 1) p) (fenced s) p l w × (home j p l w ≡ b.current p l w) × (home j p l w ≡ b.committed (super_of j).tail p l w)
  homes_stand j left p l w word logged =
      let home_j : HomeStands b.sizes (frame_of (entry_at j) (b.sizes.frames + 1) p) (fenced s) p l w × (home j p l w ≡ home (current s) p l w) = homes_durable b s facts still flushed j left p l w word in (
        home_j.0,
        home_j.1 ∙ home_now p l w word,
        home_j.1 ∙ home_now p l w word ∙ settled p l w word ∙ sym (ap (λ (x : Super). b.committed x.tail p l w) (facts_super b s facts still j (fence_leaves s j left))),
      )

  copies_are : (j : Image) → Leaves (fenced s) j → (p l w : ℕ) (line : Line) → IsWord b.sizes p l w → b.copy p l ≡ Some line → word_in line w ≡ home j p l w
  copies_are j left p l w line word copied = copies p l w line word copied ∙ sym (home_now p l w word) ∙ sym ((homes_durable b s facts still flushed j left p l w word).1)

  pub start_kept_facts : (mid : State) → Amid (fenced s) (start_calls sup₁.tail) mid → StoreFacts (changing_to b Gate.start sup₁.start sup₁.tail b.committed) mid
  start_kept_facts = start_facts b (fenced s) durable still alone homes_stand copies_are

  abbrev emptied : State
  emptied = after_all (start_calls sup₁.tail) (fenced s)

  moved : Moved Gate.start sup₁.tail (current emptied) (current s)
  moved = moved_current Gate.start sup₁.tail (fenced s)

  emptied_facts : StoreFacts b emptied
  emptied_facts = start_done b (fenced s) durable still alone homes_stand copies_are

  emptied_super : super_of (current emptied) ≡ record sup₁ { start = sup₁.tail }
  emptied_super = moved_start (current emptied) (current s) sup₁.tail (λ l w named h. moved.words l w h) moved.at_gate

  emptied_log : log_lines (current emptied) ≡ []
  emptied_log = ap (λ (x : Super). from (log_line x.sizes x.drained (current emptied)) x.start (x.tail - x.start)) emptied_super ∙ from_none _ sup₁.tail (sup₁.tail - sup₁.tail) (omega arith)

  pub start_kept : KeptAlone b (after_all (start_calls sup₁.tail) (fenced s))
  start_kept = record {
    shown = record {
      facts = emptied_facts;
      still = still;
      alone = alone;
      shows = record {
        copies = copies;
        homes = λ p l w word uncopied. home_kept b.sizes (current emptied) (current s) (ap (λ (x : Super). x.sizes) emptied_super ∙ same_sizes) same_sizes
            (λ n h. moved.words (entry_line n) (entry_word n) (inl (λ at. omega arith))) p l w
            (λ n h named. moved.words (frame_line b.sizes n l) w (inl (λ at. omega arith))) (λ unnamed. refl) ∙ home_now p l w word;
      };
      flushed = gate_flushed b (fenced s) Gate.start sup₁.tail tt (λ k h. moved.words (entry_line k) (entry_word k) (inl (λ at. omega arith))) (fence_flushed b s flushed);
    };
    ends = λ j left p l w word h homes. absurd (none j left p l w h);
  }
    where
      same_sizes : sup₁.sizes ≡ b.sizes
      same_sizes = facts.sizes (current s) (current_leaves s)

      not_here : (p l w : ℕ) → is_logged no_log p l w ≡ true → ⊥
      not_here p l w h = cc

      none : (j : Image) → Leaves emptied j → (p l w : ℕ) → is_logged (extended (with_records (log_of b.format j) b.pending) commit) p l w ≡ true → ⊥
      none j left p l w h =
          let log : log_of b.format j ≡ no_log = ap (λ (xs : List Line). grouped no_log (entries b.format 0 xs)) (facts_log b emptied emptied_facts still j left ∙ emptied_log) in
          let pending : with_records (log_of b.format j) b.pending ≡ no_log = ap (with_records (log_of b.format j)) alone ∙ log in
          not_here p l w (sym (commit_logged no_log p l w) ∙ sym (ap (λ (x : Log). is_logged (extended x commit) p l w) pending) ∙ h)

-- The same of all that a store keeps, where the words that have copies have current homes.
pub start_all_kept : (b : Bookkeeping) (s : State) → KeptShown b s
    → ((p l w : ℕ) → IsWord b.sizes p l w → b.current p l w ≡ b.committed (super_of (current s)).tail p l w)
    → ((p l w : ℕ) (line : Line) → IsWord b.sizes p l w → b.copy p l ≡ Some line → home (current s) p l w ≡ b.current p l w)
    → KeptAlone b (after_all (start_calls (super_of (current s)).tail) (fenced s))
start_all_kept b s old settled clean = start_kept b s old.facts old.still old.alone old.flushed settled (λ p l w word. by_copy p l w word (b.copy p l) refl) old.shows.copies
  where
    by_copy : (p l w : ℕ) → IsWord b.sizes p l w → (c : Option Line) → b.copy p l ≡ c → home (current s) p l w ≡ b.current p l w
    by_copy p l w word None none = old.shows.homes p l w word none
    by_copy p l w word (Some line) copied = clean p l w line word copied
