-- A page is put into an empty frame: the facts hold at each moment, and when it is done.
use Rattle.std.proofs.Common.{◌≡◌, ◌≢◌, ◌⊎◌, ℕ, ◌+◌, ◌<◌, ◌≤◌, false, List, [], ◌∷◌, ◌++◌, get_or, refl, sym, ap, ◌∙◌, subst, inl, inr, arith, None}
use Rattle.nvm_model.specs.declared.line.Line.{Line}
use Rattle.nvm_model.specs.Word.{Word, IsSteady, single}
use Rattle.devices.specs.State.{State, Image, Leaves, current, after_all, Amid}
use Rattle.devices.specs.State.Call.{fence}
use Rattle.devices.specs.Growth.{Grows, no_write}
use Rattle.store_model.specs.Layout.{Sizes, pages, ring_line, frame_line, entry_line, entry_word}
use Rattle.store_model.specs.Log.{Log, is_logged}
use Rattle.store_model.specs.Format.{word_in, zero_line}
use Rattle.store_model.specs.Recovered.{Super, super_of, entry_at, home, log_of}
use Rattle.store_model.specs.StoreFacts.{Gate, Bookkeeping, IsWord, StoreFacts}
use Rattle.store_model.specs.Install.{frame_calls, entry_calls, install_calls, CanInstall}
use Rattle.store_model.specs.Seen.{Mirrors, Moved, IsQuiet, CanName, changing_to}
use Rattle.devices.proofs.GrowthLaws.{Amid-grows, Amid_append, after_all_append}
use Rattle.home_laws.proofs.LayoutLaws.{frame_apart, entry_apart}
use Rattle.home_laws.proofs.PutLaws.{single_at, super_same, named_low}
use Rattle.home_laws.proofs.InstallLaws.{frame_stores, frame_within, frame_fits, filled, filled_grows, filled_single}
use Rattle.home_laws.proofs.FactsLaws.{current_leaves}
use Rattle.home_laws.proofs.SeenLaws.{facts_changing, mirror_log}
use Rattle.home_laws.proofs.QuietLaws.{quiet_facts, quiet_image, quiet_entry, quiet_super}
use Rattle.home_laws.proofs.GateLaws.{gate_left, gate_now, gate_others}
use Rattle.home_laws.proofs.EntryLaws.{name_facts, name_done, named_mirrors}
use Rattle.std.proofs.lemmas.Bool.{cases_eq}

module _ (b : Bookkeeping) (s : State) (facts : StoreFacts b s) (still : b.changing ≡ None) (k page : ℕ) (lines : List Line) (can : CanInstall b.format s k page lines) where
  abbrev sup : Super
  sup = super_of (current s)

  pub same_sizes : sup.sizes ≡ b.sizes
  same_sizes = facts.sizes (current s) (current_leaves s)

  framed : k ≤ b.sizes.frames
  framed = subst (λ (g : Sizes). k ≤ g.frames) same_sizes can.frame

  -- the lines of an empty frame are quiet
  pub frame_quiet : IsQuiet s (frame_stores sup.sizes k) no_write
  frame_quiet = record {
    low = λ l w v below st. let at : l ≡ frame_line sup.sizes k st.0 = st.2 in omega arith;
    log = λ o w v above over below st. let positive : 0 < sup.sizes.log_blocks = (can.can).ring in let at : ring_line sup.sizes o ≡ frame_line sup.sizes k st.0 = st.2 in omega arith;
    frames = λ n l w v h hl named st. named (ap (entry_at (current s)) (frame_apart sup.sizes n k l st.0 hl st.1 st.2).0 ∙ can.empty);
    ring = λ o above under none. none;
    blocks = λ p h none. none;
  }

  abbrev pub full : State
  full = filled b.format s k page lines can

  pub full_grows : Grows (frame_stores sup.sizes k) no_write s full
  full_grows = filled_grows b.format s k page lines can

  pub full_facts : StoreFacts b full
  full_facts = quiet_facts b s facts still (frame_stores sup.sizes k) no_write frame_quiet full full_grows

  pub frame_made_now : (l w : ℕ) → IsWord b.sizes page l w → full.nvm (frame_line b.sizes k l) w ≡ single (word_in (get_or lines l zero_line) w)
  frame_made_now l w word = subst (λ (g : Sizes). full.nvm (frame_line g k l) w ≡ single (word_in (get_or lines l zero_line) w)) same_sizes (filled_single b.format s k page lines can l w word.line word.word)

  -- when the frame is filled it can get the entry
  pub can_name : CanName b full k page
  can_name = record {
    in_store = subst (λ (g : Sizes). page < pages g) same_sizes can.in_store;
    frame = framed;
    empty = entry_now k framed ∙ can.empty;
    unnamed = λ n h named. can.unnamed n (subst (λ (g : Sizes). n ≤ g.frames) (sym same_sizes) h) (sym (entry_now n h) ∙ named);
    steady = λ i left l w word unlogged v version. all_one _ _ (made l w word) v version;
    homes = λ i left l w word unlogged.
        let seen : (j : Image) × Leaves s j × Mirrors b.format b.sizes full i j = quiet_image b s facts still (frame_stores sup.sizes k) no_write frame_quiet full full_grows i left in
        let unlogged' : is_logged (log_of b.format seen.0) page l w ≡ false = sym (ap (λ (x : Log). is_logged x page l w) (mirror_log seen.2)) ∙ unlogged in
        single_at (full.nvm (frame_line b.sizes k l) w) (word_in (get_or lines l zero_line) w) _ (made l w word) (left.words (frame_line b.sizes k l) w)
        ∙ can.homes seen.0 seen.1 l w word.line word.word unlogged' ∙ sym ((seen.2).homes page l w word unlogged');
  }
    where
      entry_now : (n : ℕ) → n ≤ b.sizes.frames → entry_at (current full) n ≡ entry_at (current s) n
      entry_now = quiet_entry b s facts still (frame_stores sup.sizes k) no_write frame_quiet full full_grows

      made : (l w : ℕ) → IsWord b.sizes page l w → full.nvm (frame_line b.sizes k l) w ≡ single (word_in (get_or lines l zero_line) w)
      made = frame_made_now

      all_one : (word : Word) (value : ℕ) → word ≡ single value → IsSteady word
      all_one word value e v version = single_at word value v e version ∙ sym (ap (λ (x : Word). x.newest) e)

  -- At each moment of an install the facts hold, with the frame's entry being changed.
  pub install_facts : (mid : State) → Amid s (install_calls b.sizes k page lines) mid → StoreFacts (changing_to b (Gate.frame k) 0 (page + 1) b.committed) mid
  install_facts mid amid = elim (Amid_append (frame_calls sup.sizes k 0 lines ++ fence ∷ []) (entry_calls k (page + 1)) s mid
      (subst (λ (g : Sizes). Amid s (install_calls g k page lines) mid) (sym same_sizes) amid)) [
        | inl first ↦
            (let grows : Grows (frame_stores sup.sizes k) no_write s mid = Amid-grows (frame_stores sup.sizes k) no_write (frame_calls sup.sizes k 0 lines ++ fence ∷ []) s mid
            (frame_within sup.sizes k 0 lines (frame_fits b.format s k page lines can)) first in
            facts_changing b mid (quiet_facts b s facts still (frame_stores sup.sizes k) no_write frame_quiet mid grows) still (Gate.frame k) framed 0 (page + 1)
            (quiet_entry b s facts still (frame_stores sup.sizes k) no_write frame_quiet mid grows k framed ∙ can.empty) b.committed (λ p l w. refl))
        | inr second ↦ name_facts b full full_facts still k page can_name mid second
      ]

  -- When it is done they hold with no gate being changed.
  pub install_done : StoreFacts b (after_all (install_calls b.sizes k page lines) s)
  install_done = subst (λ (g : Sizes). StoreFacts b (after_all (install_calls g k page lines) s)) same_sizes
      (subst (λ (x : State). StoreFacts b x) (sym (after_all_append (frame_calls sup.sizes k 0 lines ++ fence ∷ []) (entry_calls k (page + 1)) s)) (name_done b full full_facts still k page can_name))

  -- The frame has the page then, the other entries are as they were, and so is the superblock.
  entry_apart_word : (n : ℕ) → n ≢ k → (entry_line n ≢ entry_line k) ⊎ (entry_word n ≢ entry_word k)
  entry_apart_word n apart = elim (cases_eq (entry_line n) (entry_line k)) [
    | inr line ↦ inl line
    | inl line ↦ inr (λ word. apart (entry_apart n k line word))
  ]

  abbrev pub installed : State
  installed = after_all (install_calls b.sizes k page lines) s

  pub installed_is : installed ≡ after_all (entry_calls k (page + 1)) full
  installed_is = ap (λ (g : Sizes). after_all (install_calls g k page lines) s) (sym same_sizes) ∙ after_all_append (frame_calls sup.sizes k 0 lines ++ fence ∷ []) (entry_calls k (page + 1)) s

  pub installed_entry : entry_at (current installed) k ≡ page + 1
  installed_entry = ap (λ (x : State). entry_at (current x) k) installed_is ∙ gate_now (Gate.frame k) (page + 1) full

  pub installed_others : (n : ℕ) → n ≤ b.sizes.frames → n ≢ k → entry_at (current installed) n ≡ entry_at (current s) n
  installed_others n h apart = ap (λ (x : State). entry_at (current x) n) installed_is ∙ gate_others (Gate.frame k) (page + 1) full (entry_line n) (entry_word n) (entry_apart_word n apart)
      ∙ quiet_entry b s facts still (frame_stores sup.sizes k) no_write frame_quiet full full_grows n h

  pub installed_super : super_of (current installed) ≡ super_of (current s)
  installed_super = ap (λ (x : State). super_of (current x)) installed_is
      ∙ super_same (current (after_all (entry_calls k (page + 1)) full)) (current full)
      (λ l w named. gate_others (Gate.frame k) (page + 1) full l w (inl (λ at. let four : l < 4 = named_low l w named in omega arith)))
      ∙ quiet_super b s facts still (frame_stores sup.sizes k) no_write frame_quiet full full_grows

  -- Outside of what the log names the lines are the home of the page, in every image.
  pub installed_home : (i : Image) → Leaves installed i → (l w : ℕ) → IsWord b.sizes page l w → is_logged (log_of b.format i) page l w ≡ false
      → home i page l w ≡ word_in (get_or lines l zero_line) w
  installed_home i leaves l w word unlogged =
      let before : (j : Image) × Leaves full j × Moved (Gate.frame k) (page + 1) i j =
      gate_left b full full_facts still (Gate.frame k) framed 0 (can_name.empty) (page + 1) i (subst (λ (x : State). Leaves x i) installed_is leaves) in
      let seen : Mirrors b.format b.sizes full i before.0 = named_mirrors b full full_facts still k page can_name i before.0 before.1 before.2 in
      let unlogged' : is_logged (log_of b.format before.0) page l w ≡ false = sym (ap (λ (x : Log). is_logged x page l w) (mirror_log seen)) ∙ unlogged in
      seen.homes page l w word unlogged' ∙ sym (can_name.homes before.0 (before.1) l w word unlogged')
      ∙ single_at (full.nvm (frame_line b.sizes k l) w) (word_in (get_or lines l zero_line) w) _ (frame_made_now l w word) ((before.1).words (frame_line b.sizes k l) w)
