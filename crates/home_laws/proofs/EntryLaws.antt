-- A frame gets the entry of a page, or loses it: the facts hold at each moment, and when it is done.
use Rattle.std.proofs.Common.{◌≡◌, ◌≢◌, ◌⊎◌, ℕ, ◌+◌, ◌-◌, ◌<◌, ◌≤◌, false, refl, sym, ap, ◌∙◌, subst, inl, inr, arith, IsTrue, Option, Some, None}
use Rattle.std.proofs.lemmas.Bool.{cases_eq}
use Rattle.devices.specs.State.{State, Image, Leaves, current, after_all, Amid}
use Rattle.nvm_model.specs.Word.{IsSteady}
use Rattle.store_model.specs.Layout.{Sizes, pages, ring_line, frame_line, page_block, entry_line, entry_word}
use Rattle.store_model.specs.Log.{is_logged}
use Rattle.store_model.specs.Recovered.{Super, super_of, entry_at, frame_of, home_in, home, log_lines, log_of, block_word, table_check, image_table_check, IsStore}
use Rattle.store_model.specs.InOrder.{LineStands, HomeStands}
use Rattle.store_model.specs.StoreFacts.{Gate, Bookkeeping, IsWord, StoreFacts}
use Rattle.store_model.specs.Install.{entry_calls}
use Rattle.store_model.specs.Seen.{ImageFacts, Mirrors, Moved, CanName, CanClear, changing_to}
use Rattle.home_laws.proofs.LayoutLaws.{entry_apart}
use Rattle.home_laws.proofs.RecoveredLaws.{from-same}
use Rattle.home_laws.proofs.PutLaws.{log_line-same, super_same, named_low, lines_by}
use Rattle.store_model.specs.Checked.{TablePasses}
use Rattle.home_laws.proofs.CheckLaws.{same_store, checks_none}
use Rattle.home_laws.proofs.TableLaws.{table_passes, table_check-none, entry_passes}
use Rattle.home_laws.proofs.InstallLaws.{frame_of-other, frame_of-here}
use Rattle.home_laws.proofs.ReleaseLaws.{frame_of-none}
use Rattle.home_laws.proofs.SeenLaws.{image_facts, image_changing, mirror_facts, facts_entry}
use Rattle.home_laws.proofs.GateLaws.{gate_facts, gate_after}

-- What an image keeps of another one that differs from it in one entry.
module _ (b : Bookkeeping) (k : ℕ) (framed : k ≤ b.sizes.frames) (value : ℕ) (i j : Image) (sized : (super_of j).sizes ≡ b.sizes) (moved : Moved (Gate.frame k) value i j) where
  pub moved_super : super_of i ≡ super_of j
  moved_super = super_same i j (λ l w named. moved.words l w (inl (λ at. let four : l < 4 = named_low l w named in omega arith)))

  pub moved_sizes : (super_of i).sizes ≡ b.sizes
  moved_sizes = ap (λ (x : Super). x.sizes) moved_super ∙ sized

  pub other_entry : (n : ℕ) → n ≢ k → entry_at i n ≡ entry_at j n
  other_entry n apart = elim (cases_eq (entry_line n) (entry_line k)) [
    | inr line ↦ moved.words (entry_line n) (entry_word n) (inl line)
    | inl line ↦ moved.words (entry_line n) (entry_word n) (inr (λ word. apart (entry_apart n k line word)))
  ]

  ring_same : (o w : ℕ) → i.nvm (ring_line b.sizes o) w ≡ j.nvm (ring_line b.sizes o) w
  ring_same o w = moved.words (ring_line b.sizes o) w (inl (λ at. omega arith))

  moved_log : log_lines i ≡ log_lines j
  moved_log = ap (λ (x : Super). lines_by x i) moved_super
      ∙ from-same _ _ (super_of j).start ((super_of j).tail - (super_of j).start) (λ o above below. log_line-same (super_of j).sizes (super_of j).drained i j o
      (λ over w hw. subst (λ (g : Sizes). i.nvm (ring_line g o) w ≡ j.nvm (ring_line g o) w) (sym sized) (ring_same o w)) moved.blocks)

  pub home_of : (n : Image) → (super_of n).sizes ≡ b.sizes → (p l w : ℕ) → home n p l w ≡ home_in b.sizes n (frame_of (entry_at n) (b.sizes.frames + 1) p) p l w
  home_of n same p l w = ap (λ (g : Sizes). home_in g n (frame_of (entry_at n) (g.frames + 1) p) p l w) same

  pub home_same : (f : Option ℕ) (p l w : ℕ) → home_in b.sizes i f p l w ≡ home_in b.sizes j f p l w
  home_same None p l w = rw (moved.blocks _)
  home_same (Some n) p l w = moved.words (frame_line b.sizes n l) w (inl (λ at. omega arith))

  -- So it shows what the other one shows, where each home is the same, and stands.
  moved_mirrors : (s : State) → ImageFacts b s j → image_table_check i ≡ None
      → ((p l w : ℕ) → IsWord b.sizes p l w → is_logged (log_of b.format j) p l w ≡ false
      → (frame_of (entry_at i) (b.sizes.frames + 1) p ≡ frame_of (entry_at j) (b.sizes.frames + 1) p)
      ⊎ (HomeStands b.sizes (frame_of (entry_at i) (b.sizes.frames + 1) p) s p l w × (home_in b.sizes i (frame_of (entry_at i) (b.sizes.frames + 1) p) p l w ≡ home j p l w)))
      → Mirrors b.format b.sizes s i j
  moved_mirrors s old table each = record {
    sizes = ap (λ (x : Super). x.sizes) moved_super;
    tail = ap (λ (x : Super). x.tail) moved_super;
    log = moved_log;
    store = same_store b.format i j moved_super moved_log table;
    homes = λ p l w word unlogged. home_of i moved_sizes p l w ∙ elim (each p l w word unlogged) [
      | inl same ↦ ap (λ (f : Option ℕ). home_in b.sizes i f p l w) same ∙ home_same (frame_of (entry_at j) (b.sizes.frames + 1) p) p l w ∙ sym (home_of j sized p l w)
      | inr new ↦ new.1
    ];
    lines = subst (λ (x : Super). (o : ℕ) → x.start ≤ o → o < x.tail → LineStands x s o) (sym moved_super) (old.durable).log;
    stands = λ p l w word unlogged. elim (each p l w word unlogged) [
      | inl same ↦ subst (λ (f : Option ℕ). HomeStands b.sizes f s p l w) (sym same) ((old.durable).homes p l w word unlogged)
      | inr new ↦ new.0
    ];
  }

  -- Its entries pass their checks, where the new one does beside the others.
  moved_table : IsStore b.format j → value ≤ pages b.sizes → (value ≢ 0 → (m : ℕ) → m ≤ b.sizes.frames → m ≢ k → entry_at j m ≢ value) → image_table_check i ≡ None
  moved_table store fits alone =
      let at_k : entry_at i k ≡ value = moved.at_gate in
      let passes : TablePasses (pages b.sizes) (b.sizes.frames + 1) (entry_at j) =
      subst (λ (g : Sizes). TablePasses (pages g) (g.frames + 1) (entry_at j)) sized (table_passes (pages (super_of j).sizes) ((super_of j).sizes.frames + 1) (entry_at j) (checks_none b.format j store.checks).1) in
      ap (λ (g : Sizes). table_check (pages g) (g.frames + 1) (entry_at i)) moved_sizes
      ∙ table_check-none (pages b.sizes) (b.sizes.frames + 1) (entry_at i) (entry_passes (pages b.sizes) (b.sizes.frames + 1) k (entry_at i) (entry_at j) passes other_entry
      (subst (λ v. v ≤ pages b.sizes) (sym at_k) fits)
      (λ some m less apart same. alone (λ none. some (at_k ∙ none)) m (omega arith) apart (same ∙ at_k)))

module _ (b : Bookkeeping) (s : State) (facts : StoreFacts b s) (still : b.changing ≡ None) (k page : ℕ) (can : CanName b s k page) where
  pub named_mirrors : (i j : Image) → Leaves s j → Moved (Gate.frame k) (page + 1) i j → Mirrors b.format b.sizes s i j
  named_mirrors i j left moved =
      let sized : (super_of j).sizes ≡ b.sizes = facts.sizes j left in
      let now : (n : ℕ) → n ≤ b.sizes.frames → entry_at j n ≡ entry_at (current s) n = facts_entry b s facts still j left in
      let other : (n : ℕ) → n ≢ k → entry_at i n ≡ entry_at j n = other_entry b k can.frame (page + 1) i j sized moved in
      moved_mirrors b k can.frame (page + 1) i j sized moved s (image_facts b s facts j left) (table i j left moved) (λ p l w word unlogged. elim (cases_eq p page) [
        | inr apart ↦ inl (frame_of-other (entry_at i) (entry_at j) (b.sizes.frames + 1) k page p moved.at_gate (now k can.frame ∙ can.empty) (λ m less away. other m away) apart)
        | inl here ↦
            (let in_frame : frame_of (entry_at i) (b.sizes.frames + 1) p ≡ Some k =
            frame_of-here (entry_at i) (b.sizes.frames + 1) k p (let framed : k ≤ b.sizes.frames = can.frame in omega arith) (moved.at_gate ∙ ap (λ n. n + 1) (sym here))
            (λ m less away named. can.unnamed m (omega arith) (sym (now m (omega arith)) ∙ sym (other m away) ∙ named ∙ ap (λ n. n + 1) here)) in
            let word' : IsWord b.sizes page l w = subst (λ n. IsWord b.sizes n l w) here word in
            let unlogged' : is_logged (log_of b.format j) page l w ≡ false = subst (λ n. is_logged (log_of b.format j) n l w ≡ false) here unlogged in
            inr (subst (λ (f : Option ℕ). HomeStands b.sizes f s p l w × (home_in b.sizes i f p l w ≡ home j p l w)) (sym in_frame) (
              record {
                in_frame = λ n found. subst (λ m. IsSteady (s.nvm (frame_line b.sizes m l) w)) (some_number k n found) (can.steady j left l w word' unlogged');
                in_block = λ none. absurd (some_none k none);
              },
              moved.words (frame_line b.sizes k l) w (inl (λ at. omega arith)) ∙ can.homes j left l w word' unlogged' ∙ ap (λ n. home j n l w) (sym here),
            )))
      ])
    where
      table : (i j : Image) → Leaves s j → Moved (Gate.frame k) (page + 1) i j → image_table_check i ≡ None
      table i j left moved = moved_table b k can.frame (page + 1) i j (facts.sizes j left) moved (facts.stores j left) (let fits : page < pages b.sizes = can.in_store in omega arith)
          (λ some m h apart named. can.unnamed m h (sym (facts_entry b s facts still j left m h) ∙ named))

      some_number : (m n : ℕ) → Some m ≡ Some n → m ≡ n
      some_number m n e = cc

      some_none : (n : ℕ) → Some n ≡ None → ⊥
      some_none n e = cc

  -- At each moment the facts hold while a frame gets the entry of a page.
  pub name_facts : (mid : State) → Amid s (entry_calls k (page + 1)) mid → StoreFacts (changing_to b (Gate.frame k) 0 (page + 1) b.committed) mid
  name_facts mid amid = gate_facts b s facts still (Gate.frame k) can.frame 0 can.empty (page + 1) b.committed
      (λ i left. image_changing b _ b.committed s i (image_facts b s facts i left) (λ p l w. refl))
      (λ i j left moved. mirror_facts b _ b.committed s s i j (image_facts b s facts j left) (named_mirrors i j left moved) (λ p l w. refl)) mid amid

  pub name_done : StoreFacts b (after_all (entry_calls k (page + 1)) s)
  name_done = gate_after b s facts still (Gate.frame k) can.frame 0 can.empty (page + 1) b.committed b.pending
      (λ i j left moved. mirror_facts b b.changing b.committed s s i j (image_facts b s facts j left) (named_mirrors i j left moved) (λ p l w. refl))

module _ (b : Bookkeeping) (s : State) (facts : StoreFacts b s) (still : b.changing ≡ None) (k page : ℕ) (can : CanClear b s k page) where
  pub cleared_mirrors : (i j : Image) → Leaves s j → Moved (Gate.frame k) 0 i j → Mirrors b.format b.sizes s i j
  cleared_mirrors i j left moved =
      let sized : (super_of j).sizes ≡ b.sizes = facts.sizes j left in
      let now : (n : ℕ) → n ≤ b.sizes.frames → entry_at j n ≡ entry_at (current s) n = facts_entry b s facts still j left in
      let other : (n : ℕ) → n ≢ k → entry_at i n ≡ entry_at j n = other_entry b k can.frame 0 i j sized moved in
      moved_mirrors b k can.frame 0 i j sized moved s (image_facts b s facts j left) (table i j left moved) (λ p l w word unlogged. elim (cases_eq p page) [
        | inr apart ↦ inl (sym (frame_of-other (entry_at j) (entry_at i) (b.sizes.frames + 1) k page p (now k can.frame ∙ can.named) moved.at_gate (λ m less away. sym (other m away)) apart))
        | inl here ↦
            (let in_block : frame_of (entry_at i) (b.sizes.frames + 1) p ≡ None =
            frame_of-none (entry_at i) (b.sizes.frames + 1) p (λ m less named. elim (cases_eq m k) [
              | inl at_k ↦ (let zero_entry : entry_at i m ≡ 0 = ap (entry_at i) at_k ∙ moved.at_gate in omega arith)
              | inr away ↦ can.alone m (omega arith) away (sym (now m (omega arith)) ∙ sym (other m away) ∙ named ∙ ap (λ n. n + 1) here)
            ]) in
            let word' : IsWord b.sizes page l w = subst (λ n. IsWord b.sizes n l w) here word in
            let unlogged' : is_logged (log_of b.format j) page l w ≡ false = subst (λ n. is_logged (log_of b.format j) n l w ≡ false) here unlogged in
            inr (subst (λ (f : Option ℕ). HomeStands b.sizes f s p l w × (home_in b.sizes i f p l w ≡ home j p l w)) (sym in_block) (
              record {
                in_frame = λ n found. absurd (none_some n found);
                in_block = λ none. subst (λ n. IsTrue (s.ssd (page_block b.sizes n)).settled) (sym here) can.settled;
              },
              ap (λ xs. block_word xs l w) (ap (λ n. i.ssd (page_block b.sizes n)) here ∙ moved.blocks (page_block b.sizes page)) ∙ can.homes j left l w word' unlogged' ∙ ap (λ n. home j n l w) (sym here),
            )))
      ])
    where
      table : (i j : Image) → Leaves s j → Moved (Gate.frame k) 0 i j → image_table_check i ≡ None
      table i j left moved = moved_table b k can.frame 0 i j (facts.sizes j left) moved (facts.stores j left) (omega arith) (λ some m h apart named. some refl)

      none_some : (n : ℕ) → None ≡ Some n → ⊥
      none_some n e = cc

  -- At each moment the facts hold while a frame loses the entry of its page: a release without a write is no more.
  pub clear_facts : (mid : State) → Amid s (entry_calls k 0) mid → StoreFacts (changing_to b (Gate.frame k) (page + 1) 0 b.committed) mid
  clear_facts mid amid = gate_facts b s facts still (Gate.frame k) can.frame (page + 1) can.named 0 b.committed
      (λ i left. image_changing b _ b.committed s i (image_facts b s facts i left) (λ p l w. refl))
      (λ i j left moved. mirror_facts b _ b.committed s s i j (image_facts b s facts j left) (cleared_mirrors i j left moved) (λ p l w. refl)) mid amid

  pub clear_done : StoreFacts b (after_all (entry_calls k 0) s)
  clear_done = gate_after b s facts still (Gate.frame k) can.frame (page + 1) can.named 0 b.committed b.pending
      (λ i j left moved. mirror_facts b b.changing b.committed s s i j (image_facts b s facts j left) (cleared_mirrors i j left moved) (λ p l w. refl))
