-- Stores and writes that recovery doesn't see keep the facts, at each moment.
use Rattle.std.proofs.Common.{◌≡◌, ◌≢◌, ◌⊎◌, ℕ, zero, suc, ◌+◌, ◌-◌, ◌%◌, ◌<◌, ◌≤◌, true, false, refl, sym, ap, ◌∙◌, subst, inl, inr, arith, eqb, ltb, [], ◌∷◌, IsTrue, Option, Some, None}
use Rattle.std.proofs.lemmas.Bool.{cases_eq, cases_lt, cases_Bool, eq-eqb, lt-ltb, cond-true, cond-false}
use Rattle.nvm_model.specs.Word.{Word, IsVersion}
use Rattle.devices.specs.State.{State, Image, Leaves, current, fenced}
use Rattle.devices.specs.State.Call.{fence}
use Rattle.devices.specs.Growth.{Grows, Reaches, no_store, no_write}
use Rattle.store_model.specs.Layout.{Sizes, ring_start, ring_line, ring_block, frame_line, page_block, entry_line, entry_word}
use Rattle.store_model.specs.Recovered.{Super, super_of, entry_at, frame_of, home_in, log_lines, block_line}
use Rattle.store_model.specs.InOrder.{LineStands, HomeStands}
use Rattle.store_model.specs.StoreFacts.{Gate, gate_line, gate_word, Bookkeeping, StoreFacts}
use Rattle.store_model.specs.Seen.{ImageFacts, Mirrors, IsQuiet}
use Rattle.nvm_model.proofs.WordLaws.{single_version}
use Rattle.devices.proofs.GrowthLaws.{Amid-grows, Amid_end, Grows-leaves, Grows-single, Grows-version, Grows-steady}
use Rattle.home_laws.proofs.RecoveredLaws.{line_of-same, from-same, frame_of-same, frame_of-found}
use Rattle.home_laws.proofs.PutLaws.{log_line-in_nvm, super_same, named_low, home_by, lines_by}
use Rattle.home_laws.proofs.CheckLaws.{same_store, same_table, checks_none}
use Rattle.home_laws.proofs.FactsLaws.{current_leaves}
use Rattle.home_laws.proofs.SeenLaws.{image_facts, facts_by_images, mirror_facts, gates_single, names_single, facts_super, facts_log, facts_entry, gate_low, no_change}

-- a value that was there, where it may be another one now
or_before : {X A B : Type 0} → A ⊎ B → X → X → X
or_before (inl a) x y = x
or_before (inr b) x y = y

or_before_first : {X A B : Type 0} (r : A ⊎ B) (x y : X) → (B → ⊥) → or_before r x y ≡ x
unfolding or_before
or_before_first (inl a) x y h = refl
or_before_first (inr b) x y h = absurd (h b)

or_before_second : {X A B : Type 0} (r : A ⊎ B) (x y : X) → (A → ⊥) → or_before r x y ≡ y
unfolding or_before
or_before_second (inl a) x y h = absurd (h a)
or_before_second (inr b) x y h = refl

or_before_version : {B : Type 0} (word : Word) (x : ℕ) (r : IsVersion word x ⊎ B) → IsVersion word (or_before r x word.newest)
unfolding or_before
or_before_version word x (inl a) = a
or_before_version word x (inr b) = inl refl

-- no entry names a page that no frame has
pub frame_of-none_inv : (e : ℕ → ℕ) (n page : ℕ) → frame_of e n page ≡ None → (m : ℕ) → m < n → e m ≢ page + 1
frame_of-none_inv e zero page none m less = absurd (omega arith)
frame_of-none_inv e (suc n) page none m less = by_test (frame_of-none_inv e n page) (cases_Bool (eqb (e n) (page + 1)))
  where
    some_none : (n : ℕ) → Some n ≡ None → ⊥
    some_none n e = cc

    by_test : (frame_of e n page ≡ None → (m : ℕ) → m < n → e m ≢ page + 1) → (eqb (e n) (page + 1) ≡ true) ⊎ (eqb (e n) (page + 1) ≡ false) → e m ≢ page + 1
    by_test below (inl here) = absurd (some_none n (sym (cond-true (eqb (e n) (page + 1)) (Some n) (frame_of e n page) here) ∙ none))
    by_test below (inr not_here) = elim (cases_eq m n) [
      | inl last ↦ (λ named. true_false (sym (eq-eqb (e n) (page + 1) (ap e (sym last) ∙ named)) ∙ not_here))
      | inr other ↦ below (sym (cond-false (eqb (e n) (page + 1)) (Some n) (frame_of e n page) not_here) ∙ none) m (omega arith)
    ]
      where
        true_false : true ≡ false → ⊥
        true_false e = cc

module _ (stores : ℕ → ℕ → ℕ → Type 0) (writes : ℕ → Type 0) (s : State) where
  -- An image that stores and writes reach, with what was there before in place of them: a crash leaves it without them.
  before_image : (i : Image) → Reaches stores writes s i → Image
  before_image i reaches = record { nvm = λ l w. or_before (reaches.words l w) (i.nvm l w) (s.nvm l w).newest; ssd = λ n. or_before (reaches.blocks n) (s.ssd n).bytes (i.ssd n) }

  before_leaves : (i : Image) (reaches : Reaches stores writes s i) → Leaves s (before_image i reaches)
  unfolding before_image or_before
  before_leaves i reaches = record {
    words = λ l w. or_before_version (s.nvm l w) (i.nvm l w) (reaches.words l w);
    blocks = λ n h. settled n h (reaches.blocks n);
  }
    where
      settled : (n : ℕ) → IsTrue (s.ssd n).settled → (r : writes n ⊎ (IsTrue (s.ssd n).settled → i.ssd n ≡ (s.ssd n).bytes)) → or_before r (s.ssd n).bytes (i.ssd n) ≡ (s.ssd n).bytes
      settled n h (inl written) = refl
      settled n h (inr kept) = kept h

  before_word : (i : Image) (reaches : Reaches stores writes s i) (l w : ℕ) → ((v : ℕ) → stores l w v → ⊥) → i.nvm l w ≡ (before_image i reaches).nvm l w
  unfolding before_image
  before_word i reaches l w h = sym (or_before_first (reaches.words l w) (i.nvm l w) (s.nvm l w).newest (h (i.nvm l w)))

  before_block : (i : Image) (reaches : Reaches stores writes s i) (n : ℕ) → (writes n → ⊥) → i.ssd n ≡ (before_image i reaches).ssd n
  unfolding before_image
  before_block i reaches n h = sym (or_before_second (reaches.blocks n) (s.ssd n).bytes (i.ssd n) h)

module _ (b : Bookkeeping) (s : State) (facts : StoreFacts b s) (still : b.changing ≡ None) (stores : ℕ → ℕ → ℕ → Type 0) (writes : ℕ → Type 0) (quiet : IsQuiet s stores writes) where
  abbrev sup : Super
  sup = super_of (current s)

  same_sizes : sup.sizes ≡ b.sizes
  same_sizes = facts.sizes (current s) (current_leaves s)

  -- each image on the way shows what one from before shows
  pub quiet_image : (mid : State) → Grows stores writes s mid → (i : Image) → Leaves mid i → (j : Image) × Leaves s j × Mirrors b.format b.sizes mid i j
  quiet_image mid grows i leaves =
      let reaches : Reaches stores writes s i = Grows-leaves stores writes s mid i grows leaves in
      let j : Image = before_image stores writes s i reaches in
      let left : Leaves s j = before_leaves stores writes s i reaches in
      let same : (l w : ℕ) → ((v : ℕ) → stores l w v → ⊥) → i.nvm l w ≡ j.nvm l w = before_word stores writes s i reaches in
      let same_block : (n : ℕ) → (writes n → ⊥) → i.ssd n ≡ j.ssd n = before_block stores writes s i reaches in
      let e_j : super_of j ≡ sup = facts_super b s facts still j left in
      let e_i : super_of i ≡ sup = super_same i j (λ l w named. same l w (λ v. quiet.low l w v (let four : l < 4 = named_low l w named in omega arith))) ∙ e_j in
      let same_entry : (k : ℕ) → k ≤ sup.sizes.frames → entry_at i k ≡ entry_at j k = (λ k h. same (entry_line k) (entry_word k) (λ v. quiet.low (entry_line k) (entry_word k) v (omega arith))) in
      let same_frame : (p : ℕ) → frame_of (entry_at i) (sup.sizes.frames + 1) p ≡ frame_of (entry_at j) (sup.sizes.frames + 1) p = (λ p. frame_of-same (entry_at i) (entry_at j) (sup.sizes.frames + 1) p (λ k less. same_entry k (omega arith))) in
      let old : ImageFacts b s j = image_facts b s facts j left in
      let same_log : log_lines i ≡ log_lines j =
      ap (λ (x : Super). lines_by x i) e_i
      ∙ from-same _ _ sup.start (sup.tail - sup.start) (λ o above below. elim (cases_lt o sup.drained) [
        | inl under ↦ cond-true (ltb o sup.drained) _ _ (lt-ltb o sup.drained under)
            ∙ ap (λ xs. block_line xs (o % 64)) (same_block (ring_block sup.sizes o) (quiet.ring o above under))
            ∙ sym (cond-true (ltb o sup.drained) _ _ (lt-ltb o sup.drained under))
        | inr over ↦ log_line-in_nvm sup.sizes sup.drained i o over
            ∙ line_of-same _ _ (λ w hw. same (ring_line sup.sizes o) w (λ v. quiet.log o w v above over (omega arith)))
            ∙ sym (log_line-in_nvm sup.sizes sup.drained j o over)
      ])
      ∙ sym (ap (λ (x : Super). lines_by x j) e_j) in (
        j,
        left,
        record {
          sizes = ap (λ (x : Super). x.sizes) (e_i ∙ sym e_j);
          tail = ap (λ (x : Super). x.tail) (e_i ∙ sym e_j);
          log = same_log;
          store = same_store b.format i j (e_i ∙ sym e_j) same_log (same_table i j (ap (λ (x : Super). x.sizes) (e_i ∙ sym e_j)) (λ k h. same_entry k (subst (λ (x : Super). k ≤ x.sizes.frames) e_j h)) ∙ (checks_none b.format j ((facts.stores j left)).checks).1);
          homes = λ p l w word unlogged.
              ap (λ (x : Super). home_by x i p l w) e_i
              ∙ ap (λ (f : Option ℕ). home_in sup.sizes i f p l w) (same_frame p)
              ∙ home_at j left same same_block p l w word.line (frame_of (entry_at j) (sup.sizes.frames + 1) p) refl
              ∙ sym (ap (λ (x : Super). home_by x j p l w) e_j);
          lines = subst (λ (x : Super). (o : ℕ) → x.start ≤ o → o < x.tail → LineStands x mid o) (sym e_i) (λ o above below.
              let stood : LineStands sup s o = subst (λ (x : Super). (o : ℕ) → x.start ≤ o → o < x.tail → LineStands x s o) e_j (old.durable).log o above below in
              record {
                in_nvm = λ over w hw. Grows-single stores writes s mid grows (ring_line sup.sizes o) w (λ v. quiet.log o w v above over below) (stood.in_nvm over w hw);
                in_ssd = λ under. settled mid grows (ring_block sup.sizes o) (quiet.ring o above under) (stood.in_ssd under);
              });
          stands = λ p l w word unlogged. subst (λ (g : Sizes). HomeStands g (frame_of (entry_at i) (g.frames + 1) p) mid p l w) same_sizes
              (subst (λ (f : Option ℕ). HomeStands sup.sizes f mid p l w) (sym (same_frame p))
              (home_stands mid grows j left p l w word.line (frame_of (entry_at j) (sup.sizes.frames + 1) p) refl
              (subst (λ (g : Sizes). HomeStands g (frame_of (entry_at j) (g.frames + 1) p) s p l w) (sym same_sizes) ((old.durable).homes p l w word unlogged))));
        },
      )
    where
      settled : (mid : State) → Grows stores writes s mid → (n : ℕ) → (writes n → ⊥) → IsTrue (s.ssd n).settled → IsTrue (mid.ssd n).settled
      settled mid grows n none h = elim (grows.blocks n) [ inl written ↦ absurd (none written) | inr kept ↦ kept.0 h ]

      entry_now : (j : Image) → Leaves s j → (k : ℕ) → k ≤ sup.sizes.frames → entry_at j k ≡ entry_at (current s) k
      entry_now j left k h = facts_entry b s facts still j left k (subst (λ (g : Sizes). k ≤ g.frames) same_sizes h)

      -- a page's frame has an entry, and a page without a frame has none
      framed : (j : Image) → Leaves s j → (p k : ℕ) → frame_of (entry_at j) (sup.sizes.frames + 1) p ≡ Some k → (k ≤ sup.sizes.frames) × (entry_at (current s) k ≢ 0)
      framed j left p k found =
          let at : (k < sup.sizes.frames + 1) × (entry_at j k ≡ p + 1) = frame_of-found (entry_at j) (sup.sizes.frames + 1) p k found in
          let below : k ≤ sup.sizes.frames = (let less : k < sup.sizes.frames + 1 = at.0 in omega arith) in
          (below, (λ none. let named : entry_at j k ≡ p + 1 = at.1 in let now : entry_at j k ≡ entry_at (current s) k = entry_now j left k below in omega arith))

      unframed : (j : Image) → Leaves s j → (p : ℕ) → frame_of (entry_at j) (sup.sizes.frames + 1) p ≡ None → writes (page_block sup.sizes p) → ⊥
      unframed j left p found = quiet.blocks p (λ k h named. frame_of-none_inv (entry_at j) (sup.sizes.frames + 1) p found k (omega arith) (entry_now j left k h ∙ named))

      home_at : (j : Image) → Leaves s j → ((l w : ℕ) → ((v : ℕ) → stores l w v → ⊥) → i.nvm l w ≡ j.nvm l w) → ((n : ℕ) → (writes n → ⊥) → i.ssd n ≡ j.ssd n)
          → (p l w : ℕ) → l < 64 → (f : Option ℕ) → frame_of (entry_at j) (sup.sizes.frames + 1) p ≡ f → home_in sup.sizes i f p l w ≡ home_in sup.sizes j f p l w
      home_at j left same same_block p l w hl None found = rw (same_block (page_block sup.sizes p) (unframed j left p found))
      home_at j left same same_block p l w hl (Some k) found =
          let at : (k ≤ sup.sizes.frames) × (entry_at (current s) k ≢ 0) = framed j left p k found in
          same (frame_line sup.sizes k l) w (λ v. quiet.frames k l w v at.0 hl at.1)

      home_stands : (mid : State) → Grows stores writes s mid → (j : Image) → Leaves s j → (p l w : ℕ) → l < 64
          → (f : Option ℕ) → frame_of (entry_at j) (sup.sizes.frames + 1) p ≡ f → HomeStands sup.sizes f s p l w → HomeStands sup.sizes f mid p l w
      home_stands mid grows j left p l w hl f is old = record {
        in_frame = λ k found.
            let at : (k ≤ sup.sizes.frames) × (entry_at (current s) k ≢ 0) = framed j left p k (is ∙ found) in
            Grows-steady stores writes s mid grows (frame_line sup.sizes k l) w (λ v. quiet.frames k l w v at.0 hl at.1) (old.in_frame k found);
        in_block = λ none. settled mid grows (page_block sup.sizes p) (unframed j left p (is ∙ none)) (old.in_block none);
      }

  -- Such stores and writes keep the facts, at each moment.
  pub quiet_facts : (mid : State) → Grows stores writes s mid → StoreFacts b mid
  quiet_facts mid grows = facts_by_images b mid
      (record {
        sizes = λ w low high. Grows-single stores writes s mid grows 0 w (λ v. quiet.low 0 w v (omega arith)) (facts.gates.sizes w low high);
        others = λ gate in_store other. Grows-single stores writes s mid grows (gate_line gate) (gate_word gate)
            (λ v. quiet.low (gate_line gate) (gate_word gate) v (subst (λ (g : Sizes). gate_line gate < ring_start g) (sym same_sizes) (gate_low b.sizes gate in_store)))
            (gates_single b s facts still gate in_store);
        changing = λ change at. absurd (no_change change (sym still ∙ at));
      })
      (λ i leaves. let found : (j : Image) × Leaves s j × Mirrors b.format b.sizes mid i j = quiet_image mid grows i leaves in
      mirror_facts b b.changing b.committed s mid i found.0 (image_facts b s facts found.0 found.1) found.2 (λ p l w. refl))

  -- the superblock and the entries are as they were
  pub quiet_super : (mid : State) → Grows stores writes s mid → super_of (current mid) ≡ super_of (current s)
  quiet_super mid grows = super_same (current mid) (current s) (λ l w named. single_version (s.nvm l w) (mid.nvm l w).newest (names_single b s facts still l w named)
      (Grows-version stores writes s mid grows l w (λ v. quiet.low l w v (let four : l < 4 = named_low l w named in omega arith)) (mid.nvm l w).newest (inl refl)))

  pub quiet_entry : (mid : State) → Grows stores writes s mid → (k : ℕ) → k ≤ b.sizes.frames → entry_at (current mid) k ≡ entry_at (current s) k
  quiet_entry mid grows k h = single_version (s.nvm (entry_line k) (entry_word k)) (mid.nvm (entry_line k) (entry_word k)).newest (gates_single b s facts still (Gate.frame k) h)
      (Grows-version stores writes s mid grows (entry_line k) (entry_word k)
      (λ v. quiet.low (entry_line k) (entry_word k) v (let h' : k ≤ sup.sizes.frames = subst (λ (g : Sizes). k ≤ g.frames) (sym same_sizes) h in omega arith))
      (mid.nvm (entry_line k) (entry_word k)).newest (inl refl))

  -- and so is the log
  pub quiet_log : (mid : State) → Grows stores writes s mid → log_lines (current mid) ≡ log_lines (current s)
  quiet_log mid grows =
      let seen : (j : Image) × Leaves s j × Mirrors b.format b.sizes mid (current mid) j = quiet_image mid grows (current mid) (current_leaves mid) in
      (seen.2).log ∙ facts_log b s facts still seen.0 seen.1

-- a fence is quiet
pub no_stores_quiet : (s : State) → IsQuiet s no_store no_write
no_stores_quiet s = record { low = λ l w v h none. none; log = λ o w v a d h none. none; frames = λ k l w v h hl e none. none; ring = λ o a d none. none; blocks = λ p h none. none }

pub fence_facts : (b : Bookkeeping) (s : State) → StoreFacts b s → b.changing ≡ None → StoreFacts b (fenced s)
fence_facts b s facts still = quiet_facts b s facts still no_store no_write (no_stores_quiet s) (fenced s) (Amid-grows no_store no_write (fence ∷ []) s (fenced s) (tt, tt) (Amid_end (fence ∷ []) s))
