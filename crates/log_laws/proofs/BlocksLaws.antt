-- Blocks of log lines that are drained under one sync: at each moment each image has the same log lines.
use Rattle.std.proofs.Common.{◌≡◌, ◌≢◌, ◌⊎◌, ℕ, zero, suc, ◌+◌, ◌-◌, ◌*◌, ◌/◌, ◌%◌, ◌<◌, ◌≤◌, List, [], ◌∷◌, ◌++◌, length, get_or, refl, sym, ap, ◌∙◌, subst, inl, inr, arith, ltb, eqb, true, IsTrue}
use Rattle.std.proofs.lemmas.Bool.{cases_lt, lt-ltb, cond-true, cond-false, eq-eqb, ne_eqb}
use Rattle.nvm_model.specs.Word.{Word, IsVersion, IsSingle, single, marked, trimmed}
use Rattle.ssd_model.specs.Block.{Block}
use Rattle.nvm_model.proofs.WordLaws.{single_version}
use Rattle.devices.specs.State.{State, Image, after_all, Amid, Leaves, current, word_stored, block_written}
use Rattle.devices.specs.State.Call.{store_word, flush, fence, sync}
use Rattle.devices.specs.Growth.{Grows, Reaches, AreWithin, no_store, no_write}
use Rattle.devices.proofs.StateLaws.{flushed_same, word_stored_same}
use Rattle.devices.proofs.GrowthLaws.{Amid-grows, Amid_append, Amid_end, Grows-leaves, Grows-version, after_all_append}
use Rattle.store_model.specs.Layout.{Sizes, ring_line, ring_block, ring_blocks, page_block, floor64}
use Rattle.store_model.specs.Recovered.{Super, super_of, log_lines, block_line}
use Rattle.store_model.specs.InOrder.{IsNamed}
use Rattle.store_model.specs.StoreFacts.{Gate}
use Rattle.store_model.specs.Seen.{gate_calls, gate_stores}
use Rattle.store_model.specs.Blocks.{block_calls, drain_all_calls, CanDrainAll}
use Rattle.home_laws.proofs.LayoutLaws.{same_remainder}
use Rattle.home_laws.proofs.RecoveredLaws.{line_of-same, from-same}
use Rattle.home_laws.proofs.PutLaws.{log_line-in_nvm, super_same, lines_by}
use Rattle.home_laws.proofs.FactsLaws.{current_leaves}
use Rattle.log_laws.proofs.DrainLaws.{moved_gate}

-- one of the n blocks of the ring from this offset on
abbrev pub is_drained_to : Sizes → ℕ → ℕ → ℕ → Type 0
is_drained_to g offset n block = (k : ℕ) × (k < n) × (block ≡ ring_block g (offset + 64 * k))

-- the calls write these blocks alone
pub blocks_within : (g : Sizes) (offset n i u : ℕ) (blocks : List (List ℕ)) → u ≡ offset + 64 * i → i + length blocks ≤ n
    → AreWithin no_store (is_drained_to g offset n) (block_calls g u blocks ++ sync ∷ [])
blocks_within g offset n i u [] at fits = (tt, tt)
blocks_within g offset n i u (bytes ∷ blocks) at fits = ((i, omega arith, ap (ring_block g) at), blocks_within g offset n (i + 1) (u + 64) blocks (omega arith) (omega arith))

-- two of so many blocks as the ring has are apart
pub blocks_apart : (g : Sizes) (u j k : ℕ) → u % 64 ≡ 0 → j < ring_blocks g → k < ring_blocks g → ring_block g (u + 64 * j) ≡ ring_block g (u + 64 * k) → j ≡ k
blocks_apart g u j k aligned hj hk same =
    let clash : (u + 64 * j) / 64 ≡ (u + 64 * k) / 64 =
    same_remainder (ring_blocks g) (u / 64) ((u + 64 * j) / 64) ((u + 64 * k) / 64) (omega arith) (omega arith) (omega arith) (omega arith) same in
    omega arith

-- another block stays
block_other : (g : Sizes) (u : ℕ) (blocks : List (List ℕ)) (t : State) (b : ℕ) → ((k : ℕ) → k < length blocks → b ≢ ring_block g (u + 64 * k))
    → (after_all (block_calls g u blocks) t).ssd b ≡ t.ssd b
block_other g u [] t b apart = refl
block_other g u (bytes ∷ blocks) t b apart =
    block_other g (u + 64) blocks _ b (λ k less e. apart (k + 1) (omega arith) (e ∙ ap (ring_block g) (omega arith)))
    ∙ cond-false (eqb b (ring_block g u)) _ (t.ssd b) (ne_eqb b (ring_block g u) (λ e. apart 0 (omega arith) (e ∙ ap (ring_block g) (omega arith))))

-- each block has its bytes when all are written
pub block_bytes : (g : Sizes) (u : ℕ) (blocks : List (List ℕ)) (t : State) (k : ℕ) → u % 64 ≡ 0 → length blocks ≤ ring_blocks g → k < length blocks
    → ((after_all (block_calls g u blocks) t).ssd (ring_block g (u + 64 * k))).bytes ≡ get_or blocks k []
block_bytes g u [] t k aligned few less = absurd (omega arith)
block_bytes g u (bytes ∷ blocks) t zero aligned few less =
    let here : u + 64 * 0 ≡ u = omega arith in
    ap (λ n. ((after_all (block_calls g (u + 64) blocks) (block_written (ring_block g u) bytes t)).ssd (ring_block g n)).bytes) here
    ∙ ap (λ (x : Block). x.bytes) (block_other g (u + 64) blocks (block_written (ring_block g u) bytes t) (ring_block g u) (λ k under e.
    let there : u + 64 + 64 * k ≡ u + 64 * (k + 1) = omega arith in
    let clash : 0 ≡ k + 1 = blocks_apart g u 0 (k + 1) aligned (omega arith) (omega arith) (ap (ring_block g) here ∙ e ∙ ap (ring_block g) there) in omega arith)
    ∙ cond-true (eqb (ring_block g u) (ring_block g u)) _ (t.ssd (ring_block g u)) (eq-eqb (ring_block g u) (ring_block g u) refl))
block_bytes g u (bytes ∷ blocks) t (suc k) aligned few less =
    let step : u + 64 * suc k ≡ u + 64 + 64 * k = omega arith in
    ap (λ n. ((after_all (block_calls g (u + 64) blocks) (block_written (ring_block g u) bytes t)).ssd (ring_block g n)).bytes) step
    ∙ block_bytes g (u + 64) blocks (block_written (ring_block g u) bytes t) k (omega arith) (omega arith) (omega arith)

module _ (s : State) (blocks : List (List ℕ)) (drains : CanDrainAll s blocks) where
  abbrev pub sup : Super
  sup = super_of (current s)

  abbrev pub new_drained : ℕ
  new_drained = sup.drained + 64 * length blocks

  abbrev pub writes : ℕ → Type 0
  writes = is_drained_to sup.sizes sup.drained (length blocks)

  -- they are no block of the log below `drained`, and no home
  pub all_log_apart : (o : ℕ) → sup.start ≤ o → o < sup.drained → writes (ring_block sup.sizes o) → ⊥
  all_log_apart o above below one =
      let k : ℕ = one.0 in
      let less : one.0 < length blocks = one.1 in
      let room : sup.drained + 64 * length blocks ≤ floor64 sup.start + 64 * ring_blocks sup.sizes = drains.room in
      let aligned : sup.drained % 64 ≡ 0 = drains.aligned in
      let clash : o / 64 ≡ (sup.drained + 64 * one.0) / 64 =
      same_remainder (ring_blocks sup.sizes) (sup.start / 64) (o / 64) ((sup.drained + 64 * one.0) / 64) (omega arith) (omega arith) (omega arith) (omega arith) one.2 in
      omega arith

  pub all_home_apart : (p : ℕ) → writes (page_block sup.sizes p) → ⊥
  all_home_apart p one = let same : page_block sup.sizes p ≡ ring_block sup.sizes (sup.drained + 64 * one.0) = one.2 in omega arith

  -- the state when the blocks are settled
  abbrev pub settled_all : State
  settled_all = after_all (block_calls sup.sizes sup.drained blocks ++ sync ∷ []) s

  pub all_within : AreWithin no_store writes (block_calls sup.sizes sup.drained blocks ++ sync ∷ [])
  all_within = blocks_within sup.sizes sup.drained (length blocks) 0 sup.drained blocks (omega arith) (omega arith)

  pub all_grows : Grows no_store writes s settled_all
  all_grows = Amid-grows no_store writes (block_calls sup.sizes sup.drained blocks ++ sync ∷ []) s settled_all all_within (Amid_end (block_calls sup.sizes sup.drained blocks ++ sync ∷ []) s)

  settled_is : (b : ℕ) → settled_all.ssd b ≡ record { bytes = ((after_all (block_calls sup.sizes sup.drained blocks) s).ssd b).bytes; settled = true }
  settled_is b = ap (λ (t : State). t.ssd b) (after_all_append (block_calls sup.sizes sup.drained blocks) (sync ∷ []) s)

  pub all_settled : (b : ℕ) → IsTrue (settled_all.ssd b).settled
  all_settled b = subst (λ (x : Block). IsTrue x.settled) (sym (settled_is b)) refl

  pub all_bytes : (j : Image) → Leaves settled_all j → (k : ℕ) → k < length blocks → j.ssd (ring_block sup.sizes (sup.drained + 64 * k)) ≡ get_or blocks k []
  all_bytes j left k less = left.blocks _ (all_settled _) ∙ ap (λ (x : Block). x.bytes) (settled_is _)
      ∙ block_bytes sup.sizes sup.drained blocks s k drains.aligned drains.few less

  abbrev pub gate_raised : ℕ → ℕ → ℕ → Type 0
  gate_raised = gate_stores Gate.drained new_drained

  -- while the blocks are written and settled, each image has the same superblock and the same log
  version : (i : Image) → Reaches no_store writes s i → (l w : ℕ) → IsVersion (s.nvm l w) (i.nvm l w)
  version i reaches l w = elim (reaches.words l w) [ inl v ↦ v | inr none ↦ absurd none ]

  before_super : (i : Image) → Reaches no_store writes s i → super_of i ≡ sup
  before_super i reaches = super_same i (current s) (λ l w named. single_version (s.nvm l w) (i.nvm l w) (drains.can.superblock l w named) (version i reaches l w))

  pub before_lines : (i : Image) → Reaches no_store writes s i → log_lines i ≡ log_lines (current s)
  before_lines i reaches =
      let drained_below : sup.drained ≤ sup.tail = drains.can.drained in
      ap (λ (x : Super). lines_by x i) (before_super i reaches)
      ∙ from-same _ _ sup.start (sup.tail - sup.start) (λ o above below. elim (cases_lt o sup.drained) [
        | inl under ↦ cond-true (ltb o sup.drained) _ _ (lt-ltb o sup.drained under)
            ∙ ap (λ xs. block_line xs (o % 64)) (elim (reaches.blocks (ring_block sup.sizes o)) [
              | inl one ↦ absurd (all_log_apart o above under one)
              | inr same ↦ same ((drains.can.log o above (omega arith)).in_ssd under)
            ])
            ∙ sym (cond-true (ltb o sup.drained) _ _ (lt-ltb o sup.drained under))
        | inr over ↦ log_line-in_nvm sup.sizes sup.drained i o over
            ∙ line_of-same _ _ (λ w hw. single_version (s.nvm (ring_line sup.sizes o) w) (i.nvm (ring_line sup.sizes o) w)
            ((drains.can.log o above (omega arith)).in_nvm over w hw) (version i reaches (ring_line sup.sizes o) w))
            ∙ sym (log_line-in_nvm sup.sizes sup.drained (current s) o over)
      ])

  -- an image with the new gate has the same log, of which these blocks more stand in the ring on the SSD
  module _ (i : Image) (reaches : Reaches gate_raised no_write settled_all i) (at_gate : i.nvm 2 0 ≡ new_drained) where
    same_word : (l w : ℕ) → (l ≢ 2) ⊎ (w ≢ 0) → IsSingle (s.nvm l w) → i.nvm l w ≡ (current s).nvm l w
    same_word l w h one = elim (reaches.words l w) [
      | inl v ↦ single_version (s.nvm l w) (i.nvm l w) one (Grows-version no_store writes s settled_all all_grows l w (λ v none. none) (i.nvm l w) v)
      | inr st ↦ absurd (elim h [ inl n ↦ n st.0 | inr n ↦ n st.1 ])
    ]

    same_block : (b : ℕ) → i.ssd b ≡ (settled_all.ssd b).bytes
    same_block b = elim (reaches.blocks b) [ inl none ↦ absurd none | inr same ↦ same (all_settled b) ]

    pub raised_super : super_of i ≡ record sup { drained = new_drained }
    raised_super = moved_gate i (current s) new_drained (λ l w named h. same_word l w h (drains.can.superblock l w named)) at_gate

    pub raised_lines : log_lines i ≡ log_lines (current s)
    raised_lines =
        let aligned : sup.drained % 64 ≡ 0 = drains.aligned in
        let all_stand : sup.drained + 64 * length blocks ≤ sup.tail = drains.lines in
        ap (λ (x : Super). lines_by x i) raised_super
        ∙ from-same _ _ sup.start (sup.tail - sup.start) (λ o above below. elim (cases_lt o sup.drained) [
          | inl under ↦ cond-true (ltb o new_drained) _ _ (lt-ltb o new_drained (omega arith))
              ∙ ap (λ xs. block_line xs (o % 64)) (same_block (ring_block sup.sizes o) ∙ ap (λ (x : Block). x.bytes) (settled_is (ring_block sup.sizes o))
              ∙ ap (λ (x : Block). x.bytes) (block_other sup.sizes sup.drained blocks s (ring_block sup.sizes o) (λ k less e. all_log_apart o above under (k, less, e))))
              ∙ sym (cond-true (ltb o sup.drained) _ _ (lt-ltb o sup.drained under))
          | inr over ↦ elim (cases_lt o new_drained) [
            | inl within ↦ cond-true (ltb o new_drained) _ _ (lt-ltb o new_drained within)
                ∙ ap (λ xs. block_line xs (o % 64)) (same_block (ring_block sup.sizes o) ∙ in_block o over within)
                ∙ drains.copied.each ((o - sup.drained) / 64) o (omega arith) (omega arith) (omega arith)
                ∙ sym (log_line-in_nvm sup.sizes sup.drained (current s) o over)
            | inr beyond ↦ log_line-in_nvm sup.sizes new_drained i o beyond
                ∙ line_of-same _ _ (λ w hw. same_word (ring_line sup.sizes o) w (inl (λ two. omega arith)) ((drains.can.log o above (omega arith)).in_nvm over w hw))
                ∙ sym (log_line-in_nvm sup.sizes sup.drained (current s) o over)
          ]
        ])
      where
        in_block : (o : ℕ) → sup.drained ≤ o → o < new_drained → (settled_all.ssd (ring_block sup.sizes o)).bytes ≡ get_or blocks ((o - sup.drained) / 64) []
        in_block o over within =
            let aligned : sup.drained % 64 ≡ 0 = drains.aligned in
            ap (λ n. (settled_all.ssd (n % ring_blocks sup.sizes)).bytes) (omega arith)
            ∙ ap (λ (x : Block). x.bytes) (settled_is (ring_block sup.sizes (sup.drained + 64 * ((o - sup.drained) / 64))))
            ∙ block_bytes sup.sizes sup.drained blocks s ((o - sup.drained) / 64) drains.aligned drains.few (omega arith)

  gate_reaches : (mid : State) → Amid settled_all (gate_calls Gate.drained new_drained) mid → (i : Image) → Leaves mid i → Reaches gate_raised no_write settled_all i
  gate_reaches mid amid i leaves =
      let grows : Grows gate_raised no_write settled_all mid = Amid-grows gate_raised no_write (gate_calls Gate.drained new_drained) settled_all mid ((refl, refl, refl), (tt, (tt, tt))) amid in
      Grows-leaves gate_raised no_write settled_all mid i grows leaves

  -- At each moment of the drain each image has the log that loads gave.
  pub drain_all_lines : (mid : State) → Amid s (drain_all_calls sup.sizes sup.drained blocks) mid → (i : Image) → Leaves mid i → log_lines i ≡ log_lines (current s)
  drain_all_lines mid amid i leaves = elim (Amid_append (block_calls sup.sizes sup.drained blocks ++ sync ∷ []) (gate_calls Gate.drained new_drained) s mid amid) [
    | inl first ↦
        (let grows : Grows no_store writes s mid = Amid-grows no_store writes (block_calls sup.sizes sup.drained blocks ++ sync ∷ []) s mid all_within first in
        before_lines i (Grows-leaves no_store writes s mid i grows leaves))
    | inr second ↦
        (let reaches : Reaches gate_raised no_write settled_all i = gate_reaches mid second i leaves in
        elim (reaches.words 2 0) [
          | inl old ↦
              before_lines i (Grows-leaves no_store writes s settled_all i all_grows (record {
                words = λ l w. elim (reaches.words l w) [ inl v ↦ v | inr st ↦ rw (st.0, st.1) old ];
                blocks = λ b. elim (reaches.blocks b) [ inl none ↦ absurd none | inr same ↦ same ];
              }))
          | inr moved ↦ raised_lines i reaches moved.2
        ])
  ]

  -- what loads give of the superblock when it is done
  pub drain_all_super : super_of (current (after_all (drain_all_calls sup.sizes sup.drained blocks) s)) ≡ record sup { drained = new_drained }
  drain_all_super =
      let done : State = after_all (gate_calls Gate.drained new_drained) settled_all in
      let one : done.nvm 2 0 ≡ single new_drained = ap trimmed (flushed_same 2 (word_stored 2 0 new_drained settled_all) 0 ∙ ap marked (word_stored_same 2 0 new_drained settled_all)) in
      ap (λ (t : State). super_of (current t)) (after_all_append (block_calls sup.sizes sup.drained blocks ++ sync ∷ []) (gate_calls Gate.drained new_drained) s)
      ∙ raised_super (current done) (gate_reaches done (Amid_end (gate_calls Gate.drained new_drained) settled_all) (current done) (current_leaves done))
      (ap (λ (x : Word). x.newest) one)
