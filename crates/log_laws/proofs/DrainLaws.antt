-- A block of log lines that is drained: at each moment each image has the same log and the same homes.
use Rattle.std.proofs.Common.{◌≡◌, ◌≢◌, ◌⊎◌, ℕ, ◌+◌, ◌-◌, ◌*◌, ◌/◌, ◌%◌, ◌<◌, ◌≤◌, List, [], ◌∷◌, refl, sym, ap, ◌∙◌, inl, inr, arith, ltb, eqb, Option, Some, None}
use Rattle.std.proofs.lemmas.Bool.{cases_lt, lt-ltb, cond-true, eq-eqb}
use Rattle.ssd_model.specs.Block.{Block}
use Rattle.devices.specs.State.{State, Image, after_all, Amid, Leaves, current}
use Rattle.devices.specs.State.Call.{store_word, flush, fence, write_block, sync}
use Rattle.devices.specs.Growth.{Grows, Reaches, no_store, no_write}
use Rattle.store_model.specs.Layout.{ring_line, ring_block, ring_blocks, page_block, frame_line, entry_line, entry_word, floor64}
use Rattle.store_model.specs.Recovered.{Super, super_of, entry_at, frame_of, home_in, block_line}
use Rattle.store_model.specs.InOrder.{IsNamed}
use Rattle.store_model.specs.InOrder.IsNamed.{magic_word, tables, rows, writes, frames, log_blocks, start, tail}
use Rattle.store_model.specs.View.{Agree}
use Rattle.store_model.specs.Drain.{drain_calls, CanDrain}
use Rattle.nvm_model.proofs.WordLaws.{single_version}
use Rattle.devices.proofs.GrowthLaws.{Amid-grows, Amid_append, Amid_end, Grows-leaves, Grows-version}
use Rattle.home_laws.proofs.BlockLaws.{with_block, with_block_leaves, with_block_other, with_block_words}
use Rattle.home_laws.proofs.LayoutLaws.{same_remainder}
use Rattle.home_laws.proofs.RecoveredLaws.{line_of-same, from-same, frame_of-same}
use Rattle.home_laws.proofs.PutLaws.{log_line-in_nvm, home_in-same, super_same, durable_super, without, without_leaves, without_same, without_blocks, home_by, lines_by}

-- a superblock that differs in `drained` alone
pub moved_gate : (i j : Image) (n : ℕ) → ((l w : ℕ) → IsNamed l w → (l ≢ 2) ⊎ (w ≢ 0) → i.nvm l w ≡ j.nvm l w) → i.nvm 2 0 ≡ n → super_of i ≡ record (super_of j) { drained = n }
moved_gate i j n h at_gate =
    let a : i.nvm 0 0 ≡ j.nvm 0 0 = h 0 0 magic_word (inl (λ e. omega arith)) in
    let b : i.nvm 0 1 ≡ j.nvm 0 1 = h 0 1 tables (inl (λ e. omega arith)) in
    let c : i.nvm 0 2 ≡ j.nvm 0 2 = h 0 2 rows (inl (λ e. omega arith)) in
    let d : i.nvm 0 3 ≡ j.nvm 0 3 = h 0 3 writes (inl (λ e. omega arith)) in
    let e : i.nvm 0 4 ≡ j.nvm 0 4 = h 0 4 frames (inl (λ e. omega arith)) in
    let f : i.nvm 0 5 ≡ j.nvm 0 5 = h 0 5 log_blocks (inl (λ e. omega arith)) in
    let g : i.nvm 1 0 ≡ j.nvm 1 0 = h 1 0 start (inl (λ e. omega arith)) in
    let k : i.nvm 3 0 ≡ j.nvm 3 0 = h 3 0 tail (inl (λ e. omega arith)) in
    cc

module _ (s : State) (bytes : List ℕ) (drains : CanDrain s bytes) where
  abbrev sup : Super
  sup = super_of (current s)

  abbrev block : ℕ
  block = ring_block sup.sizes sup.drained

  -- the block is not one of the log below `drained`, and no home
  pub log_apart : (o : ℕ) → sup.start ≤ o → o < sup.drained → ring_block sup.sizes o ≢ block
  log_apart o above below same =
      let room : sup.drained + 64 ≤ floor64 sup.start + 64 * ring_blocks sup.sizes = drains.room in
      let aligned : sup.drained % 64 ≡ 0 = drains.aligned in
      let clash : o / 64 ≡ sup.drained / 64 = same_remainder (ring_blocks sup.sizes) (sup.start / 64) (o / 64) (sup.drained / 64) (omega arith) (omega arith) (omega arith) (omega arith) same in
      omega arith

  pub home_not_block : (p : ℕ) → page_block sup.sizes p ≢ block
  home_not_block p same = omega arith

  -- while the block is written and synced, nothing that recovery sees has changed
  drain_unseen : (i : Image) → Reaches no_store (λ b. b ≡ block) s i → (j : Image) × Leaves s j × Agree i j × (super_of i ≡ sup)
  drain_unseen i reaches =
      let j : Image = with_block s block i reaches in
      let left : Leaves s j = with_block_leaves s block i reaches in
      let words : (l w : ℕ) → i.nvm l w ≡ j.nvm l w = (λ l w. sym (with_block_words s block i reaches l w)) in
      let e_j : super_of j ≡ sup = durable_super s 0 drains.can j left in
      let e_i : super_of i ≡ sup = super_same i j (λ l w named. words l w) ∙ e_j in
      let started : sup.start ≤ sup.tail = drains.can.started in (
        j,
        left,
        record {
          sizes = ap (λ (x : Super). x.sizes) (e_i ∙ sym e_j);
          log = ap (λ (x : Super). lines_by x i) e_i
              ∙ from-same _ _ sup.start (sup.tail - sup.start) (λ o above below. elim (cases_lt o sup.drained) [
                | inl under ↦ cond-true (ltb o sup.drained) _ _ (lt-ltb o sup.drained under)
                    ∙ ap (λ xs. block_line xs (o % 64)) (sym (with_block_other s block i reaches (ring_block sup.sizes o) (log_apart o above under)))
                    ∙ sym (cond-true (ltb o sup.drained) _ _ (lt-ltb o sup.drained under))
                | inr over ↦ log_line-in_nvm sup.sizes sup.drained i o over
                    ∙ line_of-same _ _ (λ w hw. words (ring_line sup.sizes o) w)
                    ∙ sym (log_line-in_nvm sup.sizes sup.drained j o over)
              ])
              ∙ sym (ap (λ (x : Super). lines_by x j) e_j);
          homes = λ p l w hp hl hw. ap (λ (x : Super). home_by x i p l w) e_i
              ∙ home_here i reaches (frame_of (entry_at i) (sup.sizes.frames + 1) p) p l w
              ∙ ap (λ (f : Option ℕ). home_in sup.sizes j f p l w) (frame_of-same (entry_at i) (entry_at j) (sup.sizes.frames + 1) p (λ k less. words (entry_line k) (entry_word k)))
              ∙ sym (ap (λ (x : Super). home_by x j p l w) e_j);
        },
        e_i,
      )
    where
      home_here : (i : Image) (reaches : Reaches no_store (λ b. b ≡ block) s i) (f : Option ℕ) (p l w : ℕ) → home_in sup.sizes i f p l w ≡ home_in sup.sizes (with_block s block i reaches) f p l w
      home_here i reaches None p l w = rw (with_block_other s block i reaches (page_block sup.sizes p) (home_not_block p))
      home_here i reaches (Some k) p l w = sym (with_block_words s block i reaches (frame_line sup.sizes k l) w)

  -- the state when the block is settled
  abbrev pub settled_state : State
  settled_state = after_all (write_block block bytes ∷ sync ∷ []) s

  pub settled_grows : Grows no_store (λ b. b ≡ block) s settled_state
  settled_grows = Amid-grows no_store (λ b. b ≡ block) (write_block block bytes ∷ sync ∷ []) s settled_state (refl, (tt, tt)) (Amid_end (write_block block bytes ∷ sync ∷ []) s)

  pub settled_block : (i : Image) → Leaves settled_state i → i.ssd block ≡ bytes
  settled_block i leaves = leaves.blocks block refl ∙ ap (λ (x : Block). x.bytes) (cond-true (eqb block block) _ (s.ssd block) (eq-eqb block block refl))

  -- what the calls behind the sync store: the gate
  abbrev gate_stores : ℕ → ℕ → ℕ → Type 0
  gate_stores l w v = (l ≡ 2) × (w ≡ 0) × (v ≡ sup.drained + 64)

  -- where the image has the new gate it has the same log, of which 64 lines more stand in the SSD ring
  drain_seen : (i : Image) → Reaches gate_stores no_write settled_state i → i.nvm 2 0 ≡ sup.drained + 64 → (j : Image) × Leaves s j × Agree i j
  drain_seen i reaches at_gate =
      let j₁ : Image = without gate_stores settled_state i reaches in
      let left₁ : Leaves settled_state j₁ = without_leaves gate_stores settled_state i reaches in
      let old : (j : Image) × Leaves s j × Agree j₁ j × (super_of j₁ ≡ sup) = drain_unseen j₁ (Grows-leaves no_store (λ b. b ≡ block) s settled_state j₁ settled_grows left₁) in
      let same : (l w : ℕ) → (l ≢ 2) ⊎ (w ≢ 0) → i.nvm l w ≡ j₁.nvm l w = (λ l w h. sym (without_same gate_stores settled_state i reaches l w (λ st. elim h [ inl n ↦ n st.0 | inr n ↦ n st.1 ]))) in
      let same_ssd : (b : ℕ) → i.ssd b ≡ j₁.ssd b = (λ b. sym (without_blocks gate_stores settled_state i reaches b)) in
      let e₁ : super_of j₁ ≡ sup = old.3 in
      let e_i : super_of i ≡ record sup { drained = sup.drained + 64 } = moved_gate i j₁ (sup.drained + 64) (λ l w named h. same l w h) at_gate ∙ ap (λ (x : Super). record x { drained = sup.drained + 64 }) e₁ in
      let started : sup.start ≤ sup.tail = drains.can.started in
      let aligned : sup.drained % 64 ≡ 0 = drains.aligned in (
        old.0,
        old.1,
        record {
          sizes = ap (λ (x : Super). x.sizes) e_i ∙ sym (ap (λ (x : Super). x.sizes) e₁) ∙ (old.2).sizes;
          log = ap (λ (x : Super). lines_by x i) e_i
              ∙ from-same _ _ sup.start (sup.tail - sup.start) (λ o above below. elim (cases_lt o sup.drained) [
                | inl under ↦ cond-true (ltb o (sup.drained + 64)) _ _ (lt-ltb o (sup.drained + 64) (omega arith))
                    ∙ ap (λ xs. block_line xs (o % 64)) (same_ssd (ring_block sup.sizes o))
                    ∙ sym (cond-true (ltb o sup.drained) _ _ (lt-ltb o sup.drained under))
                | inr over ↦ elim (cases_lt o (sup.drained + 64)) [
                  | inl within ↦
                      (let turn : o / 64 ≡ sup.drained / 64 = omega arith in
                      cond-true (ltb o (sup.drained + 64)) _ _ (lt-ltb o (sup.drained + 64) within)
                      ∙ ap (λ xs. block_line xs (o % 64)) (same_ssd (ring_block sup.sizes o) ∙ ap (λ n. j₁.ssd (n % ring_blocks sup.sizes)) turn ∙ settled_block j₁ left₁)
                      ∙ drains.copied o over within
                      ∙ line_of-same _ _ (λ w hw. sym (single_version (s.nvm (ring_line sup.sizes o) w) (j₁.nvm (ring_line sup.sizes o) w)
                      ((drains.can.log o above (omega arith)).in_nvm over w hw)
                      (Grows-version no_store (λ b. b ≡ block) s settled_state settled_grows (ring_line sup.sizes o) w (λ v none. none) _ (left₁.words (ring_line sup.sizes o) w))))
                      ∙ sym (log_line-in_nvm sup.sizes sup.drained j₁ o over))
                  | inr beyond ↦ log_line-in_nvm sup.sizes (sup.drained + 64) i o beyond
                      ∙ line_of-same _ _ (λ w hw. same (ring_line sup.sizes o) w (inl (λ two. omega arith)))
                      ∙ sym (log_line-in_nvm sup.sizes sup.drained j₁ o over)
                ]
              ])
              ∙ sym (ap (λ (x : Super). lines_by x j₁) e₁) ∙ (old.2).log;
          homes = λ p l w hp hl hw.
              ap (λ (x : Super). home_in x.sizes i (frame_of (entry_at i) (x.sizes.frames + 1) p) p l w) e_i
              ∙ home_in-same sup.sizes i j₁ (λ k h. same (entry_line k) (entry_word k) (inl (λ two. omega arith)))
              (λ k l w hk hl hw. same (frame_line sup.sizes k l) w (inl (λ two. omega arith))) same_ssd p l w hl hw
              ∙ sym (ap (λ (x : Super). home_by x j₁ p l w) e₁)
              ∙ (old.2).homes p l w hp hl hw;
        },
      )

  -- At each moment of a drain each image agrees with one from before.
  pub drain_agrees : (mid : State) → Amid s (drain_calls sup.sizes sup.drained bytes) mid → (i : Image) → Leaves mid i → (j : Image) × Leaves s j × Agree i j
  drain_agrees mid amid i leaves = elim (Amid_append (write_block block bytes ∷ sync ∷ []) (store_word 2 0 (sup.drained + 64) ∷ flush 2 ∷ fence ∷ []) s mid amid) [
    | inl first ↦
        (let grows : Grows no_store (λ b. b ≡ block) s mid = Amid-grows no_store (λ b. b ≡ block) (write_block block bytes ∷ sync ∷ []) s mid (refl, (tt, tt)) first in
        let old : (j : Image) × Leaves s j × Agree i j × (super_of i ≡ sup) = drain_unseen i (Grows-leaves no_store (λ b. b ≡ block) s mid i grows leaves) in
        (old.0, old.1, old.2))
    | inr second ↦
        (let grows : Grows gate_stores no_write settled_state mid =
        Amid-grows gate_stores no_write (store_word 2 0 (sup.drained + 64) ∷ flush 2 ∷ fence ∷ []) settled_state mid ((refl, refl, refl), (tt, (tt, tt))) second in
        let reaches : Reaches gate_stores no_write settled_state i = Grows-leaves gate_stores no_write settled_state mid i grows leaves in
        elim (reaches.words 2 0) [
          | inl version ↦
              (let left : Leaves settled_state i = record {
                words = λ l w. elim (reaches.words l w) [ inl v ↦ v | inr st ↦ rw (st.0, st.1) version ];
                blocks = λ b. elim (reaches.blocks b) [ inl written ↦ absurd written | inr same ↦ same ];
              } in
              let old : (j : Image) × Leaves s j × Agree i j × (super_of i ≡ sup) = drain_unseen i (Grows-leaves no_store (λ b. b ≡ block) s settled_state i settled_grows left) in
              (old.0, old.1, old.2))
          | inr moved ↦ drain_seen i reaches moved.2
        ])
  ]
