-- Blocks of log lines are copied to the ring on the SSD under one sync: the facts hold at each moment, and when it is done.
use Rattle.std.proofs.Common.{◌≡◌, ◌≢◌, ◌⊎◌, ℕ, ◌+◌, ◌-◌, ◌*◌, ◌/◌, ◌%◌, ◌<◌, ◌≤◌, List, [], ◌∷◌, ◌++◌, length, refl, sym, ap, ◌∙◌, subst, inl, inr, arith, ltb, Option, None}
use Rattle.std.proofs.lemmas.Bool.{cases_lt, lt-ltb, cond-true}
use Rattle.nvm_model.specs.declared.line.Line.{Line}
use Rattle.devices.specs.State.{State, Image, Leaves, current, after_all, Amid}
use Rattle.devices.specs.State.Call.{sync}
use Rattle.devices.specs.Growth.{Grows, no_store}
use Rattle.store_model.specs.Layout.{Sizes, ring_lines, ring_line, ring_block, ring_blocks, frame_line, entry_line, entry_word}
use Rattle.store_model.specs.Format.{log_check}
use Rattle.store_model.specs.Recovered.{Super, super_of, entry_at, frame_of, home_in, log_lines, block_line, super_check, image_table_check, image_log_check}
use Rattle.store_model.specs.InOrder.{LineStands, HomeStands}
use Rattle.store_model.specs.StoreFacts.{Gate, Bookkeeping, StoreFacts}
use Rattle.store_model.specs.Blocks.{block_calls, drain_all_calls, CanDrainAll}
use Rattle.store_model.specs.Seen.{ImageFacts, Mirrors, Moved, IsQuiet, gate_calls, changing_to}
use Rattle.nvm_model.proofs.WordLaws.{single_version}
use Rattle.devices.proofs.GrowthLaws.{Amid-grows, Amid_append, Grows-version, after_all_append}
use Rattle.home_laws.proofs.RecoveredLaws.{line_of-same, from-same, frame_of-same}
use Rattle.home_laws.proofs.PutLaws.{log_line-in_nvm, home_in-same, home_by, lines_by}
use Rattle.store_model.specs.Checked.{SuperPasses}
use Rattle.home_laws.proofs.CheckLaws.{super_passes, super_check-none, checks_none, checks_from, same_table}
use Rattle.home_laws.proofs.FactsLaws.{current_leaves}
use Rattle.log_laws.proofs.DrainLaws.{moved_gate}
use Rattle.log_laws.proofs.BlocksLaws.{writes, all_log_apart, all_home_apart, settled_all, all_within, all_grows, all_settled, all_bytes}
use Rattle.home_laws.proofs.SeenLaws.{image_facts, image_changing, mirror_facts, facts_changing, facts_super}
use Rattle.home_laws.proofs.QuietLaws.{quiet_facts, quiet_super}
use Rattle.home_laws.proofs.GateLaws.{gate_facts, gate_after}

module _ (b : Bookkeeping) (s : State) (facts : StoreFacts b s) (still : b.changing ≡ None) (blocks : List (List ℕ)) (can : CanDrainAll s blocks) where
  abbrev sup : Super
  sup = super_of (current s)

  same_sizes : sup.sizes ≡ b.sizes
  same_sizes = facts.sizes (current s) (current_leaves s)

  abbrev pub new_drained : ℕ
  new_drained = sup.drained + 64 * length blocks

  abbrev written : ℕ → Type 0
  written = writes s blocks can

  -- the blocks are no block of the log, and no home
  pub drain_all_quiet : IsQuiet s no_store written
  drain_all_quiet = record {
    low = λ l w v below none. none;
    log = λ o w v above over below none. none;
    frames = λ n l w v h hl named none. none;
    ring = λ o above under same. all_log_apart s blocks can o above under same;
    blocks = λ p h same. all_home_apart s blocks can p same;
  }

  abbrev pub settled : State
  settled = settled_all s blocks can

  pub all_grows_to : Grows no_store written s settled
  all_grows_to = all_grows s blocks can

  pub settled_all_facts : StoreFacts b settled
  settled_all_facts = quiet_facts b s facts still no_store written drain_all_quiet settled all_grows_to

  pub settled_all_super : super_of (current settled) ≡ sup
  settled_all_super = quiet_super b s facts still no_store written drain_all_quiet settled all_grows_to

  -- An image with the new gate has the same log, of which 64 lines more stand on the SSD.
  pub all_mirrors : (i j : Image) → Leaves settled j → Moved Gate.drained (new_drained) i j → Mirrors b.format b.sizes settled i j
  all_mirrors i j left moved =
      let old : ImageFacts b settled j = image_facts b settled settled_all_facts j left in
      let same : (l w : ℕ) → (l ≢ 2) ⊎ (w ≢ 0) → i.nvm l w ≡ j.nvm l w = moved.words in
      let e_j : super_of j ≡ sup = facts_super b settled settled_all_facts still j left ∙ settled_all_super in
      let e_i : super_of i ≡ record sup { drained = new_drained } = moved_gate i j (new_drained) (λ l w named h. same l w h) moved.at_gate ∙ ap (λ (x : Super). record x { drained = new_drained }) e_j in
      let started : sup.start ≤ sup.tail = can.can.started in
      let aligned : sup.drained % 64 ≡ 0 = can.aligned in
      let lines : new_drained ≤ sup.tail = can.lines in
      let same_entry : (k : ℕ) → entry_at i k ≡ entry_at j k = (λ k. same (entry_line k) (entry_word k) (inl (λ two. omega arith))) in
      let same_log : log_lines i ≡ log_lines j =
      ap (λ (x : Super). lines_by x i) e_i
      ∙ from-same _ _ sup.start (sup.tail - sup.start) (λ o above below. elim (cases_lt o sup.drained) [
        | inl under ↦ cond-true (ltb o (new_drained)) _ _ (lt-ltb o (new_drained) (omega arith))
            ∙ ap (λ xs. block_line xs (o % 64)) (moved.blocks (ring_block sup.sizes o))
            ∙ sym (cond-true (ltb o sup.drained) _ _ (lt-ltb o sup.drained under))
        | inr over ↦ elim (cases_lt o (new_drained)) [
          | inl within ↦
              (let turn : o / 64 ≡ (sup.drained + 64 * ((o - sup.drained) / 64)) / 64 = omega arith in
              cond-true (ltb o (new_drained)) _ _ (lt-ltb o (new_drained) within)
              ∙ ap (λ xs. block_line xs (o % 64)) (moved.blocks (ring_block sup.sizes o) ∙ ap (λ n. j.ssd (n % ring_blocks sup.sizes)) turn ∙ all_bytes s blocks can j left ((o - sup.drained) / 64) (omega arith))
              ∙ can.copied.each ((o - sup.drained) / 64) o (omega arith) (omega arith) (omega arith)
              ∙ line_of-same _ _ (λ w hw. sym (single_version (s.nvm (ring_line sup.sizes o) w) (j.nvm (ring_line sup.sizes o) w)
              ((can.can.log o above (omega arith)).in_nvm over w hw)
              (Grows-version no_store written s settled all_grows_to (ring_line sup.sizes o) w (λ v none. none) _ (left.words (ring_line sup.sizes o) w))))
              ∙ sym (log_line-in_nvm sup.sizes sup.drained j o over))
          | inr beyond ↦ log_line-in_nvm sup.sizes (new_drained) i o beyond
              ∙ line_of-same _ _ (λ w hw. same (ring_line sup.sizes o) w (inl (λ two. omega arith)))
              ∙ sym (log_line-in_nvm sup.sizes sup.drained j o over)
        ]
      ])
      ∙ sym (ap (λ (x : Super). lines_by x j) e_j) in
      record {
        sizes = ap (λ (x : Super). x.sizes) e_i ∙ sym (ap (λ (x : Super). x.sizes) e_j);
        tail = ap (λ (x : Super). x.tail) e_i ∙ sym (ap (λ (x : Super). x.tail) e_j);
        log = same_log;
        store = λ store. record {
          magic_word = ap (λ (x : Super). x.magic_word) e_i ∙ sym (ap (λ (x : Super). x.magic_word) e_j) ∙ store.magic_word;
          checks =
              let checks : (super_check (super_of j) ≡ None) × (image_table_check j ≡ None) × (image_log_check b.format j ≡ None) = checks_none b.format j store.checks in
              let passes : SuperPasses sup = subst SuperPasses e_j (super_passes (super_of j) checks.0) in
              checks_from b.format i
              (ap super_check e_i ∙ super_check-none (record sup { drained = new_drained }) (record {
                sizes = passes.sizes;
                started = started;
                drained = lines;
                aligned = (omega arith);
                in_ring = (let before : sup.tail - sup.drained ≤ ring_lines sup.sizes = passes.in_ring in omega arith);
                in_blocks = can.room;
              }))
              (same_table i j (ap (λ (x : Super). x.sizes) e_i ∙ sym (ap (λ (x : Super). x.sizes) e_j)) (λ k h. same_entry k) ∙ checks.1)
              (ap (λ (x : Super). log_check b.format x.sizes x.start 0 (log_lines i)) e_i
              ∙ ap (λ (xs : List Line). log_check b.format sup.sizes sup.start 0 xs) same_log
              ∙ sym (ap (λ (x : Super). log_check b.format x.sizes x.start 0 (log_lines j)) e_j) ∙ checks.2);
        };
        homes = λ p l w word unlogged.
            ap (λ (x : Super). home_in x.sizes i (frame_of (entry_at i) (x.sizes.frames + 1) p) p l w) e_i
            ∙ home_in-same sup.sizes i j (λ k h. same_entry k)
            (λ k l w hk hl hw. same (frame_line sup.sizes k l) w (inl (λ two. omega arith))) moved.blocks p l w word.line word.word
            ∙ sym (ap (λ (x : Super). home_by x j p l w) e_j);
        lines = subst (λ (x : Super). (o : ℕ) → x.start ≤ o → o < x.tail → LineStands x settled o) (sym e_i) (λ o above below.
            let stood : LineStands sup settled o = subst (λ (x : Super). (o : ℕ) → x.start ≤ o → o < x.tail → LineStands x settled o) e_j (old.durable).log o above below in
            record { in_nvm = λ over w hw. stood.in_nvm (omega arith) w hw; in_ssd = λ under. all_settled s blocks can _ });
        stands = λ p l w word unlogged. subst (λ (f : Option ℕ). HomeStands b.sizes f settled p l w)
            (sym (frame_of-same (entry_at i) (entry_at j) (b.sizes.frames + 1) p (λ k less. same_entry k))) ((old.durable).homes p l w word unlogged);
      }

  -- At each moment of the drain the facts hold, with `drained` being raised.
  pub drain_all_facts : (mid : State) → Amid s (drain_all_calls b.sizes sup.drained blocks) mid → StoreFacts (changing_to b Gate.drained sup.drained (new_drained) b.committed) mid
  drain_all_facts mid amid = elim (Amid_append (block_calls sup.sizes sup.drained blocks ++ sync ∷ []) (gate_calls Gate.drained (new_drained)) s mid
      (subst (λ (g : Sizes). Amid s (drain_all_calls g sup.drained blocks) mid) (sym same_sizes) amid)) [
        | inl first ↦
            (let grows : Grows no_store written s mid = Amid-grows no_store written (block_calls sup.sizes sup.drained blocks ++ sync ∷ []) s mid (all_within s blocks can) first in
            facts_changing b mid (quiet_facts b s facts still no_store written drain_all_quiet mid grows) still Gate.drained tt sup.drained (new_drained)
            (ap (λ (x : Super). x.drained) (quiet_super b s facts still no_store written drain_all_quiet mid grows)) b.committed (λ p l w. refl))
        | inr second ↦ gate_facts b settled settled_all_facts still Gate.drained tt sup.drained (ap (λ (x : Super). x.drained) settled_all_super) (new_drained) b.committed
            (λ i left. image_changing b _ b.committed settled i (image_facts b settled settled_all_facts i left) (λ p l w. refl))
            (λ i j left moved. mirror_facts b _ b.committed settled settled i j (image_facts b settled settled_all_facts j left) (all_mirrors i j left moved) (λ p l w. refl)) mid second
      ]

  -- When it is done they hold with no gate being changed.
  pub drain_all_done : StoreFacts b (after_all (drain_all_calls b.sizes sup.drained blocks) s)
  drain_all_done = subst (λ (g : Sizes). StoreFacts b (after_all (drain_all_calls g sup.drained blocks) s)) same_sizes
      (subst (λ (t : State). StoreFacts b t) (sym (after_all_append (block_calls sup.sizes sup.drained blocks ++ sync ∷ []) (gate_calls Gate.drained new_drained) s))
      (gate_after b settled settled_all_facts still Gate.drained tt sup.drained (ap (λ (x : Super). x.drained) settled_all_super) (new_drained) b.committed b.pending
      (λ i j left moved. mirror_facts b b.changing b.committed settled settled i j (image_facts b settled settled_all_facts j left) (all_mirrors i j left moved) (λ p l w. refl))))
