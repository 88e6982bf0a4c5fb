-- The log is emptied: `start` becomes the tail, where every home is what recovery gives. At each moment each image
-- recovers to the same words.
use Rattle.std.proofs.Common.{◌≡◌, ◌≢◌, ◌⊎◌, ℕ, zero, suc, ◌+◌, ◌-◌, ◌<◌, List, [], ◌∷◌, refl, sym, ap, ◌∙◌, subst, inl, inr, arith, ◌≤◌, true, false, Some, None, Option}
use Rattle.nvm_model.specs.declared.line.Line.{Line}
use Rattle.devices.specs.State.{State, Image, Call, Amid, Leaves, current, after_all}
use Rattle.devices.specs.State.Call.{store_word, flush, fence}
use Rattle.devices.specs.Growth.{Grows, Reaches, no_write}
use Rattle.store_model.specs.Layout.{Sizes, pages, frame_line, entry_line, entry_word}
use Rattle.store_model.specs.Log.{Words, no_log, grouped, is_logged}
use Rattle.store_model.specs.Format.{Format, entries, log_check, word_in}
use Rattle.store_model.specs.Format.Format.{whole_lines, named_words, with_cuts}
use Rattle.store_model.specs.Recovered.{Super, super_of, entry_at, frame_of, home_in, home, log_line, log_lines, from, replay, recovered, log_of, super_check, image_table_check, image_log_check}
use Rattle.store_model.specs.InOrder.{IsNamed, LineStands, HomeStands}
use Rattle.store_model.specs.InOrder.IsNamed.{magic_word, tables, rows, writes, frames, log_blocks, drained, tail}
use Rattle.store_model.specs.Append.{RecoversTo}
use Rattle.store_model.specs.Put.{CanPut}
use Rattle.store_model.specs.StoreFacts.{Gate, Changing, Bookkeeping, IsWord, is_written, StoreFacts}
use Rattle.home_laws.proofs.RecoveredLaws.{frame_of-same}
use Rattle.home_laws.proofs.CheckLaws.{super_passes, super_check-none, start_passes, checks_none, checks_from, same_table}
use Rattle.store_model.specs.Seen.{ImageFacts, Moved, changing_to}
use Rattle.home_laws.proofs.SeenLaws.{image_facts, image_changing, facts_super}
use Rattle.home_laws.proofs.GateLaws.{gate_facts, gate_after}
use Rattle.std.proofs.lemmas.Bool.{cases_Bool}
use Rattle.devices.proofs.GrowthLaws.{Amid-grows, Grows-leaves}
use Rattle.home_laws.proofs.PutLaws.{home_in-same, durable_super, without, without_leaves, without_same, without_blocks, home_by}

abbrev pub start_calls : ℕ → List Call
start_calls to = store_word 1 0 to ∷ flush 1 ∷ fence ∷ []

-- an empty log changes nothing
replay_none : (format : Format) (a : Words) (p l w : ℕ) → replay format no_log a p l w ≡ a p l w
replay_none whole_lines a p l w = refl
replay_none named_words a p l w = refl
replay_none with_cuts a p l w = refl

pub from_none : (f : ℕ → Line) (at n : ℕ) → n ≡ 0 → from f at n ≡ []
from_none f at zero h = refl
from_none f at (suc n) h = absurd (omega arith)

-- a superblock that differs in its start alone
pub moved_start : (i j : Image) (n : ℕ) → ((l w : ℕ) → IsNamed l w → (l ≢ 1) ⊎ (w ≢ 0) → i.nvm l w ≡ j.nvm l w) → i.nvm 1 0 ≡ n → super_of i ≡ record (super_of j) { start = n }
moved_start i j n h at =
    let a : i.nvm 0 0 ≡ j.nvm 0 0 = h 0 0 magic_word (inl (λ e. omega arith)) in
    let b : i.nvm 0 1 ≡ j.nvm 0 1 = h 0 1 tables (inl (λ e. omega arith)) in
    let c : i.nvm 0 2 ≡ j.nvm 0 2 = h 0 2 rows (inl (λ e. omega arith)) in
    let d : i.nvm 0 3 ≡ j.nvm 0 3 = h 0 3 writes (inl (λ e. omega arith)) in
    let e : i.nvm 0 4 ≡ j.nvm 0 4 = h 0 4 frames (inl (λ e. omega arith)) in
    let f : i.nvm 0 5 ≡ j.nvm 0 5 = h 0 5 log_blocks (inl (λ e. omega arith)) in
    let g : i.nvm 2 0 ≡ j.nvm 2 0 = h 2 0 drained (inl (λ e. omega arith)) in
    let k : i.nvm 3 0 ≡ j.nvm 3 0 = h 3 0 tail (inl (λ e. omega arith)) in
    cc

module _ (format : Format) (s : State) (can : CanPut s 0) (words : Words) (recovers : RecoversTo format s words)
    (homes : (i : Image) → Leaves s i → (p l w : ℕ) → p < pages (super_of i).sizes → l < 64 → w < 8 → home i p l w ≡ words p l w) where
  abbrev sup : Super
  sup = super_of (current s)

  abbrev start_stores : ℕ → ℕ → ℕ → Type 0
  start_stores l w v = (l ≡ 1) × (w ≡ 0) × (v ≡ sup.tail)

  start_seen : (i : Image) → Reaches start_stores no_write s i → i.nvm 1 0 ≡ sup.tail → (p l w : ℕ) → p < pages (super_of i).sizes → l < 64 → w < 8 → recovered format i p l w ≡ words p l w
  start_seen i reaches at_start p l w hp hl hw =
      let j : Image = without start_stores s i reaches in
      let left : Leaves s j = without_leaves start_stores s i reaches in
      let same : (line w : ℕ) → (line ≢ 1) ⊎ (w ≢ 0) → i.nvm line w ≡ j.nvm line w = (λ line w h. sym (without_same start_stores s i reaches line w (λ st. elim h [ inl n ↦ n st.0 | inr n ↦ n st.1 ]))) in
      let same_ssd : (b : ℕ) → i.ssd b ≡ j.ssd b = (λ b. sym (without_blocks start_stores s i reaches b)) in
      let e_j : super_of j ≡ sup = durable_super s 0 can j left in
      let e_i : super_of i ≡ record sup { start = sup.tail } = moved_start i j sup.tail (λ l w named h. same l w h) at_start ∙ ap (λ (x : Super). record x { start = sup.tail }) e_j in
      let none : log_lines i ≡ [] = ap (λ (x : Super). from (log_line x.sizes x.drained i) x.start (x.tail - x.start)) e_i ∙ from_none _ sup.tail (sup.tail - sup.tail) (omega arith) in
      let same_home : home i p l w ≡ home j p l w =
      ap (λ (x : Super). home_in x.sizes i (frame_of (entry_at i) (x.sizes.frames + 1) p) p l w) e_i
      ∙ home_in-same sup.sizes i j (λ k h. same (entry_line k) (entry_word k) (inl (λ at. omega arith)))
      (λ k l w hk hl hw. same (frame_line sup.sizes k l) w (inl (λ at. omega arith))) same_ssd p l w hl hw
      ∙ sym (ap (λ (x : Super). home_by x j p l w) e_j) in
      ap (λ (xs : List Line). replay format (grouped no_log (entries format 0 xs)) (home i) p l w) none
      ∙ replay_none format (home i) p l w ∙ same_home
      ∙ homes j left p l w (subst (λ (g : Sizes). p < pages g) (ap (λ (x : Super). x.sizes) e_i ∙ sym (ap (λ (x : Super). x.sizes) e_j)) hp) hl hw

  pub start_keeps : (mid : State) → Amid s (start_calls sup.tail) mid → RecoversTo format mid words
  start_keeps mid amid i leaves p l w hp hl hw =
      let grows : Grows start_stores no_write s mid = Amid-grows start_stores no_write (start_calls sup.tail) s mid ((refl, refl, refl), (tt, (tt, tt))) amid in
      let reaches : Reaches start_stores no_write s i = Grows-leaves start_stores no_write s mid i grows leaves in
      elim (reaches.words 1 0) [
        | inl version ↦
            (let left : Leaves s i = record {
              words = λ l w. elim (reaches.words l w) [ inl v ↦ v | inr st ↦ rw (st.0, st.1) version ];
              blocks = λ b. elim (reaches.blocks b) [ inl written ↦ absurd written | inr same ↦ same ];
            } in
            recovers i left p l w hp hl hw)
        | inr moved ↦ start_seen i reaches moved.2 p l w hp hl hw
      ]

-- The facts while the log is emptied. It asks that nothing is pending, that the home of each word that the log names is
-- durable and its current and its committed word, and that the copies in DRAM are the homes.
module _ (b : Bookkeeping) (s : State) (facts : StoreFacts b s) (still : b.changing ≡ None) (nothing : b.pending ≡ [])
    (stand : (j : Image) → Leaves s j → (p l w : ℕ) → IsWord b.sizes p l w → is_logged (log_of b.format j) p l w ≡ true
    → HomeStands b.sizes (frame_of (entry_at j) (b.sizes.frames + 1) p) s p l w × (home j p l w ≡ b.current p l w) × (home j p l w ≡ b.committed (super_of j).tail p l w))
    (copies : (j : Image) → Leaves s j → (p l w : ℕ) (line : Line) → IsWord b.sizes p l w → b.copy p l ≡ Some line → word_in line w ≡ home j p l w) where
  abbrev sup₁ : Super
  sup₁ = super_of (current s)

  -- every word has its home as current and as committed word, and it is durable
  at_home : (j : Image) → Leaves s j → (p l w : ℕ) → IsWord b.sizes p l w
      → HomeStands b.sizes (frame_of (entry_at j) (b.sizes.frames + 1) p) s p l w × (home j p l w ≡ b.current p l w) × (home j p l w ≡ b.committed (super_of j).tail p l w)
  at_home j left p l w word = elim (cases_Bool (is_logged (log_of b.format j) p l w)) [
    | inl logged ↦ stand j left p l w word logged
    | inr unlogged ↦
        (let unwritten : is_written b j p l w ≡ false = rw (unlogged, nothing) refl in
        ((facts.durable j left).homes p l w word unlogged, (facts.homes j left).current p l w word unwritten, (facts.homes j left).committed p l w word unwritten))
  ]

  -- An image with the new start has an empty log and the same homes.
  emptied_image : (changing : Option Changing) (i j : Image) → Leaves s j → Moved Gate.start sup₁.tail i j → ImageFacts (record b { changing = changing; committed = b.committed }) s i
  emptied_image changing i j left moved =
      let e_j : super_of j ≡ sup₁ = facts_super b s facts still j left in
      let sized : (super_of j).sizes ≡ b.sizes = facts.sizes j left in
      let e_i : super_of i ≡ record (super_of j) { start = (super_of j).tail } = moved_start i j sup₁.tail (λ l w named h. moved.words l w h) moved.at_gate ∙ ap (λ n. record (super_of j) { start = n }) (sym (ap (λ (x : Super). x.tail) e_j)) in
      let empty : log_lines i ≡ [] = ap (λ (x : Super). from (log_line x.sizes x.drained i) x.start (x.tail - x.start)) e_i ∙ from_none _ (super_of j).tail ((super_of j).tail - (super_of j).tail) (omega arith) in
      let same_entry : (k : ℕ) → entry_at i k ≡ entry_at j k = (λ k. moved.words (entry_line k) (entry_word k) (inl (λ at. omega arith))) in
      let same_home : (p l w : ℕ) → IsWord b.sizes p l w → home i p l w ≡ home j p l w =
      (λ p l w word. ap (λ (x : Super). home_in x.sizes i (frame_of (entry_at i) (x.sizes.frames + 1) p) p l w) e_i
      ∙ home_in-same (super_of j).sizes i j (λ k h. same_entry k) (λ k l w hk hl hw. moved.words (frame_line (super_of j).sizes k l) w (inl (λ at. omega arith))) moved.blocks p l w word.line word.word) in
      let same_tail : (p l w : ℕ) → b.committed (super_of j).tail p l w ≡ b.committed (super_of i).tail p l w = (λ p l w. sym (ap (λ (x : Super). b.committed x.tail p l w) e_i)) in
      let checks : (super_check (super_of j) ≡ None) × (image_table_check j ≡ None) × (image_log_check b.format j ≡ None) = checks_none b.format j ((facts.stores j left)).checks in
      record {
        sizes = ap (λ (x : Super). x.sizes) e_i ∙ sized;
        durable = record {
          log = subst (λ (x : Super). (o : ℕ) → x.start ≤ o → o < x.tail → LineStands x s o) (sym e_i) (λ o above below. absurd (omega arith));
          homes = λ p l w word h. subst (λ (f : Option ℕ). HomeStands b.sizes f s p l w) (sym (frame_of-same (entry_at i) (entry_at j) (b.sizes.frames + 1) p (λ k less. same_entry k))) (at_home j left p l w word).0;
        };
        homes = record {
          current = λ p l w word h. same_home p l w word ∙ (at_home j left p l w word).1;
          committed = λ p l w word h. same_home p l w word ∙ (at_home j left p l w word).2 ∙ same_tail p l w;
        };
        log = record {
          logged = λ p l w word h homes. absurd (not_here p l w (sym (ap (λ (xs : List Line). is_logged (grouped no_log (entries b.format 0 xs)) p l w) empty) ∙ h));
          pending = λ p l w word h named. same_home p l w word ∙ (at_home j left p l w word).2 ∙ same_tail p l w;
        };
        copies = λ p l w x word copy h. copies j left p l w x word copy ∙ sym (same_home p l w word);
        store = record {
          magic_word = ap (λ (x : Super). x.magic_word) e_i ∙ ((facts.stores j left)).magic_word;
          checks = checks_from b.format i
              (ap super_check e_i ∙ super_check-none _ (start_passes (super_of j) (super_passes (super_of j) checks.0)))
              (same_table i j (ap (λ (x : Super). x.sizes) e_i) (λ n h. same_entry n) ∙ checks.1)
              (ap (λ (xs : List Line). log_check b.format (super_of i).sizes (super_of i).start 0 xs) empty);
        };
      }
    where
      not_here : (p l w : ℕ) → is_logged no_log p l w ≡ true → ⊥
      not_here p l w h = cc

  -- The facts hold at each moment while the log is emptied, and when it is done.
  pub start_facts : (mid : State) → Amid s (start_calls sup₁.tail) mid → StoreFacts (changing_to b Gate.start sup₁.start sup₁.tail b.committed) mid
  start_facts = gate_facts b s facts still Gate.start tt sup₁.start refl sup₁.tail b.committed (λ i left. image_changing b _ b.committed s i (image_facts b s facts i left) (λ p l w. refl)) (emptied_image _)

  pub start_done : StoreFacts b (after_all (start_calls sup₁.tail) s)
  start_done = gate_after b s facts still Gate.start tt sup₁.start refl sup₁.tail b.committed b.pending (emptied_image b.changing)
