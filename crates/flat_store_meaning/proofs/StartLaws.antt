-- The log is emptied: `start` becomes the tail, where every home is what recovery gives. At each moment each image
-- recovers to the same words.
use Rattle.std.proofs.Common.{◌≡◌, ◌≢◌, ◌⊎◌, ℕ, zero, suc, ◌-◌, ◌<◌, List, [], refl, sym, ap, ◌∙◌, subst, inl, inr, arith, ◌≤◌, true, false, Some, None}
use Rattle.nvm_model.specs.declared.line.Line.{Line}
use Rattle.devices.specs.State.{State, Image, Amid, Leaves, current, after_all, word_stored}
use Rattle.nvm_model.specs.Word.{Word, IsVersion, IsSingle, single, marked, trimmed}
use Rattle.devices.specs.Growth.{Grows, Reaches, no_write}
use Rattle.flat_store_meaning.specs.Layout.{Sizes, pages, frame_line, ring_line}
use Rattle.flat_store_meaning.specs.Log.{Words, no_log, grouped, is_logged, Log}
use Rattle.flat_store_meaning.specs.Format.{Format, entries, word_in, log_check}
use Rattle.flat_store_meaning.specs.Format.Format.{whole_lines, named_words, with_cuts}
use Rattle.flat_store_meaning.specs.Recovered.{super_check, IsStore, Super, super_of, home, log_line, log_lines, from, replay, recovered, log_of}
use Rattle.flat_store_meaning.specs.InOrder.{IsNamed, LineStands, HomeStands}
use Rattle.flat_store_meaning.specs.InOrder.IsNamed.{magic_word, tables, rows, writes, frames, log_blocks, start, drained, tail}
use Rattle.flat_store_meaning.specs.Append.{RecoversTo}
use Rattle.flat_store_meaning.specs.Put.{CanPut, start_calls}
use Rattle.flat_store_meaning.specs.StoreFacts.{Gate, gate_line, gate_word, Changing, Bookkeeping, IsWord, is_written, GatesAreOne, NamedIsDurable, HomesAreRight, LogIsRight, CopiesAreRight, StoreFacts}
use Rattle.flat_store_meaning.proofs.CheckLaws.{checks_from, super_check-none, start_passes, store_passes}
use Rattle.nvm_model.proofs.WordLaws.{single_version}
use Rattle.flat_store_meaning.proofs.FactsLaws.{current_leaves, some_same, gate_done}
use Rattle.std.proofs.lemmas.Bool.{cases_Bool}
use Rattle.devices.proofs.StateLaws.{flushed_same, word_stored_same}
use Rattle.devices.proofs.GrowthLaws.{Amid_end, Amid-grows, Grows-leaves, Grows-single, Grows-steady, Grows-settled}
use Rattle.flat_store_meaning.proofs.PutLaws.{single_at, durable_super, without, without_leaves, without_same, home_by}

-- when the calls are done the start has one version
pub start_single : (to : ℕ) (s : State) → (after_all (start_calls to) s).nvm 1 0 ≡ single to
start_single to s = ap trimmed (flushed_same 1 (word_stored 1 0 to s) 0 ∙ ap marked (word_stored_same 1 0 to s))

-- an empty log changes nothing
replay_none : (format : Format) (a : Words) (p l w : ℕ) → replay format no_log a p l w ≡ a p l w
replay_none whole_lines a p l w = refl
replay_none named_words a p l w = refl
replay_none with_cuts a p l w = refl

from_none : (f : ℕ → Line) (at n : ℕ) → n ≡ 0 → from f at n ≡ []
from_none f at zero h = refl
from_none f at (suc n) h = absurd (omega arith)

-- a superblock that differs in its start alone
moved_start : (i j : Image) (n : ℕ) → ((l w : ℕ) → IsNamed l w → (l ≢ 1) ⊎ (w ≢ 0) → i.nvm l w ≡ j.nvm l w) → i.nvm 1 0 ≡ n → super_of i ≡ record (super_of j) { start = n; drained = n }
moved_start i j n h at =
    let a : i.nvm 0 0 ≡ j.nvm 0 0 = h 0 0 magic_word (inl (λ e. omega arith)) in
    let b : i.nvm 0 1 ≡ j.nvm 0 1 = h 0 1 tables (inl (λ e. omega arith)) in
    let c : i.nvm 0 2 ≡ j.nvm 0 2 = h 0 2 rows (inl (λ e. omega arith)) in
    let d : i.nvm 0 3 ≡ j.nvm 0 3 = h 0 3 writes (inl (λ e. omega arith)) in
    let e : i.nvm 0 4 ≡ j.nvm 0 4 = h 0 4 frames (inl (λ e. omega arith)) in
    let f : i.nvm 0 5 ≡ j.nvm 0 5 = h 0 5 log_blocks (inl (λ e. omega arith)) in
    let k : i.nvm 3 0 ≡ j.nvm 3 0 = h 3 0 tail (inl (λ e. omega arith)) in
    cc

module _ (format : Format) (s : State) (can : CanPut s 0) (words : Words) (recovers : RecoversTo format s words)
    (homes : (i : Image) → Leaves s i → (p l w : ℕ) → p < pages (super_of i).sizes → l < 64 → w < 8 → home i p l w ≡ words p l w) where
  abbrev sup : Super
  sup = super_of (current s)

  abbrev start_stores : ℕ → ℕ → ℕ → Type 0
  start_stores l w v = (l ≡ 1) × (w ≡ 0) × (v ≡ sup.tail)

  start_seen : (i : Image) → Reaches start_stores no_write s i → i.nvm 1 0 ≡ sup.tail → (p l w : ℕ) → p < pages (super_of i).sizes → l < 64 → w < 8 → recovered format i p l w ≡ words p l w
  start_seen i reaches at_start p l w hp hl hw =
      let j : Image = without start_stores s i reaches in
      let left : Leaves s j = without_leaves start_stores s i reaches in
      let same : (line w : ℕ) → (line ≢ 1) ⊎ (w ≢ 0) → i.nvm line w ≡ j.nvm line w = (λ line w h. sym (without_same start_stores s i reaches line w (λ st. elim h [ inl n ↦ n st.0 | inr n ↦ n st.1 ]))) in
      let e_j : super_of j ≡ sup = durable_super s 0 can j left in
      let e_i : super_of i ≡ record sup { start = sup.tail; drained = sup.tail } = moved_start i j sup.tail (λ l w named h. same l w h) at_start ∙ ap (λ (x : Super). record x { start = sup.tail; drained = sup.tail }) e_j in
      let none : log_lines i ≡ [] = ap (λ (x : Super). from (log_line x.sizes x.drained i) x.start (x.tail - x.start)) e_i ∙ from_none _ sup.tail (sup.tail - sup.tail) (omega arith) in
      let same_home : home i p l w ≡ home j p l w =
      ap (λ (x : Super). home_by x i p l w) e_i
      ∙ same (frame_line sup.sizes p l) w (inl (λ at. omega arith))
      ∙ sym (ap (λ (x : Super). home_by x j p l w) e_j) in
      ap (λ (xs : List Line). replay format (grouped no_log (entries format 0 xs)) (home i) p l w) none
      ∙ replay_none format (home i) p l w ∙ same_home
      ∙ homes j left p l w (subst (λ (g : Sizes). p < pages g) (ap (λ (x : Super). x.sizes) e_i ∙ sym (ap (λ (x : Super). x.sizes) e_j)) hp) hl hw

  pub start_keeps : (mid : State) → Amid s (start_calls sup.tail) mid → RecoversTo format mid words
  start_keeps mid amid i leaves p l w hp hl hw =
      let grows : Grows start_stores no_write s mid = Amid-grows start_stores no_write (start_calls sup.tail) s mid ((refl, refl, refl), (tt, (tt, tt))) amid in
      let reaches : Reaches start_stores no_write s i = Grows-leaves start_stores no_write s mid i grows leaves in
      elim (reaches.words 1 0) [
        | inl version ↦
            (let left : Leaves s i = record {
              words = λ l w. elim (reaches.words l w) [ inl v ↦ v | inr st ↦ rw (st.0, st.1) version ];
              blocks = λ b. elim (reaches.blocks b) [ inl written ↦ absurd written | inr same ↦ same ];
            } in
            recovers i left p l w hp hl hw)
        | inr moved ↦ start_seen i reaches moved.2 p l w hp hl hw
      ]

-- an image of a store whose log was emptied
empty_store : (format : Format) (i j : Image) (at : ℕ) → super_of i ≡ record (super_of j) { start = at; drained = at } → at ≡ (super_of j).tail → log_lines i ≡ []
    → IsStore format j → IsStore format i
empty_store format i j at moved is lines store =
    let e_i : super_of i ≡ record (super_of j) { start = (super_of j).tail; drained = (super_of j).tail } = moved ∙ ap (λ n. record (super_of j) { start = n; drained = n }) is in
    record {
      magic_word = ap (λ (x : Super). x.magic_word) moved ∙ store.magic_word;
      checks = checks_from format i (ap super_check e_i ∙ super_check-none _ (start_passes (super_of j) (store_passes format j store)))
          (ap (λ (xs : List Line). log_check format (super_of i).sizes (super_of i).start 0 xs) lines);
    }

-- When the start has one version again, no gate is being changed.
pub start_done : (b : Bookkeeping) (old new : ℕ) (s : State) → StoreFacts (record b { changing = Some (record { gate = Gate.start; old = old; new = new }) }) s → IsSingle (s.nvm 1 0)
    → StoreFacts (record b { changing = None }) s
start_done b old new s facts one = gate_done b (record { gate = Gate.start; old = old; new = new }) s facts one

-- The facts while the log is emptied. It asks that nothing is pending, that the home of each word that the log names is
-- durable and its current and its committed word, and that the copies in DRAM are the homes.
module _ (b : Bookkeeping) (s : State) (facts : StoreFacts b s) (can : CanPut s 0) (nothing : b.pending ≡ [])
    (stand : (j : Image) → Leaves s j → (p l w : ℕ) → IsWord b.sizes p l w → is_logged (log_of b.format j) p l w ≡ true
    → HomeStands b.sizes s p l w × (home j p l w ≡ b.current p l w) × (home j p l w ≡ b.committed (super_of j).tail p l w))
    (copies : (j : Image) → Leaves s j → (p l w : ℕ) (line : Line) → IsWord b.sizes p l w → b.copy p l ≡ Some line → word_in line w ≡ home j p l w) where
  abbrev sup₁ : Super
  sup₁ = super_of (current s)

  abbrev starting : Bookkeeping
  starting = record b { changing = Some (record { gate = Gate.start; old = sup₁.start; new = sup₁.tail }) }

  abbrev start_stores₁ : ℕ → ℕ → ℕ → Type 0
  start_stores₁ l w v = (l ≡ 1) × (w ≡ 0) × (v ≡ sup₁.tail)

  -- every word has its home as current and as committed word, and it is durable
  at_home : (j : Image) → Leaves s j → (p l w : ℕ) → IsWord b.sizes p l w
      → HomeStands b.sizes s p l w × (home j p l w ≡ b.current p l w) × (home j p l w ≡ b.committed (super_of j).tail p l w)
  at_home j left p l w word = elim (cases_Bool (is_logged (log_of b.format j) p l w)) [
    | inl logged ↦ stand j left p l w word logged
    | inr unlogged ↦
        (let unwritten : is_written b j p l w ≡ false = rw (unlogged, nothing) refl in
        ((facts.durable j left).homes p l w word unlogged, (facts.homes j left).current p l w word unwritten, (facts.homes j left).committed p l w word unwritten))
  ]

  -- An image with the new start has an empty log and the same homes.
  record Emptied (i j : Image) : Type 0 where
    super_words : super_of i ≡ record (super_of j) { start = sup₁.tail; drained = sup₁.tail }
    tail_is : (super_of j).tail ≡ sup₁.tail
    lines : log_lines i ≡ []
    log : log_of b.format i ≡ no_log
    homes : (p l w : ℕ) → l < 64 → w < 8 → home i p l w ≡ home j p l w

  start_emptied : (i : Image) → Reaches start_stores₁ no_write s i → i.nvm 1 0 ≡ sup₁.tail → (j : Image) × Leaves s j × Emptied i j
  start_emptied i reaches at_start =
      let j : Image = without start_stores₁ s i reaches in
      let left : Leaves s j = without_leaves start_stores₁ s i reaches in
      let same : (line w : ℕ) → (line ≢ 1) ⊎ (w ≢ 0) → i.nvm line w ≡ j.nvm line w = (λ line w h. sym (without_same start_stores₁ s i reaches line w (λ st. elim h [ inl n ↦ n st.0 | inr n ↦ n st.1 ]))) in
      let e_j : super_of j ≡ sup₁ = durable_super s 0 can j left in
      let moved : super_of i ≡ record (super_of j) { start = sup₁.tail; drained = sup₁.tail } = moved_start i j sup₁.tail (λ l w named h. same l w h) at_start in
      let e_i : super_of i ≡ record sup₁ { start = sup₁.tail; drained = sup₁.tail } = moved ∙ ap (λ (x : Super). record x { start = sup₁.tail; drained = sup₁.tail }) e_j in
      let none : log_lines i ≡ [] = ap (λ (x : Super). from (log_line x.sizes x.drained i) x.start (x.tail - x.start)) e_i ∙ from_none _ sup₁.tail (sup₁.tail - sup₁.tail) (omega arith) in (
        j,
        left,
        record {
          super_words = moved;
          tail_is = ap (λ (x : Super). x.tail) e_j;
          lines = none;
          log = ap (λ (xs : List Line). grouped no_log (entries b.format 0 xs)) none;
          homes = λ p l w hl hw. ap (λ (x : Super). home_by x i p l w) e_i
              ∙ same (frame_line sup₁.sizes p l) w (inl (λ at. omega arith))
              ∙ sym (ap (λ (x : Super). home_by x j p l w) e_j);
        },
      )

  module _ (mid : State) (grows : Grows start_stores₁ no_write s mid) where
    elsewhere : (l w : ℕ) → (l ≢ 1) ⊎ (w ≢ 0) → (v : ℕ) → start_stores₁ l w v → ⊥
    elsewhere l w h v st = elim h [ inl n ↦ n st.0 | inr n ↦ n st.1 ]

    start_gate : (gate : Gate) → gate ≢ Gate.start → IsSingle (mid.nvm (gate_line gate) (gate_word gate))
    start_gate Gate.magic other = Grows-single start_stores₁ no_write s mid grows 0 0 (elsewhere 0 0 (inl (λ e. omega arith))) (can.superblock 0 0 magic_word)
    start_gate Gate.start other = absurd (other refl)
    start_gate Gate.drained other = Grows-single start_stores₁ no_write s mid grows 2 0 (elsewhere 2 0 (inl (λ e. omega arith))) (can.superblock 2 0 drained)
    start_gate Gate.tail other = Grows-single start_stores₁ no_write s mid grows 3 0 (elsewhere 3 0 (inl (λ e. omega arith))) (can.superblock 3 0 tail)

    start_gates : GatesAreOne starting mid
    start_gates = record {
      sizes = λ w low high. Grows-single start_stores₁ no_write s mid grows 0 w (elsewhere 0 w (inl (λ e. omega arith))) (facts.gates.sizes w low high);
      others = λ gate other. start_gate gate (other (record { gate = Gate.start; old = sup₁.start; new = sup₁.tail }) refl);
      changing = λ change at v h.
          subst (λ (c : Changing). IsVersion (mid.nvm (gate_line c.gate) (gate_word c.gate)) v → (v ≡ c.old) ⊎ (v ≡ c.new)) (some_same _ _ at)
          (λ version. elim (grows.words 1 0 v version) [ inl old ↦ inl (single_version (s.nvm 1 0) v (can.superblock 1 0 start) old) | inr st ↦ inr st.2 ]) h;
    }

    keep_home : (g : Sizes) (p l w : ℕ) → HomeStands g s p l w → HomeStands g mid p l w
    keep_home g p l w old = Grows-steady start_stores₁ no_write s mid grows (frame_line g p l) w (elsewhere (frame_line g p l) w (inl (λ e. omega arith))) old

    -- The facts hold at each moment while the log is emptied.
    start_images : (i : Image) → Leaves mid i → Leaves s i ⊎ ((j : Image) × Leaves s j × Emptied i j)
    start_images i leaves =
        let reaches : Reaches start_stores₁ no_write s i = Grows-leaves start_stores₁ no_write s mid i grows leaves in
        elim (reaches.words 1 0) [
          | inl version ↦ inl (record {
            words = λ l w. elim (reaches.words l w) [ inl v ↦ v | inr st ↦ rw (st.0, st.1) version ];
            blocks = λ n. elim (reaches.blocks n) [ inl written ↦ absurd written | inr same ↦ same ];
          })
          | inr moved ↦ inr (start_emptied i reaches moved.2)
        ]

    -- What holds of an image.
    record StartImage (i : Image) : Type 0 where
      sizes : (super_of i).sizes ≡ b.sizes
      durable : NamedIsDurable starting mid i
      homes : HomesAreRight starting i
      log : LogIsRight starting i
      in_dram : CopiesAreRight starting i
      store : IsStore b.format i

    old_image : (i : Image) → Leaves s i → StartImage i
    old_image i left =
        let e_i : super_of i ≡ sup₁ = durable_super s 0 can i left in
        record {
          sizes = facts.sizes i left;
          durable = record {
            log = subst (λ (x : Super). (o : ℕ) → x.start ≤ o → o < x.tail → LineStands x mid o) (sym e_i) (λ o above below. record {
              in_nvm = λ drained w hw. Grows-single start_stores₁ no_write s mid grows (ring_line sup₁.sizes o) w (elsewhere (ring_line sup₁.sizes o) w (inl (λ e. omega arith)))
                  ((can.log o above below).in_nvm drained w hw);
              in_ssd = λ under. Grows-settled start_stores₁ s mid grows _ ((can.log o above below).in_ssd under);
            });
            homes = λ p l w word h. keep_home b.sizes p l w ((facts.durable i left).homes p l w word h);
          };
          homes = record { current = (facts.homes i left).current; committed = (facts.homes i left).committed };
          log = record { logged = (facts.log i left).logged; pending = (facts.log i left).pending };
          in_dram = facts.copies i left;
          store = facts.stores i left;
        }

    new_image : (i j : Image) → Leaves s j → Emptied i j → StartImage i
    new_image i j left emptied =
        let same_committed : (p l w : ℕ) → b.committed (super_of j).tail p l w ≡ b.committed (super_of i).tail p l w =
        (λ p l w. sym (ap (λ (x : Super). b.committed x.tail p l w) emptied.super_words)) in
        record {
          sizes = ap (λ (x : Super). x.sizes) emptied.super_words ∙ facts.sizes j left;
          durable = record {
            log = subst (λ (x : Super). (o : ℕ) → x.start ≤ o → o < x.tail → LineStands x mid o) (sym emptied.super_words)
                (λ o above below. absurd (let at : (super_of j).tail ≡ sup₁.tail = emptied.tail_is in omega arith));
            homes = λ p l w word h. keep_home b.sizes p l w (at_home j left p l w word).0;
          };
          homes = record {
            current = λ p l w word h. emptied.homes p l w word.line word.word ∙ (at_home j left p l w word).1;
            committed = λ p l w word h. emptied.homes p l w word.line word.word ∙ (at_home j left p l w word).2 ∙ same_committed p l w;
          };
          log = record {
            logged = λ p l w word h homes. absurd (not_here p l w (sym (ap (λ (x : Log). is_logged x p l w) emptied.log) ∙ h));
            pending = λ p l w word h named. emptied.homes p l w word.line word.word ∙ (at_home j left p l w word).2 ∙ same_committed p l w;
          };
          in_dram = λ p l w x word copy h. copies j left p l w x word copy ∙ sym (emptied.homes p l w word.line word.word);
          store = empty_store b.format i j sup₁.tail emptied.super_words (sym emptied.tail_is) emptied.lines (facts.stores j left);
        }
      where
        not_here : (p l w : ℕ) → is_logged no_log p l w ≡ true → ⊥
        not_here p l w h = cc

    pub start_grows_facts : StoreFacts starting mid
    start_grows_facts =
        let image : (i : Image) → Leaves mid i → StartImage i = (λ i leaves. elim (start_images i leaves) [ inl old ↦ old_image i old | inr new ↦ new_image i new.0 new.1 new.2 ]) in
        record {
          gates = start_gates;
          sizes = λ i leaves. (image i leaves).sizes;
          durable = λ i leaves. (image i leaves).durable;
          homes = λ i leaves. (image i leaves).homes;
          log = λ i leaves. (image i leaves).log;
          copies = λ i leaves. (image i leaves).in_dram;
          stores = λ i leaves. (image i leaves).store;
        }

  pub start_facts : (mid : State) → Amid s (start_calls sup₁.tail) mid → StoreFacts starting mid
  start_facts mid amid = start_grows_facts mid (Amid-grows start_stores₁ no_write (start_calls sup₁.tail) s mid ((refl, refl, refl), (tt, (tt, tt))) amid)

-- The log while it is emptied: each image has the old one or none, and when it is done none.
module _ (s : State) (can : CanPut s 0) where
  abbrev sup₂ : Super
  sup₂ = super_of (current s)

  abbrev start_stores₂ : ℕ → ℕ → ℕ → Type 0
  start_stores₂ l w v = (l ≡ 1) × (w ≡ 0) × (v ≡ sup₂.tail)

  start_super_of : (i : Image) → Reaches start_stores₂ no_write s i → i.nvm 1 0 ≡ sup₂.tail → super_of i ≡ record sup₂ { start = sup₂.tail; drained = sup₂.tail }
  start_super_of i reaches at_start =
      let j : Image = without start_stores₂ s i reaches in
      let same : (line w : ℕ) → (line ≢ 1) ⊎ (w ≢ 0) → i.nvm line w ≡ j.nvm line w = (λ line w h. sym (without_same start_stores₂ s i reaches line w (λ st. elim h [ inl n ↦ n st.0 | inr n ↦ n st.1 ]))) in
      let e_j : super_of j ≡ sup₂ = durable_super s 0 can j (without_leaves start_stores₂ s i reaches) in
      moved_start i j sup₂.tail (λ l w named h. same l w h) at_start ∙ ap (λ (x : Super). record x { start = sup₂.tail; drained = sup₂.tail }) e_j

  start_lines : (i : Image) → Reaches start_stores₂ no_write s i → i.nvm 1 0 ≡ sup₂.tail → log_lines i ≡ []
  start_lines i reaches at_start =
      ap (λ (x : Super). from (log_line x.sizes x.drained i) x.start (x.tail - x.start)) (start_super_of i reaches at_start) ∙ from_none _ sup₂.tail (sup₂.tail - sup₂.tail) (omega arith)

  start_reaches : (mid : State) → Amid s (start_calls sup₂.tail) mid → (i : Image) → Leaves mid i → Reaches start_stores₂ no_write s i
  start_reaches mid amid i leaves =
      Grows-leaves start_stores₂ no_write s mid i (Amid-grows start_stores₂ no_write (start_calls sup₂.tail) s mid ((refl, refl, refl), (tt, (tt, tt))) amid) leaves

  pub start_logs : (mid : State) → Amid s (start_calls sup₂.tail) mid → (i : Image) → Leaves mid i → Leaves s i ⊎ (log_lines i ≡ [])
  start_logs mid amid i leaves =
      let reaches : Reaches start_stores₂ no_write s i = start_reaches mid amid i leaves in
      elim (reaches.words 1 0) [
        | inl version ↦ inl (record {
          words = λ l w. elim (reaches.words l w) [ inl v ↦ v | inr st ↦ rw (st.0, st.1) version ];
          blocks = λ n. elim (reaches.blocks n) [ inl written ↦ absurd written | inr same ↦ same ];
        })
        | inr moved ↦ inr (start_lines i reaches moved.2)
      ]

  pub start_empty : (i : Image) → Leaves (after_all (start_calls sup₂.tail) s) i → log_lines i ≡ []
  start_empty i leaves =
      start_lines i (start_reaches _ (Amid_end (start_calls sup₂.tail) s) i leaves)
      (single_at ((after_all (start_calls sup₂.tail) s).nvm 1 0) sup₂.tail (i.nvm 1 0) (start_single sup₂.tail s) (leaves.words 1 0))

  -- what the superblock says then
  pub start_super : super_of (current (after_all (start_calls sup₂.tail) s)) ≡ record sup₂ { start = sup₂.tail; drained = sup₂.tail }
  start_super =
      start_super_of (current (after_all (start_calls sup₂.tail) s)) (start_reaches _ (Amid_end (start_calls sup₂.tail) s) _ (current_leaves (after_all (start_calls sup₂.tail) s)))
      (ap (λ (x : Word). x.newest) (start_single sup₂.tail s))
