-- A line of a frame that is stored in place: at each moment each image recovers to the same words.
use Rattle.std.proofs.Common.{◌≡◌, ◌≢◌, ℕ, ◌-◌, ◌<◌, false, List, refl, sym, ap, ◌∙◌, subst, inl, inr, arith, ◌≤◌, ◌||◌}
use Rattle.std.proofs.lemmas.Bool.{cases_Bool, cases_eq, or_parts}
use Rattle.nvm_model.specs.declared.line.Line.{Line}
use Rattle.devices.specs.State.{State, Image, Amid, Leaves, current}
use Rattle.nvm_model.specs.Word.{IsVersion, IsSteady}
use Rattle.devices.specs.Growth.{Grows, Reaches, no_write}
use Rattle.flat_store_meaning.specs.Layout.{Sizes, pages, ring_line, frame_line}
use Rattle.flat_store_meaning.specs.Log.{Words, Log, is_logged, named_in, no_log, grouped}
use Rattle.flat_store_meaning.specs.Format.{Format, entries, word_in}
use Rattle.flat_store_meaning.specs.Recovered.{Super, super_of, home, log_lines, log_of, replay, recovered}
use Rattle.flat_store_meaning.specs.InOrder.{LineStands}
use Rattle.flat_store_meaning.specs.StoreFacts.{Gate, gate_line, gate_word, Bookkeeping, IsWord, is_written, GatesAreOne, NamedIsDurable, StoreFacts}
use Rattle.flat_store_meaning.specs.Append.{RecoversTo}
use Rattle.flat_store_meaning.specs.InPlace.{store_calls, CanStore}
use Rattle.devices.proofs.GrowthLaws.{Amid-grows, Grows-leaves, Grows-single, Grows-version, Grows-steady, Grows-settled}
use Rattle.flat_store_meaning.proofs.LayoutLaws.{frame_apart}
use Rattle.devices.proofs.DurableLaws.{line_stores}
use Rattle.flat_store_meaning.proofs.RecoveredLaws.{from-same, replay_word, replay_named}
use Rattle.flat_store_meaning.proofs.PutLaws.{log_line-same, super_same, named_low, durable_super, without, without_leaves, without_same, without_blocks, without_or, home_by, lines_by}
use Rattle.flat_store_meaning.proofs.CheckLaws.{same_store}
use Rattle.flat_store_meaning.proofs.FactsLaws.{current_leaves}

module _ (format : Format) (s : State) (page l₀ : ℕ) (line : Line) (store : CanStore format s page l₀ line) where
  abbrev sup : Super
  sup = super_of (current s)

  abbrev stores : ℕ → ℕ → ℕ → Type 0
  stores = line_stores (frame_line sup.sizes page l₀) line

  -- An image that the store reaches has the superblock and the log of one from before, and the homes of all
  -- that the log doesn't name.
  pub record Stored (i j : Image) : Type 0 where
    pub super_words : super_of i ≡ super_of j
    pub lines : log_lines i ≡ log_lines j
    pub log : log_of format i ≡ log_of format j
    pub homes : (p l w : ℕ) → l < 64 → w < 8 → is_logged (log_of format j) p l w ≡ false → home i p l w ≡ home j p l w

  pub store_same : (i : Image) → Reaches stores no_write s i → (j : Image) × Leaves s j × Stored i j
  store_same i reaches =
      let j : Image = without stores s i reaches in
      let left : Leaves s j = without_leaves stores s i reaches in
      let same : (l w : ℕ) → l ≢ frame_line sup.sizes page l₀ → i.nvm l w ≡ j.nvm l w = (λ l w h. sym (without_same stores s i reaches l w (λ st. h st.0))) in
      let same_ssd : (b : ℕ) → i.ssd b ≡ j.ssd b = (λ b. sym (without_blocks stores s i reaches b)) in
      let e_j : super_of j ≡ sup = durable_super s 0 (store.can) j left in
      let positive : 0 < sup.sizes.log_blocks = (store.can).ring in
      let e_i : super_of i ≡ sup = super_same i j (λ l w named. same l w (λ at. let four : l < 4 = named_low l w named in omega arith)) ∙ e_j in
      let same_lines : log_lines i ≡ log_lines j = (ap (λ (x : Super). lines_by x i) e_i
      ∙ from-same _ _ sup.start (sup.tail - sup.start) (λ o above below. log_line-same sup.sizes sup.drained i j o
      (λ drained w hw. same (ring_line sup.sizes o) w (λ at. omega arith)) same_ssd)
      ∙ sym (ap (λ (x : Super). lines_by x j) e_j)) in (
        j,
        left,
        record {
          super_words = e_i ∙ sym e_j;
          lines = same_lines;
          log = ap (λ (lines : List Line). grouped no_log (entries format 0 lines)) same_lines;
          homes = λ p l w hl hw unlogged.
              ap (λ (x : Super). home_by x i p l w) e_i
              ∙ home_at left e_j p l w hl hw unlogged
              ∙ sym (ap (λ (x : Super). home_by x j p l w) e_j);
        },
      )
    where
      home_at : Leaves s (without stores s i reaches) → super_of (without stores s i reaches) ≡ sup → (p l w : ℕ) → l < 64 → w < 8
          → is_logged (log_of format (without stores s i reaches)) p l w ≡ false → i.nvm (frame_line sup.sizes p l) w ≡ (without stores s i reaches).nvm (frame_line sup.sizes p l) w
      home_at left e_j p l w hl hw unlogged = elim (without_or stores s i reaches (frame_line sup.sizes p l) w) [
        | inl same ↦ sym same
        | inr st ↦
            (let apart : (p ≡ page) × (l ≡ l₀) = frame_apart sup.sizes p page l l₀ hl store.in_page st.0 in
            let unlogged' : is_logged (log_of format (without stores s i reaches)) page l₀ w ≡ false =
            ap (λ n. is_logged (log_of format (without stores s i reaches)) n l₀ w) (sym apart.0) ∙ ap (λ n. is_logged (log_of format (without stores s i reaches)) p n w) (sym apart.1) ∙ unlogged in
            st.2 ∙ store.words (without stores s i reaches) left w hw unlogged'
            ∙ ap (λ n. home (without stores s i reaches) n l₀ w) (sym apart.0) ∙ ap (λ n. home (without stores s i reaches) p n w) (sym apart.1)
            ∙ ap (λ (x : Super). home_by x (without stores s i reaches) p l w) e_j)
      ]

  store_seen : (i : Image) → Reaches stores no_write s i → (p l w : ℕ) → l < 64 → w < 8
      → (j : Image) × Leaves s j × ((super_of i).sizes ≡ (super_of j).sizes) × (recovered format i p l w ≡ recovered format j p l w)
  store_seen i reaches p l w hl hw =
      let found : (j : Image) × Leaves s j × Stored i j = store_same i reaches in
      let j : Image = found.0 in
      let replays : recovered format i p l w ≡ replay format (log_of format j) (home i) p l w = ap (λ (x : Log). replay format x (home i) p l w) (found.2).log in (
        j,
        found.1,
        ap (λ (x : Super). x.sizes) (found.2).super_words,
        elim (cases_Bool (is_logged (log_of format j) p l w)) [
          | inl logged ↦ replays ∙ replay_named format (log_of format j) (home i) (home j) p l w logged
          | inr unlogged ↦ replays ∙ replay_word format (log_of format j) (home i) (home j) p l w ((found.2).homes p l w hl hw unlogged)
        ],
      )

  -- At each moment of a store in place every image recovers to the same words.
  pub store_keeps : (words : Words) → RecoversTo format s words → (mid : State) → Amid s (store_calls sup.sizes page l₀ line) mid → RecoversTo format mid words
  store_keeps words recovers mid amid i leaves p l w hp hl hw =
      let grows : Grows stores no_write s mid = Amid-grows stores no_write (store_calls sup.sizes page l₀ line) s mid ((λ w hw. (refl, hw, refl)), (tt, tt)) amid in
      let seen : (j : Image) × Leaves s j × ((super_of i).sizes ≡ (super_of j).sizes) × (recovered format i p l w ≡ recovered format j p l w) =
      store_seen i (Grows-leaves stores no_write s mid i grows leaves) p l w hl hw in
      seen.3 ∙ recovers seen.0 seen.1 p l w (subst (λ (g : Sizes). p < pages g) seen.2 hp) hl hw

-- Such a store keeps the facts too. Only words that are written get other current words.
module _ (b : Bookkeeping) (s : State) (facts : StoreFacts b s) (page l₀ : ℕ) (line : Line) (store : CanStore b.format s page l₀ line) (now_current : Words)
    (same_current : (i : Image) → Leaves s i → (p l w : ℕ) → IsWord b.sizes p l w → is_written b i p l w ≡ false → b.current p l w ≡ now_current p l w) where
  abbrev after_store : Bookkeeping
  after_store = record b { current = now_current }

  abbrev sup₁ : Super
  sup₁ = super_of (current s)

  place : ℕ
  place = frame_line sup₁.sizes page l₀

  abbrev all_stores : ℕ → ℕ → ℕ → Type 0
  all_stores = line_stores (frame_line sup₁.sizes page l₀) line

  module _ (mid : State) (grows : Grows all_stores no_write s mid) where
    elsewhere : (l w : ℕ) → l ≢ frame_line sup₁.sizes page l₀ → (v : ℕ) → all_stores l w v → ⊥
    elsewhere l w other v st = other st.0

    gate_elsewhere : (gate : Gate) → gate_line gate ≢ frame_line sup₁.sizes page l₀
    gate_elsewhere Gate.magic e = omega arith
    gate_elsewhere Gate.start e = omega arith
    gate_elsewhere Gate.drained e = omega arith
    gate_elsewhere Gate.tail e = omega arith

    store_gates : GatesAreOne after_store mid
    store_gates = record {
      sizes = λ w low high. Grows-single all_stores no_write s mid grows 0 w (elsewhere 0 w (λ e. omega arith)) (facts.gates.sizes w low high);
      others = λ gate other. Grows-single all_stores no_write s mid grows (gate_line gate) (gate_word gate)
          (elsewhere (gate_line gate) (gate_word gate) (gate_elsewhere gate)) (facts.gates.others gate other);
      changing = λ change at v h. facts.gates.changing change at v
          (Grows-version all_stores no_write s mid grows (gate_line change.gate) (gate_word change.gate)
          (elsewhere (gate_line change.gate) (gate_word change.gate) (gate_elsewhere change.gate)) v h);
    }

    same_sizes : sup₁.sizes ≡ b.sizes
    same_sizes = facts.sizes (current s) (current_leaves s)

    -- the stored value is the one value that the word has, where the log doesn't name it
    store_steady : (j : Image) → Leaves s j → (p l w : ℕ) → IsWord b.sizes p l w → is_logged (log_of b.format j) p l w ≡ false
        → IsSteady (s.nvm (frame_line sup₁.sizes p l) w) → IsSteady (mid.nvm (frame_line sup₁.sizes p l) w)
    store_steady j left p l w word unlogged steady = elim (cases_eq (frame_line sup₁.sizes p l) (frame_line sup₁.sizes page l₀)) [
      | inr other ↦ Grows-steady all_stores no_write s mid grows (frame_line sup₁.sizes p l) w (elsewhere (frame_line sup₁.sizes p l) w other) steady
      | inl here ↦
          (let apart : (p ≡ page) × (l ≡ l₀) = frame_apart sup₁.sizes p page l l₀ word.line store.in_page here in
          let unlogged' : is_logged (log_of b.format j) page l₀ w ≡ false =
          ap (λ m. is_logged (log_of b.format j) m l₀ w) (sym apart.0) ∙ ap (λ m. is_logged (log_of b.format j) p m w) (sym apart.1) ∙ unlogged in
          let value : word_in line w ≡ (s.nvm (frame_line sup₁.sizes p l) w).newest =
          store.words j left w word.word unlogged' ∙ ap (λ m. home j m l₀ w) (sym apart.0) ∙ ap (λ m. home j p m w) (sym apart.1)
          ∙ ap (λ (g : Sizes). j.nvm (frame_line g p l) w) (facts.sizes j left ∙ sym same_sizes)
          ∙ steady (j.nvm (frame_line sup₁.sizes p l) w) (left.words (frame_line sup₁.sizes p l) w) in
          let each : (v : ℕ) → IsVersion (mid.nvm (frame_line sup₁.sizes p l) w) v → v ≡ (s.nvm (frame_line sup₁.sizes p l) w).newest =
          (λ v version. elim (grows.words (frame_line sup₁.sizes p l) w v version) [ inl old ↦ steady v old | inr st ↦ st.2 ∙ value ]) in
          λ v version. each v version ∙ sym (each (mid.nvm (frame_line sup₁.sizes p l) w).newest (inl refl)))
    ]

    store_durable : (i j : Image) → Leaves s j → Stored b.format s page l₀ line store i j → NamedIsDurable after_store mid i
    store_durable i j left stored = record {
      log = subst (λ (x : Super). (o : ℕ) → x.start ≤ o → o < x.tail → LineStands x mid o) (sym stored.super_words) (λ o above below. record {
        in_nvm = λ drained w hw.
            let e_j : super_of j ≡ sup₁ = durable_super s 0 (store.can) j left in
            let apart : ring_line (super_of j).sizes o ≢ frame_line sup₁.sizes page l₀ =
            subst (λ (x : Super). ring_line x.sizes o ≢ frame_line sup₁.sizes page l₀) (sym e_j) (λ e. let positive : 0 < sup₁.sizes.log_blocks = (store.can).ring in omega arith) in
            Grows-single all_stores no_write s mid grows (ring_line (super_of j).sizes o) w (elsewhere (ring_line (super_of j).sizes o) w apart)
            (((facts.durable j left).log o above below).in_nvm drained w hw);
        in_ssd = λ under. Grows-settled all_stores s mid grows _ (((facts.durable j left).log o above below).in_ssd under);
      });
      homes = λ p l w word h.
          let unlogged : is_logged (log_of b.format j) p l w ≡ false = sym (ap (λ (x : Log). is_logged x p l w) stored.log) ∙ h in
          subst (λ (g : Sizes). IsSteady (mid.nvm (frame_line g p l) w)) same_sizes
          (store_steady j left p l w word unlogged (subst (λ (g : Sizes). IsSteady (s.nvm (frame_line g p l) w)) (sym same_sizes) ((facts.durable j left).homes p l w word unlogged)));
    }

    -- Such a store keeps the facts at each moment.
    pub store_grows_facts : StoreFacts after_store mid
    store_grows_facts =
        let found : (i : Image) → Leaves mid i → (j : Image) × Leaves s j × Stored b.format s page l₀ line store i j =
        (λ i leaves. store_same b.format s page l₀ line store i (Grows-leaves all_stores no_write s mid i grows leaves)) in
        let home_same : (i : Image) (leaves : Leaves mid i) (p l w : ℕ) → IsWord b.sizes p l w → is_logged (log_of b.format i) p l w ≡ false → home i p l w ≡ home (found i leaves).0 p l w =
        (λ i leaves p l w word h. ((found i leaves).2).homes p l w word.line word.word (sym (ap (λ (x : Log). is_logged x p l w) ((found i leaves).2).log) ∙ h)) in
        let written : (i : Image) (leaves : Leaves mid i) (p l w : ℕ) → is_written after_store i p l w ≡ is_written b (found i leaves).0 p l w =
        (λ i leaves p l w. ap (λ (x : Log). is_logged x p l w || named_in b.pending p l w) ((found i leaves).2).log) in
        let unlogged : (i : Image) (p l w : ℕ) → is_written after_store i p l w ≡ false → is_logged (log_of b.format i) p l w ≡ false =
        (λ i p l w h. (or_parts (is_logged (log_of b.format i) p l w) (named_in b.pending p l w) h).0) in
        let tails : (i : Image) (leaves : Leaves mid i) (p l w : ℕ) → b.committed (super_of (found i leaves).0).tail p l w ≡ b.committed (super_of i).tail p l w =
        (λ i leaves p l w. sym (ap (λ (x : Super). b.committed x.tail p l w) ((found i leaves).2).super_words)) in
        record {
          gates = store_gates;
          sizes = λ i leaves. ap (λ (x : Super). x.sizes) ((found i leaves).2).super_words ∙ facts.sizes (found i leaves).0 (found i leaves).1;
          durable = λ i leaves. store_durable i (found i leaves).0 (found i leaves).1 (found i leaves).2;
          homes = λ i leaves. record {
            current = λ p l w word h. home_same i leaves p l w word (unlogged i p l w h)
                ∙ (facts.homes (found i leaves).0 (found i leaves).1).current p l w word (sym (written i leaves p l w) ∙ h)
                ∙ same_current (found i leaves).0 (found i leaves).1 p l w word (sym (written i leaves p l w) ∙ h);
            committed = λ p l w word h. home_same i leaves p l w word (unlogged i p l w h)
                ∙ (facts.homes (found i leaves).0 (found i leaves).1).committed p l w word (sym (written i leaves p l w) ∙ h) ∙ tails i leaves p l w;
          };
          log = λ i leaves. record {
            logged = λ p l w word h homes. ap (λ (x : Log). replay b.format x homes p l w) ((found i leaves).2).log
                ∙ (facts.log (found i leaves).0 (found i leaves).1).logged p l w word (sym (ap (λ (x : Log). is_logged x p l w) ((found i leaves).2).log) ∙ h) homes ∙ tails i leaves p l w;
            pending = λ p l w word h named. home_same i leaves p l w word h
                ∙ (facts.log (found i leaves).0 (found i leaves).1).pending p l w word (sym (ap (λ (x : Log). is_logged x p l w) ((found i leaves).2).log) ∙ h) named ∙ tails i leaves p l w;
          };
          copies = λ i leaves p l w x word copy h. facts.copies (found i leaves).0 (found i leaves).1 p l w x word copy (sym (written i leaves p l w) ∙ h)
              ∙ sym (home_same i leaves p l w word (unlogged i p l w h));
          stores = λ i leaves. same_store b.format i (found i leaves).0 ((found i leaves).2).super_words ((found i leaves).2).lines (facts.stores (found i leaves).0 (found i leaves).1);
        }

  pub store_facts : (mid : State) → Amid s (store_calls sup₁.sizes page l₀ line) mid → StoreFacts after_store mid
  store_facts mid amid = store_grows_facts mid (Amid-grows all_stores no_write (store_calls sup₁.sizes page l₀ line) s mid ((λ w hw. (refl, hw, refl)), (tt, tt)) amid)
