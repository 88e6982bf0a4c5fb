-- A page that is given up by its frame: at each moment each image recovers to the same words.
use Rattle.std.proofs.Common.{◌≡◌, ◌≢◌, ◌⊎◌, ℕ, zero, suc, ◌+◌, ◌-◌, ◌%◌, ◌<◌, ◌≤◌, false, List, [], ◌∷◌, refl, sym, ap, ◌∙◌, subst, inl, inr, arith, ltb, eqb, Option, Some, None}
use Rattle.std.proofs.lemmas.Bool.{cases_eq, cases_lt, cases_Bool, lt-ltb, cond-true, cond-false, eq-eqb, ne_eqb}
use Rattle.nvm_model.specs.declared.line.Line.{Line}
use Rattle.ssd_model.specs.Block.{Block}
use Rattle.devices.specs.State.{State, Image, after_all, Amid, Leaves, current}
use Rattle.devices.specs.State.Call.{write_block, sync}
use Rattle.devices.specs.Growth.{Grows, Reaches, no_store, no_write}
use Rattle.store_model.specs.Layout.{Sizes, pages, ring_line, ring_block, frame_line, entry_line, entry_word, page_block}
use Rattle.store_model.specs.Log.{Words, Log, is_logged, no_log, grouped}
use Rattle.store_model.specs.Format.{Format, entries}
use Rattle.store_model.specs.Recovered.{Super, super_of, entry_at, frame_of, home_in, home, log_of, replay, recovered, block_line, block_word}
use Rattle.store_model.specs.View.{Agree}
use Rattle.store_model.specs.Append.{RecoversTo}
use Rattle.store_model.specs.Install.{entry_calls, release_calls, CanRelease}
use Rattle.nvm_model.proofs.WordLaws.{single_version}
use Rattle.devices.proofs.GrowthLaws.{Amid-grows, Amid_append, Amid_end, Grows-leaves}
use Rattle.home_laws.proofs.BlockLaws.{with_block, with_block_leaves, with_block_other, with_block_words}
use Rattle.home_laws.proofs.LayoutLaws.{entry_apart, home_apart}
use Rattle.home_laws.proofs.RecoveredLaws.{line_of-same, from-same, frame_of-same, agree_recovered, replay_word}
use Rattle.home_laws.proofs.PutLaws.{log_line-in_nvm, log_line-same, super_same, named_low, durable_super, without, without_leaves, without_same, without_blocks, home_by, lines_by}
use Rattle.home_laws.proofs.InstallLaws.{replay_named, frame_of-other, frame_of-here}

-- no frame has the page
pub frame_of-none : (e : ℕ → ℕ) (n page : ℕ) → ((m : ℕ) → m < n → e m ≢ page + 1) → frame_of e n page ≡ None
frame_of-none e zero page h = refl
frame_of-none e (suc n) page h = cond-false (eqb (e n) (page + 1)) (Some n) _ (ne_eqb (e n) (page + 1) (h n (omega arith))) ∙ frame_of-none e n page (λ m less. h m (omega arith))

module _ (format : Format) (s : State) (k page : ℕ) (bytes : List ℕ) (rel : CanRelease format s k page bytes) where
  abbrev sup : Super
  sup = super_of (current s)

  abbrev block : ℕ
  block = page_block sup.sizes page

  old_entry : (j : Image) → Leaves s j → (n : ℕ) → n ≤ sup.sizes.frames → entry_at j n ≡ entry_at (current s) n
  old_entry j left n h = single_version (s.nvm (entry_line n) (entry_word n)) (entry_at j n) ((rel.can).entries n h) (left.words (entry_line n) (entry_word n))

  -- while the home block is written and synced the frame is the home
  release_unseen : (i : Image) → Reaches no_store (λ b. b ≡ block) s i
      → (j : Image) × Leaves s j × Agree i j × (super_of i ≡ sup) × ((n : ℕ) → n ≤ sup.sizes.frames → entry_at i n ≡ entry_at j n)
  release_unseen i reaches =
      let j : Image = with_block s block i reaches in
      let left : Leaves s j = with_block_leaves s block i reaches in
      let words : (l w : ℕ) → i.nvm l w ≡ j.nvm l w = (λ l w. sym (with_block_words s block i reaches l w)) in
      let e_j : super_of j ≡ sup = durable_super s 0 rel.can j left in
      let e_i : super_of i ≡ sup = super_same i j (λ l w named. words l w) ∙ e_j in (
        j,
        left,
        record {
          sizes = ap (λ (x : Super). x.sizes) (e_i ∙ sym e_j);
          log = ap (λ (x : Super). lines_by x i) e_i
              ∙ from-same _ _ sup.start (sup.tail - sup.start) (λ o above below. elim (cases_lt o sup.drained) [
                | inl under ↦ cond-true (ltb o sup.drained) _ _ (lt-ltb o sup.drained under)
                    ∙ ap (λ xs. block_line xs (o % 64)) (sym (with_block_other s block i reaches (ring_block sup.sizes o) (λ clash. let low : ring_block sup.sizes o < block = home_apart sup.sizes o page in omega arith)))
                    ∙ sym (cond-true (ltb o sup.drained) _ _ (lt-ltb o sup.drained under))
                | inr over ↦ log_line-in_nvm sup.sizes sup.drained i o over
                    ∙ line_of-same _ _ (λ w hw. words (ring_line sup.sizes o) w)
                    ∙ sym (log_line-in_nvm sup.sizes sup.drained j o over)
              ])
              ∙ sym (ap (λ (x : Super). lines_by x j) e_j);
          homes = λ p l w hp hl hw. ap (λ (x : Super). home_by x i p l w) e_i
              ∙ ap (λ (f : Option ℕ). home_in sup.sizes i f p l w) (frame_of-same (entry_at i) (entry_at j) (sup.sizes.frames + 1) p (λ n less. words (entry_line n) (entry_word n)))
              ∙ home_at j left p l w (frame_of (entry_at j) (sup.sizes.frames + 1) p) refl
              ∙ sym (ap (λ (x : Super). home_by x j p l w) e_j);
        },
        e_i,
        (λ n h. words (entry_line n) (entry_word n)),
      )
    where
      home_at : (j : Image) → Leaves s (with_block s block i reaches) → (p l w : ℕ) → (f : Option ℕ) → frame_of (entry_at (with_block s block i reaches)) (sup.sizes.frames + 1) p ≡ f
          → home_in sup.sizes i f p l w ≡ home_in sup.sizes (with_block s block i reaches) f p l w
      home_at j left p l w (Some n) found = sym (with_block_words s block i reaches (frame_line sup.sizes n l) w)
      home_at j left p l w None found =
          let other : page_block sup.sizes p ≢ block = (λ e.
          let same : p ≡ page = omega arith in
          let framed : k ≤ sup.sizes.frames = rel.frame in
          let here : frame_of (entry_at (with_block s block i reaches)) (sup.sizes.frames + 1) p ≡ Some k =
          frame_of-here (entry_at (with_block s block i reaches)) (sup.sizes.frames + 1) k p (omega arith)
          (old_entry (with_block s block i reaches) left k framed ∙ rel.named ∙ ap (λ n. n + 1) (sym same))
          (λ m less apart at. rel.alone m (omega arith) apart (sym (old_entry (with_block s block i reaches) left m (omega arith)) ∙ at ∙ ap (λ n. n + 1) same)) in
          some_none k (sym here ∙ found)) in
          rw (with_block_other s block i reaches (page_block sup.sizes p) other)
        where
          some_none : (n : ℕ) → Some n ≡ None → ⊥
          some_none n e = cc

  -- the state when the home block is settled
  abbrev settled : State
  settled = after_all (write_block block bytes ∷ sync ∷ []) s

  settled_grows : Grows no_store (λ b. b ≡ block) s settled
  settled_grows = Amid-grows no_store (λ b. b ≡ block) (write_block block bytes ∷ sync ∷ []) s settled (refl, (tt, tt)) (Amid_end (write_block block bytes ∷ sync ∷ []) s)

  settled_block : (i : Image) → Leaves settled i → i.ssd block ≡ bytes
  settled_block i leaves = leaves.blocks block refl ∙ ap (λ (x : Block). x.bytes) (cond-true (eqb block block) _ (s.ssd block) (eq-eqb block block refl))

  -- what the calls behind the sync store: the entry
  abbrev entry_stores : ℕ → ℕ → ℕ → Type 0
  entry_stores l w v = (l ≡ entry_line k) × (w ≡ entry_word k) × (v ≡ 0)

  -- where the image has the cleared entry, the block is the page's home and all else is as it was
  release_seen : (i : Image) → Reaches entry_stores no_write settled i → entry_at i k ≡ 0 → (p l w : ℕ) → p < pages (super_of i).sizes → l < 64 → w < 8
      → (j : Image) × Leaves s j × ((super_of i).sizes ≡ (super_of j).sizes) × (recovered format i p l w ≡ recovered format j p l w)
  release_seen i reaches at_entry p l w hp hl hw =
      let j₁ : Image = without entry_stores settled i reaches in
      let left₁ : Leaves settled j₁ = without_leaves entry_stores settled i reaches in
      let old : (j : Image) × Leaves s j × Agree j₁ j × (super_of j₁ ≡ sup) × ((n : ℕ) → n ≤ sup.sizes.frames → entry_at j₁ n ≡ entry_at j n) =
      release_unseen j₁ (Grows-leaves no_store (λ b. b ≡ block) s settled j₁ settled_grows left₁) in
      let j : Image = old.0 in
      let same : (line w : ℕ) → (line ≢ entry_line k) ⊎ (w ≢ entry_word k) → i.nvm line w ≡ j₁.nvm line w =
      (λ line w h. sym (without_same entry_stores settled i reaches line w (λ st. elim h [ inl n ↦ n st.0 | inr n ↦ n st.1 ]))) in
      let same_ssd : (b : ℕ) → i.ssd b ≡ j₁.ssd b = (λ b. sym (without_blocks entry_stores settled i reaches b)) in
      let framed : k ≤ sup.sizes.frames = rel.frame in
      let e₁ : super_of j₁ ≡ sup = old.3 in
      let e_i : super_of i ≡ sup = super_same i j₁ (λ l w named. same l w (inl (λ at. let four : l < 4 = named_low l w named in omega arith))) ∙ e₁ in
      let other_entry : (n : ℕ) → n ≤ sup.sizes.frames → n ≢ k → entry_at i n ≡ entry_at j₁ n =
      (λ n h apart. elim (cases_eq (entry_line n) (entry_line k)) [
        | inr line ↦ same (entry_line n) (entry_word n) (inl line)
        | inl line ↦ same (entry_line n) (entry_word n) (inr (λ word. apart (entry_apart n k line word)))
      ]) in
      let old_k : entry_at j₁ k ≡ page + 1 = old.4 k framed ∙ old_entry j old.1 k framed ∙ rel.named in
      let log : log_of format i ≡ log_of format j =
      ap (λ (lines : List Line). grouped no_log (entries format 0 lines))
      (ap (λ (x : Super). lines_by x i) e_i
      ∙ from-same _ _ sup.start (sup.tail - sup.start) (λ o above below. log_line-same sup.sizes sup.drained i j₁ o
      (λ drained w hw. same (ring_line sup.sizes o) w (inl (λ at. omega arith))) same_ssd)
      ∙ sym (ap (λ (x : Super). lines_by x j₁) e₁) ∙ (old.2).log) in
      let hp' : p < pages (super_of j).sizes = subst (λ (g : Sizes). p < pages g) (ap (λ (x : Super). x.sizes) (e_i ∙ sym e₁) ∙ (old.2).sizes) hp in
      let replays : recovered format i p l w ≡ replay format (log_of format j) (home i) p l w = ap (λ (x : Log). replay format x (home i) p l w) log in (
        j,
        old.1,
        ap (λ (x : Super). x.sizes) (e_i ∙ sym e₁) ∙ (old.2).sizes,
        elim (cases_eq p page) [
          | inr other ↦
              (let same_home : home i p l w ≡ home j p l w =
              ap (λ (x : Super). home_by x i p l w) e_i
              ∙ ap (λ (f : Option ℕ). home_in sup.sizes i f p l w)
              (sym (frame_of-other (entry_at j₁) (entry_at i) (sup.sizes.frames + 1) k page p old_k at_entry (λ m less apart. sym (other_entry m (omega arith) apart)) other))
              ∙ home_same i j₁ (λ n m. same (frame_line sup.sizes n l) m (inl (λ at. omega arith))) same_ssd (frame_of (entry_at j₁) (sup.sizes.frames + 1) p)
              ∙ sym (ap (λ (x : Super). home_by x j₁ p l w) e₁)
              ∙ (old.2).homes p l w hp' hl hw in
              replays ∙ replay_word format (log_of format j) (home i) (home j) p l w same_home)
          | inl here ↦ elim (cases_Bool (is_logged (log_of format j) p l w)) [
            | inl logged ↦ replays ∙ replay_named format (log_of format j) (home i) (home j) p l w logged
            | inr unlogged ↦
                (let in_block : frame_of (entry_at i) (sup.sizes.frames + 1) p ≡ None =
                frame_of-none (entry_at i) (sup.sizes.frames + 1) p (λ m less named. elim (cases_eq m k) [
                  | inl at_k ↦ (let zero_entry : entry_at i m ≡ 0 = ap (entry_at i) at_k ∙ at_entry in omega arith)
                  | inr apart ↦ rel.alone m (omega arith) apart
                      (sym (old_entry j old.1 m (omega arith)) ∙ sym (old.4 m (omega arith)) ∙ sym (other_entry m (omega arith) apart) ∙ named ∙ ap (λ n. n + 1) here)
                ]) in
                let home_i : home i p l w ≡ block_word bytes l w =
                ap (λ (x : Super). home_by x i p l w) e_i
                ∙ ap (λ (f : Option ℕ). home_in sup.sizes i f p l w) in_block
                ∙ ap (λ xs. block_word xs l w) (ap (λ n. i.ssd (page_block sup.sizes n)) here ∙ same_ssd block ∙ settled_block j₁ left₁) in
                let unlogged_page : is_logged (log_of format j) page l w ≡ false = subst (λ n. is_logged (log_of format j) n l w ≡ false) here unlogged in
                let home_j : block_word bytes l w ≡ home j p l w = rel.homes j old.1 l w hl hw unlogged_page ∙ ap (λ n. home j n l w) (sym here) in
                replays ∙ replay_word format (log_of format j) (home i) (home j) p l w (home_i ∙ home_j))
          ]
        ],
      )
    where
      home_same : (i j : Image) → ((n m : ℕ) → i.nvm (frame_line sup.sizes n l) m ≡ j.nvm (frame_line sup.sizes n l) m) → ((b : ℕ) → i.ssd b ≡ j.ssd b) → (f : Option ℕ)
          → home_in sup.sizes i f p l w ≡ home_in sup.sizes j f p l w
      home_same i j lines ssd None = rw (ssd _)
      home_same i j lines ssd (Some n) = lines n w

  -- At each moment of a release every image recovers to the same words.
  pub release_keeps : (words : Words) → RecoversTo format s words → (mid : State) → Amid s (release_calls sup.sizes k page bytes) mid → RecoversTo format mid words
  release_keeps words recovers mid amid i leaves p l w hp hl hw =
      elim (Amid_append (write_block block bytes ∷ sync ∷ []) (entry_calls k 0) s mid amid) [
        | inl first ↦
            (let grows : Grows no_store (λ b. b ≡ block) s mid = Amid-grows no_store (λ b. b ≡ block) (write_block block bytes ∷ sync ∷ []) s mid (refl, (tt, tt)) first in
            from_unseen (release_unseen i (Grows-leaves no_store (λ b. b ≡ block) s mid i grows leaves)))
        | inr second ↦
            (let grows : Grows entry_stores no_write settled mid = Amid-grows entry_stores no_write (entry_calls k 0) settled mid ((refl, refl, refl), (tt, (tt, tt))) second in
            let reaches : Reaches entry_stores no_write settled i = Grows-leaves entry_stores no_write settled mid i grows leaves in
            elim (reaches.words (entry_line k) (entry_word k)) [
              | inl version ↦
                  (let left : Leaves settled i = record {
                    words = λ l w. elim (reaches.words l w) [ inl v ↦ v | inr st ↦ rw (st.0, st.1) version ];
                    blocks = λ b. elim (reaches.blocks b) [ inl written ↦ absurd written | inr same ↦ same ];
                  } in
                  from_unseen (release_unseen i (Grows-leaves no_store (λ b. b ≡ block) s settled i settled_grows left)))
              | inr moved ↦
                  (let seen : (j : Image) × Leaves s j × ((super_of i).sizes ≡ (super_of j).sizes) × (recovered format i p l w ≡ recovered format j p l w) =
                  release_seen i reaches moved.2 p l w hp hl hw in
                  seen.3 ∙ recovers seen.0 seen.1 p l w (subst (λ (g : Sizes). p < pages g) seen.2 hp) hl hw)
            ])
      ]
    where
      from_unseen : (j : Image) × Leaves s j × Agree i j × (super_of i ≡ sup) × ((n : ℕ) → n ≤ sup.sizes.frames → entry_at i n ≡ entry_at j n) → recovered format i p l w ≡ words p l w
      from_unseen old =
          let hp' : p < pages (super_of old.0).sizes = subst (λ (g : Sizes). p < pages g) (old.2).sizes hp in
          agree_recovered format i old.0 old.2 p l w hp' hl hw ∙ recovers old.0 old.1 p l w hp' hl hw
