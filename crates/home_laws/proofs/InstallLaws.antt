-- A page that is put into an empty frame: at each moment each image recovers to the same words.
use Rattle.std.proofs.Common.{◌≡◌, ◌≢◌, ◌⊎◌, ℕ, zero, suc, ◌+◌, ◌-◌, ◌<◌, ◌≤◌, true, false, List, [], ◌∷◌, ◌++◌, length, get_or, refl, sym, ap, ◌∙◌, subst, inl, inr, arith, eqb, Option, Some, None}
use Rattle.std.proofs.lemmas.Bool.{cases_eq, cases_Bool, eq-eqb, ne_eqb, cond-true, cond-false}
use Rattle.nvm_model.specs.declared.line.Line.{Line}
use Rattle.nvm_model.specs.Word.{Word, single, stored, marked}
use Rattle.devices.specs.State.{State, Image, after_all, Amid, Leaves, current, line_stored, flushed}
use Rattle.devices.specs.State.Call.{fence}
use Rattle.devices.specs.Growth.{Grows, Reaches, AreWithin, no_write}
use Rattle.store_model.specs.Layout.{Sizes, pages, ring_line, frame_line, entry_line, entry_word}
use Rattle.store_model.specs.Log.{Words, Log, is_logged, no_log, grouped, applied, applied_with_cuts}
use Rattle.store_model.specs.Format.{Format, entries, word_in, zero_line}
use Rattle.store_model.specs.Format.Format.{whole_lines, named_words, with_cuts}
use Rattle.store_model.specs.Recovered.{Super, super_of, entry_at, frame_of, home_in, home, log_of, replay, recovered}
use Rattle.store_model.specs.View.{Agree}
use Rattle.store_model.specs.Put.{IsFlushed}
use Rattle.store_model.specs.Append.{RecoversTo}
use Rattle.store_model.specs.Install.{frame_calls, entry_calls, install_calls, CanInstall}
use Rattle.nvm_model.proofs.WordLaws.{single_version}
use Rattle.devices.proofs.StateLaws.{line_stored_same, line_stored_other, flushed_same, flushed_other}
use Rattle.devices.proofs.GrowthLaws.{Amid-grows, Amid_append, Amid_end, after_all_append, Grows-leaves}
use Rattle.home_laws.proofs.LayoutLaws.{frame_apart, entry_apart}
use Rattle.home_laws.proofs.LogLaws.{plain_replay, replay_with_cuts, replayed_named}
use Rattle.home_laws.proofs.RecoveredLaws.{from-same, frame_of-same, frame_of-found, agree_recovered, replay_word}
use Rattle.home_laws.proofs.PutLaws.{log_line-same, super_same, named_low, durable_super, without, without_leaves, without_same, without_blocks, home_by, lines_by, fenced_flushed, single_at}

-- what the log names doesn't depend on the homes, in each format
pub replay_named : (format : Format) (log : Log) (a b : Words) (p l w : ℕ) → is_logged log p l w ≡ true → replay format log a p l w ≡ replay format log b p l w
replay_named whole_lines log a b p l w h = replayed_named applied plain_replay log a b p l w h
replay_named named_words log a b p l w h = replayed_named applied plain_replay log a b p l w h
replay_named with_cuts log a b p l w h = replayed_named applied_with_cuts replay_with_cuts log a b p l w h

-- an entry that is changed from none to a page: the frames of the other pages stay
pub frame_of-other : (e f : ℕ → ℕ) (n k page q : ℕ) → e k ≡ page + 1 → f k ≡ 0 → ((m : ℕ) → m < n → m ≢ k → e m ≡ f m) → q ≢ page → frame_of e n q ≡ frame_of f n q
frame_of-other e f zero k page q new old same other = refl
frame_of-other e f (suc n) k page q new old same other =
    let rest : frame_of e n q ≡ frame_of f n q = frame_of-other e f n k page q new old (λ m less. same m (omega arith)) other in
    elim (cases_eq n k) [
      | inl here ↦
          (let first : e n ≢ q + 1 = (λ h. let at : e n ≡ page + 1 = ap e here ∙ new in other (omega arith)) in
          let second : f n ≢ q + 1 = (λ h. let at : f n ≡ 0 = ap f here ∙ old in omega arith) in
          cond-false (eqb (e n) (q + 1)) (Some n) _ (ne_eqb (e n) (q + 1) first) ∙ rest ∙ sym (cond-false (eqb (f n) (q + 1)) (Some n) _ (ne_eqb (f n) (q + 1) second)))
      | inr there ↦ (let last : e n ≡ f n = same n (omega arith) there in rw (last, rest))
    ]

-- and the page is in this frame
pub frame_of-here : (e : ℕ → ℕ) (n k page : ℕ) → k < n → e k ≡ page + 1 → ((m : ℕ) → m < n → m ≢ k → e m ≢ page + 1) → frame_of e n page ≡ Some k
frame_of-here e zero k page less new others = absurd (omega arith)
frame_of-here e (suc n) k page less new others = elim (cases_eq n k) [
  | inl here ↦ cond-true (eqb (e n) (page + 1)) (Some n) _ (eq-eqb (e n) (page + 1) (ap e here ∙ new)) ∙ ap (λ m. Some m) here
  | inr there ↦ cond-false (eqb (e n) (page + 1)) (Some n) _ (ne_eqb (e n) (page + 1) (others n (omega arith) there))
      ∙ frame_of-here e n k page (omega arith) new (λ m under apart. others m (omega arith) apart)
]

-- the frame's lines may be stored
abbrev pub frame_stores : Sizes → ℕ → ℕ → ℕ → ℕ → Type 0
frame_stores g k line w v = (l : ℕ) × (l < 64) × (line ≡ frame_line g k l)

pub frame_within : (g : Sizes) (k u : ℕ) (xs : List Line) → u + length xs ≤ 64 → AreWithin (frame_stores g k) no_write (frame_calls g k u xs ++ fence ∷ [])
frame_within g k u [] high = (tt, tt)
frame_within g k u (x ∷ xs) high = ((λ w less. (u, omega arith, refl)), (tt, frame_within g k (u + 1) xs (omega arith)))

-- the calls leave all other lines
pub frame_other : (g : Sizes) (k : ℕ) (xs : List Line) (u : ℕ) (s : State) (line w : ℕ) → ((l : ℕ) → u ≤ l → l < u + length xs → line ≢ frame_line g k l) → (after_all (frame_calls g k u xs) s).nvm line w ≡ s.nvm line w
frame_other g k [] u s line w h = refl
frame_other g k (x ∷ xs) u s line w h =
    let here : line ≢ frame_line g k u = h u (omega arith) (omega arith) in
    frame_other g k xs (u + 1) (flushed (frame_line g k u) (line_stored (frame_line g k u) x s)) line w (λ l low high. h l (omega arith) (omega arith))
    ∙ flushed_other (frame_line g k u) (line_stored (frame_line g k u) x s) line w here ∙ line_stored_other (frame_line g k u) x s line w here

-- and the frame's lines flushed
frame_made : (g : Sizes) (k : ℕ) (xs : List Line) (u : ℕ) (s : State) (n l w : ℕ) → l ≡ u + n → n < length xs → u + length xs ≤ 64 → w < 8
    → IsFlushed ((after_all (frame_calls g k u xs) s).nvm (frame_line g k l) w) (word_in (get_or xs n zero_line) w)
frame_made g k [] u s n l w e less high hw = absurd (omega arith)
frame_made g k (x ∷ xs) u s zero l w e less high hw =
    let same : l ≡ u = omega arith in
    let left : (after_all (frame_calls g k u (x ∷ xs)) s).nvm (frame_line g k l) w ≡ marked (stored (word_in x w) (s.nvm (frame_line g k u) w)) =
    frame_other g k xs (u + 1) (flushed (frame_line g k u) (line_stored (frame_line g k u) x s)) (frame_line g k l) w (λ m low under clash. omega arith)
    ∙ ap (λ n. (flushed (frame_line g k u) (line_stored (frame_line g k u) x s)).nvm (frame_line g k n) w) same
    ∙ flushed_same (frame_line g k u) (line_stored (frame_line g k u) x s) w ∙ ap marked (line_stored_same (frame_line g k u) x s w hw) in
    record { newest = ap (λ (word : Word). word.newest) left; kept = ap (λ (word : Word). word.kept) left }
frame_made g k (x ∷ xs) u s (suc n) l w e less high hw =
    frame_made g k xs (u + 1) (flushed (frame_line g k u) (line_stored (frame_line g k u) x s)) n l w (omega arith) (omega arith) (omega arith) hw

module _ (format : Format) (s : State) (k page : ℕ) (xs : List Line) (inst : CanInstall format s k page xs) where
  abbrev sup : Super
  sup = super_of (current s)

  -- the entries of an image that a crash leaves before the gate changes
  old_entry : (j : Image) → Leaves s j → (n : ℕ) → n ≤ sup.sizes.frames → entry_at j n ≡ entry_at (current s) n
  old_entry j left n h = single_version (s.nvm (entry_line n) (entry_word n)) (entry_at j n) ((inst.can).entries n h) (left.words (entry_line n) (entry_word n))

  -- while the frame is filled nothing that recovery sees has changed
  install_unseen : (i : Image) → Reaches (frame_stores sup.sizes k) no_write s i
      → (j : Image) × Leaves s j × Agree i j × (super_of i ≡ sup) × ((n : ℕ) → n ≤ sup.sizes.frames → entry_at i n ≡ entry_at j n)
  install_unseen i reaches =
      let stores : ℕ → ℕ → ℕ → Type 0 = frame_stores sup.sizes k in
      let j : Image = without stores s i reaches in
      let left : Leaves s j = without_leaves stores s i reaches in
      let same : (line w : ℕ) → ((l : ℕ) × (l < 64) × (line ≡ frame_line sup.sizes k l) → ⊥) → i.nvm line w ≡ j.nvm line w = (λ line w h. sym (without_same stores s i reaches line w h)) in
      let same_ssd : (b : ℕ) → i.ssd b ≡ j.ssd b = (λ b. sym (without_blocks stores s i reaches b)) in
      let e_j : super_of j ≡ sup = durable_super s 0 inst.can j left in
      let positive : 0 < sup.sizes.log_blocks = (inst.can).ring in
      let e_i : super_of i ≡ sup = super_same i j (λ l w named. same l w (λ at. let four : l < 4 = named_low l w named in let high : l ≡ frame_line sup.sizes k at.0 = at.2 in omega arith)) ∙ e_j in
      let same_entries : (n : ℕ) → n ≤ sup.sizes.frames → entry_at i n ≡ entry_at j n = (λ n h. same (entry_line n) (entry_word n) (λ at. let high : entry_line n ≡ frame_line sup.sizes k at.0 = at.2 in omega arith)) in (
        j,
        left,
        record {
          sizes = ap (λ (x : Super). x.sizes) (e_i ∙ sym e_j);
          log = ap (λ (x : Super). lines_by x i) e_i
              ∙ from-same _ _ sup.start (sup.tail - sup.start) (λ o above below. log_line-same sup.sizes sup.drained i j o
              (λ drained w hw. same (ring_line sup.sizes o) w (λ at. let high : ring_line sup.sizes o ≡ frame_line sup.sizes k at.0 = at.2 in omega arith)) same_ssd)
              ∙ sym (ap (λ (x : Super). lines_by x j) e_j);
          homes = λ p l w hp hl hw. ap (λ (x : Super). home_by x i p l w) e_i
              ∙ ap (λ (f : Option ℕ). home_in sup.sizes i f p l w) (frame_of-same (entry_at i) (entry_at j) (sup.sizes.frames + 1) p (λ n less. same_entries n (omega arith)))
              ∙ home_at j left same same_ssd p l w hl hw (frame_of (entry_at j) (sup.sizes.frames + 1) p) refl
              ∙ sym (ap (λ (x : Super). home_by x j p l w) e_j);
        },
        e_i,
        same_entries,
      )
    where
      home_at : (j : Image) → Leaves s j → ((line w : ℕ) → ((l : ℕ) × (l < 64) × (line ≡ frame_line sup.sizes k l) → ⊥) → i.nvm line w ≡ j.nvm line w) → ((b : ℕ) → i.ssd b ≡ j.ssd b)
          → (p l w : ℕ) → l < 64 → w < 8 → (f : Option ℕ) → frame_of (entry_at j) (sup.sizes.frames + 1) p ≡ f → home_in sup.sizes i f p l w ≡ home_in sup.sizes j f p l w
      home_at j left same same_ssd p l w hl hw None found = rw (same_ssd _)
      home_at j left same same_ssd p l w hl hw (Some n) found =
          let at_n : (n < sup.sizes.frames + 1) × (entry_at j n ≡ p + 1) = frame_of-found (entry_at j) (sup.sizes.frames + 1) p n found in
          let other : n ≢ k = (λ e. let entry_n : entry_at j n ≡ 0 = old_entry j left n (omega arith) ∙ ap (entry_at (current s)) e ∙ inst.empty in
          let named : entry_at j n ≡ p + 1 = at_n.1 in omega arith) in
          same (frame_line sup.sizes n l) w (λ at. other (frame_apart sup.sizes n k l at.0 hl at.1 at.2).0)

  -- the state when the frame is filled and fenced
  abbrev pub filled : State
  filled = after_all (frame_calls sup.sizes k 0 xs ++ fence ∷ []) s

  pub frame_fits : 0 + length xs ≤ 64
  frame_fits = let whole : length xs ≡ 64 = inst.whole in omega arith

  pub filled_grows : Grows (frame_stores sup.sizes k) no_write s filled
  filled_grows = Amid-grows (frame_stores sup.sizes k) no_write (frame_calls sup.sizes k 0 xs ++ fence ∷ []) s filled (frame_within sup.sizes k 0 xs frame_fits) (Amid_end (frame_calls sup.sizes k 0 xs ++ fence ∷ []) s)

  pub filled_single : (l w : ℕ) → l < 64 → w < 8 → filled.nvm (frame_line sup.sizes k l) w ≡ single (word_in (get_or xs l zero_line) w)
  filled_single l w hl hw =
      let whole : length xs ≡ 64 = inst.whole in
      ap (λ (x : State). x.nvm (frame_line sup.sizes k l) w) (after_all_append (frame_calls sup.sizes k 0 xs) (fence ∷ []) s)
      ∙ fenced_flushed (after_all (frame_calls sup.sizes k 0 xs) s) (frame_line sup.sizes k l) w (word_in (get_or xs l zero_line) w)
      (frame_made sup.sizes k xs 0 s l l w (omega arith) (omega arith) (omega arith) hw)

  -- what the calls behind the fence store: the entry
  abbrev entry_stores : ℕ → ℕ → ℕ → Type 0
  entry_stores l w v = (l ≡ entry_line k) × (w ≡ entry_word k) × (v ≡ page + 1)

  -- where the image has the new entry, the frame is the page's home and all else is as it was
  install_seen : (i : Image) → Reaches entry_stores no_write filled i → entry_at i k ≡ page + 1 → (p l w : ℕ) → p < pages (super_of i).sizes → l < 64 → w < 8
      → (j : Image) × Leaves s j × ((super_of i).sizes ≡ (super_of j).sizes) × (recovered format i p l w ≡ recovered format j p l w)
  install_seen i reaches at_entry p l w hp hl hw =
      let j₁ : Image = without entry_stores filled i reaches in
      let left₁ : Leaves filled j₁ = without_leaves entry_stores filled i reaches in
      let old : (j : Image) × Leaves s j × Agree j₁ j × (super_of j₁ ≡ sup) × ((n : ℕ) → n ≤ sup.sizes.frames → entry_at j₁ n ≡ entry_at j n) =
      install_unseen j₁ (Grows-leaves (frame_stores sup.sizes k) no_write s filled j₁ filled_grows left₁) in
      let j : Image = old.0 in
      let same : (line w : ℕ) → (line ≢ entry_line k) ⊎ (w ≢ entry_word k) → i.nvm line w ≡ j₁.nvm line w =
      (λ line w h. sym (without_same entry_stores filled i reaches line w (λ st. elim h [ inl n ↦ n st.0 | inr n ↦ n st.1 ]))) in
      let same_ssd : (b : ℕ) → i.ssd b ≡ j₁.ssd b = (λ b. sym (without_blocks entry_stores filled i reaches b)) in
      let framed : k ≤ sup.sizes.frames = inst.frame in
      let positive : 0 < sup.sizes.log_blocks = (inst.can).ring in
      let e₁ : super_of j₁ ≡ sup = old.3 in
      let e_i : super_of i ≡ sup = super_same i j₁ (λ l w named. same l w (inl (λ at. let four : l < 4 = named_low l w named in omega arith))) ∙ e₁ in
      let other_entry : (n : ℕ) → n ≤ sup.sizes.frames → n ≢ k → entry_at i n ≡ entry_at j₁ n =
      (λ n h apart. elim (cases_eq (entry_line n) (entry_line k)) [
        | inr line ↦ same (entry_line n) (entry_word n) (inl line)
        | inl line ↦ same (entry_line n) (entry_word n) (inr (λ word. apart (entry_apart n k line word)))
      ]) in
      let old_k : entry_at j₁ k ≡ 0 = old.4 k framed ∙ old_entry j old.1 k framed ∙ inst.empty in
      let log : log_of format i ≡ log_of format j =
      ap (λ (lines : List Line). grouped no_log (entries format 0 lines))
      (ap (λ (x : Super). lines_by x i) e_i
      ∙ from-same _ _ sup.start (sup.tail - sup.start) (λ o above below. log_line-same sup.sizes sup.drained i j₁ o
      (λ drained w hw. same (ring_line sup.sizes o) w (inl (λ at. omega arith))) same_ssd)
      ∙ sym (ap (λ (x : Super). lines_by x j₁) e₁) ∙ (old.2).log) in
      let hp' : p < pages (super_of j).sizes = subst (λ (g : Sizes). p < pages g) (ap (λ (x : Super). x.sizes) (e_i ∙ sym e₁) ∙ (old.2).sizes) hp in
      let replays : recovered format i p l w ≡ replay format (log_of format j) (home i) p l w = ap (λ (x : Log). replay format x (home i) p l w) log in (
        j,
        old.1,
        ap (λ (x : Super). x.sizes) (e_i ∙ sym e₁) ∙ (old.2).sizes,
        elim (cases_eq p page) [
          | inr other ↦
              (let same_home : home i p l w ≡ home j p l w =
              ap (λ (x : Super). home_by x i p l w) e_i
              ∙ ap (λ (f : Option ℕ). home_in sup.sizes i f p l w) (frame_of-other (entry_at i) (entry_at j₁) (sup.sizes.frames + 1) k page p at_entry old_k (λ m less apart. other_entry m (omega arith) apart) other)
              ∙ home_same i j₁ (λ n m. same (frame_line sup.sizes n l) m (inl (λ at. omega arith))) same_ssd (frame_of (entry_at j₁) (sup.sizes.frames + 1) p)
              ∙ sym (ap (λ (x : Super). home_by x j₁ p l w) e₁)
              ∙ (old.2).homes p l w hp' hl hw in
              replays ∙ replay_word format (log_of format j) (home i) (home j) p l w same_home)
          | inl here ↦ elim (cases_Bool (is_logged (log_of format j) p l w)) [
            | inl logged ↦ replays ∙ replay_named format (log_of format j) (home i) (home j) p l w logged
            | inr unlogged ↦
                (let in_frame : frame_of (entry_at i) (sup.sizes.frames + 1) p ≡ Some k =
                frame_of-here (entry_at i) (sup.sizes.frames + 1) k p (omega arith) (at_entry ∙ ap (λ n. n + 1) (sym here))
                (λ m less apart named. inst.unnamed m (omega arith)
                (sym (old_entry j old.1 m (omega arith)) ∙ sym (old.4 m (omega arith)) ∙ sym (other_entry m (omega arith) apart) ∙ named ∙ ap (λ n. n + 1) here)) in
                let home_i : home i p l w ≡ word_in (get_or xs l zero_line) w =
                ap (λ (x : Super). home_by x i p l w) e_i
                ∙ ap (λ (f : Option ℕ). home_in sup.sizes i f p l w) in_frame
                ∙ same (frame_line sup.sizes k l) w (inl (λ at. omega arith))
                ∙ single_at (filled.nvm (frame_line sup.sizes k l) w) (word_in (get_or xs l zero_line) w) _ (filled_single l w hl hw) (left₁.words (frame_line sup.sizes k l) w) in
                let unlogged_page : is_logged (log_of format j) page l w ≡ false = subst (λ n. is_logged (log_of format j) n l w ≡ false) here unlogged in
                let home_j : word_in (get_or xs l zero_line) w ≡ home j p l w = inst.homes j old.1 l w hl hw unlogged_page ∙ ap (λ n. home j n l w) (sym here) in
                replays ∙ replay_word format (log_of format j) (home i) (home j) p l w (home_i ∙ home_j))
          ]
        ],
      )
    where
      home_same : (i j : Image) → ((n m : ℕ) → i.nvm (frame_line sup.sizes n l) m ≡ j.nvm (frame_line sup.sizes n l) m) → ((b : ℕ) → i.ssd b ≡ j.ssd b) → (f : Option ℕ)
          → home_in sup.sizes i f p l w ≡ home_in sup.sizes j f p l w
      home_same i j lines ssd None = rw (ssd _)
      home_same i j lines ssd (Some n) = lines n w

  -- At each moment of an install every image recovers to the same words.
  pub install_keeps : (words : Words) → RecoversTo format s words → (mid : State) → Amid s (install_calls sup.sizes k page xs) mid → RecoversTo format mid words
  install_keeps words recovers mid amid i leaves p l w hp hl hw =
      elim (Amid_append (frame_calls sup.sizes k 0 xs ++ fence ∷ []) (entry_calls k (page + 1)) s mid amid) [
        | inl first ↦ from_before (Amid-grows (frame_stores sup.sizes k) no_write (frame_calls sup.sizes k 0 xs ++ fence ∷ []) s mid (frame_within sup.sizes k 0 xs frame_fits) first)
        | inr second ↦
            (let grows : Grows entry_stores no_write filled mid = Amid-grows entry_stores no_write (entry_calls k (page + 1)) filled mid ((refl, refl, refl), (tt, (tt, tt))) second in
            let reaches : Reaches entry_stores no_write filled i = Grows-leaves entry_stores no_write filled mid i grows leaves in
            elim (reaches.words (entry_line k) (entry_word k)) [
              | inl version ↦
                  (let left : Leaves filled i = record {
                    words = λ l w. elim (reaches.words l w) [ inl v ↦ v | inr st ↦ rw (st.0, st.1) version ];
                    blocks = λ b. elim (reaches.blocks b) [ inl written ↦ absurd written | inr same ↦ same ];
                  } in
                  from_unseen (install_unseen i (Grows-leaves (frame_stores sup.sizes k) no_write s filled i filled_grows left)))
              | inr moved ↦
                  (let seen : (j : Image) × Leaves s j × ((super_of i).sizes ≡ (super_of j).sizes) × (recovered format i p l w ≡ recovered format j p l w) =
                  install_seen i reaches moved.2 p l w hp hl hw in
                  seen.3 ∙ recovers seen.0 seen.1 p l w (subst (λ (g : Sizes). p < pages g) seen.2 hp) hl hw)
            ])
      ]
    where
      from_unseen : (j : Image) × Leaves s j × Agree i j × (super_of i ≡ sup) × ((n : ℕ) → n ≤ sup.sizes.frames → entry_at i n ≡ entry_at j n) → recovered format i p l w ≡ words p l w
      from_unseen old =
          let hp' : p < pages (super_of old.0).sizes = subst (λ (g : Sizes). p < pages g) (old.2).sizes hp in
          agree_recovered format i old.0 old.2 p l w hp' hl hw ∙ recovers old.0 old.1 p l w hp' hl hw

      from_before : Grows (frame_stores sup.sizes k) no_write s mid → recovered format i p l w ≡ words p l w
      from_before grows = from_unseen (install_unseen i (Grows-leaves (frame_stores sup.sizes k) no_write s mid i grows leaves))
