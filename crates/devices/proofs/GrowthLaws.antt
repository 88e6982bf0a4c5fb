-- Laws of what calls may add.
use Rattle.std.proofs.Common.{◌≡◌, ◌⊎◌, ℕ, ◌<◌, Bool, true, false, List, [], ◌∷◌, ◌++◌, refl, sym, ap, ◌∙◌, subst, inl, inr, IsTrue, cond, eqb, ltb, slice_index}
use Rattle.std.proofs.lemmas.Bool.{cases_eq, eqb-true, ltb-true, eq-eqb, ne_eqb}
use Rattle.nvm_model.specs.declared.line.Line.{Line}
use Rattle.nvm_model.specs.Word.{Word, marked, IsVersion, IsSingle, IsSteady}
use Rattle.ssd_model.specs.Block.{Block}
use Rattle.devices.specs.State.{State, Image, Call, after_all, after, Part, Amid, Between, Torn, Leaves, word_stored, line_stored, flushed, fenced, synced}
use Rattle.devices.specs.State.Call.{store_word, store_line, flush, fence, write_block, sync}
use Rattle.devices.specs.Growth.{Grows, Reaches, IsWithin, AreWithin, no_write}
use Rattle.nvm_model.proofs.WordLaws.{IsVersion-trimmed, IsSingle-trimmed}

-- a version of a choice of two words
cond_version : (b : Bool) (x y : Word) (v : ℕ) → IsVersion (cond b x y) v → ((b ≡ true) × IsVersion x v) ⊎ IsVersion y v
cond_version true x y v h = inl (refl, h)
cond_version false x y v h = inr h

-- a choice of two words of which the second has one version
cond_single : (b : Bool) (x y : Word) → IsSingle y → (b ≡ true) ⊎ IsSingle (cond b x y)
cond_single true x y h = inl refl
cond_single false x y h = inr h

cond_same_single : (b : Bool) (x y : Word) → IsSingle x → IsSingle y → IsSingle (cond b x y)
cond_same_single true x y a h = a
cond_same_single false x y a h = h

module _ (stores : ℕ → ℕ → ℕ → Type 0) (writes : ℕ → Type 0) where
  pub Grows-refl : (s : State) → Grows stores writes s s
  Grows-refl s = record { words = λ l w v h. inl h; singles = λ l w h. inl h; blocks = λ b. inr ((λ h. h), refl) }

  pub Grows-trans : (a b c : State) → Grows stores writes a b → Grows stores writes b c → Grows stores writes a c
  Grows-trans a b c first second = record {
    words = λ l w v h. elim (second.words l w v h) [ inl old ↦ first.words l w v old | inr new ↦ inr new ];
    singles = λ l w h. elim (first.singles l w h) [ inl one ↦ second.singles l w one | inr new ↦ inr new ];
    blocks = λ k. elim (first.blocks k) [
      | inl written ↦ inl written
      | inr kept ↦ elim (second.blocks k) [
        | inl written ↦ inl written
        | inr more ↦ inr ((λ h. more.0 (kept.0 h)), more.1 ∙ kept.1)
      ]
    ];
  }

  -- an image that is left after the stores is one that they reach
  pub Grows-leaves : (s t : State) (i : Image) → Grows stores writes s t → Leaves t i → Reaches stores writes s i
  Grows-leaves s t i grows leaves = record {
    words = λ l w. grows.words l w (i.nvm l w) (leaves.words l w);
    blocks = λ b. elim (grows.blocks b) [
      | inl written ↦ inl written
      | inr kept ↦ inr (λ h. leaves.blocks b (kept.0 h) ∙ kept.1)
    ];
  }

  same_blocks : (s t : State) → ((b : ℕ) → t.ssd b ≡ s.ssd b) → (b : ℕ)
      → writes b ⊎ ((IsTrue (s.ssd b).settled → IsTrue (t.ssd b).settled) × ((t.ssd b).bytes ≡ (s.ssd b).bytes))
  same_blocks s t same b = inr ((λ h. subst (λ (x : Block). IsTrue x.settled) (sym (same b)) h), ap (λ (x : Block). x.bytes) (same b))

  store_word_grows : (line word value : ℕ) (s : State) → stores line word value → Grows stores writes s (word_stored line word value s)
  store_word_grows line word value s allowed = record {
    words = λ l w v h. elim (cond_version (eqb l line) _ _ v h) [
      | inr old ↦ inl old
      | inl at_line ↦ elim (cond_version (eqb w word) _ _ v at_line.1) [
        | inr old ↦ inl old
        | inl at_word ↦ elim at_word.1 [
          | inr old ↦ inl old
          | inl new ↦ inr (rw (eqb-true l line at_line.0, eqb-true w word at_word.0, new) allowed)
        ]
      ]
    ];
    singles = λ l w h. elim (cond_single (eqb l line) _ (s.nvm l w) h) [
      | inr old ↦ inl old
      | inl at_line ↦ elim (cond_single (eqb w word) _ (s.nvm l w) h) [
        | inr old ↦ inl (cond_same_single (eqb l line) _ (s.nvm l w) old h)
        | inl at_word ↦ inr (value, rw (eqb-true l line at_line, eqb-true w word at_word) allowed)
      ]
    ];
    blocks = same_blocks s (word_stored line word value s) (λ b. refl);
  }

  store_line_grows : (line : ℕ) (value : Line) (s : State) → ((w : ℕ) → w < 8 → stores line w (slice_index value.words w))
      → Grows stores writes s (line_stored line value s)
  store_line_grows line value s allowed = record {
    words = λ l w v h. elim (cond_version (eqb l line) _ _ v h) [
      | inr old ↦ inl old
      | inl at_line ↦ elim (cond_version (ltb w 8) _ _ v at_line.1) [
        | inr old ↦ inl old
        | inl at_word ↦ elim at_word.1 [
          | inr old ↦ inl old
          | inl new ↦ inr (rw (eqb-true l line at_line.0, new) (allowed w (ltb-true w 8 at_word.0)))
        ]
      ]
    ];
    singles = λ l w h. elim (cond_single (eqb l line) _ (s.nvm l w) h) [
      | inr old ↦ inl old
      | inl at_line ↦ elim (cond_single (ltb w 8) _ (s.nvm l w) h) [
        | inr old ↦ inl (cond_same_single (eqb l line) _ (s.nvm l w) old h)
        | inl at_word ↦ inr (slice_index value.words w, rw (eqb-true l line at_line) (allowed w (ltb-true w 8 at_word)))
      ]
    ];
    blocks = same_blocks s (line_stored line value s) (λ b. refl);
  }

  flush_grows : (line : ℕ) (s : State) → Grows stores writes s (flushed line s)
  flush_grows line s = record {
    words = λ l w v h. elim (cond_version (eqb l line) _ _ v h) [ inr old ↦ inl old | inl at_line ↦ inl at_line.1 ];
    singles = λ l w h. inl (cond_same_single (eqb l line) (marked (s.nvm l w)) (s.nvm l w) h h);
    blocks = same_blocks s (flushed line s) (λ b. refl);
  }

  fence_grows : (s : State) → Grows stores writes s (fenced s)
  fence_grows s = record {
    words = λ l w v h. inl (IsVersion-trimmed (s.nvm l w) v h);
    singles = λ l w h. inl (IsSingle-trimmed (s.nvm l w) h);
    blocks = same_blocks s (fenced s) (λ b. refl);
  }

  sync_grows : (s : State) → Grows stores writes s (synced s)
  sync_grows s = record { words = λ l w v h. inl h; singles = λ l w h. inl h; blocks = λ b. inr ((λ h. refl), refl) }

  -- a part of a change that may grow only so grows only so
  between_grows : (s t mid : State) → Grows stores writes s t → Between s t mid → Grows stores writes s mid
  between_grows s t mid grows part = record {
    words = λ l w v h. elim (part.words l w) [
      | inl old ↦ inl (subst (λ (x : Word). IsVersion x v) old h)
      | inr new ↦ grows.words l w v (subst (λ (x : Word). IsVersion x v) new h)
    ];
    singles = λ l w h. elim (part.words l w) [
      | inl old ↦ inl (subst (λ (x : Word). IsSingle x) (sym old) h)
      | inr new ↦ elim (grows.singles l w h) [ inl one ↦ inl (subst (λ (x : Word). IsSingle x) (sym new) one) | inr st ↦ inr st ]
    ];
    blocks = λ b. elim (part.blocks b) [
      | inl old ↦ inr ((λ h. subst (λ (x : Block). IsTrue x.settled) (sym old) h), ap (λ (x : Block). x.bytes) old)
      | inr new ↦ elim (grows.blocks b) [
        | inl written ↦ inl written
        | inr kept ↦ inr ((λ h. subst (λ (x : Block). IsTrue x.settled) (sym new) (kept.0 h)), ap (λ (x : Block). x.bytes) new ∙ kept.1)
      ]
    ];
  }

  torn_grows : (block : ℕ) (s mid : State) → writes block → Torn block s mid → Grows stores writes s mid
  torn_grows block s mid allowed part = record {
    words = λ l w v h. inl (subst (λ (x : Word). IsVersion x v) (part.words l w) h);
    singles = λ l w h. inl (subst (λ (x : Word). IsSingle x) (sym (part.words l w)) h);
    blocks = λ b. elim (cases_eq b block) [
      | inl same ↦ inl (subst writes (sym same) allowed)
      | inr other ↦ inr ((λ h. subst (λ (x : Block). IsTrue x.settled) (sym (part.others b other)) h), ap (λ (x : Block). x.bytes) (part.others b other))
    ];
  }

  -- any part of a call that stores and writes only so grows only so
  pub Part-grows : (call : Call) (s mid : State) → IsWithin stores writes call → Part call s mid → Grows stores writes s mid
  Part-grows (store_word line word value) s mid within part = between_grows s (word_stored line word value s) mid (store_word_grows line word value s within) part
  Part-grows (store_line line value) s mid within part = between_grows s (line_stored line value s) mid (store_line_grows line value s within) part
  Part-grows (flush line) s mid within part = between_grows s (flushed line s) mid (flush_grows line s) part
  Part-grows fence s mid within part = between_grows s (fenced s) mid (fence_grows s) part
  Part-grows (write_block block bytes) s mid within part = torn_grows block s mid within part
  Part-grows sync s mid within part = between_grows s (synced s) mid (sync_grows s) part

-- the whole of a call is a part of it
pub Part-whole : (call : Call) (s : State) → Part call s (after call s)
Part-whole (store_word line word value) s = record { words = λ l w. inr refl; blocks = λ b. inr refl }
Part-whole (store_line line value) s = record { words = λ l w. inr refl; blocks = λ b. inr refl }
Part-whole (flush line) s = record { words = λ l w. inr refl; blocks = λ b. inr refl }
Part-whole fence s = record { words = λ l w. inr refl; blocks = λ b. inr refl }
Part-whole (write_block block bytes) s = record {
  words = λ l w. refl;
  others = λ b h. simp (ne_eqb b block h);
  torn = inr (simp (eq-eqb block block refl));
}
Part-whole sync s = record { words = λ l w. inr refl; blocks = λ b. inr refl }

-- nothing of a call is a part of it
pub Part-none : (call : Call) (s : State) → Part call s s
Part-none (store_word line word value) s = record { words = λ l w. inl refl; blocks = λ b. inl refl }
Part-none (store_line line value) s = record { words = λ l w. inl refl; blocks = λ b. inl refl }
Part-none (flush line) s = record { words = λ l w. inl refl; blocks = λ b. inl refl }
Part-none fence s = record { words = λ l w. inl refl; blocks = λ b. inl refl }
Part-none (write_block block bytes) s = record { words = λ l w. refl; others = λ b h. refl; torn = inl refl }
Part-none sync s = record { words = λ l w. inl refl; blocks = λ b. inl refl }

-- at each moment while such calls are made, nothing else was added
pub Amid-grows : (stores : ℕ → ℕ → ℕ → Type 0) (writes : ℕ → Type 0) (calls : List Call) (s mid : State)
    → AreWithin stores writes calls → Amid s calls mid → Grows stores writes s mid
Amid-grows stores writes [] s mid within at = subst (λ (x : State). Grows stores writes s x) (sym at) (Grows-refl stores writes s)
Amid-grows stores writes (call ∷ calls) s mid within (inl part) = Part-grows stores writes call s mid within.0 part
Amid-grows stores writes (call ∷ calls) s mid within (inr later) =
    Grows-trans stores writes s (after call s) mid
    (Part-grows stores writes call s (after call s) within.0 (Part-whole call s))
    (Amid-grows stores writes calls (after call s) mid within.1 later)

-- what may be stored may be more
pub Grows-weaken : (stores more : ℕ → ℕ → ℕ → Type 0) (writes : ℕ → Type 0) (s t : State) → ((l w v : ℕ) → stores l w v → more l w v) → Grows stores writes s t → Grows more writes s t
Grows-weaken stores more writes s t wider grows = record {
  words = λ l w v h. elim (grows.words l w v h) [ inl old ↦ inl old | inr st ↦ inr (wider l w v st) ];
  singles = λ l w h. elim (grows.singles l w h) [ inl one ↦ inl one | inr st ↦ inr (st.0, wider l w st.0 st.1) ];
  blocks = grows.blocks;
}

-- a word where nothing may be stored keeps its one version, or its equal versions; a settled block its bytes
pub Grows-single : (stores : ℕ → ℕ → ℕ → Type 0) (writes : ℕ → Type 0) (s t : State) → Grows stores writes s t → (l w : ℕ) → ((v : ℕ) → stores l w v → ⊥) → IsSingle (s.nvm l w) → IsSingle (t.nvm l w)
Grows-single stores writes s t grows l w none one = elim (grows.singles l w one) [ inl kept ↦ kept | inr st ↦ absurd (none st.0 st.1) ]

pub Grows-version : (stores : ℕ → ℕ → ℕ → Type 0) (writes : ℕ → Type 0) (s t : State) → Grows stores writes s t → (l w : ℕ) → ((v : ℕ) → stores l w v → ⊥) → (v : ℕ) → IsVersion (t.nvm l w) v → IsVersion (s.nvm l w) v
Grows-version stores writes s t grows l w none v h = elim (grows.words l w v h) [ inl old ↦ old | inr st ↦ absurd (none v st) ]

pub Grows-steady : (stores : ℕ → ℕ → ℕ → Type 0) (writes : ℕ → Type 0) (s t : State) → Grows stores writes s t → (l w : ℕ) → ((v : ℕ) → stores l w v → ⊥) → IsSteady (s.nvm l w) → IsSteady (t.nvm l w)
Grows-steady stores writes s t grows l w none steady = λ v h.
    steady v (Grows-version stores writes s t grows l w none v h)
    ∙ sym (steady (t.nvm l w).newest (Grows-version stores writes s t grows l w none (t.nvm l w).newest (inl refl)))

pub Grows-settled : (stores : ℕ → ℕ → ℕ → Type 0) (s t : State) → Grows stores no_write s t → (b : ℕ) → IsTrue (s.ssd b).settled → IsTrue (t.ssd b).settled
Grows-settled stores s t grows b h = elim (grows.blocks b) [ inl written ↦ absurd written | inr kept ↦ kept.0 h ]

-- calls that follow one another
pub after_all_append : (xs ys : List Call) (s : State) → after_all (xs ++ ys) s ≡ after_all ys (after_all xs s)
after_all_append [] ys s = refl
after_all_append (x ∷ xs) ys s = after_all_append xs ys (after x s)

pub Amid_append : (xs ys : List Call) (s mid : State) → Amid s (xs ++ ys) mid → Amid s xs mid ⊎ Amid (after_all xs s) ys mid
Amid_append [] ys s mid h = inr h
Amid_append (x ∷ xs) ys s mid (inl part) = inl (inl part)
Amid_append (x ∷ xs) ys s mid (inr later) = elim (Amid_append xs ys (after x s) mid later) [ inl first ↦ inl (inr first) | inr second ↦ inr second ]

-- the end is a moment too
pub Amid_end : (calls : List Call) (s : State) → Amid s calls (after_all calls s)
Amid_end [] s = refl
Amid_end (x ∷ xs) s = inr (Amid_end xs (after x s))
