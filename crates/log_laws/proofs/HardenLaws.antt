-- Lines behind the tail, for the layer that knows the log alone: an append leaves the log of each image as it is, a harden gives
-- it those lines last, and at each moment on the way each image has the old log or the new one.
use Rattle.std.proofs.Common.{◌≡◌, ◌≢◌, ◌⊎◌, ℕ, ◌+◌, ◌-◌, ◌<◌, ◌≤◌, List, [], ◌∷◌, ◌++◌, length, length-append, get_or, refl, sym, ap, ◌∙◌, subst, inl, inr, arith}
use Rattle.std.proofs.lemmas.Bool.{cases_lt}
use Rattle.std.proofs.lemmas.List.{get_or_append_left, get_or-append_right}
use Rattle.nvm_model.specs.declared.line.Line.{Line}
use Rattle.nvm_model.specs.Word.{Word, single, marked, trimmed}
use Rattle.devices.specs.State.{State, Image, Leaves, current, fenced, word_stored, after_all, Amid}
use Rattle.devices.specs.State.Call.{fence}
use Rattle.devices.specs.Growth.{Grows, Reaches, AreWithin, no_store, no_write}
use Rattle.store_model.specs.Layout.{Sizes, ring_start, ring_line, ring_lines, frame_line, entry_line, entry_word}
use Rattle.store_model.specs.Format.{word_in, zero_line}
use Rattle.store_model.specs.Recovered.{Super, super_of, entry_at, frame_of, home_in, log_line, from}
use Rattle.store_model.specs.InOrder.{LineStands}
use Rattle.store_model.specs.StoreFacts.{Gate}
use Rattle.store_model.specs.View.{Alike, Extends}
use Rattle.store_model.specs.Put.{put_calls, tail_calls, IsLine, IsFree, IsFlushed, CanPut}
use Rattle.store_model.specs.Pending.{harden_calls, StandsFlushed}
use Rattle.store_model.specs.Seen.{Moved, gate_stores}
use Rattle.nvm_model.proofs.WordLaws.{IsVersion-trimmed, single_version}
use Rattle.devices.proofs.StateLaws.{flushed_same, word_stored_same}
use Rattle.devices.proofs.GrowthLaws.{Amid-grows, Amid_end, Part-grows, Grows-leaves, Grows-single, Grows-version, Grows-settled}
use Rattle.home_laws.proofs.LayoutLaws.{ring_apart}
use Rattle.home_laws.proofs.RecoveredLaws.{line_of-same, from-same, from-append}
use Rattle.home_laws.proofs.PutLaws.{log_line-same, log_line-in_nvm, home_in-same, home_by, lines_by, from_is, fenced_flushed, moved_tail, single_at, put_stores, put_unseen, put_other, put_made, free_high, super_same, named_low, durable_super, without, without_leaves, without_same, without_blocks}

-- a fence leaves no new image
pub fence_leaves : (s : State) (i : Image) → Leaves (fenced s) i → Leaves s i
fence_leaves s i leaves = record { words = λ l w. IsVersion-trimmed (s.nvm l w) (i.nvm l w) (leaves.words l w); blocks = leaves.blocks }

-- the calls store in their own lines alone
put_within_more : (g : Sizes) (t n u : ℕ) (ys : List Line) → t ≤ u → u + length ys ≤ t + n → AreWithin (put_stores g t n) no_write (put_calls g u ys)
put_within_more g t n u [] low high = tt
put_within_more g t n u (y ∷ ys) low high = ((λ w less. (u, low, omega arith, refl)), (tt, put_within_more g t n (u + 1) ys (omega arith) (omega arith)))

alike_itself : (i : Image) → Alike i i
alike_itself i = record { super_words = refl; log = refl; entries = λ k h. refl; homes = λ p l w hp hl hw. refl }

module _ (s : State) (xs : List Line) (stands : StandsFlushed s xs) where
  abbrev pub sup : Super
  sup = super_of (current s)

  super_is : (j : Image) → Leaves s j → super_of j ≡ sup
  super_is j left = durable_super s (length xs) stands.can j left

  -- An append of more lines behind those: at each moment recovery sees no more than before.
  module _ (ys : List Line) (room : CanPut s (length (xs ++ ys))) (are_lines : (k : ℕ) → k < length ys → IsLine (get_or ys k zero_line)) where
    pub append_unseen : (mid : State) → Amid s (put_calls sup.sizes (sup.tail + length xs) ys) mid → (i : Image) → Leaves mid i → (j : Image) × Leaves s j × Alike i j
    append_unseen mid amid i leaves = put_unseen s (xs ++ ys) room i (Grows-leaves (put_stores sup.sizes sup.tail (length (xs ++ ys))) no_write s mid i
        (Amid-grows (put_stores sup.sizes sup.tail (length (xs ++ ys))) no_write (put_calls sup.sizes (sup.tail + length xs) ys) s mid
        (let long : length (xs ++ ys) ≡ length xs + length ys = length-append xs ys in put_within_more sup.sizes sup.tail (length (xs ++ ys)) (sup.tail + length xs) ys (omega arith) (omega arith)) amid) leaves)

    abbrev pub appended : State
    appended = after_all (put_calls sup.sizes (sup.tail + length xs) ys) s

    grows : Grows (put_stores sup.sizes sup.tail (length (xs ++ ys))) no_write s appended
    grows = Amid-grows (put_stores sup.sizes sup.tail (length (xs ++ ys))) no_write (put_calls sup.sizes (sup.tail + length xs) ys) s appended
        (let long : length (xs ++ ys) ≡ length xs + length ys = length-append xs ys in put_within_more sup.sizes sup.tail (length (xs ++ ys)) (sup.tail + length xs) ys (omega arith) (omega arith))
        (Amid_end (put_calls sup.sizes (sup.tail + length xs) ys) s)

    low_none : (l w : ℕ) → l < ring_start sup.sizes → (v : ℕ) → put_stores sup.sizes sup.tail (length (xs ++ ys)) l w v → ⊥
    low_none l w low v free = let high : ring_start sup.sizes ≤ l = (free_high s (xs ++ ys) room l free).0 in omega arith

    pub appended_super : super_of (current appended) ≡ sup
    appended_super = super_same (current appended) (current s) (λ l w named. single_version (s.nvm l w) (appended.nvm l w).newest (room.superblock l w named)
        (Grows-version (put_stores sup.sizes sup.tail (length (xs ++ ys))) no_write s appended grows l w (low_none l w (let four : l < 4 = named_low l w named in omega arith)) (appended.nvm l w).newest (inl refl)))

    -- Then all the lines stand there.
    pub append_stands : StandsFlushed appended (xs ++ ys)
    append_stands = record {
      can = record {
        superblock = λ l w named. Grows-single (put_stores sup.sizes sup.tail (length (xs ++ ys))) no_write s appended grows l w (low_none l w (let four : l < 4 = named_low l w named in omega arith)) (room.superblock l w named);
        entries = λ k h. (let h' : k ≤ sup.sizes.frames = subst (λ (x : Super). k ≤ x.sizes.frames) appended_super h in
            Grows-single (put_stores sup.sizes sup.tail (length (xs ++ ys))) no_write s appended grows (entry_line k) (entry_word k) (low_none (entry_line k) (entry_word k) (omega arith)) (room.entries k h'));
        log = subst (λ (x : Super). (o : ℕ) → x.start ≤ o → o < x.tail → LineStands x appended o) (sym appended_super) (λ o above below. record {
          in_nvm = λ over w hw. Grows-single (put_stores sup.sizes sup.tail (length (xs ++ ys))) no_write s appended grows (ring_line sup.sizes o) w (λ v free.
              let started : sup.start ≤ sup.tail = room.started in
              let fits : sup.tail + length (xs ++ ys) ≤ sup.drained + ring_lines sup.sizes = room.room in
              let drained_below : sup.drained ≤ sup.tail = room.drained in
              let clash : o ≡ free.0 = ring_apart sup.sizes sup.drained o free.0 over (omega arith) (omega arith) (omega arith) free.3 in omega arith)
              ((room.log o above below).in_nvm over w hw);
          in_ssd = λ under. Grows-settled (put_stores sup.sizes sup.tail (length (xs ++ ys))) s appended grows _ ((room.log o above below).in_ssd under);
        });
        ring = subst (λ (x : Super). 0 < x.sizes.log_blocks) (sym appended_super) room.ring;
        started = subst (λ (x : Super). x.start ≤ x.tail) (sym appended_super) room.started;
        drained = subst (λ (x : Super). x.drained ≤ x.tail) (sym appended_super) room.drained;
        room = subst (λ (x : Super). x.tail + length (xs ++ ys) ≤ x.drained + ring_lines x.sizes) (sym appended_super) room.room;
      };
      flushed = λ k w less hw. subst (λ (x : Super). IsFlushed (appended.nvm (ring_line x.sizes (x.tail + k)) w) (word_in (get_or (xs ++ ys) k zero_line) w)) (sym appended_super)
          (each k w (let long : length (xs ++ ys) ≡ length xs + length ys = length-append xs ys in omega arith) hw);
      are_lines = λ k less. elim (cases_lt k (length xs)) [
        | inl first ↦ subst IsLine (sym (get_or_append_left xs ys zero_line k first)) (stands.are_lines k first)
        | inr second ↦ subst IsLine (sym (get_or-append_right xs ys (length xs) k zero_line refl second)) (are_lines (k - length xs) (let long : length (xs ++ ys) ≡ length xs + length ys = length-append xs ys in omega arith))
      ];
    }
      where
        each : (k w : ℕ) → k < length xs + length ys → w < 8 → IsFlushed (appended.nvm (ring_line sup.sizes (sup.tail + k)) w) (word_in (get_or (xs ++ ys) k zero_line) w)
        each k w less hw = elim (cases_lt k (length xs)) [
          | inl first ↦
              (let low : sup.drained ≤ sup.tail = room.drained in
              let fits : sup.tail + length (xs ++ ys) ≤ sup.drained + ring_lines sup.sizes = room.room in
              let long : length (xs ++ ys) ≡ length xs + length ys = length-append xs ys in
              let apart : IsFree sup.sizes (sup.tail + length xs) (length ys) (ring_line sup.sizes (sup.tail + k)) → ⊥ =
              (λ free. let clash : sup.tail + k ≡ free.0 = ring_apart sup.sizes sup.drained (sup.tail + k) free.0 (omega arith) (omega arith) (omega arith) (omega arith) free.3 in omega arith) in
              let same : appended.nvm (ring_line sup.sizes (sup.tail + k)) w ≡ s.nvm (ring_line sup.sizes (sup.tail + k)) w = put_other sup.sizes ys (sup.tail + length xs) s (ring_line sup.sizes (sup.tail + k)) w apart in
              subst (λ (x : Word). IsFlushed x (word_in (get_or (xs ++ ys) k zero_line) w)) (sym same)
              (subst (λ (line : Line). IsFlushed (s.nvm (ring_line sup.sizes (sup.tail + k)) w) (word_in line w)) (sym (get_or_append_left xs ys zero_line k first)) (stands.flushed k w first hw)))
          | inr second ↦
              (let low : sup.drained ≤ sup.tail = room.drained in
              let fits : sup.tail + length (xs ++ ys) ≤ sup.drained + ring_lines sup.sizes = room.room in
              let long : length (xs ++ ys) ≡ length xs + length ys = length-append xs ys in
              subst (λ (line : Line). IsFlushed (appended.nvm (ring_line sup.sizes (sup.tail + k)) w) (word_in line w)) (sym (get_or-append_right xs ys (length xs) k zero_line refl second))
              (put_made sup.sizes sup.drained ys (sup.tail + length xs) s (k - length xs) (sup.tail + k) w (omega arith) (omega arith) (omega arith) (omega arith) hw))
        ]

  -- what the new tail makes of an image
  pub moved_extends : (i j : Image) → Leaves (fenced s) j → Moved Gate.tail (sup.tail + length xs) i j → Extends i j xs
  moved_extends i j left moved =
      let same : (l w : ℕ) → (l ≢ 3) ⊎ (w ≢ 0) → i.nvm l w ≡ j.nvm l w = moved.words in
      let e_j : super_of j ≡ sup = super_is j (fence_leaves s j left) in
      let e_i : super_of i ≡ record sup { tail = sup.tail + length xs } = moved_tail i j (sup.tail + length xs) (λ l w named h. same l w h) moved.at_gate ∙ ap (λ (x : Super). record x { tail = sup.tail + length xs }) e_j in
      let started : sup.start ≤ sup.tail = (stands.can).started in
      let drained_below : sup.drained ≤ sup.tail = (stands.can).drained in
      let lines : (n : ℕ) → List Line = (λ n. from (log_line sup.sizes sup.drained i) sup.start n) in
      record {
        super_words = e_i ∙ sym (ap (λ (x : Super). record x { tail = x.tail + length xs }) e_j);
        log = ap (λ (x : Super). from (log_line x.sizes x.drained i) x.start (x.tail - x.start)) e_i
            ∙ ap lines (omega arith)
            ∙ from-append (log_line sup.sizes sup.drained i) sup.start (sup.tail - sup.start) (length xs)
            ∙ ap (λ n. lines (sup.tail - sup.start) ++ from (log_line sup.sizes sup.drained i) n (length xs)) (omega arith)
            ∙ ap (λ ys. lines (sup.tail - sup.start) ++ ys) (from_is (log_line sup.sizes sup.drained i) xs sup.tail (λ k less.
            log_line-in_nvm sup.sizes sup.drained i (sup.tail + k) (omega arith)
            ∙ line_of-same _ _ (λ w hw.
            same (ring_line sup.sizes (sup.tail + k)) w (inl (λ three. omega arith))
            ∙ single_at ((fenced s).nvm (ring_line sup.sizes (sup.tail + k)) w) (word_in (get_or xs k zero_line) w) _
            (fenced_flushed s (ring_line sup.sizes (sup.tail + k)) w (word_in (get_or xs k zero_line) w) (stands.flushed k w less hw)) (left.words (ring_line sup.sizes (sup.tail + k)) w))
            ∙ stands.are_lines k less))
            ∙ ap (λ ys. ys ++ xs) (from-same _ _ sup.start (sup.tail - sup.start) (λ o above below. log_line-same sup.sizes sup.drained i j o
            (λ drained w hw. same (ring_line sup.sizes o) w (inl (λ three. omega arith))) moved.blocks)
            ∙ sym (ap (λ (x : Super). lines_by x j) e_j));
        entries = λ k h. same (entry_line k) (entry_word k) (inl (λ three. omega arith));
        homes = λ p l w hp hl hw.
            ap (λ (x : Super). home_in x.sizes i (frame_of (entry_at i) (x.sizes.frames + 1) p) p l w) e_i
            ∙ home_in-same sup.sizes i j (λ k h. same (entry_line k) (entry_word k) (inl (λ three. omega arith)))
            (λ k l w hk hl hw. same (frame_line sup.sizes k l) w (inl (λ three. omega arith))) moved.blocks p l w hl hw
            ∙ sym (ap (λ (x : Super). home_by x j p l w) e_j);
      }

  abbrev stores : ℕ → ℕ → ℕ → Type 0
  stores = gate_stores Gate.tail (sup.tail + length xs)

  moved_image : (i : Image) → Reaches stores no_write (fenced s) i → i.nvm 3 0 ≡ sup.tail + length xs → (j : Image) × Leaves (fenced s) j × Extends i j xs
  moved_image i reaches at_gate =
      let j : Image = without stores (fenced s) i reaches in
      let left : Leaves (fenced s) j = without_leaves stores (fenced s) i reaches in (
        j,
        left,
        moved_extends i j left (record {
          at_gate = at_gate;
          words = λ l w h. sym (without_same stores (fenced s) i reaches l w (λ st. elim h [ inl n ↦ n st.0 | inr n ↦ n st.1 ]));
          blocks = λ n. sym (without_blocks stores (fenced s) i reaches n);
        }),
      )

  -- At each moment of a harden each image has the old log, or the log with the lines last.
  pub harden_images : (mid : State) → Amid s (harden_calls (sup.tail + length xs)) mid → (i : Image) → Leaves mid i → (j : Image) × Leaves s j × (Alike i j ⊎ Extends i j xs)
  harden_images mid (inl part) i leaves =
      let grows : Grows no_store no_write s mid = Part-grows no_store no_write fence s mid tt part in
      let reaches : Reaches no_store no_write s i = Grows-leaves no_store no_write s mid i grows leaves in (
        i,
        record {
          words = λ l w. elim (reaches.words l w) [ inl v ↦ v | inr none ↦ absurd none ];
          blocks = λ n. elim (reaches.blocks n) [ inl written ↦ absurd written | inr same ↦ same ];
        },
        inl (alike_itself i),
      )
  harden_images mid (inr later) i leaves =
      let grows : Grows stores no_write (fenced s) mid = Amid-grows stores no_write (tail_calls (sup.tail + length xs)) (fenced s) mid ((refl, refl, refl), (tt, (tt, tt))) later in
      let reaches : Reaches stores no_write (fenced s) i = Grows-leaves stores no_write (fenced s) mid i grows leaves in
      elim (reaches.words 3 0) [
        | inl version ↦
            (let left : Leaves (fenced s) i = record {
              words = λ l w. elim (reaches.words l w) [ inl v ↦ v | inr st ↦ rw (st.0, st.1) version ];
              blocks = λ n. elim (reaches.blocks n) [ inl written ↦ absurd written | inr same ↦ same ];
            } in
            (i, fence_leaves s i left, inl (alike_itself i)))
        | inr st ↦
            (let new : (j : Image) × Leaves (fenced s) j × Extends i j xs = moved_image i reaches st.2 in
            (new.0, fence_leaves s new.0 new.1, inr new.2))
      ]

  -- When it is done each image has the log with the lines last.
  pub harden_ended : (i : Image) → Leaves (after_all (harden_calls (sup.tail + length xs)) s) i → (j : Image) × Leaves s j × Extends i j xs
  harden_ended i leaves =
      let end : State = after_all (tail_calls (sup.tail + length xs)) (fenced s) in
      let grows : Grows stores no_write (fenced s) end = Amid-grows stores no_write (tail_calls (sup.tail + length xs)) (fenced s) end ((refl, refl, refl), (tt, (tt, tt))) (Amid_end (tail_calls (sup.tail + length xs)) (fenced s)) in
      let gate : end.nvm 3 0 ≡ single (sup.tail + length xs) = ap trimmed (flushed_same 3 (word_stored 3 0 (sup.tail + length xs) (fenced s)) 0 ∙ ap marked (word_stored_same 3 0 (sup.tail + length xs) (fenced s))) in
      let new : (j : Image) × Leaves (fenced s) j × Extends i j xs =
      moved_image i (Grows-leaves stores no_write (fenced s) end i grows leaves) (single_at (end.nvm 3 0) (sup.tail + length xs) _ gate (leaves.words 3 0)) in
      (new.0, fence_leaves s new.0 new.1, new.2)
