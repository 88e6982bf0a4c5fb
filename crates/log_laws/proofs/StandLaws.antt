-- A word whose home is one and the same in each image has one home value: its versions are all equal, or its block is settled.
use Rattle.std.proofs.Common.{◌≡◌, ◌≢◌, ◌⊎◌, ℕ, zero, suc, ◌+◌, ◌*◌, ◌<◌, ◌≤◌, Bool, true, false, List, [], ◌∷◌, drop, refl, sym, ap, ◌∙◌, subst, inl, inr, arith, eqb, cond, IsTrue, Some, None, Option}
use Rattle.std.proofs.lemmas.Bool.{false≢true, cases_Bool, cases_eq, eq-eqb, ne_eqb, cond-true, cond-false}
use Rattle.nvm_model.specs.Word.{Word, IsVersion, IsSteady}
use Rattle.devices.specs.State.{State, Image, Leaves, current}
use Rattle.store_model.specs.Layout.{Sizes, frame_line, page_block}
use Rattle.store_model.specs.Recovered.{Super, super_of, entry_at, frame_of, home_in, home, block_word}
use Rattle.store_model.specs.InOrder.{HomeStands}
use Rattle.store_model.specs.StoreFacts.{Bookkeeping, IsWord, StoreFacts}
use Rattle.home_laws.proofs.FactsLaws.{current_leaves}
use Rattle.home_laws.proofs.RecoveredLaws.{frame_of-same}
use Rattle.home_laws.proofs.SeenLaws.{facts_entry}

-- these bytes behind n zeros
padded : ℕ → List ℕ → List ℕ
padded zero bytes = bytes
padded (suc n) bytes = 0 ∷ padded n bytes

drop-padded : (n : ℕ) (bytes : List ℕ) → drop n (padded n bytes) ≡ bytes
unfolding padded
drop-padded zero bytes = refl
drop-padded (suc n) bytes = drop-padded n bytes

-- one word of what loads give is another one
word_changed : (s : State) (at word v : ℕ) → Image
word_changed s at word v = record { nvm = λ l w. cond (eqb l at) (cond (eqb w word) v ((current s).nvm l w)) ((current s).nvm l w); ssd = (current s).ssd }

word_version : (x y : Bool) (m : Word) (v n : ℕ) → (x ≡ true → y ≡ true → IsVersion m v) → IsVersion m n → IsVersion m (cond x (cond y v n) n)
word_version true true m v n h kept = h refl refl
word_version true false m v n h kept = kept
word_version false y m v n h kept = kept

word_leaves : (s : State) (at word v : ℕ) → IsVersion (s.nvm at word) v → Leaves s (word_changed s at word v)
unfolding word_changed
word_leaves s at word v version = record {
  words = λ l w. word_version (eqb l at) (eqb w word) (s.nvm l w) v ((current s).nvm l w)
      (λ x y. here l w (cases_eq l at) (cases_eq w word) x y) ((current_leaves s).words l w);
  blocks = (current_leaves s).blocks;
}
  where
    here : (l w : ℕ) → (l ≡ at) ⊎ (l ≢ at) → (w ≡ word) ⊎ (w ≢ word) → eqb l at ≡ true → eqb w word ≡ true → IsVersion (s.nvm l w) v
    here l w (inl a) (inl b) x y = subst (λ n. IsVersion (s.nvm n w) v) (sym a) (subst (λ n. IsVersion (s.nvm at n) v) (sym b) version)
    here l w (inr a) b x y = absurd (false≢true (sym (ne_eqb l at a) ∙ x))
    here l w a (inr b) x y = absurd (false≢true (sym (ne_eqb w word b) ∙ y))

word_changed-here : (s : State) (at word v : ℕ) → (word_changed s at word v).nvm at word ≡ v
unfolding word_changed
word_changed-here s at word v = cond-true (eqb at at) _ _ (eq-eqb at at refl) ∙ cond-true (eqb word word) _ _ (eq-eqb word word refl)

-- one block of what reads give is another one
block_changed : (s : State) (block : ℕ) (bytes : List ℕ) → Image
block_changed s block bytes = record { nvm = (current s).nvm; ssd = λ b. cond (eqb b block) bytes ((current s).ssd b) }

block_leaves : (s : State) (block : ℕ) (bytes : List ℕ) → (s.ssd block).settled ≡ false → Leaves s (block_changed s block bytes)
unfolding block_changed
block_leaves s block bytes unsettled = record {
  words = (current_leaves s).words;
  blocks = λ b settled. elim (cases_eq b block) [
    | inl here ↦ absurd (false≢true (subst (λ (x : Bool). IsTrue x) (ap (λ n. (s.ssd n).settled) here ∙ unsettled) settled))
    | inr other ↦ cond-false (eqb b block) _ _ (ne_eqb b block other) ∙ (current_leaves s).blocks b settled
  ];
}

block_changed-here : (s : State) (block : ℕ) (bytes : List ℕ) → (block_changed s block bytes).ssd block ≡ bytes
unfolding block_changed
block_changed-here s block bytes = cond-true (eqb block block) _ _ (eq-eqb block block refl)

module _ (b : Bookkeeping) (s : State) (facts : StoreFacts b s) (still : b.changing ≡ None) where
  abbrev frame_now : ℕ → Option ℕ
  frame_now p = frame_of (entry_at (current s)) (b.sizes.frames + 1) p

  same_frame : (i : Image) → Leaves s i → (p : ℕ) → frame_of (entry_at i) (b.sizes.frames + 1) p ≡ frame_now p
  same_frame i left p = frame_of-same (entry_at i) (entry_at (current s)) (b.sizes.frames + 1) p (λ k less. facts_entry b s facts still i left k (omega arith))

  home_by_now : (i : Image) → Leaves s i → (p l w : ℕ) → home i p l w ≡ home_in b.sizes i (frame_now p) p l w
  home_by_now i left p l w =
      ap (λ (g : Sizes). home_in g i (frame_of (entry_at i) (g.frames + 1) p) p l w) (facts.sizes i left)
      ∙ ap (λ (f : Option ℕ). home_in b.sizes i f p l w) (same_frame i left p)

  -- what the home of a word is in each image it is in this one, by its frame or its block
  home_is : (value : ℕ) (p l w : ℕ) → ((i : Image) → Leaves s i → home i p l w ≡ value) → (i : Image) → Leaves s i → home_in b.sizes i (frame_now p) p l w ≡ value
  home_is value p l w homes i left = sym (home_by_now i left p l w) ∙ homes i left

  pub home_stands : (value : ℕ) (p l w : ℕ) → ((i : Image) → Leaves s i → home i p l w ≡ value) → (j : Image) → Leaves s j
      → HomeStands b.sizes (frame_of (entry_at j) (b.sizes.frames + 1) p) s p l w
  home_stands value p l w homes j left = record {
    in_frame = λ k found. steady k (sym (same_frame j left p) ∙ found);
    in_block = λ found. settled (sym (same_frame j left p) ∙ found) (cases_Bool (s.ssd (page_block b.sizes p)).settled);
  }
    where
      framed : (k : ℕ) → frame_now p ≡ Some k → (i : Image) → Leaves s i → i.nvm (frame_line b.sizes k l) w ≡ value
      framed k found i left = sym (ap (λ (f : Option ℕ). home_in b.sizes i f p l w) found) ∙ home_is value p l w homes i left

      blocked : frame_now p ≡ None → (i : Image) → Leaves s i → block_word (i.ssd (page_block b.sizes p)) l w ≡ value
      blocked found i left = sym (ap (λ (f : Option ℕ). home_in b.sizes i f p l w) found) ∙ home_is value p l w homes i left

      steady : (k : ℕ) → frame_now p ≡ Some k → IsSteady (s.nvm (frame_line b.sizes k l) w)
      steady k found v version =
          sym (word_changed-here s (frame_line b.sizes k l) w v)
          ∙ framed k found (word_changed s (frame_line b.sizes k l) w v) (word_leaves s (frame_line b.sizes k l) w v version)
          ∙ sym (framed k found (current s) (current_leaves s))

      written : (n : ℕ) → frame_now p ≡ None → (s.ssd (page_block b.sizes p)).settled ≡ false → (bytes : List ℕ) → block_word bytes l w ≡ n → n ≡ value
      written n found unsettled bytes is =
          let block : ℕ = page_block b.sizes p in
          sym is ∙ sym (ap (λ (x : List ℕ). block_word x l w) (block_changed-here s block bytes)) ∙ blocked found (block_changed s block bytes) (block_leaves s block bytes unsettled)

      zero_is : block_word (padded (64 * l + 8 * w) []) l w ≡ 0
      zero_is = rw (drop-padded (64 * l + 8 * w) []) refl

      one_is : block_word (padded (64 * l + 8 * w) (1 ∷ [])) l w ≡ 1
      one_is = rw (drop-padded (64 * l + 8 * w) (1 ∷ [])) refl

      settled : frame_now p ≡ None → ((s.ssd (page_block b.sizes p)).settled ≡ true) ⊎ ((s.ssd (page_block b.sizes p)).settled ≡ false) → IsTrue (s.ssd (page_block b.sizes p)).settled
      settled found (inl is) = is
      settled found (inr not) =
          let zeros : 0 ≡ value = written 0 found not (padded (64 * l + 8 * w) []) zero_is in
          let ones : 1 ≡ value = written 1 found not (padded (64 * l + 8 * w) (1 ∷ [])) one_is in
          absurd (omega arith)
