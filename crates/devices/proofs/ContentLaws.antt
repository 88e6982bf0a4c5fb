-- What the current contents are as calls are made, and what a load gives.
use Rattle.std.proofs.Common.{◌∷◌, [], ◌≡◌, ◌≢◌, inl, inr, ℕ, ◌<◌, List, length, refl, sym, ◌∙◌, ap, arith, get_or-set_same, get_or-set_other, length-set}
use Rattle.std.specs.Prelude.{Bool, true, false, cond, ◌==◌, slice_index, slice_index_or, slice_set}
use Rattle.std.proofs.lemmas.Bool.{cases_eq, eq-eqb, ne_eqb}
use Rattle.std.proofs.lemmas.List.{get_or_default}
use Rattle.nvm_model.specs.declared.line.Line.{Line}
use Rattle.nvm_model.specs.Word.{Word, marked}
use Rattle.std.specs.Prelude.{Option, Some}
use Rattle.std.specs.Option.{unwrap_or}
use Rattle.std.specs.Ordering.{nat_cmp}
use Rattle.std.specs.BTreeMap.{BTreeMap, is_at, Updates}
use Rattle.std.proofs.lemmas.Grind.{common_steps}
use Rattle.ssd_model.specs.Block.{Block}
use Rattle.ssd_model.specs.Page.{zero_page}
use Rattle.devices.specs.State.{State, line_at, word_stored, line_stored, flushed, block_written}
use Rattle.devices.specs.Past.{zero_line, word_in, page_in}
use Rattle.devices.proofs.StateLaws.{line_stored_same, line_stored_other, word_stored_same, word_stored_other}

-- the lines hold the last versions of a state
pub record AreNewest (lines : ℕ) (nvm : List Line) (s : State) : Type 0 where
  pub size : length nvm ≡ lines
  pub words : (l w : ℕ) → l < lines → w < 8 → word_in nvm l w ≡ (s.nvm l w).newest

module _ (lines : ℕ) (nvm : List Line) (s : State) (are : AreNewest lines nvm s) where
  set_here : (line w : ℕ) (value : Line) → line < lines → word_in (slice_set nvm line value) line w ≡ slice_index value.words w
  set_here line w value low = let low_enough : line < length nvm = omega (arith, are.size) in ap (λ (x : Line). slice_index x.words w) (get_or-set_same nvm line value zero_line low_enough)

  set_there : (line l w : ℕ) (value : Line) → l ≢ line → word_in (slice_set nvm line value) l w ≡ word_in nvm l w
  set_there line l w value other = ap (λ (x : Line). slice_index x.words w) (get_or-set_other nvm line l value zero_line other)

  pub newest_line_stored : (line : ℕ) (value : Line) → line < lines → AreNewest lines (slice_set nvm line value) (line_stored line value s)
  newest_line_stored line value low = record {
    size = length-set nvm line value ∙ are.size;
    words = λ l w lt lt8. elim (cases_eq l line) [
      | inl here ↦ rw here (set_here line w value low ∙ sym (ap (λ (x : Word). x.newest) (line_stored_same line value s w lt8)))
      | inr there ↦ set_there line l w value there ∙ are.words l w lt lt8 ∙ sym (ap (λ (x : Word). x.newest) (line_stored_other line value s l w there))
    ];
  }

  pub newest_word_stored : (line word value : ℕ) (old next : Line) → line < lines → word < 8 → old ≡ slice_index_or nvm line old → slice_index next.words word ≡ value → ((w : ℕ) → w ≢ word → slice_index next.words w ≡ slice_index old.words w)
      → AreNewest lines (slice_set nvm line next) (word_stored line word value s)
  newest_word_stored line word value old next low low8 is this others = record {
    size = length-set nvm line next ∙ are.size;
    words = λ l w lt lt8. elim (cases_eq l line) [
      | inl here ↦ rw here (set_here line w next low ∙ at_line w lt8)
      | inr there ↦ set_there line l w next there ∙ are.words l w lt lt8 ∙ sym (ap (λ (x : Word). x.newest) (word_stored_other line word value s l w (inl there)))
    ];
  }
    where
      was : (w : ℕ) → w < 8 → slice_index old.words w ≡ (s.nvm line w).newest
      was w lt8 = let low_enough : line < length nvm = omega (arith, are.size) in
          ap (λ (x : Line). slice_index x.words w) (is ∙ get_or_default nvm line old zero_line low_enough) ∙ are.words line w low lt8

      at_line : (w : ℕ) → w < 8 → slice_index next.words w ≡ ((word_stored line word value s).nvm line w).newest
      at_line w lt8 = elim (cases_eq w word) [
        | inl here ↦ rw here (this ∙ sym (ap (λ (x : Word). x.newest) (word_stored_same line word value s)))
        | inr there ↦ others w there ∙ was w lt8 ∙ sym (ap (λ (x : Word). x.newest) (word_stored_other line word value s line w (inr there)))
      ]

  pub newest_flushed : (line : ℕ) → AreNewest lines nvm (flushed line s)
  newest_flushed line = record {
    size = are.size;
    words = λ l w lt lt8. are.words l w lt lt8 ∙ sym (either (l == line) (s.nvm l w));
  }
    where
      either : (b : Bool) (word : Word) → (cond b (marked word) word).newest ≡ word.newest
      either true word = refl
      either false word = refl

-- A load: a line of eight words is the one that its words make.
eight : (xs : List ℕ) → length xs ≡ 8 → xs ≡ slice_index xs 0 ∷ slice_index xs 1 ∷ slice_index xs 2 ∷ slice_index xs 3 ∷ slice_index xs 4 ∷ slice_index xs 5 ∷ slice_index xs 6 ∷ slice_index xs 7 ∷ []
eight (a ∷ b ∷ c ∷ d ∷ e ∷ f ∷ g ∷ h ∷ []) is = refl
eight xs is = absurd (omega (arith, is))

eight_same : (a b c d e f g h p q r s t u v w : ℕ) → a ≡ p → b ≡ q → c ≡ r → d ≡ s → e ≡ t → f ≡ u → g ≡ v → h ≡ w
    → ◌≡◌ {A = List ℕ} (a ∷ b ∷ c ∷ d ∷ e ∷ f ∷ g ∷ h ∷ []) (p ∷ q ∷ r ∷ s ∷ t ∷ u ∷ v ∷ w ∷ [])
eight_same a b c d e f g h p q r s t u v w i j k l m n o x = cc

pub newest_loaded : (lines : ℕ) (nvm : List Line) (s : State) → AreNewest lines nvm s → (line : ℕ) (found : Line) → line < lines → found ≡ slice_index_or nvm line found → length found.words ≡ 8 → found ≡ line_at s line
newest_loaded lines nvm s are line found low is size =
    let low_enough : line < length nvm = omega (arith, are.size) in
    let words = λ (w : ℕ) (lt : w < 8). ap (λ (x : Line). slice_index x.words w) (is ∙ get_or_default nvm line found zero_line low_enough) ∙ are.words line w low lt in
    λ i. record { words = (eight found.words size ∙ eight_same _ _ _ _ _ _ _ _ _ _ _ _ _ _ _ _ (words 0 (omega arith)) (words 1 (omega arith)) (words 2 (omega arith)) (words 3 (omega arith)) (words 4 (omega arith)) (words 5 (omega arith)) (words 6 (omega arith)) (words 7 (omega arith))) i }

-- A block that is written: its bytes are the current ones.
apart : (block b : ℕ) → b ≢ block → is_at (nat_cmp block) b ≡ false
apart block b other = grind (arith, common_steps)

block_here : (block : ℕ) (bytes : List ℕ) (s : State) → (block_written block bytes s).ssd block ≡ record { bytes = bytes; settled = false }
block_here block bytes s = simp (eq-eqb block block refl)

block_there : (block b : ℕ) (bytes : List ℕ) (s : State) → b ≢ block → (block_written block bytes s).ssd b ≡ s.ssd b
block_there block b bytes s other = simp (ne_eqb b block other)

pub pages_written : (ssd next : BTreeMap ℕ (List ℕ)) (s : State) (block : ℕ) (bytes : List ℕ) → ((b : ℕ) → page_in ssd b ≡ (s.ssd b).bytes) → Updates nat_cmp ssd next block (Some bytes)
    → (b : ℕ) → page_in next b ≡ ((block_written block bytes s).ssd b).bytes
pages_written ssd next s block bytes holds updates = λ b. elim (cases_eq b block) [
  | inl here ↦ rw here (ap (λ (o : Option (List ℕ)). unwrap_or o zero_page) updates.1 ∙ sym (ap (λ (x : Block). x.bytes) (block_here block bytes s)))
  | inr there ↦ ap (λ (o : Option (List ℕ)). unwrap_or o zero_page) (updates.2 b (apart block b there)) ∙ holds b ∙ sym (ap (λ (x : Block). x.bytes) (block_there block b bytes s there))
]
