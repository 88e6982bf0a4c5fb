-- Laws of one state: what a store, a flush and a fence leave of a line, and what a crash leaves on the way.
use Rattle.std.proofs.Common.{◌≡◌, ◌≢◌, ◌⊎◌, ℕ, ◌<◌, true, false, refl, ap, ◌∙◌, inl, inr, cond, eqb, slice_index}
use Rattle.std.proofs.lemmas.Bool.{eq-eqb, ne_eqb, lt-ltb}
use Rattle.nvm_model.specs.declared.line.Line.{Line}
use Rattle.nvm_model.specs.Word.{stored, marked, trimmed, single}
use Rattle.devices.specs.State.{State, line_stored, word_stored, flushed, fenced}

-- what a call leaves at one line, and at the others
pub line_stored_same : (line : ℕ) (value : Line) (s : State) (w : ℕ) → w < 8 → (line_stored line value s).nvm line w ≡ stored (slice_index value.words w) (s.nvm line w)
line_stored_same line value s w h = simp (eq-eqb line line refl, lt-ltb w 8 h)

pub line_stored_other : (line : ℕ) (value : Line) (s : State) (l w : ℕ) → l ≢ line → (line_stored line value s).nvm l w ≡ s.nvm l w
line_stored_other line value s l w h = simp (ne_eqb l line h)

pub word_stored_same : (line word value : ℕ) (s : State) → (word_stored line word value s).nvm line word ≡ stored value (s.nvm line word)
word_stored_same line word value s = simp (eq-eqb line line refl, eq-eqb word word refl)

pub word_stored_other : (line word value : ℕ) (s : State) (l w : ℕ) → (l ≢ line) ⊎ (w ≢ word) → (word_stored line word value s).nvm l w ≡ s.nvm l w
word_stored_other line word value s l w (inl h) = simp (ne_eqb l line h)
word_stored_other line word value s l w (inr h) = elim (eqb l line) as (λ b. cond b (cond (eqb w word) (stored value (s.nvm l w)) (s.nvm l w)) (s.nvm l w) ≡ s.nvm l w) [ true ↦ simp (ne_eqb w word h) | false ↦ refl ]

pub flushed_same : (line : ℕ) (s : State) (w : ℕ) → (flushed line s).nvm line w ≡ marked (s.nvm line w)
flushed_same line s w = simp (eq-eqb line line refl)

pub flushed_other : (line : ℕ) (s : State) (l w : ℕ) → l ≢ line → (flushed line s).nvm l w ≡ s.nvm l w
flushed_other line s l w h = simp (ne_eqb l line h)

-- a line that is stored, flushed and fenced has one version of each of its words
pub line_made : (line : ℕ) (value : Line) (s : State) (w : ℕ) → w < 8 → (fenced (flushed line (line_stored line value s))).nvm line w ≡ single (slice_index value.words w)
line_made line value s w h = ap trimmed (flushed_same line (line_stored line value s) w ∙ ap marked (line_stored_same line value s w h))
