-- Lines put at the end of the log: at each moment each image has the old log or the log with them last, and nothing
-- else of what recovery sees has changed.
use Rattle.std.proofs.Common.{◌≡◌, ◌≢◌, ◌⊎◌, ℕ, zero, suc, ◌+◌, ◌-◌, ◌<◌, ◌≤◌, List, [], ◌∷◌, ◌++◌, length, refl, sym, ap, ◌∙◌, subst, inl, inr, arith, ltb, get_or}
use Rattle.std.proofs.lemmas.Bool.{cases_Bool, ltb-false, le-ltb, cond-true, cond-false}
use Rattle.nvm_model.specs.declared.line.Line.{Line}
use Rattle.nvm_model.specs.Word.{Word, IsVersion, single, stored, marked, trimmed}
use Rattle.devices.specs.State.{State, Image, after_all, Amid, Leaves, current, line_stored, word_stored, flushed, fenced}
use Rattle.nvm_model.specs.Memory.{line_of}
use Rattle.devices.specs.State.Call.{fence}
use Rattle.devices.specs.Growth.{Grows, Reaches, AreWithin, no_write}
use Rattle.flat_store_meaning.specs.Layout.{Sizes, ring_line, ring_lines, ring_start, frame_line}
use Rattle.flat_store_meaning.specs.Format.{word_in, zero_line}
use Rattle.flat_store_meaning.specs.Recovered.{Super, super_of, log_line, from}
use Rattle.flat_store_meaning.specs.InOrder.{IsNamed}
use Rattle.flat_store_meaning.specs.InOrder.IsNamed.{magic_word, tables, rows, writes, frames, log_blocks, start, drained, tail}
use Rattle.flat_store_meaning.specs.View.{Alike, Extends}
use Rattle.flat_store_meaning.specs.Put.{put_calls, tail_calls, append_calls, IsLine, CanPut, IsFree}
use Rattle.nvm_model.proofs.WordLaws.{single_version}
use Rattle.devices.proofs.StateLaws.{line_stored_same, line_stored_other, word_stored_same, word_stored_other, flushed_same, flushed_other}
use Rattle.devices.proofs.GrowthLaws.{Amid-grows, Amid_append, Amid_end, after_all_append, Grows-leaves}
use Rattle.flat_store_meaning.proofs.LayoutLaws.{ring_apart}
use Rattle.flat_store_meaning.proofs.RecoveredLaws.{line_of-same, from-same, from-append}

-- the log and the homes of an image, by its superblock
abbrev pub lines_by : Super → Image → List Line
lines_by sup i = from (log_line sup.sizes sup.drained i) sup.start (sup.tail - sup.start)

abbrev pub home_by : Super → Image → ℕ → ℕ → ℕ → ℕ
home_by sup i p l w = i.nvm (frame_line sup.sizes p l) w

-- a log line is the same where its place is
pub log_line-same : (g : Sizes) (d : ℕ) (i j : Image) (o : ℕ) → (d ≤ o → (w : ℕ) → w < 8 → i.nvm (ring_line g o) w ≡ j.nvm (ring_line g o) w)
    → ((b : ℕ) → i.ssd b ≡ j.ssd b) → log_line g d i o ≡ log_line g d j o
log_line-same g d i j o nvm ssd = elim (cases_Bool (ltb o d)) [
  | inl below ↦ cond-true (ltb o d) _ _ below ∙ rw (ssd _) (sym (cond-true (ltb o d) _ _ below))
  | inr above ↦ cond-false (ltb o d) _ _ above ∙ line_of-same _ _ (nvm (ltb-false o d above)) ∙ sym (cond-false (ltb o d) _ _ above)
]

pub log_line-in_nvm : (g : Sizes) (d : ℕ) (i : Image) (o : ℕ) → d ≤ o → log_line g d i o ≡ line_of (i.nvm (ring_line g o))
log_line-in_nvm g d i o h = cond-false (ltb o d) _ _ (le-ltb o d h)

-- an image of a durable superblock has just that one
pub super_same : (i j : Image) → ((l w : ℕ) → IsNamed l w → i.nvm l w ≡ j.nvm l w) → super_of i ≡ super_of j
super_same i j h =
    let a : i.nvm 0 0 ≡ j.nvm 0 0 = h 0 0 magic_word in
    let b : i.nvm 0 1 ≡ j.nvm 0 1 = h 0 1 tables in
    let c : i.nvm 0 2 ≡ j.nvm 0 2 = h 0 2 rows in
    let d : i.nvm 0 3 ≡ j.nvm 0 3 = h 0 3 writes in
    let e : i.nvm 0 4 ≡ j.nvm 0 4 = h 0 4 frames in
    let f : i.nvm 0 5 ≡ j.nvm 0 5 = h 0 5 log_blocks in
    let g : i.nvm 1 0 ≡ j.nvm 1 0 = h 1 0 start in
    let l : i.nvm 3 0 ≡ j.nvm 3 0 = h 3 0 tail in
    cc

-- a named line is one of the first four
pub named_low : (l w : ℕ) → IsNamed l w → l < 4
named_low l w magic_word = omega arith
named_low l w tables = omega arith
named_low l w rows = omega arith
named_low l w writes = omega arith
named_low l w frames = omega arith
named_low l w log_blocks = omega arith
named_low l w start = omega arith
named_low l w drained = omega arith
named_low l w tail = omega arith

-- one of two numbers
choose : {A B : Type 0} → A ⊎ B → ℕ → ℕ → ℕ
choose (inl a) x y = x
choose (inr b) x y = y

choose_first : {A B : Type 0} (r : A ⊎ B) (x y : ℕ) → (B → ⊥) → choose r x y ≡ x
unfolding choose
choose_first (inl a) x y h = refl
choose_first (inr b) x y h = absurd (h b)

choose_version : {B : Type 0} (word : Word) (x : ℕ) (r : IsVersion word x ⊎ B) → IsVersion word (choose r x word.newest)
unfolding choose
choose_version word x (inl a) = a
choose_version word x (inr b) = inl refl

-- An image that stores reach, with the newest version in place of what was stored: a crash leaves it without them.
pub without : (stores : ℕ → ℕ → ℕ → Type 0) (s : State) (i : Image) → Reaches stores no_write s i → Image
without stores s i reaches = record { nvm = λ l w. choose (reaches.words l w) (i.nvm l w) (s.nvm l w).newest; ssd = i.ssd }

pub without_leaves : (stores : ℕ → ℕ → ℕ → Type 0) (s : State) (i : Image) (reaches : Reaches stores no_write s i) → Leaves s (without stores s i reaches)
unfolding without
without_leaves stores s i reaches = record {
  words = λ l w. choose_version (s.nvm l w) (i.nvm l w) (reaches.words l w);
  blocks = λ b. elim (reaches.blocks b) [ inl written ↦ absurd written | inr same ↦ same ];
}

pub without_same : (stores : ℕ → ℕ → ℕ → Type 0) (s : State) (i : Image) (reaches : Reaches stores no_write s i) (l w : ℕ)
    → (stores l w (i.nvm l w) → ⊥) → (without stores s i reaches).nvm l w ≡ i.nvm l w
unfolding without
without_same stores s i reaches l w h = choose_first (reaches.words l w) (i.nvm l w) (s.nvm l w).newest h

pub without_or : (stores : ℕ → ℕ → ℕ → Type 0) (s : State) (i : Image) (reaches : Reaches stores no_write s i) (l w : ℕ)
    → ((without stores s i reaches).nvm l w ≡ i.nvm l w) ⊎ stores l w (i.nvm l w)
unfolding without choose
without_or stores s i reaches l w = either (reaches.words l w)
  where
    either : (r : IsVersion (s.nvm l w) (i.nvm l w) ⊎ stores l w (i.nvm l w)) → (choose r (i.nvm l w) (s.nvm l w).newest ≡ i.nvm l w) ⊎ stores l w (i.nvm l w)
    either (inl v) = inl refl
    either (inr st) = inr st

pub without_blocks : (stores : ℕ → ℕ → ℕ → Type 0) (s : State) (i : Image) (reaches : Reaches stores no_write s i) (b : ℕ) → (without stores s i reaches).ssd b ≡ i.ssd b
unfolding without
without_blocks stores s i reaches b = refl

-- what is put at the end: the stores of free lines
abbrev pub put_stores : Sizes → ℕ → ℕ → ℕ → ℕ → ℕ → Type 0
put_stores g t n l w v = IsFree g t n l

pub put_within : (g : Sizes) (t n u : ℕ) (xs : List Line) → t ≤ u → u + length xs ≤ t + n → AreWithin (put_stores g t n) no_write (put_calls g u xs ++ fence ∷ [])
put_within g t n u [] low high = (tt, tt)
put_within g t n u (x ∷ xs) low high = ((λ w less. (u, low, omega arith, refl)), (tt, put_within g t n (u + 1) xs (omega arith) (omega arith)))

-- a put leaves all other lines
pub put_other : (g : Sizes) (xs : List Line) (u : ℕ) (s : State) (l w : ℕ) → (IsFree g u (length xs) l → ⊥) → (after_all (put_calls g u xs) s).nvm l w ≡ s.nvm l w
put_other g [] u s l w h = refl
put_other g (x ∷ xs) u s l w h =
    let here : l ≢ ring_line g u = (λ e. h (u, omega arith, omega arith, e)) in
    put_other g xs (u + 1) (flushed (ring_line g u) (line_stored (ring_line g u) x s)) l w (λ free. h (free.0, omega arith, omega arith, free.3))
    ∙ flushed_other (ring_line g u) (line_stored (ring_line g u) x s) l w here ∙ line_stored_other (ring_line g u) x s l w here

-- a word whose newest version is this, with the mark on it
pub record IsFlushed (word : Word) (value : ℕ) : Type 0 where
  pub newest : word.newest ≡ value
  pub kept : word.kept ≡ 0

-- a put leaves its lines flushed
put_made : (g : Sizes) (d : ℕ) (xs : List Line) (u : ℕ) (s : State) (k o w : ℕ) → o ≡ u + k → k < length xs → d ≤ u → u + length xs ≤ d + ring_lines g → w < 8
    → IsFlushed ((after_all (put_calls g u xs) s).nvm (ring_line g o) w) (word_in (get_or xs k zero_line) w)
put_made g d [] u s k o w e less low high hw = absurd (omega arith)
put_made g d (x ∷ xs) u s zero o w e less low high hw =
    let same : o ≡ u = omega arith in
    let apart : IsFree g (u + 1) (length xs) (ring_line g o) → ⊥ = (λ free. let clash : o ≡ free.0 = ring_apart g d o free.0 (omega arith) (omega arith) (omega arith) (omega arith) free.3 in omega arith) in
    let left : (after_all (put_calls g u (x ∷ xs)) s).nvm (ring_line g o) w ≡ marked (stored (word_in x w) (s.nvm (ring_line g u) w)) =
    put_other g xs (u + 1) (flushed (ring_line g u) (line_stored (ring_line g u) x s)) (ring_line g o) w apart
    ∙ ap (λ n. (flushed (ring_line g u) (line_stored (ring_line g u) x s)).nvm (ring_line g n) w) same
    ∙ flushed_same (ring_line g u) (line_stored (ring_line g u) x s) w ∙ ap marked (line_stored_same (ring_line g u) x s w hw) in
    record { newest = ap (λ (word : Word). word.newest) left; kept = ap (λ (word : Word). word.kept) left }
put_made g d (x ∷ xs) u s (suc k) o w e less low high hw =
    put_made g d xs (u + 1) (flushed (ring_line g u) (line_stored (ring_line g u) x s)) k o w (omega arith) (omega arith) (omega arith) (omega arith) hw

-- a fence leaves one version of a flushed word
pub fenced_flushed : (s : State) (l w v : ℕ) → IsFlushed (s.nvm l w) v → (fenced s).nvm l w ≡ single v
fenced_flushed s l w v h = made (s.nvm l w) h
  where
    made : (word : Word) → IsFlushed word v → trimmed word ≡ single v
    made word flushed = rw (flushed.newest, flushed.kept)

-- images with the same superblock, whose log lines and frames agree, are alike
alike_by : (sup : Super) (i j : Image) → super_of i ≡ sup → super_of j ≡ sup → lines_by sup i ≡ lines_by sup j
    → ((p l w : ℕ) → l < 64 → w < 8 → i.nvm (frame_line sup.sizes p l) w ≡ j.nvm (frame_line sup.sizes p l) w) → Alike i j
alike_by sup i j e_i e_j log in_frames = record {
  super_words = e_i ∙ sym e_j;
  log = ap (λ (x : Super). lines_by x i) e_i ∙ log ∙ sym (ap (λ (x : Super). lines_by x j) e_j);
  homes = λ p l w hp hl hw. ap (λ (x : Super). home_by x i p l w) e_i
      ∙ in_frames p l w hl hw
      ∙ sym (ap (λ (x : Super). home_by x j p l w) e_j);
}

-- what stands from a place on, where it is known
from_is : (f : ℕ → Line) (xs : List Line) (u : ℕ) → ((k : ℕ) → k < length xs → f (u + k) ≡ get_or xs k zero_line) → from f u (length xs) ≡ xs
from_is f [] u h = refl
from_is f (x ∷ xs) u h =
    let first : f u ≡ x = ap f (omega arith) ∙ h 0 (omega arith) in
    let rest : from f (u + 1) (length xs) ≡ xs = from_is f xs (u + 1) (λ k less. ap f (omega arith) ∙ h (suc k) (omega arith)) in
    cc

-- the image of the durable superblock
pub durable_super : (s : State) (n : ℕ) → CanPut s n → (j : Image) → Leaves s j → super_of j ≡ super_of (current s)
durable_super s n can j leaves = super_same j (current s) (λ l w named. single_version (s.nvm l w) (j.nvm l w) (can.superblock l w named) (leaves.words l w))

-- a word of one version
pub single_at : (word : Word) (value v : ℕ) → word ≡ single value → IsVersion word v → v ≡ value
single_at word value v e h = elim (subst (λ (x : Word). IsVersion x v) e h) [ inl same ↦ same | inr none ↦ absurd none ]

-- a superblock that differs in its tail alone
pub moved_tail : (i j : Image) (n : ℕ) → ((l w : ℕ) → IsNamed l w → (l ≢ 3) ⊎ (w ≢ 0) → i.nvm l w ≡ j.nvm l w) → i.nvm 3 0 ≡ n → super_of i ≡ record (super_of j) { tail = n }
moved_tail i j n h at_tail =
    let a : i.nvm 0 0 ≡ j.nvm 0 0 = h 0 0 magic_word (inl (λ e. omega arith)) in
    let b : i.nvm 0 1 ≡ j.nvm 0 1 = h 0 1 tables (inl (λ e. omega arith)) in
    let c : i.nvm 0 2 ≡ j.nvm 0 2 = h 0 2 rows (inl (λ e. omega arith)) in
    let d : i.nvm 0 3 ≡ j.nvm 0 3 = h 0 3 writes (inl (λ e. omega arith)) in
    let e : i.nvm 0 4 ≡ j.nvm 0 4 = h 0 4 frames (inl (λ e. omega arith)) in
    let f : i.nvm 0 5 ≡ j.nvm 0 5 = h 0 5 log_blocks (inl (λ e. omega arith)) in
    let g : i.nvm 1 0 ≡ j.nvm 1 0 = h 1 0 start (inl (λ e. omega arith)) in
    cc

module _ (s : State) (xs : List Line) (can : CanPut s (length xs)) where
  abbrev pub sup : Super
  sup = super_of (current s)

  pub free_high : (l : ℕ) → IsFree sup.sizes sup.tail (length xs) l → (ring_start sup.sizes ≤ l) × (l < ring_start sup.sizes + ring_lines sup.sizes)
  free_high l free = let positive : 0 < sup.sizes.log_blocks = can.ring in (omega arith, omega arith)

  -- stores of free lines change nothing that recovery sees
  pub put_unseen : (i : Image) → Reaches (put_stores sup.sizes sup.tail (length xs)) no_write s i → (j : Image) × Leaves s j × Alike i j
  put_unseen i reaches =
      let stores : ℕ → ℕ → ℕ → Type 0 = put_stores sup.sizes sup.tail (length xs) in
      let j : Image = without stores s i reaches in
      let left : Leaves s j = without_leaves stores s i reaches in
      let same : (l w : ℕ) → (IsFree sup.sizes sup.tail (length xs) l → ⊥) → i.nvm l w ≡ j.nvm l w = (λ l w h. sym (without_same stores s i reaches l w h)) in
      let e_j : super_of j ≡ sup = durable_super s (length xs) can j left in
      let low : (l : ℕ) → l < ring_start sup.sizes → IsFree sup.sizes sup.tail (length xs) l → ⊥ = (λ l h free. let high : ring_start sup.sizes ≤ l = (free_high l free).0 in omega arith) in
      let e_i : super_of i ≡ sup = super_same i j (λ l w named. same l w (low l (let four : l < 4 = named_low l w named in omega arith))) ∙ e_j in (
        j,
        left,
        alike_by sup i j e_i e_j
            (from-same _ _ sup.start (sup.tail - sup.start) (λ o above below. log_line-same sup.sizes sup.drained i j o
            (λ drained w hw. same (ring_line sup.sizes o) w (λ free.
            let started : sup.start ≤ sup.tail = can.started in
            let room : sup.tail + length xs ≤ sup.drained + ring_lines sup.sizes = can.room in
            let drained_below : sup.drained ≤ sup.tail = can.drained in
            let clash : o ≡ free.0 = ring_apart sup.sizes sup.drained o free.0 drained (omega arith) (omega arith) (omega arith) free.3 in omega arith))
            (λ b. sym (without_blocks stores s i reaches b))))
            (λ k l w hl hw. same (frame_line sup.sizes k l) w (λ free. let high : frame_line sup.sizes k l < ring_start sup.sizes + ring_lines sup.sizes = (free_high (frame_line sup.sizes k l) free).1 in omega arith)),
      )

  -- the state when the lines are stored and fenced
  abbrev pub put_state : State
  put_state = after_all (put_calls sup.sizes sup.tail xs ++ fence ∷ []) s

  pub put_grows : Grows (put_stores sup.sizes sup.tail (length xs)) no_write s put_state
  put_grows = Amid-grows (put_stores sup.sizes sup.tail (length xs)) no_write (put_calls sup.sizes sup.tail xs ++ fence ∷ []) s put_state
      (put_within sup.sizes sup.tail (length xs) sup.tail xs (omega arith) (omega arith)) (Amid_end (put_calls sup.sizes sup.tail xs ++ fence ∷ []) s)

  put_state_is : put_state ≡ fenced (after_all (put_calls sup.sizes sup.tail xs) s)
  put_state_is = after_all_append (put_calls sup.sizes sup.tail xs) (fence ∷ []) s

  -- the stored lines have one version
  pub put_single : (k w : ℕ) → k < length xs → w < 8 → put_state.nvm (ring_line sup.sizes (sup.tail + k)) w ≡ single (word_in (get_or xs k zero_line) w)
  put_single k w less hw =
      ap (λ (x : State). x.nvm (ring_line sup.sizes (sup.tail + k)) w) put_state_is
      ∙ fenced_flushed (after_all (put_calls sup.sizes sup.tail xs) s) (ring_line sup.sizes (sup.tail + k)) w (word_in (get_or xs k zero_line) w)
      (put_made sup.sizes sup.drained xs sup.tail s k (sup.tail + k) w refl less can.drained can.room hw)

  -- the tail still has its old version alone
  pub put_tail : (v : ℕ) → IsVersion (put_state.nvm 3 0) v → v ≡ sup.tail
  put_tail v h = elim (put_grows.words 3 0 v h) [
    | inl old ↦ single_version (s.nvm 3 0) v (can.superblock 3 0 tail) old
    | inr free ↦ absurd (let high : ring_start sup.sizes ≤ 3 = (free_high 3 free).0 in omega arith)
  ]

  -- what the calls behind the fence store: the new tail
  abbrev pub tail_stores : ℕ → ℕ → ℕ → Type 0
  tail_stores l w v = (l ≡ 3) × (w ≡ 0) × (v ≡ sup.tail + length xs)

  -- where the image has the new tail its log has the lines last
  pub put_seen : (i : Image) → Reaches tail_stores no_write put_state i → i.nvm 3 0 ≡ sup.tail + length xs
      → ((k : ℕ) → k < length xs → IsLine (get_or xs k zero_line)) → (j : Image) × Leaves s j × Extends i j xs
  put_seen i reaches at_tail are_lines =
      let j₁ : Image = without tail_stores put_state i reaches in
      let left₁ : Leaves put_state j₁ = without_leaves tail_stores put_state i reaches in
      let old : (j : Image) × Leaves s j × Alike j₁ j = put_unseen j₁ (Grows-leaves (put_stores sup.sizes sup.tail (length xs)) no_write s put_state j₁ put_grows left₁) in
      let j : Image = old.0 in
      let alike : Alike j₁ j = old.2 in
      let same : (l w : ℕ) → (l ≢ 3) ⊎ (w ≢ 0) → i.nvm l w ≡ j₁.nvm l w = (λ l w h. sym (without_same tail_stores put_state i reaches l w (λ st. elim h [ inl n ↦ n st.0 | inr n ↦ n st.1 ]))) in
      let e_j : super_of j ≡ sup = durable_super s (length xs) can j old.1 in
      let e₁ : super_of j₁ ≡ sup = alike.super_words ∙ e_j in
      let e_i : super_of i ≡ record sup { tail = sup.tail + length xs } = moved_tail i j₁ (sup.tail + length xs) (λ l w named h. same l w h) at_tail ∙ ap (λ (x : Super). record x { tail = sup.tail + length xs }) e₁ in
      let started : sup.start ≤ sup.tail = can.started in
      let drained_below : sup.drained ≤ sup.tail = can.drained in
      let lines : (n : ℕ) → List Line = (λ n. from (log_line sup.sizes sup.drained i) sup.start n) in (
        j,
        old.1,
        record {
          super_words = e_i ∙ sym (ap (λ (x : Super). record x { tail = x.tail + length xs }) e_j);
          log = ap (λ (x : Super). from (log_line x.sizes x.drained i) x.start (x.tail - x.start)) e_i
              ∙ ap lines (omega arith)
              ∙ from-append (log_line sup.sizes sup.drained i) sup.start (sup.tail - sup.start) (length xs)
              ∙ ap (λ n. lines (sup.tail - sup.start) ++ from (log_line sup.sizes sup.drained i) n (length xs)) (omega arith)
              ∙ ap (λ ys. lines (sup.tail - sup.start) ++ ys) (from_is (log_line sup.sizes sup.drained i) xs sup.tail (λ k less.
              log_line-in_nvm sup.sizes sup.drained i (sup.tail + k) (omega arith)
              ∙ line_of-same _ _ (λ w hw.
              same (ring_line sup.sizes (sup.tail + k)) w (inl (λ three. omega arith))
              ∙ single_at (put_state.nvm (ring_line sup.sizes (sup.tail + k)) w) (word_in (get_or xs k zero_line) w) _ (put_single k w less hw) (left₁.words (ring_line sup.sizes (sup.tail + k)) w))
              ∙ are_lines k less))
              ∙ ap (λ ys. ys ++ xs) (from-same _ _ sup.start (sup.tail - sup.start) (λ o above below. log_line-same sup.sizes sup.drained i j₁ o
              (λ drained w hw. same (ring_line sup.sizes o) w (inl (λ three. omega arith)))
              (λ b. sym (without_blocks tail_stores put_state i reaches b)))
              ∙ sym (ap (λ (x : Super). lines_by x j₁) e₁) ∙ alike.log);
          homes = λ p l w hp hl hw.
              ap (λ (x : Super). home_by x i p l w) e_i
              ∙ same (frame_line sup.sizes p l) w (inl (λ three. omega arith))
              ∙ sym (ap (λ (x : Super). home_by x j₁ p l w) e₁)
              ∙ alike.homes p l w hp hl hw;
        },
      )

  tail_within : AreWithin tail_stores no_write (tail_calls (sup.tail + length xs))
  tail_within = ((refl, refl, refl), (tt, (tt, tt)))

  -- At each moment either lines were put behind the log, or all of them stand and the tail may be new.
  pub put_moments : (mid : State) → Amid s (append_calls sup.sizes sup.tail xs) mid
      → Grows (put_stores sup.sizes sup.tail (length xs)) no_write s mid ⊎ Grows tail_stores no_write put_state mid
  put_moments mid amid = elim (Amid_append (put_calls sup.sizes sup.tail xs ++ fence ∷ []) (tail_calls (sup.tail + length xs)) s mid amid) [
    | inl first ↦ inl (Amid-grows (put_stores sup.sizes sup.tail (length xs)) no_write (put_calls sup.sizes sup.tail xs ++ fence ∷ []) s mid
        (put_within sup.sizes sup.tail (length xs) sup.tail xs (omega arith) (omega arith)) first)
    | inr second ↦ inr (Amid-grows tail_stores no_write (tail_calls (sup.tail + length xs)) put_state mid tail_within second)
  ]

  -- Once the lines stand, each image has the old log, or the log with them last.
  pub put_behind : ((k : ℕ) → k < length xs → IsLine (get_or xs k zero_line)) → (mid : State) → Grows tail_stores no_write put_state mid
      → (i : Image) → Leaves mid i → (j : Image) × Leaves s j × (Alike i j ⊎ Extends i j xs)
  put_behind are_lines mid grows i leaves =
      let reaches : Reaches tail_stores no_write put_state i = Grows-leaves tail_stores no_write put_state mid i grows leaves in
      elim (reaches.words 3 0) [
        | inl version ↦
            (let left : Leaves put_state i = record {
              words = λ l w. elim (reaches.words l w) [ inl v ↦ v | inr st ↦ rw (st.0, st.1) version ];
              blocks = λ b. elim (reaches.blocks b) [ inl written ↦ absurd written | inr same ↦ same ];
            } in
            let old : (j : Image) × Leaves s j × Alike i j = put_unseen i (Grows-leaves (put_stores sup.sizes sup.tail (length xs)) no_write s put_state i put_grows left) in
            (old.0, old.1, inl old.2))
        | inr moved ↦
            (let new : (j : Image) × Leaves s j × Extends i j xs = put_seen i reaches moved.2 are_lines in
            (new.0, new.1, inr new.2))
      ]

  -- At each moment each image has the old log, or the log with the lines last.
  pub put_at_end : ((k : ℕ) → k < length xs → IsLine (get_or xs k zero_line)) → (mid : State) → Amid s (append_calls sup.sizes sup.tail xs) mid
      → (i : Image) → Leaves mid i → (j : Image) × Leaves s j × (Alike i j ⊎ Extends i j xs)
  put_at_end are_lines mid amid i leaves = elim (put_moments mid amid) [
    | inl grows ↦
        (let old : (j : Image) × Leaves s j × Alike i j = put_unseen i (Grows-leaves (put_stores sup.sizes sup.tail (length xs)) no_write s mid i grows leaves) in
        (old.0, old.1, inl old.2))
    | inr grows ↦ put_behind are_lines mid grows i leaves
  ]

  -- When the calls are done each image has the log with the lines last.
  pub put_done : ((k : ℕ) → k < length xs → IsLine (get_or xs k zero_line)) → (i : Image) → Leaves (after_all (append_calls sup.sizes sup.tail xs) s) i
      → (j : Image) × Leaves s j × Extends i j xs
  put_done are_lines i leaves =
      let end : State = after_all (tail_calls (sup.tail + length xs)) put_state in
      let end_is : after_all (append_calls sup.sizes sup.tail xs) s ≡ end = after_all_append (put_calls sup.sizes sup.tail xs ++ fence ∷ []) (tail_calls (sup.tail + length xs)) s in
      let leaves' : Leaves end i = subst (λ (x : State). Leaves x i) end_is leaves in
      let grows : Grows tail_stores no_write put_state end =
      Amid-grows tail_stores no_write (tail_calls (sup.tail + length xs)) put_state end tail_within (Amid_end (tail_calls (sup.tail + length xs)) put_state) in
      let gate : end.nvm 3 0 ≡ single (sup.tail + length xs) =
      ap trimmed (flushed_same 3 (word_stored 3 0 (sup.tail + length xs) put_state) 0 ∙ ap marked (word_stored_same 3 0 (sup.tail + length xs) put_state)) in
      put_seen i (Grows-leaves tail_stores no_write put_state end i grows leaves') (single_at (end.nvm 3 0) (sup.tail + length xs) _ gate (leaves'.words 3 0)) are_lines

  -- When the calls are done the tail has one version.
  pub put_gate : (after_all (append_calls sup.sizes sup.tail xs) s).nvm 3 0 ≡ single (sup.tail + length xs)
  put_gate =
      ap (λ (x : State). x.nvm 3 0) (after_all_append (put_calls sup.sizes sup.tail xs ++ fence ∷ []) (tail_calls (sup.tail + length xs)) s)
      ∙ ap trimmed (flushed_same 3 (word_stored 3 0 (sup.tail + length xs) put_state) 0 ∙ ap marked (word_stored_same 3 0 (sup.tail + length xs) put_state))

  -- The newest word of another line stays.
  pub put_newest : (l w : ℕ) → l ≢ 3 → (IsFree sup.sizes sup.tail (length xs) l → ⊥) → ((after_all (append_calls sup.sizes sup.tail xs) s).nvm l w).newest ≡ (s.nvm l w).newest
  put_newest l w other free =
      ap (λ (x : State). (x.nvm l w).newest) (after_all_append (put_calls sup.sizes sup.tail xs ++ fence ∷ []) (tail_calls (sup.tail + length xs)) s)
      ∙ ap (λ (x : Word). x.newest) (flushed_other 3 (word_stored 3 0 (sup.tail + length xs) put_state) l w other ∙ word_stored_other 3 0 (sup.tail + length xs) put_state l w (inl other))
      ∙ ap (λ (x : State). (x.nvm l w).newest) put_state_is
      ∙ ap (λ (x : Word). x.newest) (put_other sup.sizes xs sup.tail s l w free)

  -- A word of another line: two fences, and nothing else.
  pub put_word : (l w : ℕ) → l ≢ 3 → (IsFree sup.sizes sup.tail (length xs) l → ⊥) → (after_all (append_calls sup.sizes sup.tail xs) s).nvm l w ≡ trimmed (trimmed (s.nvm l w))
  put_word l w other free =
      ap (λ (x : State). x.nvm l w) (after_all_append (put_calls sup.sizes sup.tail xs ++ fence ∷ []) (tail_calls (sup.tail + length xs)) s)
      ∙ ap trimmed (flushed_other 3 (word_stored 3 0 (sup.tail + length xs) put_state) l w other ∙ word_stored_other 3 0 (sup.tail + length xs) put_state l w (inl other))
      ∙ ap (λ (x : State). trimmed (x.nvm l w)) put_state_is
      ∙ ap (λ (x : Word). trimmed (trimmed x)) (put_other sup.sizes xs sup.tail s l w free)
