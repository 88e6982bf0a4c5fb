-- Laws of the words by line and place.
use Rattle.std.proofs.Common.{◌≡◌, ◌≢◌, ◌⊎◌, ℕ, zero, suc, ◌+◌, ◌*◌, ◌≤◌, ◌<◌, Bool, true, false, List, [], ◌∷◌, ◌++◌, map, length, get_or, set, replicate, refl, sym, ap, ◌∙◌, subst, inl, inr, arith, ltb, eqb, cond}
use mathlib.Core.Path.{fun_ext}
use Rattle.std.proofs.lemmas.Bool.{cond-true, cond-false, lt-ltb, le-ltb, cases_lt, cases_eq, eq-eqb, ne_eqb}
use Rattle.std.proofs.lemmas.List.{get_or-set_same, get_or-set_other, length-map, get_or_past, ext_get_or}
use Rattle.nvm_model.specs.declared.line.Line.{Line}
use Rattle.nvm_model.specs.Word.{Word, stored, marked, trimmed, single, oldest}
use Rattle.nvm_model.specs.Memory.{Memory, zeros, with_word, with_marks, fenced_memory}
use Rattle.nvm_model.specs.declared.line.Choice.{Choice}
use Rattle.nvm_model.specs.Choose.{takes_oldest, chosen, chosen_line, image_of}
use Rattle.std.proofs.lemmas.List.FromFn.{map-range_with_len_more}
use Rattle.nvm_model.specs.declared.versions.Versions.{Versions}
use Rattle.nvm_model.specs.Held.{Held, held_of, helds_of, word_in, words_in, touched, blank, AreUpTo}
use Rattle.std.proofs.lemmas.List.Elements.{All-from_get_or}
use Rattle.nvm_model.specs.Progress.{Progress}
use Rattle.nvm_model.specs.Contents.{memory_from, memory_of, lines_of}
use Rattle.nvm_model.specs.declared.state.NvmState.{NvmState}
use Rattle.nvm_model.proofs.HeldLaws.{held_read, word_in-newest, word_in-touched, word_in-blank, word_in-restart, words_in-next}

-- an element of a mapped list, also past its end
get_or-mapped : {X Y : Type 0} (f : X → Y) (xs : List X) (i : ℕ) (d : X) → get_or (map f xs) i (f d) ≡ f (get_or xs i d)
get_or-mapped f [] i d = refl
get_or-mapped f (x ∷ xs) zero d = refl
get_or-mapped f (x ∷ xs) (suc i) d = get_or-mapped f xs i d

-- the word at a place of a line
pub word_seen : (interval : ℕ) (helds : List Held) (l w : ℕ) → w < 8 → memory_from (words_in interval helds) l w ≡ word_in interval (get_or helds (8 * l + w) blank)
word_seen interval helds l w h =
    rw (lt-ltb w 8 h) (ap (λ (d : Word). get_or (words_in interval helds) (8 * l + w) d) (sym (word_in-blank interval)) ∙ get_or-mapped (word_in interval) helds (8 * l + w) blank)

pub word_past : (words : List Word) (l w : ℕ) → 8 ≤ w → memory_from words l w ≡ single 0
word_past words l w h = rw (le-ltb w 8 h) refl

-- two memories are equal where their words are
same_memory : (a b : Memory) → ((l w : ℕ) → a l w ≡ b l w) → a ≡ b
same_memory a b e = fun_ext (λ l. fun_ext (λ w. e l w))

cond_same : {X : Type 0} (b : Bool) (x : X) → cond b x x ≡ x
cond_same true x = refl
cond_same false x = refl

-- new words
zeros_at : (n i : ℕ) → get_or (words_in 0 (replicate n blank)) i (single 0) ≡ single 0
zeros_at zero i = refl
zeros_at (suc n) zero = refl
zeros_at (suc n) (suc i) = zeros_at n i

pub memory_fresh : (n : ℕ) → memory_from (words_in 0 (replicate n blank)) ≡ zeros
memory_fresh n = same_memory _ zeros (λ l w. elim (cases_lt w 8) [
  | inl low ↦ rw (lt-ltb w 8 low) (zeros_at n (8 * l + w))
  | inr high ↦ word_past (words_in 0 (replicate n blank)) l w high
])

-- a store of one word
pub memory_stored : (interval : ℕ) (helds : List Held) (line place value : ℕ) → place < 8 → 8 * line + place < length helds
    → memory_from (words_in interval (set helds (8 * line + place) (touched interval (stored value (word_in interval (get_or helds (8 * line + place) blank))))))
    ≡ with_word line place value (memory_from (words_in interval helds))
memory_stored interval helds line place value small fits = same_memory _ _ at
  where
    new : List Held
    new = set helds (8 * line + place) (touched interval (stored value (word_in interval (get_or helds (8 * line + place) blank))))

    made : Held
    made = touched interval (stored value (word_in interval (get_or helds (8 * line + place) blank)))

    here : (l w : ℕ) → l ≡ line → w ≡ place → 8 * l + w ≡ 8 * line + place
    here l w e f = rw (e, f) refl

    far : (l w : ℕ) → w < 8 → (8 * l + w) ≢ (8 * line + place) → word_in interval (get_or new (8 * l + w) blank) ≡ memory_from (words_in interval helds) l w
    far l w low other = ap (word_in interval) (get_or-set_other helds (8 * line + place) (8 * l + w) made blank other) ∙ sym (word_seen interval helds l w low)

    outside : (l w : ℕ) → 8 ≤ w → with_word line place value (memory_from (words_in interval helds)) l w ≡ single 0
    outside l w high = rw (ne_eqb w place (λ e. omega arith)) (cond_same (eqb l line) (memory_from (words_in interval helds) l w) ∙ word_past (words_in interval helds) l w high)

    at : (l w : ℕ) → memory_from (words_in interval new) l w ≡ with_word line place value (memory_from (words_in interval helds)) l w
    at l w = elim (cases_lt w 8) [
      | inl low ↦ word_seen interval new l w low ∙ elim (cases_eq l line) [
        | inl same_line ↦ elim (cases_eq w place) [
          | inl same_place ↦
              ap (word_in interval) (ap (λ j. get_or new j blank) (here l w same_line same_place) ∙ get_or-set_same helds (8 * line + place) (made) blank fits)
              ∙ word_in-touched interval _
              ∙ sym (rw (eq-eqb l line same_line, eq-eqb w place same_place) (ap (stored value) (word_seen interval helds l w low ∙ ap (λ j. word_in interval (get_or helds j blank)) (here l w same_line same_place))))
          | inr other ↦ far l w low (omega arith) ∙ sym (rw (eq-eqb l line same_line, ne_eqb w place other) refl)
        ]
        | inr other ↦ far l w low (omega arith) ∙ sym (rw (ne_eqb l line other) refl)
      ]
      | inr high ↦ word_past (words_in interval new) l w high ∙ sym (outside l w high)
    ]

pub memory_stored_at : (interval : ℕ) (helds : List Held) (at line place value : ℕ) → place < 8 → at ≡ 8 * line + place → at < length helds
    → memory_from (words_in interval (set helds at (touched interval (stored value (word_in interval (get_or helds at blank))))))
    ≡ with_word line place value (memory_from (words_in interval helds))
memory_stored_at interval helds at line place value small is fits =
    subst (λ i. memory_from (words_in interval (set helds i (touched interval (stored value (word_in interval (get_or helds i blank)))))) ≡ with_word line place value (memory_from (words_in interval helds)))
    (sym is) (memory_stored interval helds line place value small (omega arith))

-- the words of one line, changed
abbrev pub with_changes : (ℕ → Word → Word) → ℕ → Memory → Memory
with_changes change line memory = λ l w. cond (eqb l line) (cond (ltb w 8) (change w (memory l w)) (memory l w)) (memory l w)

pub memory_changed : (interval : ℕ) (change : ℕ → Word → Word) (line : ℕ) (old new : List Held) → Progress interval change (8 * line) 8 old new
    → memory_from (words_in interval new) ≡ with_changes change line (memory_from (words_in interval old))
memory_changed interval change line old new progress = same_memory _ _ at
  where
    far : (l w : ℕ) → w < 8 → l ≢ line → word_in interval (get_or new (8 * l + w) blank) ≡ memory_from (words_in interval old) l w
    far l w low other = ap (word_in interval) (progress.rest (8 * l + w) (elim (cases_lt l line) [ inl below ↦ inl (omega arith) | inr above ↦ inr (omega arith) ]))
        ∙ sym (word_seen interval old l w low)

    here : (l w : ℕ) → w < 8 → l ≡ line → word_in interval (get_or new (8 * l + w) blank) ≡ change w (memory_from (words_in interval old) l w)
    here l w low same = ap (word_in interval) (ap (λ i. get_or new (8 * i + w) blank) same ∙ progress.done w low)
        ∙ word_in-touched interval _
        ∙ ap (change w) (ap (λ i. word_in interval (get_or old (8 * i + w) blank)) (sym same) ∙ sym (word_seen interval old l w low))

    at : (l w : ℕ) → memory_from (words_in interval new) l w ≡ with_changes change line (memory_from (words_in interval old)) l w
    at l w = elim (cases_lt w 8) [
      | inl low ↦ word_seen interval new l w low ∙ elim (cases_eq l line) [
        | inl same ↦ here l w low same ∙ sym (rw (eq-eqb l line same, lt-ltb w 8 low) refl)
        | inr other ↦ far l w low other ∙ sym (rw (ne_eqb l line other) refl)
      ]
      | inr high ↦ word_past (words_in interval new) l w high
          ∙ sym (rw (le-ltb w 8 high) (cond_same (eqb l line) (single 0)))
    ]

pub memory_changed_at : (interval : ℕ) (change : ℕ → Word → Word) (first line : ℕ) (old same new : List Held) → first ≡ 8 * line + 0 → same ≡ old → Progress interval change first 8 same new
    → memory_from (words_in interval new) ≡ with_changes change line (memory_from (words_in interval old))
memory_changed_at interval change first line old same new is e progress =
    let at : first ≡ 8 * line = omega arith in
    memory_changed interval change line old new
    (subst (λ i. Progress interval change i 8 old new) at (subst (λ (hs : List Held). Progress interval change first 8 hs new) e progress))

-- a fence
pub memory_trimmed : (words : List Word) → memory_from (map trimmed words) ≡ fenced_memory (memory_from words)
memory_trimmed words = same_memory _ _ (λ l w. elim (cases_lt w 8) [
  | inl low ↦ rw (lt-ltb w 8 low) (get_or-mapped trimmed words (8 * l + w) (single 0))
  | inr high ↦ rw (le-ltb w 8 high) refl
])

done_at : (old new : List Held) → Progress 0 (λ _k word. trimmed word) 0 (length old) old new → (i : ℕ) → i < length new
    → get_or new i blank ≡ touched 0 (trimmed (word_in 0 (get_or old i blank)))
done_at old new progress i h =
    let none : 0 + i ≡ i = omega arith in
    subst (λ j. get_or new j blank ≡ touched 0 (trimmed (word_in 0 (get_or old j blank)))) none (progress.done i (omega (arith, progress.size)))

-- once all words begin at the first interval again
pub words_restarted : (interval : ℕ) (old new : List Held) → Progress 0 (λ _k word. trimmed word) 0 (length old) old new → words_in 0 new ≡ map trimmed (words_in interval old)
words_restarted interval old new progress =
    ext_get_or (single 0) (words_in 0 new) (map trimmed (words_in interval old))
    (length-map new (word_in 0) ∙ progress.size ∙ sym (length-map (words_in interval old) trimmed ∙ length-map old (word_in interval)))
    (λ i h. at i (rw length-map at h))
  where
    at : (i : ℕ) → i < length new → get_or (words_in 0 new) i (single 0) ≡ get_or (map trimmed (words_in interval old)) i (single 0)
    at i h =
        get_or-mapped (word_in 0) new i blank
        ∙ ap (word_in 0) (done_at old new progress i h)
        ∙ word_in-restart interval (get_or old i blank)
        ∙ ap trimmed (sym (get_or-mapped (word_in interval) old i blank) ∙ ap (λ (d : Word). get_or (words_in interval old) i d) (word_in-blank interval))
        ∙ sym (get_or-mapped trimmed (words_in interval old) i (single 0))

pub memory_restarted : (interval : ℕ) (old new : List Held) → Progress 0 (λ _k word. trimmed word) 0 (length old) old new → memory_from (words_in 0 new) ≡ fenced_memory (memory_from (words_in interval old))
memory_restarted interval old new progress = ap memory_from (words_restarted interval old new progress) ∙ memory_trimmed (words_in interval old)

pub memory_fenced : (interval : ℕ) (helds : List Held) → AreUpTo interval helds → memory_from (words_in (interval + 1) helds) ≡ fenced_memory (memory_from (words_in interval helds))
memory_fenced interval helds h = ap memory_from (words_in-next interval helds h) ∙ memory_trimmed (words_in interval helds)

-- a flush, which marks no word outside the line's eight
pub memory_marked : (words : List Word) (line : ℕ) → with_changes (λ _k word. marked word) line (memory_from words) ≡ with_marks line (memory_from words)
memory_marked words line = same_memory _ _ (λ l w. elim (cases_lt w 8) [
  | inl low ↦ rw (lt-ltb w 8 low) refl
  | inr high ↦ rw (le-ltb w 8 high) refl
])

-- each word is below the first interval where all were restarted
pub AreUpTo-restarted : (old new : List Held) → Progress 0 (λ _k word. trimmed word) 0 (length old) old new → AreUpTo 0 new
AreUpTo-restarted old new progress = All-from_get_or (λ held. held.interval ≤ 0) new blank
    (λ i h. subst (λ (held : Held). held.interval ≤ 0) (sym (done_at old new progress i h)) (omega arith))

-- a word that is read from the fields
pub word_read : (interval : ℕ) (words : List Versions) (i l w : ℕ) (x : Versions) → w < 8 → i ≡ 8 * l + w → i < length words → x ≡ get_or words i x
    → word_in interval (held_of x) ≡ memory_from (words_in interval (helds_of words)) l w
word_read interval words i l w x small place fits read =
    ap (word_in interval) (held_read words i x fits read ∙ ap (λ j. get_or (helds_of words) j blank) place)
    ∙ sym (word_seen interval (helds_of words) l w small)

pub newest_read : (interval : ℕ) (words : List Versions) (i l w : ℕ) (x : Versions) → w < 8 → i ≡ 8 * l + w → i < length words → x ≡ get_or words i x
    → (held_of x).word.newest ≡ (memory_from (words_in interval (helds_of words)) l w).newest
newest_read interval words i l w x small place fits read =
    sym (word_in-newest interval (held_of x)) ∙ ap (λ (word : Word). word.newest) (word_read interval words i l w x small place fits read)

-- what a choice leaves of a word
pub chosen_oldest : (choice : Choice) (i line place : ℕ) (word : Word) → i ≡ 8 * line + place → takes_oldest choice i ≡ true → oldest word ≡ chosen choice line place word
chosen_oldest choice i line place word at test = sym (cond-true (takes_oldest choice (8 * line + place)) (oldest word) word.newest (ap (takes_oldest choice) (sym at) ∙ test))

pub chosen_newest : (choice : Choice) (i line place : ℕ) (word : Word) → i ≡ 8 * line + place → takes_oldest choice i ≡ false → word.newest ≡ chosen choice line place word
chosen_newest choice i line place word at test = sym (cond-false (takes_oldest choice (8 * line + place)) (oldest word) word.newest (ap (takes_oldest choice) (sym at) ∙ test))

-- one line more of an image
pub image_more : (choice : Choice) (memory : Memory) (line : ℕ) (lines : List Line) (left : Line) → lines ≡ image_of choice memory line → left ≡ chosen_line choice memory line
    → lines ++ left ∷ [] ≡ image_of choice memory (line + 1)
image_more choice memory line lines left so_far is = rw (so_far, is) (sym (map-range_with_len_more (chosen_line choice memory) 0 line line (omega arith)))

-- a word outside the size is 0, with one version
pub memory_outside : (state : NvmState) (l w : ℕ) → (lines_of state ≤ l) ⊎ (8 ≤ w) → memory_of state l w ≡ single 0
unfolding memory_of
memory_outside state l w (inr past) = word_past (words_in state.interval (helds_of state.words.items)) l w past
memory_outside state l w (inl past) = elim (cases_lt w 8) [
  | inl low ↦ word_seen state.interval (helds_of state.words.items) l w low
      ∙ ap (word_in state.interval) (get_or_past (helds_of state.words.items) (8 * l + w) blank (rw (length-map state.words.items held_of) (omega (arith, state.size))))
      ∙ word_in-blank state.interval
  | inr high ↦ word_past (words_in state.interval (helds_of state.words.items)) l w high
]
