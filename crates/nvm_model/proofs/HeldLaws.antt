-- Laws of a list of words by their last touches.
use Rattle.std.proofs.Common.{◌≡◌, ℕ, ◌+◌, ◌≤◌, ◌<◌, Bool, true, false, List, [], ◌∷◌, map, length, get_or, set, refl, sym, ap, ◌∙◌, subst, inl, inr, arith, ltb, IsTrue, Result, Ok, Err}
use Rattle.std.specs.Prelude.{OnOk, OnErr}
use Rattle.std.proofs.lemmas.Bool.{lt-ltb, le-ltb, cases_eq}
use Rattle.std.proofs.lemmas.List.{get_or-map, length-map, length-set, get_or-set_same, get_or-set_other, map-set, set-get_or}
use Rattle.std.proofs.lemmas.List.Elements.{All-set, All-head, All-tail}
use Rattle.nvm_model.specs.declared.versions.Versions.{Versions}
use Rattle.nvm_model.specs.Word.{Word, trimmed, single}
use Rattle.nvm_model.specs.Held.{Held, held_of, helds_of, word_in, words_in, trimmed_if, touched, blank, AreUpTo, has_room, rooms_of}
use Rattle.nvm_model.specs.Progress.{Progress, HaveRoom, Reserved, Storing, Changing}
use Rattle.nvm_model.proofs.WordLaws.{trimmed-trimmed}

-- what both outcomes give
pub on_both : {T E P Q X : Type 0} (r : Result T E) → OnOk r P → OnErr r Q → (P → X) → (Q → X) → X
on_both (Ok v) p q f g = f p
on_both (Err e) p q f g = g q

pub on_err : {T E P : Type 0} (r : Result T E) → P → OnErr r P
on_err (Ok v) p = tt
on_err (Err e) p = p

-- a word in the interval of its touch
pub word_in-touched : (interval : ℕ) (word : Word) → word_in interval (touched interval word) ≡ word
word_in-touched interval word = rw (le-ltb interval interval (omega arith)) refl

trimmed_if-single : (b : Bool) → trimmed_if b (single 0) ≡ single 0
trimmed_if-single true = refl
trimmed_if-single false = refl

pub word_in-blank : (interval : ℕ) → word_in interval blank ≡ single 0
word_in-blank interval = trimmed_if-single (ltb 0 interval)

-- a fence leaves the last version
trimmed_if-newest : (b : Bool) (word : Word) → (trimmed_if b word).newest ≡ word.newest
trimmed_if-newest true word = refl
trimmed_if-newest false word = refl

pub word_in-newest : (interval : ℕ) (held : Held) → (word_in interval held).newest ≡ held.word.newest
word_in-newest interval held = trimmed_if-newest (ltb held.interval interval) held.word

-- one fence more
trimmed-trimmed_if : (b : Bool) (word : Word) → trimmed (trimmed_if b word) ≡ trimmed word
trimmed-trimmed_if true word = trimmed-trimmed word
trimmed-trimmed_if false word = refl

pub word_in-next : (interval : ℕ) (held : Held) → held.interval ≤ interval → word_in (interval + 1) held ≡ trimmed (word_in interval held)
word_in-next interval held h =
    ap (λ b. trimmed_if b held.word) (lt-ltb held.interval (interval + 1) (omega arith)) ∙ sym (trimmed-trimmed_if (ltb held.interval interval) held.word)

pub words_in-next : (interval : ℕ) (helds : List Held) → AreUpTo interval helds → words_in (interval + 1) helds ≡ map trimmed (words_in interval helds)
words_in-next interval [] h = refl
words_in-next interval (x ∷ xs) h =
    let one : word_in (interval + 1) x ≡ trimmed (word_in interval x) = word_in-next interval x (All-head (λ held. held.interval ≤ interval) x xs h) in
    let more : words_in (interval + 1) xs ≡ map trimmed (words_in interval xs) = words_in-next interval xs (All-tail (λ held. held.interval ≤ interval) x xs h) in
    cc

pub word_in-restart : (interval : ℕ) (held : Held) → word_in 0 (touched 0 (trimmed (word_in 0 held))) ≡ trimmed (word_in interval held)
word_in-restart interval held = trimmed-trimmed_if (ltb held.interval 0) held.word ∙ sym (trimmed-trimmed_if (ltb held.interval interval) held.word)

pub AreUpTo-next : (interval : ℕ) (helds : List Held) → AreUpTo interval helds → AreUpTo (interval + 1) helds
AreUpTo-next interval helds h = λ k d low. let one : (get_or helds k d).interval ≤ interval = h k d low in omega arith

-- one word of the list, and a change of it
pub held_read : (xs : List Versions) (i : ℕ) (x : Versions) → i < length xs → x ≡ get_or xs i x → held_of x ≡ get_or (helds_of xs) i blank
held_read xs i x h e = ap held_of e ∙ sym (get_or-map held_of xs i x blank h)

pub held_same : (xs : List Versions) (i : ℕ) (x v : Versions) → i < length xs → x ≡ get_or xs i x → held_of v ≡ held_of x → helds_of (set xs i v) ≡ helds_of xs
held_same xs i x v h e same = map-set held_of xs i v ∙ ap (λ (y : Held). set (helds_of xs) i y) (same ∙ held_read xs i x h e) ∙ set-get_or (helds_of xs) i blank

pub held_changed : (interval : ℕ) (change : Word → Word) (xs : List Versions) (i : ℕ) (x v : Versions) → i < length xs → x ≡ get_or xs i x
    → held_of v ≡ touched interval (change (word_in interval (held_of x)))
    → helds_of (set xs i v) ≡ set (helds_of xs) i (touched interval (change (word_in interval (get_or (helds_of xs) i blank))))
held_changed interval change xs i x v h e same =
    map-set held_of xs i v ∙ ap (λ (y : Held). set (helds_of xs) i y) (same ∙ ap (λ (y : Held). touched interval (change (word_in interval y))) (held_read xs i x h e))

-- a word that is made to have room and then changed
pub held_reserved : (interval : ℕ) (change : Word → Word) (xs : List Versions) (i : ℕ) (x v y w : Versions) → i < length xs → x ≡ get_or xs i x → held_of v ≡ held_of x
    → y ≡ get_or (set xs i v) i y → held_of w ≡ touched interval (change (word_in interval (held_of y)))
    → helds_of (set (set xs i v) i w) ≡ set (helds_of xs) i (touched interval (change (word_in interval (get_or (helds_of xs) i blank))))
held_reserved interval change xs i x v y w h e same again made =
    let fits : i < length (set xs i v) = rw (length-set xs i v) h in
    subst (λ (hs : List Held). helds_of (set (set xs i v) i w) ≡ set hs i (touched interval (change (word_in interval (get_or hs i blank)))))
    (held_same xs i x v h e same) (held_changed interval change (set xs i v) i y w fits again made)

-- the words of a line, one more
pub Progress-none : (interval : ℕ) (change : ℕ → Word → Word) (first : ℕ) (old : List Held) → Progress interval change first 0 old old
Progress-none interval change first old = record { done = λ k h. absurd (omega arith); rest = λ j h. refl; size = refl; up_to = λ h. h }

pub Progress-more : (interval : ℕ) (change : ℕ → Word → Word) (first count : ℕ) (old new : List Held) → Progress interval change first count old new → first + count < length new
    → Progress interval change first (count + 1) old (set new (first + count) (touched interval (change count (word_in interval (get_or new (first + count) blank)))))
Progress-more interval change first count old new progress fits = record {
  done = λ k h. elim (cases_eq k count) [
    | inl same ↦ rw same (get_or-set_same new (first + count) _ blank fits
        ∙ ap (λ (y : Held). touched interval (change count (word_in interval y))) (progress.rest (first + count) (inr (omega arith))))
    | inr other ↦ get_or-set_other new (first + count) (first + k) _ blank (omega arith) ∙ progress.done k (omega arith)
  ];
  rest = λ j h. get_or-set_other new (first + count) j _ blank (elim h [ inl low ↦ omega arith | inr high ↦ omega arith ])
      ∙ progress.rest j (elim h [ inl low ↦ inl low | inr high ↦ inr (omega arith) ]);
  size = length-set new (first + count) _ ∙ progress.size;
  up_to = λ h. All-set (λ held. held.interval ≤ interval) new (first + count) _ (omega arith) (progress.up_to h);
}

-- the same at the fields: a word was changed at its place
pub Changing-none : (interval : ℕ) (change : ℕ → Word → Word) (first : ℕ) (old : List Versions) → Changing interval change first 0 old old
Changing-none interval change first old = record { progress = Progress-none interval change first (helds_of old); size = refl }

pub Changing-more : (interval : ℕ) (change : ℕ → Word → Word) (first count : ℕ) (old new : List Versions) (x v : Versions) → Changing interval change first count old new
    → first + count < length new → x ≡ get_or new (first + count) x → held_of v ≡ touched interval (change count (word_in interval (held_of x)))
    → Changing interval change first (count + 1) old (set new (first + count) v)
Changing-more interval change first count old new x v changing fits read made = record {
  progress = subst (λ (hs : List Held). Progress interval change first (count + 1) (helds_of old) hs)
      (sym (held_changed interval (change count) new (first + count) x v fits read made))
      (Progress-more interval change first count (helds_of old) (helds_of new) changing.progress (rw (length-map new held_of) fits));
  size = length-set new (first + count) v ∙ changing.size;
}

pub Changing-next : (interval : ℕ) (change : ℕ → Word → Word) (count : ℕ) (old new : List Versions) (x v : Versions) → Changing interval change 0 count old new
    → count < length new → x ≡ get_or new count x → held_of v ≡ touched interval (change count (word_in interval (held_of x)))
    → Changing interval change 0 (count + 1) old (set new count v)
Changing-next interval change count old new x v changing fits read made =
    let none : 0 + count ≡ count = omega arith in
    subst (λ i. Changing interval change 0 (count + 1) old (set new i v)) none
    (Changing-more interval change 0 count old new x v changing (omega arith) (subst (λ i. x ≡ get_or new i x) (sym none) read) made)

-- room at one place
pub room_read : (xs : List Versions) (i : ℕ) (x : Versions) → i < length xs → x ≡ get_or xs i x → get_or (rooms_of xs) i false ≡ true → IsTrue (has_room x)
room_read xs i x h e room = let seen : has_room x ≡ true = ap has_room e ∙ sym (get_or-map has_room xs i x false h) ∙ room in seen

pub Reserved-none : (first : ℕ) (old : List Versions) → Reserved first 0 old old
Reserved-none first old = record { held = refl; size = refl; room = λ k low high. absurd (omega arith) }

pub Reserved-more : (first count : ℕ) (old new : List Versions) (x v : Versions) → Reserved first count old new → first + count < length new
    → x ≡ get_or new (first + count) x → held_of v ≡ held_of x → has_room v ≡ true → Reserved first (count + 1) old (set new (first + count) v)
Reserved-more first count old new x v reserved fits read same room = record {
  held = held_same new (first + count) x v fits read same ∙ reserved.held;
  size = length-set new (first + count) v ∙ reserved.size;
  room = λ k low high. rw (map-set has_room new (first + count) v) (elim (cases_eq k count) [
    | inl here ↦ rw here (get_or-set_same (rooms_of new) (first + count) (has_room v) false (rw (length-map new has_room) fits) ∙ room)
    | inr other ↦ get_or-set_other (rooms_of new) (first + count) (first + k) (has_room v) false (omega arith) ∙ reserved.room k low (omega arith)
  ]);
}

pub Storing-none : (interval : ℕ) (change : ℕ → Word → Word) (first : ℕ) (old : List Versions) → HaveRoom first 0 8 old → Storing interval change first 0 old old
Storing-none interval change first old room = record { progress = Progress-none interval change first (helds_of old); size = refl; room = room }

pub Storing-more : (interval : ℕ) (change : ℕ → Word → Word) (first count : ℕ) (old new : List Versions) (x v : Versions) → Storing interval change first count old new
    → first + count < length new → x ≡ get_or new (first + count) x → held_of v ≡ touched interval (change count (word_in interval (held_of x)))
    → Storing interval change first (count + 1) old (set new (first + count) v)
Storing-more interval change first count old new x v storing fits read made = record {
  progress = subst (λ (hs : List Held). Progress interval change first (count + 1) (helds_of old) hs)
      (sym (held_changed interval (change count) new (first + count) x v fits read made))
      (Progress-more interval change first count (helds_of old) (helds_of new) storing.progress (rw (length-map new held_of) fits));
  size = length-set new (first + count) v ∙ storing.size;
  room = λ k low high. rw (map-set has_room new (first + count) v)
      (get_or-set_other (rooms_of new) (first + count) (first + k) (has_room v) false (omega arith) ∙ storing.room k (omega arith) high);
}

pub restarted_of : (old new : List Versions) → Progress 0 (λ _k word. trimmed word) 0 (length old) (helds_of old) (helds_of new) → Progress 0 (λ _k word. trimmed word) 0 (length (helds_of old)) (helds_of old) (helds_of new)
restarted_of old new progress = subst (λ n. Progress 0 (λ _k word. trimmed word) 0 n (helds_of old) (helds_of new)) (sym (length-map old held_of)) progress
