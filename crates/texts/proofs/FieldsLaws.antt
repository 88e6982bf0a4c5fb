-- Fields: what is cut is what was put together.
use Rattle.std.proofs.Common.{◌≡◌, ℕ, ◌+◌, ◌<◌, ◌≤◌, arith, sym, Bool, true, false, List, [], ◌∷◌, ◌++◌, refl, ap, ◌∙◌, Option, Some, None, inl, inr, subst, length, get_or, take, drop}
use Rattle.std.proofs.lemmas.Bool.{cases_Bool, eqb-true, ltb-false}
use Rattle.std.specs.Prelude.{nat_lt, ◌==◌, ◌||◌, option_map}
use Rattle.std.specs.List.{list_any, position, position_or_len}
use Rattle.std.proofs.lemmas.List.{take-append-drop, drop_more, get_or-take, get_or_default, length-take-le, append-nil}
use Rattle.std.proofs.lemmas.List.Quantifiers.{position-Some}
use Rattle.std.proofs.lemmas.List.Folds.{list_any_none}
use Rattle.std.proofs.lemmas.List.Sums.{fails_before_first}
use Rattle.texts.specs.Fields.{◌>>=◌, space, cut, field, remainder, at_end}

-- the bytes of what is left, with the space in front of them
abbrev pub left_text : Option (List ℕ) → List ℕ
left_text None = []
left_text (Some bytes) = space ∷ bytes

abbrev pub has_space : List ℕ → Bool
has_space bytes = list_any (λ b. b == space) bytes

pub cut_whole : (bytes : List ℕ) → bytes ≡ (cut bytes).0 ++ left_text (cut bytes).1
cut_whole [] = refl
cut_whole (b ∷ bs) =
    elim (cases_Bool (b == space)) [
      | inl e ↦ rw e (ap (λ c. c ∷ bs) (eqb-true b space e))
      | inr e ↦ rw e (ap (λ l. b ∷ l) (cut_whole bs))
    ]

pub or_left : (a b : Bool) → (a || b) ≡ false → a ≡ false
or_left true b h = h
or_left false b h = refl

pub or_right : (a b : Bool) → (a || b) ≡ false → b ≡ false
or_right true b h = absurd cc
or_right false b h = h

pub cut_word : (word : List ℕ) (left : Option (List ℕ)) → has_space word ≡ false → cut (word ++ left_text left) ≡ (word, left)
cut_word [] None h = refl
cut_word [] (Some bytes) h = refl
cut_word (b ∷ word) left h =
    let here = or_left (b == space) (has_space word) h in
    rw (here, cut_word word left (or_right (b == space) (has_space word) h)) refl

-- ---- readers of a field

-- `read` reads the texts that `show` gives of what fits, and nothing else
pub record IsReader {A : Type 0} (read : List ℕ → Option A) (show : A → List ℕ) (Fits : A → Type 0) : Type 0 where
  pub sound : (bytes : List ℕ) (a : A) → read bytes ≡ Some a → (bytes ≡ show a) × Fits a
  pub complete : (a : A) → Fits a → read (show a) ≡ Some a

-- and no space stands in these
pub record IsWordReader {A : Type 0} (read : List ℕ → Option A) (show : A → List ℕ) (Fits : A → Type 0) : Type 0 where
  pub reader : IsReader read show Fits
  pub one_word : (a : A) → Fits a → has_space (show a) ≡ false

pub bind_some : {A B : Type 0} (o : Option A) (f : A → Option B) (b : B) → (o >>= f) ≡ Some b → (a : A) × (o ≡ Some a) × (f a ≡ Some b)
bind_some None f b h = absurd cc
bind_some (Some a) f b h = (a, refl, h)

pub map_some : {A B : Type 0} (f : A → B) (o : Option A) (b : B) → option_map f o ≡ Some b → (a : A) × (o ≡ Some a) × (f a ≡ b)
map_some f None b h = absurd cc
map_some f (Some a) b h = (a, refl, cc)

module _ {A : Type 0} (read : List ℕ → Option A) (show : A → List ℕ) (Fits : A → Type 0) where
  pub field_sound : IsWordReader read show Fits → (left : Option (List ℕ)) (p : A × Option (List ℕ)) → field read left ≡ Some p →
      (left_text left ≡ space ∷ (show p.0 ++ left_text p.1)) × Fits p.0
  field_sound w None p h = absurd cc
  field_sound w (Some bytes) p h =
      let m = map_some (λ a. (a, (cut bytes).1)) (read (cut bytes).0) p h in
      let s = w.reader.sound (cut bytes).0 m.0 m.1 in
      let q = m.2 in (
        ap (λ l. space ∷ l) (cut_whole bytes ∙ ap (λ l. l ++ left_text (cut bytes).1) s.0) ∙ ap (λ (r : A × Option (List ℕ)). space ∷ (show r.0 ++ left_text r.1)) q,
        subst (λ (r : A × Option (List ℕ)). Fits r.0) q s.1,
      )

  pub field_complete : IsWordReader read show Fits → (a : A) (left : Option (List ℕ)) → Fits a → field read (Some (show a ++ left_text left)) ≡ Some (a, left)
  field_complete w a left h = rw (cut_word (show a) left (w.one_word a h), w.reader.complete a h) refl

  pub remainder_sound : IsReader read show Fits → (left : Option (List ℕ)) (a : A) → remainder read left ≡ Some a → (left_text left ≡ space ∷ show a) × Fits a
  remainder_sound r None a h = absurd cc
  remainder_sound r (Some bytes) a h = let s = r.sound bytes a h in (ap (λ l. space ∷ l) s.0, s.1)

pub at_end_sound : {C : Type 0} (make c : C) (left : Option (List ℕ)) → at_end make left ≡ Some c → (left_text left ≡ []) × (make ≡ c)
at_end_sound make c None h = (refl, cc)
at_end_sound make c (Some bytes) h = absurd cc

-- ---- cutting at the place of the first space

pub cut_at : (bytes : List ℕ) (i : ℕ) → position (λ b. b == space) bytes ≡ Some i → cut bytes ≡ (take i bytes, Some (drop (i + 1) bytes))
cut_at bytes i h =
    let p = position-Some (λ b. b == space) bytes i 0 h in
    let within : i < length bytes = p.0 in
    let here : get_or bytes i 0 ≡ space = eqb-true (get_or bytes i 0) space p.1 in
    let whole : bytes ≡ take i bytes ++ space ∷ drop (i + 1) bytes =
    sym (take-append-drop i bytes) ∙ ap (λ l. take i bytes ++ l) (drop_more bytes i 0 within ∙ ap (λ b. b ∷ drop (i + 1) bytes) here) in
    let word : has_space (take i bytes) ≡ false = list_any_none (λ b. b == space) (take i bytes)
    (λ k d l. let low : k < i = omega (arith, length-take-le i bytes) in rw (get_or-take i bytes k d low, get_or_default bytes k d 0 (omega arith)) (p.2 k low)) in
    ap cut whole ∙ cut_word (take i bytes) (Some (drop (i + 1) bytes)) word

position_past : (bytes : List ℕ) → position (λ b. b == space) bytes ≡ None → length bytes ≤ position_or_len (λ b. b == space) bytes
position_past bytes h =
    elim (cases_Bool (nat_lt (position_or_len (λ b. b == space) bytes) (length bytes))) [
      | inl e ↦ absurd (let f : Some (position_or_len (λ b. b == space) bytes) ≡ None = rw e at h in cc)
      | inr e ↦ ltb-false (position_or_len (λ b. b == space) bytes) (length bytes) e
    ]

pub cut_none : (bytes : List ℕ) → position (λ b. b == space) bytes ≡ None → cut bytes ≡ (bytes, None)
cut_none bytes h =
    let word : has_space bytes ≡ false = list_any_none (λ b. b == space) bytes
    (λ k d l. let low : k < position_or_len (λ b. b == space) bytes = omega (arith, position_past bytes h) in
    rw (get_or_default bytes k d 0 l) (fails_before_first (λ b. b == space) bytes k 0 low)) in
    ap cut (sym (append-nil bytes)) ∙ cut_word bytes None word
