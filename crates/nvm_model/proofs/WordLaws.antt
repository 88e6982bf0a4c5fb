-- Laws of one word.
use Rattle.std.proofs.lemmas.List.{get_or_default}
use Rattle.std.proofs.lemmas.Bool.{cond_both}
use Rattle.std.proofs.Common.{◌≡◌, ◌≢◌, ℕ, zero, suc, ◌+◌, ◌-◌, ◌≤◌, ◌<◌, List, [], ◌∷◌, take, length, get_or, refl, sym, ap, ◌∙◌, subst, inl, inr, arith, ◌*◌}
use Rattle.nvm_model.specs.declared.line.Choice.{Choice}
use Rattle.nvm_model.specs.Word.{Word, stored, marked, trimmed, Among, IsVersion, IsSingle, single, last_of, oldest}
use Rattle.nvm_model.specs.Choose.{takes_oldest, chosen}

-- a word that is stored, flushed and fenced has the stored value as its one version, whatever it had
pub made_single : (value : ℕ) (word : Word) → trimmed (marked (stored value word)) ≡ single value
made_single value word = refl

-- a fence adds no version
pub Among-take : (n : ℕ) (xs : List ℕ) (value : ℕ) → Among (take n xs) value → Among xs value
Among-take zero [] value h = absurd h
Among-take (suc n) [] value h = absurd h
Among-take zero (x ∷ xs) value h = absurd h
Among-take (suc n) (x ∷ xs) value (inl e) = inl e
Among-take (suc n) (x ∷ xs) value (inr h) = inr (Among-take n xs value h)

pub IsVersion-trimmed : (word : Word) (value : ℕ) → IsVersion (trimmed word) value → IsVersion word value
IsVersion-trimmed word value (inl e) = inl e
IsVersion-trimmed word value (inr h) = inr (Among-take word.kept word.older value h)

take_none : (n : ℕ) (xs : List ℕ) → xs ≡ [] → take n xs ≡ []
take_none zero [] e = refl
take_none (suc n) [] e = refl
take_none n (x ∷ xs) e = cc

pub IsSingle-trimmed : (word : Word) → IsSingle word → IsSingle (trimmed word)
IsSingle-trimmed word one = take_none word.kept word.older one

-- a word with one version has no other
pub single_version : (word : Word) (value : ℕ) → IsSingle word → IsVersion word value → value ≡ word.newest
single_version word value one (inl e) = e
single_version word value one (inr h) = absurd (subst (λ xs. Among xs value) one h)

-- the oldest and the newest version are versions
last_among : (x : ℕ) (xs : List ℕ) → Among (x ∷ xs) (last_of x xs)
last_among x [] = inl refl
last_among x (y ∷ ys) = inr (last_among y ys)

pub oldest_version : (word : Word) → IsVersion word (oldest word)
oldest_version word = last_among word.newest word.older

pub newest_version : (word : Word) → IsVersion word word.newest
newest_version word = inl refl

-- and so is what a choice leaves
pub chosen_version : (choice : Choice) (line place : ℕ) (word : Word) → IsVersion word (chosen choice line place word)
chosen_version choice line place word = cond_both (takes_oldest choice (8 * line + place)) (oldest word) word.newest (λ v. IsVersion word v) (λ e. oldest_version word) (λ e. newest_version word)

-- A fence leaves only versions from the mark on: the last one, and as many before it as the mark stands behind it.
abbrev pub IsKept : Word → ℕ → Type 0
IsKept word value = Among (word.newest ∷ take word.kept word.older) value

pub IsVersion-kept : (word : Word) (value : ℕ) → IsVersion (trimmed word) value → IsKept word value
IsVersion-kept word value h = h

pub chosen_kept : (choice : Choice) (line place : ℕ) (word : Word) → IsKept word (chosen choice line place (trimmed word))
chosen_kept choice line place word = chosen_version choice line place (trimmed word)

-- fencing twice is fencing once
take_twice : (n : ℕ) (xs : List ℕ) → take n (take n xs) ≡ take n xs
take_twice zero xs = refl
take_twice (suc n) [] = refl
take_twice (suc n) (x ∷ xs) = ap (λ ys. x ∷ ys) (take_twice n xs)

pub trimmed-trimmed : (word : Word) → trimmed (trimmed word) ≡ trimmed word
trimmed-trimmed word = ap (λ xs. record word { older = xs }) (take_twice word.kept word.older)

-- the last of some first numbers
pub last_of-take : (x : ℕ) (xs : List ℕ) (n : ℕ) → n < length xs → last_of x (take (suc n) xs) ≡ get_or xs n 0
last_of-take x [] n h = absurd (omega arith)
last_of-take x (y ∷ ys) zero h = refl
last_of-take x (y ∷ ys) (suc n) h = last_of-take y ys n (omega arith)

pub last_of-first : (x : ℕ) (xs : List ℕ) (n y : ℕ) → n ≤ length xs → n ≢ 0 → y ≡ get_or xs (n - 1) y → y ≡ last_of x (take n xs)
last_of-first x xs zero y h some e = absurd (some refl)
last_of-first x xs (suc n) y h some e = let before : suc n - 1 ≡ n = omega arith in subst (λ j. y ≡ get_or xs j y) before e ∙ get_or_default xs n y 0 (omega arith) ∙ sym (last_of-take x xs n (omega arith))
