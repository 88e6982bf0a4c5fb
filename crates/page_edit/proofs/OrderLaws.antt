-- Lists of keys that stay in order.
use Rattle.std.proofs.Common.{◌≡◌, ℕ, zero, suc, ◌+◌, ◌-◌, ◌<◌, ◌≤◌, List, [], ◌∷◌, ◌++◌, length, take, drop, get_or, Some, sym, ap, subst, arith, slice_get}
use Rattle.std.specs.List.{insert}
use Rattle.std.proofs.lemmas.List.{length-map, map-append}
use Rattle.std.proofs.lemmas.List.Edits.{insert_end}
use Rattle.page_format.specs.Node.{Child, first_keys}
use Rattle.rows.specs.Rows.{Row, keys, Ascends, AllBelow, AllAbove}

-- all are above a key that does not count
pub Ascends-raise : (low high key : ℕ) (rows : List Row) → Ascends low high (keys rows) → AllAbove key rows → Ascends (key + 1) high (keys rows)
Ascends-raise low high key [] up above = tt
Ascends-raise low high key (r ∷ rows) up above = (omega (arith, above.0), up.1, up.2)

-- a row put where a search found its gap
pub insert_between : (low high key : ℕ) (value : List ℕ) (rows : List Row) (at : ℕ) → Ascends low high (keys rows) → low ≤ key → key ≤ high → AllBelow key (take at rows) → AllAbove key (drop at rows)
    → Ascends low high (keys (insert rows at (key, value)))
insert_between low high key value rows zero up from to below above = (from, to, Ascends-raise low high key rows up above)
insert_between low high key value [] (suc at) up from to below above = (from, to, tt)
insert_between low high key value (r ∷ rows) (suc at) up from to below above =
    (up.0, up.1, insert_between (r.0 + 1) high key value rows at up.2 (omega (arith, below.0)) to below.1 above)

-- two lists, the second from where the first ends
pub Ascends-append : (low middle high : ℕ) (xs ys : List ℕ) → Ascends low middle xs → Ascends (middle + 1) high ys → middle ≤ high → low ≤ middle + 1 → Ascends low high (xs ++ ys)
Ascends-append low middle high [] ys up behind to from = lower low (middle + 1) high ys from behind
  where
    lower : (low next high : ℕ) (ks : List ℕ) → low ≤ next → Ascends next high ks → Ascends low high ks
    lower low next high [] h up = tt
    lower low next high (k ∷ ks) h up = (omega (arith, h, up.0), up.1, up.2)
Ascends-append low middle high (x ∷ xs) ys up behind to from = (up.0, omega (arith, up.1, to), Ascends-append (x + 1) middle high xs ys up.2 behind to (omega (arith, up.1)))

-- up to its last key
pub Ascends-to : (low high : ℕ) (ks : List ℕ) (last : ℕ) → Ascends low high ks → (0 < length ks → get_or ks (length ks - 1) 0 ≤ last) → Ascends low last ks
Ascends-to low high [] last up is = tt
Ascends-to low high (k ∷ []) last up is = (up.0, is (omega arith), tt)
Ascends-to low high (k ∷ next ∷ ks) last up is =
    let at : length (k ∷ next ∷ ks) - 1 ≡ suc (length (next ∷ ks) - 1) = omega arith in
    let end = subst (λ (n : ℕ). get_or (k ∷ next ∷ ks) n 0 ≤ last) at (is (omega arith)) in
    let rest = Ascends-to (k + 1) high (next ∷ ks) last up.2 (λ some. end) in
    (up.0, omega (arith, rest.0, rest.1), rest)

-- from a key below its first one
pub Ascends-from : (low high : ℕ) (ks : List ℕ) (first : ℕ) → Ascends low high ks → (0 < length ks → first ≤ get_or ks 0 0) → Ascends first high ks
Ascends-from low high [] first up is = tt
Ascends-from low high (k ∷ ks) first up is = (is (omega arith), up.1, up.2)

-- one list behind another, by the last key of the one and the first of the other
pub Ascends-join : (high : ℕ) (xs ys : List ℕ) (last : ℕ) → Ascends 0 high xs → Ascends 0 high ys → (0 < length xs → get_or xs (length xs - 1) 0 ≤ last) → (0 < length ys → last < get_or ys 0 0) → last ≤ high → Ascends 0 high (xs ++ ys)
Ascends-join high xs ys last up behind to from most =
    Ascends-append 0 last high xs ys (Ascends-to 0 high xs last up to) (Ascends-from 0 high ys (last + 1) behind (λ some. omega (arith, from some))) most (omega arith)

pub slice_get-in : {X : Type 0} (xs : List X) (i : ℕ) (x : X) → slice_get xs i ≡ Some x → i < length xs
slice_get-in [] i x e = absurd (cc)
slice_get-in (y ∷ ys) zero x e = omega arith
slice_get-in (y ∷ ys) (suc i) x e = let there = slice_get-in ys i x e in omega (arith, there)

-- a child behind the others
pub push_order : (high key child last : ℕ) (cs : List Child) → Ascends 0 high (first_keys cs) → last ≡ get_or (first_keys cs) (length cs - 1) 0 → last < key → key ≤ high → Ascends 0 high (first_keys (insert cs (length cs) (key, child)))
push_order high key child last cs up is less most =
    let size : length (first_keys cs) ≡ length cs = length-map cs (λ (c : Child). c.0) in
    let end = ap (λ (n : ℕ). get_or (first_keys cs) (n - 1) 0) size in
    let all : Ascends 0 high (first_keys cs ++ key ∷ []) = Ascends-join high (first_keys cs) (key ∷ []) last up (omega arith, most, tt) (λ some. omega (arith, end, is)) (λ some. less) (omega (arith, less, most)) in
    let keys_are : first_keys (cs ++ (key, child) ∷ []) ≡ first_keys cs ++ key ∷ [] = map-append (λ (c : Child). c.0) cs ((key, child) ∷ []) in
    subst (λ (xs : List Child). Ascends 0 high (first_keys xs)) (sym (insert_end cs (key, child))) (subst (Ascends 0 high) (sym keys_are) all)
