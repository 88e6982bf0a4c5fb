-- What pieces that are read or written at positions, one behind the other, make together.
use Rattle.std.proofs.Common.{◌≡◌, ℕ, zero, suc, ◌+◌, ◌-◌, ◌≤◌, List, [], ◌∷◌, ◌++◌, arith, length, take, drop, slice_range, refl, sym, ap, ◌∙◌, subst, append_assoc, append-nil, le_refl, drop_at, length-take-le, length-append, inl, inr, ◌⊎◌}
use Rattle.std.specs.Prelude.{Option, Some, None, IfSome, replicate}
use Rattle.std.proofs.lemmas.List.{take_rest, take-replicate, drop-replicate, length-replicate, take-take, drop-take, drop-drop, drop-append-le}
use Rattle.std.proofs.lemmas.Slice.{take-put_mid_below}
use Rattle.std.proofs.Math.Seq.{take-append-add, take-append_seam, drop-append-add}
use Rattle.std.proofs.Math.ListN.{drop_of_length-le}
use Rattle.std.specs.Io.KnownBytes.{Consumes, IsAtEnd}
use Rattle.std.proofs.KnownBytes.{Consumes-trans}
use borrow.Rule.Slice.PartMut.{put_mid, post_of}
use lib.Seq.{take-add, take-append-le}
use Rattle.device_files.specs.Positioned.{padded, bytes_from, with_bytes, WritesBytes}

pub take_split : (a b : ℕ) (old new : List ℕ) → a ≤ b → take a new ≡ take a old → take a old ++ slice_range new a b ≡ take b new
take_split a b old new h front =
    let same : a + (b - a) ≡ b = omega arith in
    ap (λ l. l ++ slice_range new a b) (sym front) ∙ sym (take-add a (b - a) new) ∙ ap (λ n. take n new) same

-- what was read into the rest of a buffer stands there
pub slice_range-put_mid : (a k n : ℕ) (xs ys : List ℕ) → a ≤ length xs → n ≤ length ys → slice_range (put_mid a k xs ys) a (a + n) ≡ take n ys
slice_range-put_mid a k n xs ys within fits =
    let same : (a + n) - a ≡ n = omega arith in
    let after = post_of a k xs in
    ap (take ((a + n) - a)) (drop_at (take a xs) (ys ++ after) a (length-take-le a xs within)) ∙ ap (λ m. take m (ys ++ after)) same ∙ take-append-le n ys after fits

-- one more piece behind the first ones
pub taken_more : (first middle last : Option (List ℕ)) (old piece : List ℕ) (at room count : ℕ) → at ≤ length old → count ≤ length piece
    → Consumes first middle (take at old) → Consumes middle last (take count piece) → Consumes first last (take (at + count) (put_mid at room old piece))
taken_more first middle last old piece at room count within fits before next =
    let part = slice_range-put_mid at room count old piece within fits in
    let joined = take_split at (at + count) old (put_mid at room old piece) (omega arith) (take-put_mid_below _ _ _ _ _ (le_refl _) within) in
    subst (Consumes first last) (ap (λ l. take at old ++ l) (sym part) ∙ joined) (Consumes-trans _ _ _ _ _ before next)

-- at the end the rest is zeros
pub padded-short : (front : List ℕ) (n : ℕ) → length front ≤ n → front ++ replicate (n - length front) 0 ≡ padded n front
padded-short front n fits =
    let same : length front + (n - length front) ≡ n = omega arith in
    ap (λ l. front ++ l) (sym (take-replicate (n - length front) n 0 (omega arith))) ∙ sym (take-append-add front (replicate n 0) (n - length front)) ∙ ap (λ m. take m (front ++ replicate n 0)) same

pub padded_at_end : (first last : Option (List ℕ)) (front into : List ℕ) (n : ℕ) → length front ≤ n → Consumes first last front → IsAtEnd last
    → into ≡ front ++ replicate (n - length front) 0 → IfSome first (λ left. into ≡ padded n left)
padded_at_end None last front into n fits taken end e = tt
padded_at_end (Some xs) None front into n fits taken end e = absurd taken
padded_at_end (Some xs) (Some ys) front into n fits taken end e =
    let all : front ≡ xs = sym (taken ∙ ap (λ l. front ++ l) end ∙ append-nil front) in
    e ∙ padded-short front n fits ∙ ap (padded n) all

-- the same at positions of a file
pub taken_more_at : (known : Option (List ℕ)) (start : ℕ) (old piece : List ℕ) (at room count : ℕ) → at ≤ length old → count ≤ length piece
    → Consumes (bytes_from known start) (bytes_from known (start + at)) (take at old)
    → Consumes (bytes_from known (start + at)) (bytes_from known ((start + at) + count)) (take count piece)
    → Consumes (bytes_from known start) (bytes_from known (start + (at + count))) (take (at + count) (put_mid at room old piece))
taken_more_at known start old piece at room count within fits before next =
    let same : (start + at) + count ≡ start + (at + count) = omega arith in
    subst (λ (k : ℕ). Consumes (bytes_from known start) (bytes_from known k) (take (at + count) (put_mid at room old piece))) same
    (taken_more _ _ _ old piece at room count within fits before next)

-- the end came before the buffer was full: the rest was made zeros
pub padded_behind : (known : Option (List ℕ)) (start : ℕ) (old piece into : List ℕ) (at room count n : ℕ) → at ≤ length old → length (put_mid at room old piece) ≡ n → at ≤ n
    → count ≡ 0 → Consumes (bytes_from known start) (bytes_from known (start + at)) (take at old)
    → Consumes (bytes_from known (start + at)) (bytes_from known ((start + at) + count)) (take count piece) → IsAtEnd (bytes_from known ((start + at) + count))
    → into ≡ take at (put_mid at room old piece) ++ replicate (length (put_mid at room old piece) - at) 0 → IfSome (bytes_from known start) (λ left. into ≡ padded n left)
padded_behind known start old piece into at room count n within long fits none before next end e =
    let mid = put_mid at room old piece in
    let last = bytes_from known ((start + at) + count) in
    let taken = taken_more _ _ last old piece at room count within (omega arith) before next in
    let same : at + count ≡ at = omega arith in
    let front : length (take at mid) ≡ at = length-take-le at mid (omega arith) in
    let short : length mid - at ≡ n - length (take at mid) = omega arith in
    padded_at_end (bytes_from known start) last (take at mid) into n (omega arith) (subst (λ (k : ℕ). Consumes (bytes_from known start) last (take k mid)) same taken) end
    (e ∙ ap (λ k. take at mid ++ replicate k 0) short)

pub length-padded : (n : ℕ) (xs : List ℕ) → length (padded n xs) ≡ n
length-padded n xs =
    let zeros : List ℕ = replicate n 0 in
    let whole : length (xs ++ zeros) ≡ length xs + length zeros = length-append xs zeros in
    let size : length zeros ≡ n = length-replicate n 0 in
    let fits : n ≤ length (xs ++ zeros) = omega arith in
    length-take-le n (xs ++ zeros) fits

-- of zeros behind a list those that are looked at suffice
pub zeros_enough : (n : ℕ) (xs : List ℕ) (a b : ℕ) → n ≤ a → n ≤ b → take n (xs ++ replicate a 0) ≡ take n (xs ++ replicate b 0)
zeros_enough n [] a b ha hb = take-replicate n a 0 ha ∙ sym (take-replicate n b 0 hb)
zeros_enough zero (x ∷ xs) a b ha hb = refl
zeros_enough (suc n) (x ∷ xs) a b ha hb = ap (λ (l : List ℕ). x ∷ l) (zeros_enough n xs a b (omega arith) (omega arith))

pub zeros_behind : (big k n : ℕ) (xs : List ℕ) → k + n ≤ big → (k ≤ length xs) ⊎ (length xs ≤ k) → take n (drop k (xs ++ replicate big 0)) ≡ padded n (drop k xs)
zeros_behind big k n xs fits (inl h) =
    ap (take n) (drop-append-le k xs (replicate big 0) h) ∙ zeros_enough n (drop k xs) big n (omega arith) (le_refl n)
zeros_behind big k n xs fits (inr h) =
    let split : length xs + (k - length xs) ≡ k = omega arith in
    let past : drop k (xs ++ replicate big 0) ≡ drop (k - length xs) (replicate big 0) =
    ap (λ (m : ℕ). drop m (xs ++ replicate big 0)) (sym split) ∙ drop-append-add xs (replicate big 0) (k - length xs) in
    let none : drop k xs ≡ [] = drop_of_length-le xs h in
    ap (take n) (past ∙ drop-replicate (k - length xs) big 0) ∙ take-replicate n (big - (k - length xs)) 0 (omega arith)
    ∙ sym (take-replicate n n 0 (le_refl n)) ∙ ap (padded n) (sym none)

pub one_way : (a b : ℕ) → (a ≤ b) ⊎ (b ≤ a)
one_way a b = grind arith

-- a part of what was read is what a read of that part gives
pub padded_part : (big k n : ℕ) (xs : List ℕ) → k + n ≤ big → slice_range (padded big xs) k (k + n) ≡ padded n (drop k xs)
padded_part big k n xs fits =
    let whole = xs ++ replicate big 0 in
    let size : (k + n) - k ≡ n = omega arith in
    let split : k + (big - k) ≡ big = omega arith in
    let inner : drop k (take big whole) ≡ take (big - k) (drop k whole) = ap (λ (m : ℕ). drop k (take m whole)) (sym split) ∙ drop-take k (big - k) whole in
    ap (λ (m : ℕ). take m (drop k (take big whole))) size ∙ ap (take n) inner ∙ take-take n (big - k) (drop k whole) (omega arith)
    ∙ zeros_behind big k n xs fits (one_way k (length xs))

-- bytes in the place of others
abbrev spliced : ℕ → List ℕ → List ℕ → List ℕ
spliced start bytes xs = padded start xs ++ bytes ++ drop (start + length bytes) xs

spliced_more : (start : ℕ) (a b xs : List ℕ) → spliced (start + length a) b (spliced start a xs) ≡ spliced start (a ++ b) xs
spliced_more start a b xs =
    let front : List ℕ = padded start xs in
    let rest : List ℕ = drop (start + length a) xs in
    let zeros : List ℕ = replicate (start + length a) 0 in
    let size : length (front ++ a) ≡ start + length a = length-append front a ∙ ap (λ (n : ℕ). n + length a) (length-padded start xs) in
    let before : padded (start + length a) (front ++ a ++ rest) ≡ front ++ a =
    ap (take (start + length a)) (append_assoc (front ++ a) rest zeros)
    ∙ ap (λ (n : ℕ). take n ((front ++ a) ++ (rest ++ zeros))) (sym size) ∙ take-append_seam (front ++ a) (rest ++ zeros) in
    let behind : drop ((start + length a) + length b) (front ++ a ++ rest) ≡ drop ((start + length a) + length b) xs =
    ap (λ (n : ℕ). drop (n + length b) ((front ++ a) ++ rest)) (sym size)
    ∙ drop-append-add (front ++ a) rest (length b) ∙ drop-drop (length b) (start + length a) xs in
    let both : length (a ++ b) ≡ length a + length b = length-append a b in
    let end : (start + length a) + length b ≡ start + length (a ++ b) = omega arith in
    let last : drop ((start + length a) + length b) xs ≡ drop (start + length (a ++ b)) xs = ap (λ (n : ℕ). drop n xs) end in
    ap (λ (l : List ℕ). (l ++ b) ++ drop ((start + length a) + length b) (front ++ a ++ rest)) before
    ∙ ap (λ (l : List ℕ). ((front ++ a) ++ b) ++ l) (behind ∙ last)
    ∙ ap (λ (l : List ℕ). l ++ drop (start + length (a ++ b)) xs) (append_assoc front a b)

-- bytes that are written behind others, and both together
pub with_bytes_more : (start : ℕ) (a b xs : List ℕ) → with_bytes (start + length a) b (with_bytes start a xs) ≡ with_bytes start (a ++ b) xs
with_bytes_more start [] b xs = let same : start + 0 ≡ start = omega arith in ap (λ (n : ℕ). with_bytes n b xs) same
with_bytes_more start (x ∷ a) [] xs = ap (λ (l : List ℕ). with_bytes start l xs) (sym (append-nil (x ∷ a)))
with_bytes_more start (x ∷ a) (y ∷ b) xs = spliced_more start (x ∷ a) (y ∷ b) xs

-- one more piece behind those that were written
pub writes_more : (start at count : ℕ) (bytes : List ℕ) (old middle new : Option (List ℕ)) → at ≤ length bytes
    → WritesBytes start (take at bytes) old middle → WritesBytes (start + at) (take count (take (length bytes - at) (drop at bytes))) middle new
    → WritesBytes start (take (at + count) bytes) old new
writes_more start at count bytes None middle new within before next = record { each = tt }
writes_more start at count bytes (Some xs) None new within before next =
    let none : None ≡ Some (with_bytes start (take at bytes) xs) = before.each in
    let no : ⊥ = cc in
    absurd no
writes_more start at count bytes (Some xs) (Some ys) new within before next =
    let done : Some ys ≡ Some (with_bytes start (take at bytes) xs) = before.each in
    let ys_is : ys ≡ with_bytes start (take at bytes) xs = cc in
    let size : length (take at bytes) ≡ at = length-take-le at bytes within in
    let piece : take count (take (length bytes - at) (drop at bytes)) ≡ take count (drop at bytes) = ap (take count) (take_rest bytes at) in
    let joined : with_bytes (start + at) (take count (take (length bytes - at) (drop at bytes))) ys ≡ with_bytes start (take (at + count) bytes) xs =
    ap (λ (l : List ℕ). with_bytes (start + at) l ys) piece ∙ ap (with_bytes (start + at) (take count (drop at bytes))) ys_is
    ∙ ap (λ (n : ℕ). with_bytes (start + n) (take count (drop at bytes)) (with_bytes start (take at bytes) xs)) (sym size)
    ∙ with_bytes_more start (take at bytes) (take count (drop at bytes)) xs ∙ ap (λ (l : List ℕ). with_bytes start l xs) (sym (take-add at count bytes)) in
    record { each = next.each ∙ ap (λ (l : List ℕ). Some l) joined }
