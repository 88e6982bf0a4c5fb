-- The bytes of a file that is read and written at positions. Past its end a file reads as zeros.
use Rattle.std.specs.Prelude.{◌≡◌, ℕ, ◌+◌, List, [], ◌∷◌, ◌++◌, length, take, drop, replicate, Option, Some, IfSome}
use Rattle.std.specs.Option.{option_map}

-- the first bytes of those that are left, with zeros past their end
abbrev pub padded : ℕ → List ℕ → List ℕ
padded count left = take count (left ++ replicate count 0)

-- the bytes from a position on, where they are known
abbrev pub bytes_from : Option (List ℕ) → ℕ → Option (List ℕ)
bytes_from known start = option_map (λ xs. drop start xs) known

-- the bytes of a file after some were written from a position on: where that lies past the end, zeros come between
abbrev pub with_bytes : ℕ → List ℕ → List ℕ → List ℕ
with_bytes start [] xs = xs
with_bytes start (b ∷ bs) xs = padded start xs ++ (b ∷ bs) ++ drop (start + length (b ∷ bs)) xs

-- where the bytes of a file are known, these were written from that position on, and no other changed
pub record WritesBytes (start : ℕ) (bytes : List ℕ) (old new : Option (List ℕ)) : Type 0 where
  pub each : IfSome old (λ xs. new ≡ Some (with_bytes start bytes xs))
