-- What was written to the output, as lines.
use Rattle.std.specs.Prelude.{◌≡◌, codes, ℕ, Bool, false, not, ◌&&◌, ◌||◌, ◌==◌, nat_eq, List, [], ◌∷◌, ◌++◌, flat_map, filter, count_by, if◌then◌else◌}
use Rattle.texts.specs.Lines.{line_feed}
use Rattle.std.specs.List.{onto_first, starts_with, list_any}

-- the lines, each with its line feed; the last one may lack it
abbrev pub pieces : List ℕ → List (List ℕ)
pieces [] = []
pieces (b ∷ bs) = if b == line_feed then (b ∷ []) ∷ pieces bs else onto_first b (pieces bs)

-- Nothing, or lines of which the last one has its line feed.
pub data IsWhole : List ℕ → Type 0 where
  no_line : IsWhole []
  whole_lines : {bytes : List ℕ} (front : List ℕ) → bytes ≡ front ++ line_feed ∷ [] → IsWhole bytes

-- a line of the trace, of the tally or of damage
abbrev pub is_aside : List ℕ → Bool
is_aside [] = false
is_aside (b ∷ bs) = (b == 43 || b == 35) || b == 33

-- the output without those lines
abbrev pub strip : List ℕ → List ℕ
strip bytes = flat_map (λ piece. piece) (filter (λ piece. not (is_aside piece)) (pieces bytes))

-- a whole line that begins with `committed `
abbrev pub acknowledges : List ℕ → Bool
acknowledges piece = starts_with nat_eq piece (codes "committed ") && list_any (λ b. b == line_feed) piece

-- the first bytes of others
abbrev pub IsPrefix : List ℕ → List ℕ → Type 0
IsPrefix xs ys = (more : List ℕ) × (xs ++ more ≡ ys)

-- how many commits were acknowledged
abbrev pub acked : List ℕ → ℕ
acked bytes = count_by acknowledges (pieces bytes)
