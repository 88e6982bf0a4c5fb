-- The entry in a line of the catalog.
use Rattle.std.proofs.Common.{◌≡◌, ℕ, ◌+◌, ◌-◌, ◌≤◌, List, [], ◌∷◌, ◌++◌, append-nil, take-add, drop-drop, take_all, length, take, drop, refl, sym, ap, ◌∙◌, arith}
use Rattle.std.specs.Prelude.{slice_index, slice_range}
use Rattle.nvm_model.specs.declared.line.Line.{Line}
use Rattle.line_pages.specs.Bytes.{overwritten}
use Rattle.nvm_model.specs.LineBytes.{bytes_of_word}
use Rattle.table_catalog.specs.Catalog.{field_in}

-- four words written one after the other
pub four_words : (line : Line) (a b c d : ℕ) → a ≡ slice_index line.words 0 → b ≡ slice_index line.words 1 → c ≡ slice_index line.words 2 → d ≡ slice_index line.words 3
    → overwritten (overwritten (overwritten (overwritten (0 ∷ 0 ∷ 0 ∷ 0 ∷ 0 ∷ 0 ∷ 0 ∷ 0 ∷ 0 ∷ 0 ∷ 0 ∷ 0 ∷ 0 ∷ 0 ∷ 0 ∷ 0 ∷ 0 ∷ 0 ∷ 0 ∷ 0 ∷ 0 ∷ 0 ∷ 0 ∷ 0 ∷ 0 ∷ 0 ∷ 0 ∷ 0 ∷ 0 ∷ 0 ∷ 0 ∷ 0 ∷ []) 0 (bytes_of_word a)) 8 (bytes_of_word b)) 16 (bytes_of_word c)) 24 (bytes_of_word d) ≡ field_in line
unfolding bytes_of_word field_in
four_words line a b c d is_a is_b is_c is_d = rw (is_a, is_b, is_c, is_d) refl

-- parts in a row are one part
join_parts : (xs : List ℕ) (a b c : ℕ) → a ≤ b → b ≤ c → slice_range xs a b ++ slice_range xs b c ≡ slice_range xs a c
join_parts xs a b c low high =
    let all : c - a ≡ (b - a) + (c - b) = omega arith in
    let on : b ≡ (b - a) + a = omega arith in
    sym (ap (λ n. take n (drop a xs)) all ∙ take-add (b - a) (c - b) (drop a xs) ∙ ap (λ ys. take (b - a) (drop a xs) ++ take (c - b) ys) (drop-drop (b - a) a xs ∙ ap (λ n. drop n xs) (omega (arith, on))))

-- the words of four parts keep the bytes
pub four_parts : (field : List ℕ) (a b c d e f g h : ℕ) → length field ≡ 32 → bytes_of_word a ≡ slice_range field 0 8 → bytes_of_word b ≡ slice_range field 8 16 → bytes_of_word c ≡ slice_range field 16 24 → bytes_of_word d ≡ slice_range field 24 32
    → field_in (record { words = a ∷ b ∷ c ∷ d ∷ e ∷ f ∷ g ∷ h ∷ [] }) ≡ field
unfolding field_in
four_parts field a b c d e f g h size is_a is_b is_c is_d =
    rw (is_a, is_b, is_c, is_d) (
    ap (λ l. slice_range field 0 8 ++ (slice_range field 8 16 ++ (slice_range field 16 24 ++ l))) (append-nil (slice_range field 24 32))
    ∙ ap (λ l. slice_range field 0 8 ++ (slice_range field 8 16 ++ l)) (join_parts field 16 24 32 (omega arith) (omega arith))
    ∙ ap (λ l. slice_range field 0 8 ++ l) (join_parts field 8 16 32 (omega arith) (omega arith))
    ∙ join_parts field 0 8 32 (omega arith) (omega arith)
    ∙ take_all 32 field (omega (arith, size)))
