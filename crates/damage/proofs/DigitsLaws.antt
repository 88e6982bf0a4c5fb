-- Hexadecimal digits of bytes in a row, and sentences: what one more gives, and that no line feed is among them.
use Rattle.std.proofs.Common.{◌≡◌, ℕ, zero, suc, ◌+◌, ◌/◌, ◌%◌, ◌<◌, false, List, [], ◌∷◌, ◌++◌, length, take, refl, ap, ◌∙◌, sym, arith, append_assoc, zero-add, add-one}
use Rattle.std.specs.Prelude.{◌==◌, map, slice_index}
use Rattle.std.specs.Int.{to_le_bytes, w64}
use Rattle.std.specs.List.{AllByRecursion}
use Rattle.std.proofs.lemmas.Bool.{or_parts}
use Rattle.std.proofs.lemmas.List.{map_more}
use Rattle.std.proofs.lemmas.List.Folds.{list_any-append}
use Rattle.hex.specs.Hex.{encode_with, encode_lower, lower_digits}
use Rattle.texts.specs.Lines.{line_feed, has_line_feed, IsOneLine, sentence}
use Rattle.nvm_model.specs.LineBytes.{pieces, word_bytes, bytes_of_word}
use Rattle.nvm_model.proofs.PieceLaws.{pieces-more}

pub encode_with-append : (t xs ys : List ℕ) → encode_with t (xs ++ ys) ≡ encode_with t xs ++ encode_with t ys
unfolding encode_with
encode_with-append t [] ys = refl
encode_with-append t (x ∷ xs) ys = ap (λ l. slice_index t (x / 16) ∷ slice_index t (x % 16) ∷ l) (encode_with-append t xs ys)

-- the bytes of a word of a line
word_bytes_are : (words : List ℕ) (w : ℕ) → word_bytes words w ≡ to_le_bytes w64 (slice_index words w)
unfolding bytes_of_word
word_bytes_are words w = refl

-- the digits of one word more of a line
pub encode-word_more : (words : List ℕ) (w : ℕ) →
    encode_lower (pieces (word_bytes words) 0 (w + 1)) ≡ encode_lower (pieces (word_bytes words) 0 w) ++ encode_lower (to_le_bytes w64 (slice_index words w))
encode-word_more words w =
    let more : pieces (word_bytes words) 0 (w + 1) ≡ pieces (word_bytes words) 0 w ++ word_bytes words w =
    ap (pieces (word_bytes words) 0) (add-one w) ∙ pieces-more (word_bytes words) 0 w ∙ ap (λ (k : ℕ). pieces (word_bytes words) 0 w ++ word_bytes words k) (zero-add w) in
    ap encode_lower more
    ∙ encode_with-append lower_digits (pieces (word_bytes words) 0 w) (word_bytes words w)
    ∙ ap (λ l. encode_lower (pieces (word_bytes words) 0 w) ++ encode_lower l) (word_bytes_are words w)

-- one word more of a sentence
pub sentence-push : (word : List ℕ) (words : List (List ℕ)) (last : List ℕ) → sentence ((word ∷ words) ++ last ∷ []) ≡ sentence (word ∷ words) ++ 32 ∷ last
sentence-push word [] last = refl
sentence-push word (next ∷ words) last =
    ap (λ l. word ++ 32 ∷ l) (sentence-push next words last) ∙ sym (append_assoc word (32 ∷ sentence (next ∷ words)) (32 ∷ last))

-- one word more of a sentence of words
pub sentence-word_more : (f : ℕ → List ℕ) (words : List ℕ) (w : ℕ) → 0 < w → w < length words →
    sentence (map f (take (w + 1) words)) ≡ sentence (map f (take w words)) ++ 32 ∷ f (slice_index words w)
sentence-word_more f [] w some h = absurd (omega arith)
sentence-word_more f (x ∷ words) zero some h = absurd (omega arith)
sentence-word_more f (x ∷ words) (suc w) some h = ap sentence (map_more f (x ∷ words) (suc w) 0 h) ∙ sentence-push (f x) (map f (take w words)) (f (slice_index (x ∷ words) (suc w)))

-- a name and a number stand behind others, and then more
pub behind : {first second : List ℕ} (old name digits rest : List ℕ) → first ≡ old ++ (name ++ digits) → second ≡ first ++ rest → second ≡ old ++ (name ++ (digits ++ rest))
behind old name digits rest p q =
    q ∙ ap (λ l. l ++ rest) p ∙ append_assoc old (name ++ digits) rest ∙ ap (λ l. old ++ l) (append_assoc name digits rest)

-- ---- no line feed

-- a digit is no line feed, nor is what stands for a place that has none
digit_not : (table : List ℕ) (at : ℕ) → has_line_feed table ≡ false → (slice_index table at == line_feed) ≡ false
digit_not [] at none = refl
digit_not (x ∷ table) zero none = (or_parts (x == line_feed) (has_line_feed table) none).0
digit_not (x ∷ table) (suc at) none = digit_not table at (or_parts (x == line_feed) (has_line_feed table) none).1

pub encode_is_line : (bytes : List ℕ) → IsOneLine (encode_lower bytes)
unfolding encode_with
encode_is_line [] = record { no_feed = refl }
encode_is_line (b ∷ bytes) = record { no_feed = rw (digit_not lower_digits (b / 16) refl, digit_not lower_digits (b % 16) refl, (encode_is_line bytes).no_feed) refl }

pub map_is_lines : {A : Type 0} (f : A → List ℕ) → ((a : A) → IsOneLine (f a)) → (xs : List A) → AllByRecursion IsOneLine (map f xs)
map_is_lines f each [] = tt
map_is_lines f each (x ∷ xs) = (each x, map_is_lines f each xs)

pub sentence_is_line : (words : List (List ℕ)) → AllByRecursion IsOneLine words → IsOneLine (sentence words)
sentence_is_line [] h = record { no_feed = refl }
sentence_is_line (word ∷ []) h = h.0
sentence_is_line (word ∷ next ∷ words) h =
    record { no_feed = list_any-append (λ b. b == line_feed) word (32 ∷ sentence (next ∷ words)) ∙ rw (h.0.no_feed, (sentence_is_line (next ∷ words) h.1).no_feed) refl }
