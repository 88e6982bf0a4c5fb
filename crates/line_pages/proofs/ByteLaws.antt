-- What stands where in the bytes of lines and pages.
use Rattle.std.proofs.Common.{◌≡◌, ◌≢◌, ℕ, zero, suc, ◌+◌, ◌-◌, ◌*◌, ◌^◌, ◌<◌, ◌≤◌, true, false, nat_eq, inl, inr, List, [], ◌∷◌, ◌++◌, length, take, drop, get_or, slice_index, slice_range, refl, sym, ap, ◌∙◌, arith, length-append, mul-suc, mul-zero, zero-add, add-one, append_assoc, append-nil, take_all, drop-drop, take-add, add-zero}
use Rattle.std.proofs.lemmas.List.{get_or_append_left, get_or-append-add, take_at, drop_at, get_or-drop, get_or-take, length-take-le}
use Rattle.std.proofs.Math.ListN.{get_or-eq_default}
use Rattle.std.proofs.lemmas.Bool.{cases_lt, eq-eqb, ne_eqb, and_right}
use Rattle.byteorder.specs.Endian.{little_bytes}
use Rattle.byteorder.specs.Numbers.{little_number-reads_back}
use Rattle.nvm_model.specs.declared.line.Line.{Line}
use Rattle.nvm_model.proofs.PieceLaws.{length-pieces, get_or-pieces, pieces-more, pieces-same}
use Rattle.line_pages.specs.Lines.{Lines, with_line, IsLine}
use Rattle.line_pages.specs.Bytes.{u16_at, u64_at, bytes_of_half, page_bytes, bytes_of, line_at, overwritten, with_line_bytes, word_pair}
use Rattle.nvm_model.specs.LineBytes.{pieces, bytes_of_word, word_bytes, line_bytes}
use Rattle.line_pages.proofs.NumberLaws.{little_from-same, length-overwritten, Wrote, wrote, u64_at-same}

pub length-word_bytes : (words : List ℕ) (w : ℕ) → length (word_bytes words w) ≡ 8
unfolding bytes_of_word
length-word_bytes words w = refl

pub length-bytes_of_word : (x : ℕ) → length (bytes_of_word x) ≡ 8
unfolding bytes_of_word
length-bytes_of_word x = refl

pub length-line_bytes : (line : Line) → length (line_bytes line) ≡ 64
unfolding line_bytes
length-line_bytes line = length-pieces 8 (word_bytes line.words) (length-word_bytes line.words) 0 8

pub length-page_bytes : (lines : ℕ → Line) → length (page_bytes lines) ≡ 4096
unfolding page_bytes
length-page_bytes lines = length-pieces 64 (λ l. line_bytes (lines l)) (λ l. length-line_bytes (lines l)) 0 64

-- the byte at place j of word w of line l
pub get_or-page_bytes : (lines : ℕ → Line) (l w j : ℕ) → l < 64 → w < 8 → j < 8
    → get_or (page_bytes lines) (64 * l + (8 * w + j)) 0 ≡ get_or (word_bytes (lines l).words w) j 0
unfolding page_bytes line_bytes
get_or-page_bytes lines l w j l_in w_in j_in =
    get_or-pieces 64 (λ l. line_bytes (lines l)) (λ l. length-line_bytes (lines l)) 0 64 l (8 * w + j) l_in (omega arith)
    ∙ ap (λ (at : ℕ). get_or (line_bytes (lines at)) (8 * w + j) 0) (omega arith)
    ∙ get_or-pieces 8 (word_bytes (lines l).words) (length-word_bytes (lines l).words) 0 8 w j w_in j_in
    ∙ ap (λ (at : ℕ). get_or (word_bytes (lines l).words at) j 0) (omega arith)

-- a word of a line stands in the bytes of its page
pub word_in_page : (lines : ℕ → Line) (l w at : ℕ) → l < 64 → w < 8 → at ≡ 64 * l + 8 * w → slice_index (lines l).words w < 2 ^ 64
    → u64_at (page_bytes lines) at ≡ slice_index (lines l).words w
unfolding u64_at bytes_of_word
word_in_page lines l w at l_in w_in is fits =
    little_from-same at 0 8 (page_bytes lines) (little_bytes 8 (slice_index (lines l).words w) ++ [])
    (λ j j_in. ap (λ (p : ℕ). get_or (page_bytes lines) p 0) (omega (arith, is)) ∙ get_or-page_bytes lines l w j l_in w_in j_in
    ∙ ap (λ (p : ℕ). get_or (word_bytes (lines l).words w) p 0) (omega arith)
    ∙ sym (ap (λ (xs : List ℕ). get_or xs (0 + j) 0) (append-nil (little_bytes 8 (slice_index (lines l).words w)))))
    ∙ little_number-reads_back 8 (slice_index (lines l).words w) [] fits

pieces-split : (s : ℕ) (f : ℕ → List ℕ) → ((i : ℕ) → length (f i) ≡ s) → (x : List ℕ) (t : ℕ) (g : ℕ → List ℕ) → g t ≡ x → ((k : ℕ) → k ≢ t → g k ≡ f k) → (i n j : ℕ) → t ≡ i + j → j < n
    → pieces g i n ≡ take (s * j) (pieces f i n) ++ (x ++ drop (s * suc j) (pieces f i n))
pieces-split s f each x t g here other i zero j is in_row = absurd (omega arith)
pieces-split s f each x t g here other i (suc n) zero is in_row =
    let same = pieces-same g f (suc i) n (λ k low high. other k (omega arith)) in
    let g_here : g i ≡ x = ap g (omega arith) ∙ here in
    let none = mul-zero s in
    let one : s * suc zero ≡ s = omega (arith, mul-suc s 0, mul-zero s) in
    rw (none, one, drop_at (f i) (pieces f (suc i) n) s (each i), same, g_here) refl
pieces-split s f each x t g here other i (suc n) (suc j) is in_row =
    let ih = pieces-split s f each x t g here other (suc i) n j (omega arith) (omega arith) in
    let g_here : g i ≡ f i = other i (omega arith) in
    let taken = take_more_of (f i) (pieces f (suc i) n) (s * j) (s * suc j) (omega (arith, each i, mul-suc s j)) in
    let dropped = drop_more_of (f i) (pieces f (suc i) n) (s * suc j) (s * suc (suc j)) (omega (arith, each i, mul-suc s (suc j))) in
    rw (g_here, ih, taken, dropped) (sym (append_assoc (f i) (take (s * j) (pieces f (suc i) n)) (x ++ drop (s * suc j) (pieces f (suc i) n))))
  where
    take_more_of : (xs ys : List ℕ) (n m : ℕ) → m ≡ length xs + n → take m (xs ++ ys) ≡ xs ++ take n ys
    take_more_of [] ys n m e = ap (λ (k : ℕ). take k ys) (omega (arith, e))
    take_more_of (z ∷ xs) ys n zero e = absurd (omega (arith, e))
    take_more_of (z ∷ xs) ys n (suc m) e = ap (λ r. z ∷ r) (take_more_of xs ys n m (omega (arith, e)))

    drop_more_of : (xs ys : List ℕ) (n m : ℕ) → m ≡ length xs + n → drop m (xs ++ ys) ≡ drop n ys
    drop_more_of [] ys n m e = ap (λ (k : ℕ). drop k ys) (omega (arith, e))
    drop_more_of (z ∷ xs) ys n zero e = absurd (omega (arith, e))
    drop_more_of (z ∷ xs) ys n (suc m) e = drop_more_of xs ys n m (omega (arith, e))

-- a number of eight bytes from place j of a word on, which may reach into the next one
pub number_across : (lines : ℕ → Line) (l w m v j at : ℕ) → l < 64 → w < 8 → m < 64 → v < 8 → 64 * m + 8 * v ≡ 64 * l + 8 * w + 8 → j ≤ 8 → at ≡ 64 * l + 8 * w + j
    → u64_at (page_bytes lines) at ≡ u64_at (word_pair (slice_index (lines l).words w) (slice_index (lines m).words v)) j
unfolding u64_at bytes_of_word
number_across lines l w m v j at l_in w_in m_in v_in next j_in is =
    let first = bytes_of_word (slice_index (lines l).words w) in
    let second = bytes_of_word (slice_index (lines m).words v) in
    little_from-same at j 8 (page_bytes lines) (first ++ second) (λ i i_in.
    elim (cases_lt (j + i) 8) [
      | inl low ↦
          ap (λ (p : ℕ). get_or (page_bytes lines) p 0) (omega (arith, is)) ∙ get_or-page_bytes lines l w (j + i) l_in w_in low
          ∙ sym (get_or_append_left first second 0 (j + i) low)
      | inr high ↦
          ap (λ (p : ℕ). get_or (page_bytes lines) p 0) (omega (arith, is, next, high)) ∙ get_or-page_bytes lines m v (j + i - 8) m_in v_in (omega (arith, high, j_in, i_in))
          ∙ sym (ap (λ (p : ℕ). get_or (first ++ second) p 0) (omega (arith, high)) ∙ get_or-append-add first second (j + i - 8) 0)
    ])

-- a number of eight bytes at the start of a word
pub number_in_word : (lines : ℕ → Line) (l w at other : ℕ) → l < 64 → w < 8 → at ≡ 64 * l + 8 * w → u64_at (page_bytes lines) at ≡ u64_at (word_pair (slice_index (lines l).words w) other) 0
unfolding u64_at
number_in_word lines l w at other l_in w_in is =
    let first = bytes_of_word (slice_index (lines l).words w) in
    little_from-same at 0 8 (page_bytes lines) (first ++ bytes_of_word other) (λ i i_in.
    ap (λ (p : ℕ). get_or (page_bytes lines) p 0) (omega (arith, is)) ∙ get_or-page_bytes lines l w i l_in w_in i_in
    ∙ sym (ap (λ (p : ℕ). get_or (first ++ bytes_of_word other) p 0) (zero-add i) ∙ get_or_append_left first (bytes_of_word other) 0 i (omega (arith, length-bytes_of_word (slice_index (lines l).words w), i_in))))

-- a number of two bytes in a word of a page
pub half_in_page : (lines : ℕ → Line) (l w j at : ℕ) → l < 64 → w < 8 → j + 2 ≤ 8 → at ≡ 64 * l + 8 * w + j → u16_at (page_bytes lines) at ≡ u16_at (bytes_of_word (slice_index (lines l).words w)) j
unfolding u16_at
half_in_page lines l w j at l_in w_in j_in is =
    little_from-same at j 2 (page_bytes lines) (bytes_of_word (slice_index (lines l).words w)) (λ i i_in.
    ap (λ (p : ℕ). get_or (page_bytes lines) p 0) (omega (arith, is)) ∙ get_or-page_bytes lines l w (j + i) l_in w_in (omega (arith, j_in, i_in)))

-- a word of a page's first line, as it was read
pub header_word : (lines : Lines) (page w : ℕ) (header : Line) → header ≡ lines page 0 → w < 8 → slice_index header.words w < 2 ^ 64 → u64_at (bytes_of lines page) (8 * w) ≡ slice_index header.words w
header_word lines page w header is w_in fits =
    let same : slice_index (lines page 0).words w ≡ slice_index header.words w = ap (λ (line : Line). slice_index line.words w) (sym is) in
    word_in_page (lines page) 0 w (8 * w) (omega arith) w_in (omega arith) (omega (arith, same, fits)) ∙ same

-- a write of one line changes its 64 bytes of its page, and no other page
pub bytes_of-with_line : (lines : Lines) (page l : ℕ) (value : Line) → l < 64 → bytes_of (with_line page l value lines) page ≡ with_line_bytes (bytes_of lines page) l value
unfolding page_bytes
bytes_of-with_line lines page l value l_in =
    let split = pieces-split 64 (λ k. line_bytes (lines page k)) (λ k. length-line_bytes (lines page k)) (line_bytes value) l (λ k. line_bytes (with_line page l value lines page k))
    (written (eq-eqb page page refl) (eq-eqb l l refl)) (λ k ne. ap line_bytes (unwritten k ne)) 0 64 l (omega arith) l_in in
    split ∙ ap (λ k. take (64 * l) (bytes_of lines page) ++ (line_bytes value ++ drop k (bytes_of lines page))) (omega (arith, length-line_bytes value))
  where
    written : nat_eq page page ≡ true → nat_eq l l ≡ true → line_bytes (with_line page l value lines page l) ≡ line_bytes value
    written e f = rw (e, f) refl

    unwritten : (k : ℕ) → k ≢ l → with_line page l value lines page k ≡ lines page k
    unwritten k ne = rw (ne_eqb k l ne, and_right (nat_eq page page) false refl) refl

pub bytes_of-other : (lines : Lines) (page l n : ℕ) (value : Line) → n ≢ page → bytes_of (with_line page l value lines) n ≡ bytes_of lines n
bytes_of-other lines page l n value ne = ap page_bytes (λ i k. at k i)
  where
    at : (k : ℕ) → with_line page l value lines n k ≡ lines n k
    at k = rw (ne_eqb n page ne) refl

-- a list of eight, by its places
pub eight : (ws : List ℕ) → length ws ≡ 8 → get_or ws 0 0 ∷ get_or ws 1 0 ∷ get_or ws 2 0 ∷ get_or ws 3 0 ∷ get_or ws 4 0 ∷ get_or ws 5 0 ∷ get_or ws 6 0 ∷ get_or ws 7 0 ∷ [] ≡ ws
eight [] e = absurd (omega (arith, e))
eight (a ∷ []) e = absurd (omega (arith, e))
eight (a ∷ b ∷ []) e = absurd (omega (arith, e))
eight (a ∷ b ∷ c ∷ []) e = absurd (omega (arith, e))
eight (a ∷ b ∷ c ∷ d ∷ []) e = absurd (omega (arith, e))
eight (a ∷ b ∷ c ∷ d ∷ f ∷ []) e = absurd (omega (arith, e))
eight (a ∷ b ∷ c ∷ d ∷ f ∷ g ∷ []) e = absurd (omega (arith, e))
eight (a ∷ b ∷ c ∷ d ∷ f ∷ g ∷ h ∷ []) e = absurd (omega (arith, e))
eight (a ∷ b ∷ c ∷ d ∷ f ∷ g ∷ h ∷ i ∷ []) e = refl
eight (a ∷ b ∷ c ∷ d ∷ f ∷ g ∷ h ∷ i ∷ j ∷ ws) e = absurd (omega (arith, e))

-- a line is read back from the bytes of its page
pub line_at-page_bytes : (lines : ℕ → Line) (l : ℕ) → l < 64 → IsLine (lines l) → line_at (page_bytes lines) l ≡ lines l
line_at-page_bytes lines l l_in is =
    rw (
      word 0 (64 * l) (omega arith) (omega arith),
      word 1 (64 * l + 8) (omega arith) (omega arith),
      word 2 (64 * l + 16) (omega arith) (omega arith),
      word 3 (64 * l + 24) (omega arith) (omega arith),
      word 4 (64 * l + 32) (omega arith) (omega arith),
      word 5 (64 * l + 40) (omega arith) (omega arith),
      word 6 (64 * l + 48) (omega arith) (omega arith),
      word 7 (64 * l + 56) (omega arith) (omega arith),
    )
    (ap (λ ws. record { words = ws }) (eight (lines l).words is.eight))
  where
    word : (w at : ℕ) → w < 8 → at ≡ 64 * l + 8 * w → u64_at (page_bytes lines) at ≡ get_or (lines l).words w 0
    word w at w_in e = word_in_page lines l w at l_in w_in e (is.fit w)

pub u64_at-drop : (k : ℕ) (xs : List ℕ) → u64_at (drop k xs) 0 ≡ u64_at xs k
unfolding u64_at
u64_at-drop k xs = little_from-same 0 k 8 (drop k xs) xs (λ j j_in. get_or-drop k xs (0 + j) 0 ∙ ap (λ (p : ℕ). get_or xs p 0) (omega arith))

pub u64_at-take : (n : ℕ) (xs : List ℕ) → 8 ≤ n → u64_at (take n xs) 0 ≡ u64_at xs 0
unfolding u64_at
u64_at-take n xs h = little_from-same 0 0 8 (take n xs) xs (λ j j_in. get_or-take n xs (0 + j) 0 (omega arith))

pub u16_at-drop : (k : ℕ) (xs : List ℕ) → u16_at (drop k xs) 0 ≡ u16_at xs k
unfolding u16_at
u16_at-drop k xs = little_from-same 0 k 2 (drop k xs) xs (λ j j_in. get_or-drop k xs (0 + j) 0 ∙ ap (λ (p : ℕ). get_or xs p 0) (omega arith))

pub u16_at-take : (n : ℕ) (xs : List ℕ) → 2 ≤ n → u16_at (take n xs) 0 ≡ u16_at xs 0
unfolding u16_at
u16_at-take n xs h = little_from-same 0 0 2 (take n xs) xs (λ j j_in. get_or-take n xs (0 + j) 0 (omega arith))

-- the bytes of one word and of one half word
pub one_word : (x : ℕ) → overwritten (0 ∷ 0 ∷ 0 ∷ 0 ∷ 0 ∷ 0 ∷ 0 ∷ 0 ∷ []) 0 (bytes_of_word x) ≡ bytes_of_word x
unfolding bytes_of_word
one_word x = refl

pub one_half : (x : ℕ) → overwritten (0 ∷ 0 ∷ []) 0 (bytes_of_half x) ≡ bytes_of_half x
unfolding bytes_of_half
one_half x = refl

pub length-bytes_of_half : (x : ℕ) → length (bytes_of_half x) ≡ 2
unfolding bytes_of_half
length-bytes_of_half x = refl

-- one piece more in its place
pub piece_put : (s : ℕ) (xs : List ℕ) (f : ℕ → List ℕ) (k : ℕ) (new : List ℕ) → length new ≡ s → s * k + s ≤ length xs
    → take (s * k) xs ≡ pieces f 0 k → new ≡ f k → take (s * (k + 1)) (overwritten xs (s * k) new) ≡ pieces f 0 (k + 1)
piece_put s xs f k new size fits so_far here =
    let front : length (take (s * k) xs ++ new) ≡ s * (k + 1) = length-append (take (s * k) xs) new ∙ omega (arith, size, length-take-le (s * k) xs (omega arith), mul-suc s k, add-one k) in
    ap (take (s * (k + 1))) (sym (append_assoc (take (s * k) xs) new (drop (s * k + length new) xs)))
    ∙ take_at (take (s * k) xs ++ new) (drop (s * k + length new) xs) (s * (k + 1)) front
    ∙ ap (λ ys. ys ++ new) so_far ∙ ap (λ ys. pieces f 0 k ++ ys) here
    ∙ ap (λ n. pieces f 0 k ++ f n) (sym (zero-add k)) ∙ sym (pieces-more f 0 k) ∙ ap (pieces f 0) (sym (add-one k))

pub length-with_line : (xs : List ℕ) (l : ℕ) (value : Line) → length xs ≡ 4096 → l < 64 → length (with_line_bytes xs l value) ≡ 4096
length-with_line xs l value size l_in = length-overwritten xs (64 * l) (line_bytes value) (omega (arith, size, length-line_bytes value)) ∙ size

-- one line more of a page in its place
pub line_copied : (xs : List ℕ) (f : ℕ → List ℕ) (l : ℕ) (value : Line) → length xs ≡ 4096 → l < 64
    → take (64 * l) xs ≡ pieces f 0 l → line_bytes value ≡ f l → take (64 * (l + 1)) (with_line_bytes xs l value) ≡ pieces f 0 (l + 1)
line_copied xs f l value size l_in so_far here = piece_put 64 xs f l (line_bytes value) (length-line_bytes value) (omega (arith, size)) so_far here

-- the bytes of two words
pub two_words : (first second : ℕ) → overwritten (overwritten (0 ∷ 0 ∷ 0 ∷ 0 ∷ 0 ∷ 0 ∷ 0 ∷ 0 ∷ 0 ∷ 0 ∷ 0 ∷ 0 ∷ 0 ∷ 0 ∷ 0 ∷ 0 ∷ []) 0 (bytes_of_word first)) 8 (bytes_of_word second) ≡ word_pair first second
unfolding bytes_of_word
two_words first second = refl

-- parts in a row are one part
join_parts : (xs : List ℕ) (a b c : ℕ) → a ≤ b → b ≤ c → slice_range xs a b ++ slice_range xs b c ≡ slice_range xs a c
join_parts xs a b c low high =
    let all : c - a ≡ (b - a) + (c - b) = omega arith in
    let on : b ≡ (b - a) + a = omega arith in
    sym (ap (λ n. take n (drop a xs)) all ∙ take-add (b - a) (c - b) (drop a xs) ∙ ap (λ ys. take (b - a) (drop a xs) ++ take (c - b) ys) (drop-drop (b - a) a xs ∙ ap (λ n. drop n xs) (omega (arith, on))))

-- equal pieces that are the parts of a list make the list
parts_of : (s : ℕ) (xs : List ℕ) (f : ℕ → List ℕ) (i n : ℕ) → ((k : ℕ) → i ≤ k → k < i + n → f k ≡ slice_range xs (s * k) (s * k + s)) → pieces f i n ≡ slice_range xs (s * i) (s * i + s * n)
parts_of s xs f i zero are = let none : 0 ≡ s * i + s * 0 - s * i = omega (arith, mul-zero s) in ap (λ n. take n (drop (s * i) xs)) none
parts_of s xs f i (suc n) are =
    let here = are i (omega arith) (omega arith) in
    let rest = parts_of s xs f (suc i) n (λ k low high. are k (omega arith) (omega arith)) in
    let next : s * suc i ≡ s * i + s = mul-suc s i ∙ omega arith in
    let end : s * suc i + s * n ≡ s * i + s * suc n = omega (arith, next, mul-suc s n) in
    ap (λ r. r ++ pieces f (suc i) n) here ∙ ap (λ r. slice_range xs (s * i) (s * i + s) ++ r) (rest ∙ ap (λ a. slice_range xs a (s * suc i + s * n)) next ∙ ap (λ b. slice_range xs (s * i + s) b) end)
    ∙ join_parts xs (s * i) (s * i + s) (s * i + s * suc n) (omega arith) (omega (arith, mul-suc s n))

-- a line whose words are those of a part has its bytes
pub words_are_part : (xs words : List ℕ) (at : ℕ) → ((w : ℕ) → w < 8 → word_bytes words w ≡ slice_range xs (at + 8 * w) (at + 8 * w + 8)) → line_bytes (record { words = words }) ≡ slice_range xs at (at + 64)
unfolding line_bytes
words_are_part xs words at are =
    parts_of 8 (drop at xs) (word_bytes words) 0 8 (λ k low high. are k (omega arith) ∙ part_from k) ∙ whole
  where
    part_from : (k : ℕ) → slice_range xs (at + 8 * k) (at + 8 * k + 8) ≡ slice_range (drop at xs) (8 * k) (8 * k + 8)
    part_from k =
        let size : at + 8 * k + 8 - (at + 8 * k) ≡ 8 * k + 8 - 8 * k = omega arith in
        ap (λ n. take n (drop (at + 8 * k) xs)) size ∙ ap (take (8 * k + 8 - 8 * k)) (ap (λ n. drop n xs) (omega arith) ∙ sym (drop-drop (8 * k) at xs))

    whole : slice_range (drop at xs) 0 64 ≡ slice_range xs at (at + 64)
    whole = let size : 64 ≡ at + 64 - at = omega arith in ap (λ n. take n (drop at xs)) size

-- lines with the bytes of the parts of a page have the page's bytes
pub lines_are_page : (bytes : List ℕ) (lines : ℕ → Line) → length bytes ≡ 4096 → ((l : ℕ) → l < 64 → line_bytes (lines l) ≡ slice_range bytes (64 * l) (64 * l + 64)) → page_bytes lines ≡ bytes
unfolding page_bytes
lines_are_page bytes lines size are =
    parts_of 64 bytes (λ l. line_bytes (lines l)) 0 64 (λ l low high. are l (omega arith)) ∙ take_all 4096 bytes (omega (arith, size))

-- what holds of eight places
pub each_of_eight : (P : ℕ → Type 0) → P 0 → P 1 → P 2 → P 3 → P 4 → P 5 → P 6 → P 7 → (w : ℕ) → w < 8 → P w
each_of_eight P a b c d e f g h zero below = a
each_of_eight P a b c d e f g h (suc zero) below = b
each_of_eight P a b c d e f g h (suc (suc zero)) below = c
each_of_eight P a b c d e f g h (suc (suc (suc zero))) below = d
each_of_eight P a b c d e f g h (suc (suc (suc (suc zero)))) below = e
each_of_eight P a b c d e f g h (suc (suc (suc (suc (suc zero))))) below = f
each_of_eight P a b c d e f g h (suc (suc (suc (suc (suc (suc zero)))))) below = g
each_of_eight P a b c d e f g h (suc (suc (suc (suc (suc (suc (suc zero))))))) below = h
each_of_eight P a b c d e f g h (suc (suc (suc (suc (suc (suc (suc (suc w)))))))) below = absurd (omega arith)

-- eight words of eight bytes each are a line
pub eight_words : (a b c d e f g h : ℕ) → a < 2 ^ 64 → b < 2 ^ 64 → c < 2 ^ 64 → d < 2 ^ 64 → e < 2 ^ 64 → f < 2 ^ 64 → g < 2 ^ 64 → h < 2 ^ 64
    → IsLine (record { words = a ∷ b ∷ c ∷ d ∷ e ∷ f ∷ g ∷ h ∷ [] })
eight_words a b c d e f g h a_fits b_fits c_fits d_fits e_fits f_fits g_fits h_fits = record { eight = refl; fit = fit }
  where
    fit : (w : ℕ) → slice_index (a ∷ b ∷ c ∷ d ∷ e ∷ f ∷ g ∷ h ∷ []) w < 2 ^ 64
    fit w =
        elim (cases_lt w 8) [
          | inl below ↦ each_of_eight (λ w. slice_index (a ∷ b ∷ c ∷ d ∷ e ∷ f ∷ g ∷ h ∷ []) w < 2 ^ 64) a_fits b_fits c_fits d_fits e_fits f_fits g_fits h_fits w below
          | inr past ↦ let none : slice_index (a ∷ b ∷ c ∷ d ∷ e ∷ f ∷ g ∷ h ∷ []) w ≡ 0 = get_or-eq_default (a ∷ b ∷ c ∷ d ∷ e ∷ f ∷ g ∷ h ∷ []) 0 past in omega (arith, none)
        ]

-- a number within what was put at a place
put_number : (bytes new : List ℕ) (at k : ℕ) → at + length new ≤ length bytes → k + 8 ≤ length new → u64_at (overwritten bytes at new) (at + k) ≡ u64_at new k
unfolding u64_at
put_number bytes new at k fits within =
    let w : Wrote bytes at new (overwritten bytes at new) = wrote bytes at new fits in
    little_from-same (at + k) k 8 (overwritten bytes at new) new (λ j j_in. ap (λ (p : ℕ). get_or (overwritten bytes at new) p 0) (omega arith) ∙ w.here (k + j) (omega arith))

-- a word of a line in the line's bytes
word_in_line : (line : Line) (w k : ℕ) → w < 8 → k ≡ 8 * w → slice_index line.words w < 2 ^ 64 → u64_at (line_bytes line) k ≡ slice_index line.words w
unfolding u64_at line_bytes bytes_of_word
word_in_line line w k w_in is fits =
    let word = slice_index line.words w in
    little_from-same k 0 8 (line_bytes line) (little_bytes 8 word ++ [])
    (λ j j_in.
    let place : k + j ≡ 8 * w + j = omega (arith, is) in
    let here : 0 + w ≡ w = omega arith in
    let same : j ≡ 0 + j = omega arith in
    ap (λ p. get_or (line_bytes line) p 0) place ∙ get_or-pieces 8 (word_bytes line.words) (length-word_bytes line.words) 0 8 w j w_in j_in
    ∙ ap (λ p. get_or (word_bytes line.words p) j 0) here ∙ ap (λ p. get_or (little_bytes 8 word) p 0) same
    ∙ sym (ap (λ xs. get_or xs (0 + j) 0) (append-nil (little_bytes 8 word))))
    ∙ little_number-reads_back 8 word [] fits

-- a line that was put into a page is the line there
pub line_at-written : (bytes : List ℕ) (l : ℕ) (value : Line) → length bytes ≡ 4096 → l < 64 → IsLine value → line_at (with_line_bytes bytes l value) l ≡ value
line_at-written bytes l value size l_in is =
    rw (
      first,
      word 1 8 (omega arith) (omega arith),
      word 2 16 (omega arith) (omega arith),
      word 3 24 (omega arith) (omega arith),
      word 4 32 (omega arith) (omega arith),
      word 5 40 (omega arith) (omega arith),
      word 6 48 (omega arith) (omega arith),
      word 7 56 (omega arith) (omega arith),
    )
    (ap (λ ws. record { words = ws }) (eight value.words is.eight))
  where
    word : (w k : ℕ) → w < 8 → k ≡ 8 * w → u64_at (with_line_bytes bytes l value) (64 * l + k) ≡ get_or value.words w 0
    word w k w_in e =
        put_number bytes (line_bytes value) (64 * l) k (omega (arith, size, length-line_bytes value)) (omega (arith, e, length-line_bytes value))
        ∙ word_in_line value w k w_in e (is.fit w)

    first : u64_at (with_line_bytes bytes l value) (64 * l) ≡ get_or value.words 0 0
    first = ap (λ (p : ℕ). u64_at (with_line_bytes bytes l value) p) (sym (add-zero (64 * l))) ∙ word 0 0 (omega arith) (omega arith)

-- the other lines of the page are as they were
pub line_at-other : (bytes : List ℕ) (l m : ℕ) (value : Line) → length bytes ≡ 4096 → l < 64 → m < 64 → m ≢ l → line_at (with_line_bytes bytes l value) m ≡ line_at bytes m
line_at-other bytes l m value size l_in m_in apart =
    rw (
      word (64 * m) (omega arith) (omega arith),
      word (64 * m + 8) (omega arith) (omega arith),
      word (64 * m + 16) (omega arith) (omega arith),
      word (64 * m + 24) (omega arith) (omega arith),
      word (64 * m + 32) (omega arith) (omega arith),
      word (64 * m + 40) (omega arith) (omega arith),
      word (64 * m + 48) (omega arith) (omega arith),
      word (64 * m + 56) (omega arith) (omega arith),
    )
    refl
  where
    changed : Wrote bytes (64 * l) (line_bytes value) (with_line_bytes bytes l value)
    changed = wrote bytes (64 * l) (line_bytes value) (omega (arith, size, length-line_bytes value))

    word : (at : ℕ) → 64 * m ≤ at → at + 8 ≤ 64 * m + 64 → u64_at (with_line_bytes bytes l value) at ≡ u64_at bytes at
    word at low high =
        elim (cases_lt m l) [
          | inl before ↦ u64_at-same 0 (64 * l) at bytes (with_line_bytes bytes l value) changed.before (omega arith) (omega arith)
          | inr past ↦
              let after : l < m = omega (arith, apart) in
              u64_at-same (64 * l + length (line_bytes value)) (length bytes) at bytes (with_line_bytes bytes l value) changed.after (omega (arith, after, length-line_bytes value)) (omega (arith, size))
        ]
