-- Numbers at a place of bytes, and a page of 64 lines as its 4,096 bytes.
use Rattle.std.specs.Prelude.{ℕ, zero, suc, ◌+◌, ◌*◌, List, [], ◌∷◌, ◌++◌, length, take, drop, slice_index}
use Rattle.byteorder.specs.Endian.{little_from, little_bytes}
use Rattle.nvm_model.specs.declared.line.Line.{Line}
use Rattle.nvm_model.specs.LineBytes.{bytes_of_word, pieces, line_bytes}
use Rattle.line_pages.specs.Lines.{Lines}

-- the numbers of two and of eight bytes at a place, the lowest byte first
unfoldable pub u16_at : List ℕ → ℕ → ℕ
u16_at bytes at = little_from at 2 bytes

unfoldable pub u64_at : List ℕ → ℕ → ℕ
u64_at bytes at = little_from at 8 bytes

-- the two bytes of a half word, the lowest first
unfoldable pub bytes_of_half : ℕ → List ℕ
bytes_of_half x = little_bytes 2 x

-- the bytes with other ones in their place from `at` on
abbrev pub overwritten : List ℕ → ℕ → List ℕ → List ℕ
overwritten bytes at new = take at bytes ++ (new ++ drop (at + length new) bytes)

-- the 4,096 bytes of a page: its 64 lines in order
unfoldable pub page_bytes : (ℕ → Line) → List ℕ
page_bytes lines = pieces (λ l. line_bytes (lines l)) 0 64

abbrev pub bytes_of : Lines → ℕ → List ℕ
bytes_of lines page = page_bytes (lines page)

-- the line at place l of a page's bytes
abbrev pub line_at : List ℕ → ℕ → Line
line_at bytes l = record {
  words = u64_at bytes (64 * l) ∷ u64_at bytes (64 * l + 8) ∷ u64_at bytes (64 * l + 16) ∷ u64_at bytes (64 * l + 24)
      ∷ u64_at bytes (64 * l + 32) ∷ u64_at bytes (64 * l + 40) ∷ u64_at bytes (64 * l + 48) ∷ u64_at bytes (64 * l + 56) ∷ [];
}

-- the bytes of a page with one line changed
abbrev pub with_line_bytes : List ℕ → ℕ → Line → List ℕ
with_line_bytes bytes l value = overwritten bytes (64 * l) (line_bytes value)

-- the bytes of two words
abbrev pub word_pair : ℕ → ℕ → List ℕ
word_pair first second = bytes_of_word first ++ bytes_of_word second
