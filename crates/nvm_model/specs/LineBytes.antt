-- A line as its 64 bytes: word w stands at bytes 8w to 8w + 7, the lowest byte first.
use Rattle.std.specs.Prelude.{ℕ, zero, suc, List, [], ◌++◌, slice_index}
use Rattle.byteorder.specs.Endian.{little_bytes}
use Rattle.nvm_model.specs.declared.line.Line.{Line}

-- the eight bytes of a word, the lowest first
unfoldable pub bytes_of_word : ℕ → List ℕ
bytes_of_word x = little_bytes 8 x

-- n pieces in a row, from piece i on
abbrev pub pieces : (ℕ → List ℕ) → ℕ → ℕ → List ℕ
pieces f i zero = []
pieces f i (suc n) = f i ++ pieces f (suc i) n

-- the bytes of one word of a line
abbrev pub word_bytes : List ℕ → ℕ → List ℕ
word_bytes words w = bytes_of_word (slice_index words w)

-- the 64 bytes of a line: its eight words in order
unfoldable pub line_bytes : Line → List ℕ
line_bytes line = pieces (word_bytes line.words) 0 8
