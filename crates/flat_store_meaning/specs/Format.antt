-- How the lines of a log are read as entries, in each format of the log.
use Rattle.std.specs.Prelude.{ℕ, zero, suc, ◌+◌, ◌-◌, ◌*◌, ◌/◌, ◌%◌, ◌≡◌, Bool, false, not, ◌&&◌, ◌||◌, List, [], ◌∷◌, length, take, slice_index, slice_index_or, if◌then◌else◌, ◌==◌, nat_lt, nat_le, Option, Some, None}
use Rattle.std.specs.Int.{bit_at}
use Rattle.nvm_model.specs.declared.line.Line.{Line}
use Rattle.nvm_model.specs.Memory.{line_of}
use Rattle.flat_store_meaning.specs.Layout.{Sizes, pages}
use Rattle.flat_store_meaning.specs.Log.{Change, Entry}
use Rattle.flat_store_meaning.specs.Log.Item.{write, cut}
use Rattle.flat_store_meaning.specs.Log.Entry.{item, commit, abort}

-- Records of whole lines; records of named words; the same with cuts.
pub data Format : Type 0 where
  whole_lines named_words with_cuts : Format

-- The magic word, whose bytes in order are SPITFIR and the format's number.
abbrev pub magic : Format → ℕ
magic whole_lines = 0x3152494654495053
magic named_words = 0x3252494654495053
magic with_cuts = 0x3252494654495053

abbrev pub word_in : Line → ℕ → ℕ
word_in line w = slice_index line.words w

abbrev pub zero_line : Line
zero_line = line_of (λ w. 0)

-- the kind of a record's head
abbrev pub record_kind : Format → ℕ
record_kind whole_lines = 1
record_kind named_words = 4
record_kind with_cuts = 4

abbrev pub is_cut : Format → ℕ → Bool
is_cut whole_lines kind = false
is_cut named_words kind = false
is_cut with_cuts kind = kind == 5

-- the kind of a head that some entry has
abbrev pub is_kind : Format → ℕ → Bool
is_kind format kind = (kind == record_kind format) || ((kind == 2) || ((kind == 3) || is_cut format kind))

-- how many of the words below w a mask names
abbrev pub named_below : ℕ → ℕ → ℕ
named_below mask zero = 0
named_below mask (suc w) = named_below mask w + bit_at mask w

abbrev pub mask_of : Format → Line → ℕ
mask_of whole_lines head = 255
mask_of named_words head = word_in head 3
mask_of with_cuts head = word_in head 3

-- the lines behind the head of a record of n named words: four values stand in the head, eight in each further line
abbrev pub lines_for : ℕ → ℕ
lines_for n = (2 * n - 4 + 7) / 8

-- the lines of a record with this mask, its head among them
abbrev pub record_lines : ℕ → ℕ
record_lines mask = 1 + lines_for (named_below mask 8)

-- how many lines stand behind a head before the next one
abbrev pub lines_behind : Format → Line → ℕ
lines_behind whole_lines head = if word_in head 0 == 1 then 2 else 0
lines_behind named_words head = if word_in head 0 == 4 then lines_for (named_below (word_in head 3) 8) else 0
lines_behind with_cuts head = if word_in head 0 == 4 then lines_for (named_below (word_in head 3) 8) else 0

-- value j of a word record: they stand from word 4 of the head on
abbrev pub value_at : List Line → ℕ → ℕ
value_at lines j = word_in (slice_index_or lines ((4 + j) / 8) zero_line) ((4 + j) % 8)

-- the named words, whose values stand from number `from` on, and 0 for the others
abbrev pub values_line : List Line → ℕ → ℕ → Line
values_line lines mask from = line_of (λ w. if bit_at mask w == 1 then value_at lines (from + named_below mask w) else 0)

-- a record of whole lines: the head, the line before, the line after
abbrev pub line_change : Line → List Line → Change
line_change head behind = record {
  page = word_in head 1;
  line = word_in head 2;
  mask = 255;
  before = slice_index_or behind 0 zero_line;
  after = slice_index_or behind 1 zero_line;
}

-- a record of named words
abbrev pub word_change : Line → List Line → Change
word_change head behind = record {
  page = word_in head 1;
  line = word_in head 2;
  mask = word_in head 3;
  before = values_line (head ∷ behind) (word_in head 3) 0;
  after = values_line (head ∷ behind) (word_in head 3) (named_below (word_in head 3) 8);
}

-- a record by its head and the lines behind it
abbrev pub change_of : Format → Line → List Line → Change
change_of whole_lines head behind = line_change head behind
change_of named_words head behind = word_change head behind
change_of with_cuts head behind = word_change head behind

-- an entry by its head and the lines behind it
abbrev pub entry_of : Format → Line → List Line → Entry
entry_of format head behind =
    if word_in head 0 == 2 then commit
    else if word_in head 0 == 3 then abort
    else if is_cut format (word_in head 0) then item (cut (word_in head 1))
    else item (write (change_of format head behind))

-- the entries of these lines, of which the first `skip` are passed
abbrev pub entries : Format → ℕ → List Line → List Entry
entries format skip [] = []
entries format (suc skip) (line ∷ lines) = entries format skip lines
entries format zero (line ∷ lines) = entry_of format line (take (lines_behind format line) lines) ∷ entries format (lines_behind format line) lines

-- no entry of these lines is cut short
abbrev pub IsWhole : Format → ℕ → List Line → Type 0
IsWhole format skip [] = skip ≡ 0
IsWhole format (suc skip) (line ∷ lines) = IsWhole format skip lines
IsWhole format zero (line ∷ lines) = IsWhole format (lines_behind format line) lines

-- the first of checks 7 and 8 that a head fails
abbrev pub head_check : Format → Sizes → Line → Option ℕ
head_check format g head =
    if not (is_kind format (word_in head 0)) then Some 7
    else if (word_in head 0 == record_kind format) && (nat_le (pages g) (word_in head 1) || (nat_le 64 (word_in head 2)
    || ((mask_of format head == 0) || nat_lt 255 (mask_of format head)))) then Some 8
    else None

-- A check that fails, and the offset of the head that fails it.
pub record LogFault : Type 0 where
  pub offset : ℕ
  pub check : ℕ

-- the first of checks 7, 8 and 9 that a head fails with so many lines behind it
abbrev pub entry_check : Format → Sizes → Line → ℕ → Option ℕ
entry_check format g head behind =
    elim (head_check format g head) [
      | Some check ↦ Some check
      | None ↦ if nat_lt behind (lines_behind format head) then Some 9 else None
    ]

-- the first of checks 7, 8 and 9 that fails among these lines, which stand at the offsets from `offset` on
abbrev pub log_check : Format → Sizes → ℕ → ℕ → List Line → Option LogFault
log_check format g offset skip [] = None
log_check format g offset (suc skip) (line ∷ lines) = log_check format g (offset + 1) skip lines
log_check format g offset zero (line ∷ lines) =
    let rest = log_check format g (offset + 1) (lines_behind format line) lines in
    elim (entry_check format g line (length lines)) [ Some check ↦ Some (record { offset = offset; check = check }) | None ↦ rest ]
