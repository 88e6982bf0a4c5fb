-- The free list and the high water, as the header lines of page 0 and of the free pages have them.
use Rattle.std.specs.Prelude.{◌≡◌, ◌≢◌, ℕ, ◌+◌, ◌<◌, ◌≤◌, ◌⊎◌, Bool, true, List, [], ◌∷◌, slice_index, slice_set, nat_lt, nat_le, not, ◌==◌, ◌&&◌, ◌||◌, if◌then◌else◌, Some}
use Rattle.nvm_model.specs.declared.line.Line.{Line}
use Rattle.damage.specs.declared.evidence.Evidence.{Evidence}
use Rattle.damage.specs.declared.evidence.Evidence.TheVariants.{Super, Frames, Log, Page, Walk}
use Rattle.line_pages.specs.Lines.{Lines, with_line, IsLine}
use Rattle.line_pages.specs.Bytes.{bytes_of, line_at}
use Rattle.damage.specs.Checks.{first_failure, fails}
use Rattle.rows.specs.Rows.{last_key}

-- a word of a line, and the line with one word changed
abbrev pub word : Line → ℕ → ℕ
word line w = slice_index line.words w

abbrev pub with_word : ℕ → ℕ → Line → Line
with_word w value line = record { words = slice_set line.words w value }

-- the kind of a page, and the next page of a free one, or 0
abbrev pub kind_of : Lines → ℕ → ℕ
kind_of lines page = word (lines page 0) 0

abbrev pub next_of : Lines → ℕ → ℕ
next_of lines page = word (lines page 0) 1

-- the number of the first page never used, and the first free page, or 0
abbrev pub high_of : Lines → ℕ
high_of lines = word (lines 0 0) 2

abbrev pub free_head : Lines → ℕ
free_head lines = word (lines 0 0) 3

-- the tests of the header of page 0: its kind, its high water, its first free page
abbrev pub is_catalog : Lines → Bool
is_catalog lines = kind_of lines 0 == 4

abbrev pub high_in_range : ℕ → Lines → Bool
high_in_range count lines = nat_le 1 (high_of lines) && nat_le (high_of lines) count

abbrev pub head_in_range : Lines → Bool
head_in_range lines = nat_lt (free_head lines) (high_of lines)

-- the test of a free page
abbrev pub is_free_page : Lines → ℕ → Bool
is_free_page lines page = (kind_of lines page == 3) && nat_lt (next_of lines page) (high_of lines)

-- From this page on the free pages are these, in order. Each is below the high water.
abbrev pub IsFreeFrom : Lines → ℕ → List ℕ → Type 0
IsFreeFrom lines first [] = first ≡ 0
IsFreeFrom lines first (page ∷ rest) =
    (first ≡ page) × (page ≢ 0) × (page < high_of lines) × (is_free_page lines page ≡ true) × IsFreeFrom lines (next_of lines page) rest

abbrev pub IsFreeList : Lines → List ℕ → Type 0
IsFreeList lines pages = IsFreeFrom lines (free_head lines) pages

-- The checks of the header of page 0, each with its number and its page.
abbrev pub header_checks : ℕ → Lines → List ((ℕ × ℕ) × Bool)
header_checks count lines =
    ((31, 0), is_catalog lines)
    ∷ ((33, 0), high_in_range count lines)
    ∷ ((34, 0), head_in_range lines) ∷ []

-- those that are made before a page is taken
abbrev pub take_checks : ℕ → Lines → List ((ℕ × ℕ) × Bool)
take_checks count lines =
    ((31, 0), is_catalog lines)
    ∷ ((33, 0), high_in_range count lines)
    ∷ ((34, 0), head_in_range lines)
    ∷ ((36, free_head lines), (free_head lines == 0) || is_free_page lines (free_head lines))
    ∷ ((37, 0), not ((free_head lines == 0) && (high_of lines == count))) ∷ []

-- a header that passes its checks
pub record FitsHeader (count : ℕ) (line : Line) : Type 0 where
  pub kind : word line 0 ≡ 4
  pub some : 1 ≤ word line 2
  pub within : word line 2 ≤ count
  pub head : word line 3 < word line 2

-- the page taken: the head of the free list, or else the one at the high water
abbrev pub page_taken : Lines → ℕ
page_taken lines = if free_head lines == 0 then high_of lines else free_head lines

-- the header of page 0 after that
abbrev pub header_after_take : Lines → Line
header_after_take lines =
    if free_head lines == 0 then with_word 2 (high_of lines + 1) (lines 0 0)
    else with_word 3 (next_of lines (free_head lines)) (lines 0 0)

abbrev pub after_take : Lines → Lines
after_take lines = with_line 0 0 (header_after_take lines) lines

-- the header of a free page, and the pages after a page became the head of the free list
abbrev pub free_line : ℕ → Line
free_line next = record { words = 3 ∷ next ∷ 0 ∷ 0 ∷ 0 ∷ 0 ∷ 0 ∷ 0 ∷ [] }

abbrev pub after_give : ℕ → Lines → Lines
after_give page lines = with_line 0 0 (with_word 3 page (lines 0 0)) (with_line page 0 (free_line (free_head lines)) lines)

-- the evidence of a page outside the trees: level 0 and the bounds of a root
abbrev pub IsPageEvidence : ℕ → ℕ → Evidence → Type 0
IsPageEvidence at number (Page page level low high check) = (page ≡ at) × (level ≡ 0) × (low ≡ 0) × (high ≡ last_key) × (check ≡ number)
IsPageEvidence at number (Super words check) = ⊥
IsPageEvidence at number (Frames first second entry check) = ⊥
IsPageEvidence at number (Log offset line tail check) = ⊥
IsPageEvidence at number (Walk page kept found check) = ⊥

-- The evidence names the first check that fails, and the buffer has that page's bytes, whose first line is of eight words.
pub record IsSpaceDamage (checks : List ((ℕ × ℕ) × Bool)) (lines : Lines) (buffer : List ℕ) (evidence : Evidence) : Type 0 where
  pub number : ℕ
  pub page : ℕ
  pub first : first_failure checks ≡ Some (number, page)
  pub shown : IsPageEvidence page number evidence
  pub bytes : buffer ≡ bytes_of lines page
  pub line : IsLine (lines page 0)

-- The checks that the header of a page outside the trees fails by its bytes alone: of page 0 its kind, its high water, its
-- first free page, and that a page is left; of the last free page its kind and that none follows.
abbrev pub space_checks : ℕ → Line → List (ℕ × Bool)
space_checks count header =
    (31, word header 0 == 4)
    ∷ (33, nat_le 1 (word header 2) && nat_le (word header 2) count)
    ∷ (34, nat_lt (word header 3) (word header 2))
    ∷ (36, (word header 0 == 3) && (word header 1 == 0))
    ∷ (37, not ((word header 3 == 0) && (word header 2 == count))) ∷ []

-- Whatever the store holds: the evidence names a page outside the trees, page 0 unless the check is that of a free page, and
-- the buffer fails the check that it names.
pub record FailsSpace (count : ℕ) (buffer : List ℕ) (evidence : Evidence) : Type 0 where
  pub number : ℕ
  pub page : ℕ
  pub inside : page < count
  pub of_page : (page ≡ 0) ⊎ (number ≡ 36)
  pub shown : IsPageEvidence page number evidence
  pub fails : fails (space_checks count (line_at buffer 0)) number ≡ true
