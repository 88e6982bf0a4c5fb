-- What a search in a page costs: the lines that it touches.
use Rattle.std.specs.Prelude.{◌≡◌, ℕ, zero, suc, ◌+◌, ◌-◌, ◌*◌, ◌^◌, ◌<◌, ◌≤◌, List, ◌∷◌, ◌++◌, length, flat_map}
use Rattle.line_pages.specs.Bytes.{u16_at}
use Rattle.line_pages.specs.Cost.{lines_of}
use Rattle.rows.specs.Rows.{Each}
use Rattle.page_format.specs.Node.{entry_count}

-- the probe of a row: its slot before the key of its record
abbrev pub row_probe : List ℕ → ℕ → List ℕ
row_probe bytes at = lines_of (64 + 4 * at) 2 ++ lines_of (u16_at bytes (64 + 4 * at)) 8

-- the probe of a child: its key
abbrev pub child_probe : ℕ → List ℕ
child_probe at = lines_of (64 + 16 * at) 8

-- Some of `count` entries were probed, one after the other. They are as many as the halvings of a width take to come to
-- nothing, at most.
pub record Probes (probe : ℕ → List ℕ) (count width : ℕ) (lines : List ℕ) : Type 0 where
  pub entries : List ℕ
  pub inside : Each (λ at. at < count) entries
  pub few : (n : ℕ) → width < 2 ^ n → length entries ≤ n
  pub lines_are : lines ≡ flat_map probe entries

-- of an inner page the child's page is read too
pub record ProbesChildren (bytes lines : List ℕ) : Type 0 where
  pub keys : List ℕ
  pub probes : Probes child_probe (entry_count bytes) (entry_count bytes - 1) keys
  pub child : ℕ
  pub inside : child < entry_count bytes
  pub lines_are : lines ≡ keys ++ lines_of (72 + 16 * child) 8

abbrev pub ProbesPage : ℕ → List ℕ → List ℕ → Type 0
ProbesPage zero bytes = Probes (row_probe bytes) (entry_count bytes) (entry_count bytes)
ProbesPage (suc level) bytes = ProbesChildren bytes

-- A search in a page of a level touches line 0 first, and then those of its probes.
pub record Searches (level : ℕ) (bytes lines : List ℕ) : Type 0 where
  pub rest : List ℕ
  pub lines_are : lines ≡ 0 ∷ rest
  pub probes : ProbesPage level bytes rest

-- the most lines that it touches: at most nine rows of three lines, or eight keys and the number of the child's page
abbrev pub search_lines : ℕ → ℕ
search_lines zero = 28
search_lines (suc level) = 10

-- The most lines that it touches before it reads a whole page, whatever the page holds: ten rows of three lines, since a
-- leaf has at most 1,008 slots, or eight keys and the number of the child's page.
abbrev pub most_lines : ℕ → ℕ
most_lines zero = 31
most_lines (suc level) = 10
