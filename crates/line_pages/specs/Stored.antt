-- A plain store of pages: the lines of all pages in one list.
use Rattle.std.specs.Prelude.{ℕ, true, None, ◌+◌, ◌*◌, List, [], ◌∷◌, slice_index_or, nat_lt, if◌then◌else◌}
use Rattle.nvm_model.specs.declared.line.Line.{Line}
use Rattle.line_pages.specs.Lines.{Lines}
use Rattle.line_pages.specs.Standing.{Standing}

abbrev pub blank_line : Line
blank_line = record { words = 0 ∷ 0 ∷ 0 ∷ 0 ∷ 0 ∷ 0 ∷ 0 ∷ 0 ∷ [] }

abbrev pub blank_pages : Lines
blank_pages page line = blank_line

-- line l of page p stands at place 64 p + l; what is out of range is blank
unfoldable pub pages_in : List Line → Lines
pages_in lines page line = if nat_lt line 64 then slice_index_or lines (64 * page + line) blank_line else blank_line

-- a store just made: nothing touched, all lines blank
abbrev pub fresh : ℕ → ℕ → Standing (Unit {0})
fresh count room = record {
  count = count;
  told = true;
  current = blank_pages;
  committed = blank_pages;
  room = room;
  visits = 0;
  touches = [];
  access = None;
  nvm_faults = 0;
  ssd_faults = 0;
  clock = 0;
  apart = tt;
}
