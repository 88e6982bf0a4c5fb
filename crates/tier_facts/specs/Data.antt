-- What the tiers keep in memory, as plain data: which lines of which page have a copy, which of them are dirty, and which
-- page stands in which frame. And what each step changes of it.
use Rattle.std.specs.Prelude.{◌≡◌, ◌⊎◌, ℕ, ◌+◌, ◌<◌, ◌&&◌, ◌==◌, Bool, true, false, if◌then◌else◌, nat_lt, Option, Some, None}
use Rattle.nvm_model.specs.declared.line.Line.{Line}
use Rattle.devices.specs.State.{Image}
use Rattle.store_model.specs.Layout.{Sizes, pages}
use Rattle.store_model.specs.Format.{word_in}
use Rattle.store_model.specs.Recovered.{home_in}
use Rattle.store_model.specs.Copies.{with_copy}
use Rattle.tier_map.specs.Placement.{changed}

pub record Data : Type 0 where
  pub sizes : Sizes
  -- of each line of a page its copy in DRAM, and whether that is dirty
  pub copy : ℕ → ℕ → Option Line
  pub dirty : ℕ → ℕ → Bool
  -- the frame of each page, and the page of each frame
  pub frame : ℕ → Option ℕ
  pub owner : ℕ → Option ℕ
  -- whether a frame may differ from its page's home block
  pub worn : ℕ → Bool

-- the word of a table entry of a frame
abbrev pub entry_of : Option ℕ → ℕ
entry_of None = 0
entry_of (Some page) = page + 1

-- the home of a line as the tiers place it: its frame, else its block
abbrev pub home_of : Sizes → Data → Image → ℕ → ℕ → ℕ → ℕ
home_of g t i p l w = home_in g i (t.frame p) p l w

abbrev pub or_home : Option Line → ℕ → ℕ → ℕ
or_home (Some line) w home = word_in line w
or_home None w home = home

-- the current word: that of the copy where the line has one, else of the frame, else of the block
abbrev pub current_in : Sizes → Data → Image → ℕ → ℕ → ℕ → ℕ
current_in g t i p l w = or_home (t.copy p l) w (home_of g t i p l w)

-- ---- what the steps change

-- the marks, with this one at a line of a page
abbrev pub with_mark : ℕ → ℕ → Bool → (ℕ → ℕ → Bool) → ℕ → ℕ → Bool
with_mark page line mark marks p l = if (p == page) && (l == line) then mark else marks p l

-- a line of a copy gets a value, and is dirty
abbrev pub put_in : ℕ → ℕ → Line → Data → Data
put_in page line value t = record t { copy = with_copy t.copy page line (Some value); dirty = with_mark page line true t.dirty }

-- a line is not dirty any more; the first lines of a page are not; no line of a page is
abbrev pub line_cleaned : ℕ → ℕ → Data → Data
line_cleaned page line t = record t { dirty = with_mark page line false t.dirty }

abbrev pub lines_cleaned : ℕ → ℕ → Data → Data
lines_cleaned page count t = record t { dirty = λ p l. if (p == page) && nat_lt l count then false else t.dirty p l }

abbrev pub page_cleaned : ℕ → Data → Data
page_cleaned page t = record t { dirty = λ p l. if p == page then false else t.dirty p l }

-- the frame may differ from its page's block
abbrev pub marked_worn : ℕ → Data → Data
marked_worn k t = record t { worn = changed k true t.worn }

-- the page stands in the frame with its current lines, so that its copy is clean; the frame may differ from the block or not
abbrev pub installed : ℕ → ℕ → Bool → Data → Data
installed page k worn t = record (page_cleaned page t) { frame = changed page (Some k) t.frame; owner = changed k (Some page) t.owner; worn = changed k worn t.worn }

-- the page leaves the frame
abbrev pub released : ℕ → ℕ → Data → Data
released page k t = record t { frame = changed page None t.frame; owner = changed k None t.owner }

-- ---- data that say the same, and data that differ in copies alone

pub record SameData (t u : Data) : Type 0 where
  pub sizes : u.sizes ≡ t.sizes
  pub copy : (p l : ℕ) → p < pages t.sizes → l < 64 → u.copy p l ≡ t.copy p l
  pub dirty : (p l : ℕ) → p < pages t.sizes → l < 64 → u.dirty p l ≡ t.dirty p l
  pub frame : (p : ℕ) → u.frame p ≡ t.frame p
  pub owner : (k : ℕ) → u.owner k ≡ t.owner k
  pub worn : (k p : ℕ) → t.owner k ≡ Some p → u.worn k ≡ t.worn k

-- The line had no copy or a clean one, it is not dirty, and where it has a copy now, that is its home in the image.
pub record IsHome (t u : Data) (i : Image) (p l : ℕ) : Type 0 where
  pub was : t.dirty p l ≡ true → t.copy p l ≡ None
  pub clean : u.dirty p l ≡ false
  pub words : (line : Line) → u.copy p l ≡ Some line → (w : ℕ) → w < 8 → word_in line w ≡ home_of t.sizes t i p l w

-- Clean copies were read from their homes or dropped, dirty lines stay, and frames may be marked.
pub record Recopied (t u : Data) (i : Image) : Type 0 where
  pub sizes : u.sizes ≡ t.sizes
  pub frame : (p : ℕ) → u.frame p ≡ t.frame p
  pub owner : (k : ℕ) → u.owner k ≡ t.owner k
  pub worn : (k p : ℕ) → t.owner k ≡ Some p → u.worn k ≡ false → t.worn k ≡ false
  pub lines : (p l : ℕ) → p < pages t.sizes → l < 64 → ((u.copy p l ≡ t.copy p l) × (u.dirty p l ≡ t.dirty p l)) ⊎ IsHome t u i p l
