-- A page that was written, and how many lines that takes.
use Rattle.std.specs.Prelude.{◌≡◌, ◌≢◌, ◌⊎◌, ◌≤◌, ℕ, zero, suc, ◌+◌, ◌*◌, ◌<◌, List, [], ◌++◌, filter, Some, true, false, slice_range, if◌then◌else◌}
use Rattle.line_pages.specs.Standing.{Standing}
use Rattle.line_pages.specs.Touch.{Touch, writes_line}
use Rattle.std.specs.Str.{bytes_eq}
use Rattle.line_pages.specs.Lines.{Lines}
use Rattle.line_pages.specs.Bytes.{bytes_of}
use Rattle.rows.specs.Rows.{Each}
use Rattle.page_format.specs.Node.{Slot}

-- the page has these bytes, and no other page changed
pub record Rewrites (page : ℕ) (bytes : List ℕ) (old new : Lines) : Type 0 where
  pub bytes_are : bytes_of new page ≡ bytes
  pub others : (n : ℕ) → n ≢ page → new n ≡ old n

-- all pages but one are as they were
abbrev pub OtherPages : ℕ → Lines → Lines → Type 0
OtherPages page old new = (n : ℕ) → n ≢ page → new n ≡ old n

-- the 64 bytes of a line
abbrev pub line_part : List ℕ → ℕ → List ℕ
line_part bytes l = slice_range bytes (64 * l) (64 * l + 64)

-- among so many lines, from line `l` on, those that differ
unfoldable pub changed_in : List ℕ → List ℕ → ℕ → ℕ → ℕ
changed_in old new l zero = 0
changed_in old new l (suc n) = (if bytes_eq (line_part old l) (line_part new l) then 0 else 1) + changed_in old new (suc l) n

-- the number of lines in which two pages differ
unfoldable pub lines_changed : List ℕ → List ℕ → ℕ
lines_changed old new = changed_in old new 0 64

-- all lines but one are as they were
pub record SameElsewhere (page line : ℕ) (old new : Lines) : Type 0 where
  pub pages : (n : ℕ) → n ≢ page → new n ≡ old n
  pub lines : (l : ℕ) → l ≢ line → new page l ≡ old page l

-- no access was begun, or at most one, which writes this page and is open
abbrev pub Visited : {A : Type 0} → ℕ → Standing A → Standing A → Type 0
Visited page old new =
    ((new.visits ≡ old.visits) × (new.access ≡ old.access)) ⊎ ((new.visits ≤ old.visits + 1) × (new.access ≡ Some (page, true)))

-- the bytes of a line differ
abbrev pub Differs : List ℕ → List ℕ → ℕ → Type 0
Differs old new line = bytes_eq (line_part old line) (line_part new line) ≡ false

-- the line shares a byte with the record
abbrev pub Meets : Slot → ℕ → Type 0
Meets slot line = (64 * line < slot.place + slot.size) × (slot.place < 64 * line + 64)

-- The touches that were added and that write are of this page, and of lines of which the fact holds.
pub record WritesOnly {A : Type 0} (page : ℕ) (Fact : ℕ → Type 0) (old new : Standing A) : Type 0 where
  pub added : List Touch
  pub touches : new.touches ≡ old.touches ++ added
  pub only : Each (λ (t : Touch). t.writes ≡ true → (t.page ≡ page) × Fact t.line) added

-- no touch was added that writes
pub record WritesNothing {A : Type 0} (old new : Standing A) : Type 0 where
  pub added : List Touch
  pub touches : new.touches ≡ old.touches ++ added
  pub none : filter writes_line added ≡ []
