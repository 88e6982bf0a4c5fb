-- Where everything stands on the two devices, as formulas of five numbers.
use Rattle.std.specs.Prelude.{◌≡◌, ℕ, ◌+◌, ◌*◌, ◌/◌, ◌%◌, ◌<◌, ◌≤◌, ◌&&◌, Bool, nat_le}

-- The five numbers of a store: how many tables, rows of a table, writes of a transaction, frames in NVM, and blocks
-- of 64 lines in the NVM log ring.
pub record Sizes : Type 0 where
  pub tables : ℕ
  pub rows : ℕ
  pub writes : ℕ
  pub frames : ℕ
  pub log_blocks : ℕ

abbrev pub is_between : ℕ → ℕ → ℕ → Bool
is_between low high n = nat_le low n && nat_le n high

-- each number is in its range
abbrev pub is_allowed : Sizes → Bool
is_allowed g = is_between 1 62 g.tables && (is_between 1 1000000 g.rows && (is_between 1 1024 g.writes && (is_between 0 65535 g.frames && is_between 2 1024 g.log_blocks)))

-- pages of the store; a tree of r rows has at most r / 2 + 8
abbrev pub pages : Sizes → ℕ
pages g = 1 + g.tables * (g.rows / 2 + 8)

-- NVM: sixteen lines for the superblock, the frame table of eight entries a line, the log ring, the frames.
-- Frame number `frames` is the one through which pages pass to the SSD.
abbrev pub table_start : ℕ
table_start = 16

abbrev pub table_lines : Sizes → ℕ
table_lines g = (g.frames + 8) / 8

abbrev pub ring_start : Sizes → ℕ
ring_start g = table_start + table_lines g

-- lines of the NVM log ring
abbrev pub ring_lines : Sizes → ℕ
ring_lines g = 64 * g.log_blocks

abbrev pub frames_start : Sizes → ℕ
frames_start g = ring_start g + ring_lines g

abbrev pub nvm_lines : Sizes → ℕ
nvm_lines g = frames_start g + 64 * (g.frames + 1)

-- the line and the word of the table entry of frame k
abbrev pub entry_line : ℕ → ℕ
entry_line k = table_start + k / 8

abbrev pub entry_word : ℕ → ℕ
entry_word k = k % 8

-- the NVM line of a log offset
abbrev pub ring_line : Sizes → ℕ → ℕ
ring_line g offset = ring_start g + offset % ring_lines g

-- the NVM line of line l of frame k
abbrev pub frame_line : Sizes → ℕ → ℕ → ℕ
frame_line g k l = frames_start g + (64 * k + l)

-- SSD: the log ring, and then the home block of each page
abbrev pub ring_blocks : Sizes → ℕ
ring_blocks g = 32 * g.writes + 4

abbrev pub ssd_blocks : Sizes → ℕ
ssd_blocks g = ring_blocks g + pages g

-- the SSD block of a log offset; the line stands at offset % 64 in it
abbrev pub ring_block : Sizes → ℕ → ℕ
ring_block g offset = offset / 64 % ring_blocks g

abbrev pub page_block : Sizes → ℕ → ℕ
page_block g page = ring_blocks g + page

-- down to a multiple of 64
abbrev pub floor64 : ℕ → ℕ
floor64 n = n / 64 * 64

-- the parts of the NVM device
pub data Region : Type 0 where
  superblock table ring frames : Region

-- the line is one of this part
abbrev pub IsIn : Sizes → Region → ℕ → Type 0
IsIn g superblock line = line < table_start
IsIn g table line = (table_start ≤ line) × (line < ring_start g)
IsIn g ring line = (ring_start g ≤ line) × (line < frames_start g)
IsIn g frames line = (frames_start g ≤ line) × (line < nvm_lines g)

-- No two parts of the NVM share a line, and within a part each place has a line or a word of its own; so have the blocks.
pub record ArePlaced (g : Sizes) : Type 0 where
  pub parts : (line : ℕ) (a b : Region) → IsIn g a line → IsIn g b line → a ≡ b
  pub entries : (j k : ℕ) → entry_line j ≡ entry_line k → entry_word j ≡ entry_word k → j ≡ k
  pub ring_lines_apart : (d a b : ℕ) → d ≤ a → a < d + ring_lines g → d ≤ b → b < d + ring_lines g → ring_line g a ≡ ring_line g b → a ≡ b
  pub frame_lines : (j k l m : ℕ) → l < 64 → m < 64 → frame_line g j l ≡ frame_line g k m → (j ≡ k) × (l ≡ m)
  pub log_blocks : (d a b : ℕ) → floor64 d ≤ a → a < floor64 d + 64 * ring_blocks g → floor64 d ≤ b → b < floor64 d + 64 * ring_blocks g
      → ring_block g a ≡ ring_block g b → a % 64 ≡ b % 64 → a ≡ b
  pub homes : (offset page : ℕ) → ring_block g offset < page_block g page
  pub home_blocks : (p q : ℕ) → page_block g p ≡ page_block g q → p ≡ q
