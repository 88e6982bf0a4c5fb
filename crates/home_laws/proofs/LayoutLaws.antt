-- No two parts of a device share a line, and within a part each place has a line of its own.
use Rattle.std.proofs.Common.{◌≡◌, ℕ, suc, ◌+◌, ◌*◌, ◌/◌, ◌%◌, ◌<◌, ◌≤◌, refl, ap, inl, inr, arith}
use Rattle.std.proofs.lemmas.Bool.{cases_order}
use Rattle.std.proofs.Math.Nat.{mul-le-mul_left}
use Rattle.store_model.specs.Layout.{ArePlaced, Sizes, Region, IsIn, ring_lines, entry_line, entry_word, ring_line, frame_line, ring_blocks, ring_block, page_block, floor64}
use Rattle.store_model.specs.Layout.Region.{superblock, table, ring, frames}

pub regions_apart : (g : Sizes) (line : ℕ) (a b : Region) → IsIn g a line → IsIn g b line → a ≡ b
regions_apart g line superblock superblock x y = refl
regions_apart g line superblock table x y = absurd (omega arith)
regions_apart g line superblock ring x y = absurd (omega arith)
regions_apart g line superblock frames x y = absurd (omega arith)
regions_apart g line table superblock x y = absurd (omega arith)
regions_apart g line table table x y = refl
regions_apart g line table ring x y = absurd (omega arith)
regions_apart g line table frames x y = absurd (omega arith)
regions_apart g line ring superblock x y = absurd (omega arith)
regions_apart g line ring table x y = absurd (omega arith)
regions_apart g line ring ring x y = refl
regions_apart g line ring frames x y = absurd (omega arith)
regions_apart g line frames superblock x y = absurd (omega arith)
regions_apart g line frames table x y = absurd (omega arith)
regions_apart g line frames ring x y = absurd (omega arith)
regions_apart g line frames frames x y = refl

pub entry_in_table : (g : Sizes) (k : ℕ) → k ≤ g.frames → IsIn g table (entry_line k)
entry_in_table g k h = (omega arith, omega arith)

pub offset_in_ring : (g : Sizes) (offset : ℕ) → 0 < g.log_blocks → IsIn g ring (ring_line g offset)
offset_in_ring g offset h = (omega arith, omega arith)

pub line_in_frames : (g : Sizes) (k l : ℕ) → k ≤ g.frames → l < 64 → IsIn g frames (frame_line g k l)
line_in_frames g k l hk hl = (omega arith, omega arith)

-- each entry has a word of its own
pub entry_apart : (j k : ℕ) → entry_line j ≡ entry_line k → entry_word j ≡ entry_word k → j ≡ k
entry_apart j k line word = omega arith

-- each line of a frame has a line of its own
pub frame_apart : (g : Sizes) (j k l m : ℕ) → l < 64 → m < 64 → frame_line g j l ≡ frame_line g k m → (j ≡ k) × (l ≡ m)
frame_apart g j k l m hl hm e = (omega arith, omega arith)

-- numbers of one stretch of length n differ in their remainders
pub same_remainder : (n d a b : ℕ) → d ≤ a → a < d + n → d ≤ b → b < d + n → a % n ≡ b % n → a ≡ b
same_remainder n d a b da an db bn e = elim (cases_order (a / n) (b / n)) [
  | inl same ↦ (let p : n * (a / n) ≡ n * (b / n) = ap (λ q. n * q) same in omega arith)
  | inr (inl less) ↦ (let p : n * suc (a / n) ≤ n * (b / n) = mul-le-mul_left n less in absurd (omega arith))
  | inr (inr more) ↦ (let p : n * suc (b / n) ≤ n * (a / n) = mul-le-mul_left n more in absurd (omega arith))
]

-- the offsets of one turn of the NVM ring have lines of their own
pub ring_apart : (g : Sizes) (d a b : ℕ) → d ≤ a → a < d + ring_lines g → d ≤ b → b < d + ring_lines g → ring_line g a ≡ ring_line g b → a ≡ b
ring_apart g d a b da an db bn e = same_remainder (ring_lines g) d a b da an db bn (omega arith)

-- the offsets of one turn of the SSD ring have lines of their own
pub ring_block_apart : (g : Sizes) (d a b : ℕ) → floor64 d ≤ a → a < floor64 d + 64 * ring_blocks g → floor64 d ≤ b → b < floor64 d + 64 * ring_blocks g
    → ring_block g a ≡ ring_block g b → a % 64 ≡ b % 64 → a ≡ b
ring_block_apart g d a b da an db bn block line =
    let q : a / 64 ≡ b / 64 = same_remainder (ring_blocks g) (d / 64) (a / 64) (b / 64) (omega arith) (omega arith) (omega arith) (omega arith) block in omega arith

-- no log block is the home of a page
pub home_apart : (g : Sizes) (offset page : ℕ) → ring_block g offset < page_block g page
home_apart g offset page = omega arith

pub are_placed : (g : Sizes) → ArePlaced g
are_placed g = record {
  parts = regions_apart g;
  entries = entry_apart;
  ring_lines_apart = ring_apart g;
  frame_lines = frame_apart g;
  log_blocks = ring_block_apart g;
  homes = home_apart g;
  home_blocks = λ p q same. omega arith;
}
