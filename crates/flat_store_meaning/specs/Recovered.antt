-- What an image of the devices holds: its superblock, the home of each line, its log, and the pages that recovery gives.
use Rattle.std.specs.Prelude.{◌≡◌, ℕ, zero, suc, ◌+◌, ◌-◌, ◌*◌, ◌%◌, not, ◌&&◌, List, [], ◌∷◌, drop, if◌then◌else◌, nat_lt, Option, Some, None}
use Rattle.byteorder.specs.Endian.{little_number}
use Rattle.nvm_model.specs.declared.line.Line.{Line}
use Rattle.devices.specs.State.{Image}
use Rattle.nvm_model.specs.Memory.{line_of}
use Rattle.flat_store_meaning.specs.Layout.{Sizes, is_allowed, pages, ring_line, ring_lines, frame_line, ring_block}
use Rattle.flat_store_meaning.specs.Log.{Words, Log, no_log, grouped, replayed, replayed_with_cuts}
use Rattle.flat_store_meaning.specs.Format.{Format, magic, entries, log_check, LogFault, zero_line}
use Rattle.flat_store_meaning.specs.Format.Format.{whole_lines, named_words, with_cuts}

-- The words that the superblock names. While the log stays in NVM, its word `drained` is ignored: no line is below the
-- start, so `drained` counts as the start.
pub record Super : Type 0 where
  pub magic_word : ℕ
  pub sizes : Sizes
  pub start : ℕ
  pub drained : ℕ
  pub tail : ℕ

abbrev pub super_of : Image → Super
super_of i = record {
  magic_word = i.nvm 0 0;
  sizes = record { tables = i.nvm 0 1; rows = i.nvm 0 2; writes = i.nvm 0 3; frames = i.nvm 0 4; log_blocks = i.nvm 0 5 };
  start = i.nvm 1 0;
  drained = i.nvm 1 0;
  tail = i.nvm 3 0;
}

-- a word of a block of bytes, and a line of it
abbrev pub block_word : List ℕ → ℕ → ℕ → ℕ
block_word bytes l w = little_number 8 (drop (64 * l + 8 * w) bytes)

abbrev pub block_line : List ℕ → ℕ → Line
block_line bytes l = line_of (block_word bytes l)

-- the home of each line: while pages stay in NVM, the frame of a page is the one with its number
abbrev pub home : Image → Words
home i p l w = i.nvm (frame_line (super_of i).sizes p l) w

-- The log line at an offset: below `drained` it is the one in the SSD ring, else the one in the NVM ring.
abbrev pub log_line : Sizes → ℕ → Image → ℕ → Line
log_line g drained i offset =
    if nat_lt offset drained then block_line (i.ssd (ring_block g offset)) (offset % 64)
    else line_of (i.nvm (ring_line g offset))

-- what stands at n places from this one on
abbrev pub from : (ℕ → Line) → ℕ → ℕ → List Line
from line at zero = []
from line at (suc n) = line at ∷ from line (at + 1) n

-- the log lines: those at the offsets from `start` up to but not including `tail`
abbrev pub log_lines : Image → List Line
log_lines i = let sup = super_of i in from (log_line sup.sizes sup.drained i) sup.start (sup.tail - sup.start)

abbrev pub log_of : Format → Image → Log
log_of format i = grouped no_log (entries format 0 (log_lines i))

abbrev pub replay : Format → Log → Words → Words
replay whole_lines log pages = replayed log pages
replay named_words log pages = replayed log pages
replay with_cuts log pages = replayed_with_cuts log pages

-- the words that recovery gives: the log, replayed over the homes
abbrev pub recovered : Format → Image → Words
recovered format i = replay format (log_of format i) (home i)

-- the lines of the first n pages, and zeros elsewhere, so that two stores with the same lines have the same pages
abbrev pub lines_of : ℕ → Words → ℕ → ℕ → Line
lines_of n words p l = if nat_lt p n && nat_lt l 64 then line_of (words p l) else zero_line

-- the pages that recovery gives
abbrev pub recovered_pages : Format → Image → ℕ → ℕ → Line
recovered_pages format i = lines_of (pages (super_of i).sizes) (recovered format i)

-- The first of checks 1 to 3 that the superblock fails: a number out of its range; a start above the tail; more log than
-- the ring takes.
abbrev pub super_check : Super → Option ℕ
super_check sup =
    if not (is_allowed sup.sizes) then Some 1
    else if nat_lt sup.tail sup.start then Some 2
    else if nat_lt (ring_lines sup.sizes) (sup.tail - sup.start) then Some 3
    else None

abbrev pub image_log_check : Format → Image → Option LogFault
image_log_check format i = let sup = super_of i in log_check format sup.sizes sup.start 0 (log_lines i)

-- the first of checks 1 to 3 and 7 to 9 that an image fails
abbrev pub first_check : Format → Image → Option ℕ
first_check format i =
    elim (super_check (super_of i)) [
      | Some check ↦ Some check
      | None ↦ elim (image_log_check format i) [ Some fault ↦ Some fault.check | None ↦ None ]
    ]

-- the image is a store of this format: recovery gives pages
pub record IsStore (format : Format) (i : Image) : Type 0 where
  pub magic_word : (super_of i).magic_word ≡ magic format
  pub checks : first_check format i ≡ None
