-- Blocks of a log that were sent on, and how far they reach.
use Rattle.std.specs.Prelude.{ℕ, zero, suc, ◌+◌, ◌-◌, ◌*◌, ◌/◌, ◌%◌, ◌<◌, ◌≤◌, Bool, List, [], ◌∷◌, length, slice_index_or, if◌then◌else◌, ◌==◌, IsTrue, IsFalse, ◌||◌, ◌&&◌, ◌++◌, true, false, nat_lt, map, take, drop}
use Rattle.nvm_model.specs.declared.line.Line.{Line}
use Rattle.store_model.specs.Log.{Log, no_log, grouped}
use Rattle.store_model.specs.Format.{Format, entries, zero_line}
use Rattle.store_model.specs.Recovered.{from, block_line}

-- A block that was sent: its number, and its 64 lines, which are the log lines at the offsets from 64 * block on.
pub record Ship : Type 0 where
  pub block : ℕ
  pub lines : List Line

-- a block with this number was sent
abbrev pub has_block : List Ship → ℕ → Bool
has_block [] block = false
has_block (ship ∷ ships) block = (ship.block == block) || has_block ships block

-- the log line at an offset, by the first block that has it
abbrev pub shipped_line : List Ship → ℕ → Line
shipped_line [] offset = zero_line
shipped_line (ship ∷ ships) offset = if ship.block == offset / 64 then slice_index_or ship.lines (offset % 64) zero_line else shipped_line ships offset

-- The offsets from `first` up to but not including `end` all lie in blocks that were sent, and `end` doesn't.
pub record IsCovered (ships : List Ship) (first end : ℕ) : Type 0 where
  pub reaches : first ≤ end
  pub inside : (offset : ℕ) → first ≤ offset → offset < end → IsTrue (has_block ships (offset / 64))
  pub greatest : IsFalse (has_block ships (end / 64))

-- the first block from this one on that was not sent, looked for among n
abbrev pub first_missing : List Ship → ℕ → ℕ → ℕ
first_missing ships zero block = block
first_missing ships (suc n) block = let later = first_missing ships n (block + 1) in if has_block ships block then later else block

-- how far the blocks reach from an offset on: up to the first block that is missing
abbrev pub covered : List Ship → ℕ → ℕ
covered ships first =
    if has_block ships (first / 64) then 64 * first_missing ships (length ships) (first / 64) else first

-- the log of the lines from `first` up to but not including `end`
abbrev pub shipped_log : Format → List Ship → ℕ → ℕ → Log
shipped_log format ships first end = grouped no_log (entries format 0 (from (shipped_line ships) first (end - first)))

-- The text of a block that was sent is a line `+ ship J` and 64 lines `+ ` with 128 digits, two for a byte.
abbrev pub ship_word : List ℕ
ship_word = 43 ∷ 32 ∷ 115 ∷ 104 ∷ 105 ∷ 112 ∷ 32 ∷ []

abbrev pub begins_with : List ℕ → List ℕ → Bool
begins_with [] line = true
begins_with (x ∷ xs) [] = false
begins_with (x ∷ xs) (y ∷ ys) = (x == y) && begins_with xs ys

-- a number in plain decimal, behind the digits that were read
abbrev pub decimal_from : ℕ → List ℕ → ℕ
decimal_from n [] = n
decimal_from n (digit ∷ digits) = decimal_from (10 * n + (digit - 48)) digits

-- a digit in lower-case hexadecimal
abbrev pub hex_digit : ℕ → ℕ
hex_digit byte = if nat_lt byte 58 then byte - 48 else byte - 87

abbrev pub hex_bytes : List ℕ → List ℕ
hex_bytes (high ∷ low ∷ digits) = (16 * hex_digit high + hex_digit low) ∷ hex_bytes digits
hex_bytes _ = []

-- a line of the log by its text, which begins with `+ `
abbrev pub line_of_text : List ℕ → Line
line_of_text text = block_line (hex_bytes (drop 2 text)) 0

-- the blocks among these lines of text, of which the first `skip` are passed
abbrev pub ships_among : ℕ → List (List ℕ) → List Ship
ships_among skip [] = []
ships_among (suc skip) (line ∷ lines) = ships_among skip lines
ships_among zero (line ∷ lines) =
    if begins_with ship_word line
    then record { block = decimal_from 0 (drop 7 line); lines = map line_of_text (take 64 lines) } ∷ ships_among 64 lines
    else ships_among zero lines

-- the whole lines of what was sent, without their line feeds; the bytes of the line that is being read stand first
abbrev pub whole_lines_from : List ℕ → List ℕ → List (List ℕ)
whole_lines_from line [] = []
whole_lines_from line (byte ∷ bytes) = if byte == 10 then line ∷ whole_lines_from [] bytes else whole_lines_from (line ++ byte ∷ []) bytes

-- the blocks that a run sent, by what it sent
abbrev pub shipped : List ℕ → List Ship
shipped bytes = ships_among 0 (whole_lines_from [] bytes)
