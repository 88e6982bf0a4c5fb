-- The definitions on small examples.
use Rattle.std.proofs.Common.{◌≡◌, ℕ, ◌-◌, eqb, ltb, true, false, List, [], ◌∷◌, refl, cond, Some, None}
use Rattle.nvm_model.specs.declared.line.Line.{Line}
use Rattle.devices.specs.State.{Image, fresh, after_all}
use Rattle.nvm_model.specs.Word.{single, stored, marked, trimmed, oldest}
use Rattle.devices.specs.State.Call.{store_word, flush, fence}
use Rattle.flat_store_meaning.specs.Layout.{Sizes, in_ranges, pages, nvm_lines, ssd_blocks, ring_start, is_allowed}
use Rattle.flat_store_meaning.specs.Log.{Words, no_log, grouped, replayed, replayed_with_cuts, is_logged}
use Rattle.flat_store_meaning.specs.Format.{magic, record_lines, entries, log_check, head_check, zero_line, word_in}
use Rattle.flat_store_meaning.specs.Format.Format.{whole_lines, named_words, with_cuts}
use Rattle.flat_store_meaning.specs.Recovered.{recovered, Super, super_check, first_check, block_word}

-- five and six are stored in a word: a crash leaves 0, 5 or 6, of which the oldest is 0 and the newest 6
two_stores : stored 6 (stored 5 (single 0)) ≡ record { newest = 6; older = 5 ∷ 0 ∷ []; kept = 2 }
two_stores = refl

oldest_and_newest : (oldest (stored 6 (stored 5 (single 0))) ≡ 0) × ((stored 6 (stored 5 (single 0))).newest ≡ 6)
oldest_and_newest = (refl, refl)

oldest_then : oldest (trimmed (stored 7 (marked (stored 6 (stored 5 (single 0)))))) ≡ 6
oldest_then = refl

-- after a flush, a store of 7 and a fence the versions are 6 and 7
after_a_fence : trimmed (stored 7 (marked (stored 6 (stored 5 (single 0))))) ≡ record { newest = 7; older = 6 ∷ []; kept = 1 }
after_a_fence = refl

-- the same on a device of one line
on_a_device : (after_all (store_word 0 0 5 ∷ store_word 0 0 6 ∷ flush 0 ∷ store_word 0 0 7 ∷ fence ∷ []) (fresh (record { nvm = λ l w. 0; ssd = λ b. [] }))).nvm 0 0
    ≡ record { newest = 7; older = 6 ∷ []; kept = 1 }
on_a_device = refl

-- the sizes that settings without keys have
abbrev defaults : Sizes
defaults = record { tables = 4; rows = 20000; writes = 32; frames = 256; log_blocks = 16 }

default_lines : nvm_lines defaults ≡ 17521
default_lines = refl

default_blocks : ssd_blocks defaults ≡ 41061
default_blocks = refl

-- the sizes of a store that has all its pages in NVM
abbrev in_nvm : Sizes
in_nvm = record { tables = 4; rows = 100; writes = 32; frames = 256; log_blocks = 1024 }

in_nvm_lines : nvm_lines in_nvm ≡ 82033
in_nvm_lines = refl

in_nvm_pages : pages in_nvm ≡ 233
in_nvm_pages = refl

-- the sizes of a store without frames
abbrev no_frames : Sizes
no_frames = record { tables = 4; rows = 20000; writes = 32; frames = 0; log_blocks = 16 }

no_frames_lines : nvm_lines no_frames ≡ 1105
no_frames_lines = refl

no_frames_blocks : ssd_blocks no_frames ≡ 41061
no_frames_blocks = refl

no_frames_ring : ring_start no_frames ≡ 17
no_frames_ring = refl

-- the largest store
abbrev largest : Sizes
largest = record { tables = 62; rows = 1000000; writes = 1024; frames = 65535; log_blocks = 1024 }

largest_lines : nvm_lines largest ≡ 4268048
largest_lines = refl

largest_blocks : ssd_blocks largest ≡ 31033269
largest_blocks = refl

largest_allowed : in_ranges largest ≡ true
largest_allowed = refl

one_table_more : in_ranges (record largest { tables = 63 }) ≡ false
one_table_more = refl

-- while pages stay in NVM each needs its frame, and the ring takes the longest transaction
in_nvm_allowed : is_allowed in_nvm ≡ true
in_nvm_allowed = refl

defaults_not_yet : is_allowed defaults ≡ false
defaults_not_yet = refl

one_block_less : is_allowed (record in_nvm { log_blocks = 960 }) ≡ false
one_block_less = refl

-- records of 2, 3, 6, 7 and 8 words
two_words : record_lines 3 ≡ 1
two_words = refl

three_words : record_lines 7 ≡ 2
three_words = refl

six_words : record_lines 63 ≡ 2
six_words = refl

seven_words : record_lines 127 ≡ 3
seven_words = refl

eight_words : record_lines 255 ≡ 3
eight_words = refl

-- a line with these first four words
abbrev line_with : ℕ → ℕ → ℕ → ℕ → Line
line_with a b c d = record { words = a ∷ b ∷ c ∷ d ∷ 0 ∷ 0 ∷ 0 ∷ 0 ∷ [] }

-- a log of whole lines: a committed record of line 0 of page 1, and one that no end follows of line 2 of page 1
abbrev some_log : List Line
some_log = line_with 1 1 0 0 ∷ line_with 10 11 0 0 ∷ line_with 20 21 0 0 ∷ line_with 2 0 0 0
    ∷ line_with 1 1 2 0 ∷ line_with 30 31 0 0 ∷ line_with 40 41 0 0 ∷ []

abbrev zeros : Words
zeros p l w = 0

-- the committed line has its after image, the other one its before image
committed_line : replayed (grouped no_log (entries whole_lines 0 some_log)) zeros 1 0 1 ≡ 21
committed_line = refl

open_line : replayed (grouped no_log (entries whole_lines 0 some_log)) zeros 1 2 0 ≡ 30
open_line = refl

other_line : replayed (grouped no_log (entries whole_lines 0 some_log)) zeros 1 1 0 ≡ 0
other_line = refl

named_line : is_logged (grouped no_log (entries whole_lines 0 some_log)) 1 2 7 ≡ true
named_line = refl

-- two records of one word in an open group: the first before value stands
first_before : replayed (grouped no_log (entries whole_lines 0
    (line_with 1 1 0 0 ∷ line_with 10 0 0 0 ∷ line_with 20 0 0 0 ∷ line_with 1 1 0 0 ∷ line_with 20 0 0 0 ∷ line_with 30 0 0 0 ∷ []))) zeros 1 0 0 ≡ 10
first_before = refl

-- a record of words 0 and 2: the values stand in the head
abbrev word_head : Line
word_head = record { words = 4 ∷ 1 ∷ 0 ∷ 5 ∷ 10 ∷ 12 ∷ 20 ∷ 22 ∷ [] }

named_word : replayed (grouped no_log (entries named_words 0 (word_head ∷ line_with 2 0 0 0 ∷ []))) zeros 1 0 2 ≡ 22
named_word = refl

word_between : is_logged (grouped no_log (entries named_words 0 (word_head ∷ []))) 1 0 1 ≡ false
word_between = refl

undone_word : replayed (grouped no_log (entries named_words 0 (word_head ∷ []))) zeros 1 0 2 ≡ 12
undone_word = refl

-- a second record of word 0 alone, that a cut drops before the commit
abbrev later_head : Line
later_head = record { words = 4 ∷ 1 ∷ 0 ∷ 1 ∷ 20 ∷ 30 ∷ 0 ∷ 0 ∷ [] }

abbrev cut_log : List Line
cut_log = word_head ∷ later_head ∷ line_with 5 1 0 0 ∷ line_with 2 0 0 0 ∷ []

cut_away : replayed_with_cuts (grouped no_log (entries with_cuts 0 cut_log)) zeros 1 0 0 ≡ 20
cut_away = refl

not_cut : replayed_with_cuts (grouped no_log (entries with_cuts 0 (word_head ∷ later_head ∷ line_with 2 0 0 0 ∷ []))) zeros 1 0 0 ≡ 30
not_cut = refl

cut_to_none : replayed_with_cuts (grouped no_log (entries with_cuts 0 (word_head ∷ line_with 5 0 0 0 ∷ line_with 2 0 0 0 ∷ []))) zeros 1 0 0 ≡ 10
cut_to_none = refl

-- the checks of a log
wrong_kind : log_check whole_lines no_frames 7 0 (line_with 9 0 0 0 ∷ []) ≡ Some (record { offset = 7; check = 7 })
wrong_kind = refl

wrong_page : log_check whole_lines no_frames 7 0 (line_with 1 40033 0 0 ∷ zero_line ∷ zero_line ∷ []) ≡ Some (record { offset = 7; check = 8 })
wrong_page = refl

cut_short : log_check whole_lines no_frames 7 0 (line_with 1 1 0 0 ∷ []) ≡ Some (record { offset = 7; check = 9 })
cut_short = refl

mask_of_none : log_check named_words no_frames 7 0 (line_with 2 0 0 0 ∷ line_with 4 1 0 0 ∷ []) ≡ Some (record { offset = 8; check = 8 })
mask_of_none = refl

cut_without_cuts : head_check named_words no_frames (line_with 5 0 0 0) ≡ Some 7
cut_without_cuts = refl

good_log : log_check whole_lines no_frames 0 0 some_log ≡ None
good_log = refl

-- the first byte of a word is its lowest
some_word : block_word (0 ∷ 0 ∷ 0 ∷ 0 ∷ 0 ∷ 0 ∷ 0 ∷ 0 ∷ 2 ∷ 1 ∷ []) 0 1 ≡ 258
some_word = refl

-- a small image: the superblock of a store of one table of two rows, and at offset 0 of its log these lines
abbrev nth : List Line → ℕ → Line
nth [] n = zero_line
nth (x ∷ xs) n = cond (eqb n 0) x (nth xs (n - 1))

abbrev image_of : List Line → ℕ → Image
image_of lines tail = record {
  nvm = λ l w.
      cond (eqb l 0) (word_in (record { words = magic whole_lines ∷ 1 ∷ 2 ∷ 1 ∷ 10 ∷ 31 ∷ 0 ∷ 0 ∷ [] }) w)
      (cond (eqb l 3) (cond (eqb w 0) tail 0)
      (cond (ltb l 18) 0 (word_in (nth lines (l - 18)) w)));
  ssd = λ b. [];
}

stands_open : recovered whole_lines (image_of some_log 7) 1 2 0 ≡ 30
stands_open = refl

stands_committed : recovered whole_lines (image_of some_log 7) 1 0 1 ≡ 21
stands_committed = refl

-- without its commit the first record is undone
stands_undone : recovered whole_lines (image_of some_log 3) 1 0 1 ≡ 11
stands_undone = refl

all_checks : first_check whole_lines (image_of some_log 7) ≡ None
all_checks = refl

ninth_check : first_check whole_lines (image_of some_log 6) ≡ Some 9
ninth_check = refl

-- a start above the tail, more log than the ring takes, and a superblock out of range
abbrev gates_of : ℕ → ℕ → Sizes → Super
gates_of start tail sizes = record { magic_word = magic whole_lines; sizes = sizes; start = start; drained = start; tail = tail }

second_check : super_check (gates_of 8 7 in_nvm) ≡ Some 2
second_check = refl

third_check : super_check (gates_of 0 65537 in_nvm) ≡ Some 3
third_check = refl

full_ring : super_check (gates_of 5 65541 in_nvm) ≡ None
full_ring = refl

first_of_all : super_check (gates_of 8 7 defaults) ≡ Some 1
first_of_all = refl
