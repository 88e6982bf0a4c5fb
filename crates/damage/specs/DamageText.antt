-- The text of damage: the check that failed and where, then what the check was made on, in digits. Digits are
-- lower-case hexadecimal, and all other numbers plain decimal.
use Rattle.std.specs.Prelude.{codes, ℕ, ◌+◌, ◌*◌, List, [], ◌∷◌, ◌++◌, map, slice_range, decimal}
use Rattle.std.specs.Int.{to_be_bytes, w64}
use Rattle.std.specs.List.{concat, range_with_len}
use Rattle.hex.specs.Hex.{encode_lower}
use Rattle.texts.specs.Lines.{ended, sentence}
use Rattle.nvm_model.specs.LineBytes.{line_bytes}
use Rattle.damage.specs.declared.evidence.Evidence.{Evidence}
use Rattle.damage.specs.declared.evidence.Evidence.TheVariants.{Super, Frames, Log, Page, Walk}

-- a word as a number of 16 digits, the highest first
unfoldable pub word_digits : ℕ → List ℕ
word_digits word = encode_lower (to_be_bytes w64 word)

-- the 64 bytes of line l of a page in order, two digits each
abbrev pub line_digits : List ℕ → ℕ → List ℕ
line_digits page l = encode_lower (slice_range page (64 * l) (64 * l + 64))

-- those of its 64 lines
unfoldable pub page_digits : List ℕ → List (List ℕ)
page_digits page = map (line_digits page) (range_with_len 0 64)

-- the words of the first line
abbrev pub heading : Evidence → List (List ℕ)
heading (Super words check) = codes "super" ∷ codes "check" ∷ decimal check ∷ []
heading (Frames first second word check) = codes "frames" ∷ decimal first ∷ decimal second ∷ codes "check" ∷ decimal check ∷ []
heading (Log offset line tail check) = codes "log" ∷ decimal offset ∷ codes "check" ∷ decimal check ∷ []
heading (Page page level low high check) =
    codes "page" ∷ decimal page ∷ codes "level" ∷ decimal level ∷ codes "low" ∷ decimal low ∷ codes "high" ∷ decimal high ∷ codes "check" ∷ decimal check ∷ []
heading (Walk page kept found check) =
    codes "walk" ∷ codes "page" ∷ decimal page ∷ codes "kept" ∷ decimal kept ∷ codes "found" ∷ decimal found ∷ codes "check" ∷ decimal check ∷ []

-- the digits of the other lines
abbrev pub dump : Evidence → List ℕ → List (List ℕ)
dump (Super words check) page = sentence (map word_digits words) ∷ []
dump (Frames first second word check) page = word_digits word ∷ []
dump (Log offset line tail check) page = encode_lower (line_bytes line) ∷ []
dump (Page number level low high check) page = page_digits page
dump (Walk number kept found check) page = []

abbrev pub contents : Evidence → List ℕ → List (List ℕ)
contents evidence page = sentence (heading evidence) ∷ dump evidence page

-- a line of damage, with its line feed
abbrev pub marked : List ℕ → List ℕ
marked content = ended (codes "! " ++ content)

-- all lines, by the bytes of the page, which play a part for a page alone
abbrev pub damage_text_lines : Evidence → List ℕ → List (List ℕ)
damage_text_lines evidence page = map marked (contents evidence page)

abbrev pub damage_text : Evidence → List ℕ → List ℕ
damage_text evidence page = concat (damage_text_lines evidence page)
