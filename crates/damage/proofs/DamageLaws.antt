-- The text of damage: how many lines it has, what they are, and that all of it stands aside.
use Rattle.std.proofs.Common.{◌≡◌, ℕ, ◌+◌, ◌*◌, ◌<◌, ◌≤◌, true, false, List, [], ◌++◌, length, take, refl, ap, sym, subst, ◌∙◌, arith}
use Rattle.std.specs.Prelude.{codes, map, slice_index_or, slice_range, decimal}
use Rattle.std.specs.Int.{to_be_bytes, w64}
use Rattle.std.specs.List.{AllByRecursion, list_all, concat, range_with_len}
use Rattle.std.proofs.lemmas.List.{get_or-map, length-map, take-map, take_all}
use Rattle.std.proofs.lemmas.List.FromFn.{length-map-range_with_len, get_or-map-range_with_len}
use Rattle.nvm_model.specs.LineBytes.{line_bytes}
use Rattle.damage.specs.declared.evidence.Evidence.{Evidence}
use Rattle.damage.specs.declared.evidence.Evidence.TheVariants.{Super, Frames, Log, Page, Walk}
use Rattle.texts.specs.Lines.{line_feed, has_line_feed, IsOneLine}
use Rattle.texts.specs.Output.{IsWhole, IsPrefix, pieces, is_aside, strip, acked}
use Rattle.texts.proofs.NumbersLaws.{decimal_not}
use Rattle.texts.proofs.OutputLaws.{IsWhole-line}
use Rattle.damage.specs.DamageText.{word_digits, line_digits, page_digits, heading, dump, contents, marked, damage_text_lines, damage_text}
use Rattle.damage.specs.Laws.{IsSilentBehind}
use Rattle.damage.proofs.DigitsLaws.{encode_is_line, map_is_lines, sentence_is_line}
use Rattle.damage.proofs.MarkedLaws.{pieces-marked, marked_aside, begun, IsWhole-marked, strip-marked, strip-marked_line, acked-stripped, silent_behind}

-- ---- the lines

pub length-page_digits : (page : List ℕ) → length (page_digits page) ≡ 64
unfolding page_digits
length-page_digits page = length-map-range_with_len (line_digits page) 0 64

pub page_digits-at : (page : List ℕ) (l : ℕ) → l < 64 → slice_index_or (page_digits page) l [] ≡ line_digits page l
unfolding page_digits
page_digits-at page l h = get_or-map-range_with_len (line_digits page) 0 64 l l [] h (omega arith)

pub damage_text_lines-at : (e : Evidence) (page : List ℕ) (at : ℕ) → at < length (damage_text_lines e page) →
    slice_index_or (damage_text_lines e page) at [] ≡ marked (slice_index_or (contents e page) at [])
damage_text_lines-at e page at h = get_or-map marked (contents e page) at [] [] (omega (arith, length-map (contents e page) marked))

-- there are at most 65
pub damage_text_lines-few : (e : Evidence) (page : List ℕ) → length (damage_text_lines e page) ≤ 65
damage_text_lines-few e page = omega (arith, length-map (contents e page) marked, few e)
  where
    few : (e : Evidence) → length (dump e page) ≤ 64
    few (Super words check) = omega arith
    few (Frames first second word check) = omega arith
    few (Log offset line tail check) = omega arith
    few (Page number level low high check) = omega (arith, length-page_digits page)
    few (Walk number kept found check) = omega arith

-- ---- each is one line

number : (n : ℕ) → IsOneLine (decimal n)
number n = record { no_feed = decimal_not line_feed n (omega arith) }

word_is_line : (w : ℕ) → IsOneLine (word_digits w)
unfolding word_digits
word_is_line w = encode_is_line (to_be_bytes w64 w)

page_is_lines : (page : List ℕ) → AllByRecursion IsOneLine (page_digits page)
unfolding page_digits
page_is_lines page = map_is_lines (line_digits page) (λ l. encode_is_line (slice_range page (64 * l) (64 * l + 64))) (range_with_len 0 64)

name : (bytes : List ℕ) → has_line_feed bytes ≡ false → IsOneLine bytes
name bytes none = record { no_feed = none }

heading_is_lines : (e : Evidence) → AllByRecursion IsOneLine (heading e)
heading_is_lines (Super words check) = (name (codes "super") refl, (name (codes "check") refl, (number check, tt)))
heading_is_lines (Frames first second word check) = (name (codes "frames") refl, (number first, (number second, (name (codes "check") refl, (number check, tt)))))
heading_is_lines (Log offset line tail check) = (name (codes "log") refl, (number offset, (name (codes "check") refl, (number check, tt))))
heading_is_lines (Page page level low high check) =
    (name (codes "page") refl, (number page, (name (codes "level") refl, (number level, (name (codes "low") refl, (number low, (name (codes "high") refl, (number high, (name (codes "check") refl, (number check, tt))))))))))
heading_is_lines (Walk page kept found check) =
    (name (codes "walk") refl, (name (codes "page") refl, (number page, (name (codes "kept") refl, (number kept, (name (codes "found") refl, (number found, (name (codes "check") refl, (number check, tt)))))))))

dump_is_lines : (e : Evidence) (page : List ℕ) → AllByRecursion IsOneLine (dump e page)
dump_is_lines (Super words check) page = (sentence_is_line (map word_digits words) (map_is_lines word_digits word_is_line words), tt)
dump_is_lines (Frames first second word check) page = (word_is_line word, tt)
dump_is_lines (Log offset line tail check) page = (encode_is_line (line_bytes line), tt)
dump_is_lines (Page number level low high check) page = page_is_lines page
dump_is_lines (Walk number kept found check) page = tt

pub contents_are_lines : (e : Evidence) (page : List ℕ) → AllByRecursion IsOneLine (contents e page)
contents_are_lines e page = (sentence_is_line (heading e) (heading_is_lines e), dump_is_lines e page)

-- ---- the text

pub damage_text_pieces : (e : Evidence) (page : List ℕ) → pieces (damage_text e page) ≡ damage_text_lines e page
damage_text_pieces e page = pieces-marked (contents e page) (contents_are_lines e page)

pub damage_text_aside : (e : Evidence) (page : List ℕ) → list_all is_aside (damage_text_lines e page) ≡ true
damage_text_aside e page = marked_aside (contents e page)

pub damage_text_whole : (e : Evidence) (page : List ℕ) → IsWhole (damage_text e page)
damage_text_whole e page = IsWhole-marked (contents e page)

pub damage_text_strip : (e : Evidence) (page : List ℕ) → strip (damage_text e page) ≡ []
damage_text_strip e page = strip-marked (contents e page) (contents_are_lines e page)

pub damage_text_acked : (e : Evidence) (page : List ℕ) → acked (damage_text e page) ≡ 0
damage_text_acked e page = acked-stripped (damage_text e page) (damage_text_strip e page)

-- wherever a sending of it ends, behind whole lines
pub damage_text_silent : (e : Evidence) (page front sent : List ℕ) → IsWhole front → IsPrefix sent (damage_text e page) → IsSilentBehind front sent
damage_text_silent e page front sent whole begins = silent_behind (damage_text e page) front sent (damage_text_strip e page) whole begins

-- ---- line by line

-- after so many lines as there are, the text was sent
pub damage_text_sent : (e : Evidence) (page : List ℕ) (n : ℕ) → length (damage_text_lines e page) ≤ n → concat (take n (damage_text_lines e page)) ≡ damage_text e page
damage_text_sent e page n h = ap concat (take_all n (damage_text_lines e page) h)

-- the lines so far are whole
pub damage_text_whole_lines : (e : Evidence) (page : List ℕ) (n : ℕ) → IsWhole (concat (take n (damage_text_lines e page)))
damage_text_whole_lines e page n = subst (λ (lines : List (List ℕ)). IsWhole (concat lines)) (sym (take-map marked n (contents e page))) (IsWhole-marked (take n (contents e page)))

-- and with a beginning of the next one they are a beginning of the text
pub damage_text_begun : (e : Evidence) (page : List ℕ) (at : ℕ) (part : List ℕ) → at < length (damage_text_lines e page) →
    IsPrefix part (slice_index_or (damage_text_lines e page) at []) → IsPrefix (concat (take at (damage_text_lines e page)) ++ part) (damage_text e page)
damage_text_begun e page at part h begins = begun (damage_text_lines e page) at part h begins

pub damage_line_whole : (e : Evidence) (page : List ℕ) (at : ℕ) → at < length (damage_text_lines e page) → IsWhole (slice_index_or (damage_text_lines e page) at [])
damage_line_whole e page at h = rw (damage_text_lines-at e page at h) (IsWhole-line (codes "! " ++ slice_index_or (contents e page) at []))

-- wherever a sending of one line ends, behind whole lines
pub damage_line_silent : (e : Evidence) (page : List ℕ) (at : ℕ) (front sent : List ℕ) → at < length (damage_text_lines e page) → IsWhole front →
    IsPrefix sent (slice_index_or (damage_text_lines e page) at []) → IsSilentBehind front sent
damage_line_silent e page at front sent h whole begins =
    let line = slice_index_or (damage_text_lines e page) at [] in
    silent_behind line front sent (ap strip (damage_text_lines-at e page at h) ∙ strip-marked_line (contents e page) at (contents_are_lines e page)) whole begins
