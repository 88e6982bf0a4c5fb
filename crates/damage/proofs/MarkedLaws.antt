-- Marked lines in a row: they are cut where they were joined, stand aside, and acknowledge nothing.
use Rattle.std.proofs.Common.{◌≡◌, ℕ, zero, suc, ◌+◌, ◌<◌, ◌≤◌, true, List, [], ◌∷◌, ◌++◌, length, take, drop, refl, ap, sym, ◌∙◌, arith, append_assoc, append-nil}
use Rattle.std.specs.Prelude.{codes, map, filter, flat_map, slice_index_or}
use Rattle.std.specs.List.{AllByRecursion, list_all, concat}
use Rattle.std.proofs.lemmas.List.{take_more, take-append-drop}
use Rattle.texts.specs.Lines.{line_feed, IsOneLine}
use Rattle.texts.specs.Output.{IsWhole, IsPrefix, pieces, is_aside, strip, acked}
use Rattle.texts.proofs.OutputLaws.{keeps, pieces_line, acked-strip, acked_prefix, strip_prefix, acked-whole, strip-whole, IsWhole-empty, IsWhole-line, IsWhole-append}
use Rattle.damage.specs.DamageText.{marked}
use Rattle.damage.specs.Laws.{IsSilentBehind}

concat-append : (xs ys : List (List ℕ)) → concat (xs ++ ys) ≡ concat xs ++ concat ys
concat-append [] ys = refl
concat-append (x ∷ xs) ys = ap (λ l. x ++ l) (concat-append xs ys) ∙ sym (append_assoc x (concat xs) (concat ys))

-- lines so far, and one more
pub concat-take_more : (lines : List (List ℕ)) (at : ℕ) → at < length lines → concat (take (at + 1) lines) ≡ concat (take at lines) ++ slice_index_or lines at []
concat-take_more lines at h =
    ap concat (take_more lines at [] h)
    ∙ concat-append (take at lines) (slice_index_or lines at [] ∷ [])
    ∙ ap (λ l. concat (take at lines) ++ l) (append-nil (slice_index_or lines at []))

-- lines so far, and a beginning of the next one, are a beginning of all
pub begun : (lines : List (List ℕ)) (at : ℕ) (part : List ℕ) → at < length lines → IsPrefix part (slice_index_or lines at []) → IsPrefix (concat (take at lines) ++ part) (concat lines)
begun lines at part h begins =
    let before = concat (take at lines) in
    let line = slice_index_or lines at [] in
    let rest = concat (drop (at + 1) lines) in (
      begins.0 ++ rest,
      append_assoc before part (begins.0 ++ rest)
          ∙ ap (λ l. before ++ l) (sym (append_assoc part begins.0 rest) ∙ ap (λ l. l ++ rest) begins.1)
          ∙ sym (append_assoc before line rest)
          ∙ ap (λ l. l ++ rest) (sym (concat-take_more lines at h))
          ∙ sym (concat-append (take (at + 1) lines) (drop (at + 1) lines))
          ∙ ap concat (take-append-drop (at + 1) lines),
    )

-- ---- marked lines

pub pieces-marked : (ls : List (List ℕ)) → AllByRecursion IsOneLine ls → pieces (concat (map marked ls)) ≡ map marked ls
pieces-marked [] h = refl
pieces-marked (l ∷ ls) h =
    ap pieces (append_assoc (codes "! " ++ l) (line_feed ∷ []) (concat (map marked ls)))
    ∙ pieces_line (codes "! " ++ l) (concat (map marked ls)) h.0.no_feed
    ∙ ap (λ ps. marked l ∷ ps) (pieces-marked ls h.1)

pub marked_aside : (ls : List (List ℕ)) → list_all is_aside (map marked ls) ≡ true
marked_aside [] = refl
marked_aside (l ∷ ls) = marked_aside ls

pub IsWhole-marked : (ls : List (List ℕ)) → IsWhole (concat (map marked ls))
IsWhole-marked [] = IsWhole-empty
IsWhole-marked (l ∷ ls) = IsWhole-append (IsWhole-line (codes "! " ++ l)) (IsWhole-marked ls)

none_kept : (ls : List (List ℕ)) → filter keeps (map marked ls) ≡ []
none_kept [] = refl
none_kept (l ∷ ls) = none_kept ls

pub strip-marked : (ls : List (List ℕ)) → AllByRecursion IsOneLine ls → strip (concat (map marked ls)) ≡ []
strip-marked ls h =
    ap (λ ps. flat_map (λ piece. piece) (filter keeps ps)) (pieces-marked ls h)
    ∙ ap (λ ps. flat_map (λ piece. piece) ps) (none_kept ls)

one_of : (ls : List (List ℕ)) (at : ℕ) → AllByRecursion IsOneLine ls → IsOneLine (slice_index_or ls at [])
one_of [] at h = record { no_feed = refl }
one_of (l ∷ ls) zero h = h.0
one_of (l ∷ ls) (suc at) h = one_of ls at h.1

-- the same of one of them
pub strip-marked_line : (ls : List (List ℕ)) (at : ℕ) → AllByRecursion IsOneLine ls → strip (marked (slice_index_or ls at [])) ≡ []
strip-marked_line ls at h =
    let line = marked (slice_index_or ls at []) in
    ap strip (sym (append-nil line)) ∙ strip-marked (slice_index_or ls at [] ∷ []) (one_of ls at h, tt)

-- ---- what stands aside as a whole

pub acked-stripped : (text : List ℕ) → strip text ≡ [] → acked text ≡ 0
acked-stripped text none = sym (acked-strip text) ∙ ap acked none

nothing_before : (xs ys : List ℕ) → xs ++ ys ≡ [] → xs ≡ []
nothing_before [] ys h = refl
nothing_before (x ∷ xs) ys h = absurd cc

-- a beginning of it is silent behind whole lines
pub silent_behind : (text front sent : List ℕ) → strip text ≡ [] → IsWhole front → IsPrefix sent text → IsSilentBehind front sent
silent_behind text front sent none whole begins =
    let counted : acked sent ≤ acked (sent ++ begins.0) = acked_prefix sent begins.0 in
    let text_counted : acked (sent ++ begins.0) ≡ 0 = ap acked begins.1 ∙ acked-stripped text none in
    let rest = strip_prefix sent begins.0 in
    let stripped : strip sent ≡ [] = nothing_before (strip sent) rest.0 (rest.1 ∙ ap strip begins.1 ∙ none) in
    record {
      acknowledged = acked-whole sent whole ∙ omega arith;
      stripped = strip-whole sent whole ∙ ap (λ l. strip front ++ l) stripped ∙ append-nil (strip front);
    }
