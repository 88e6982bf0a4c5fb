-- The lines and the commands of a script that is read piece by piece.
use Rattle.std.proofs.Common.{◌≡◌, ℕ, suc, ◌+◌, ◌<◌, ◌≤◌, Bool, true, false, cond, List, [], ◌∷◌, ◌++◌, length, get_or, take, drop, refl, ap, sym, ◌∙◌, arith, append_assoc, length-append, Some, None, inl, inr}
use Rattle.std.proofs.lemmas.List.{append-nil, map-append, take-append-drop, drop_more, get_or-take, get_or_default, length-take-le, take_all}
use Rattle.std.proofs.lemmas.List.Quantifiers.{position-Some}
use Rattle.std.proofs.lemmas.List.Sums.{fails_before_first}
use Rattle.std.proofs.lemmas.Bool.{cases_Bool, cases_lt, eqb-true, ne_eqb, ltb-false, lt-leb}
use Rattle.std.proofs.lemmas.List.Folds.{list_any_none, list_any-append}
use Rattle.std.proofs.lemmas.List.Elements.{filter-append}
use Rattle.std.specs.Prelude.{nat_lt, not, ◌==◌, map, filter}
use Rattle.std.specs.List.{slice_split, onto_first, position, position_or_len}
use Rattle.texts.specs.Lines.{line_feed, has_line_feed, IsOneLine, parts, is_silent, lines}
use Rattle.texts.specs.Output.{IsWhole, no_line, whole_lines}
use Rattle.texts.specs.Forms.{longest_line, Form, read_by, asked_by, commands_by}
use Rattle.texts.proofs.FieldsLaws.{or_left, or_right}

-- ---- cutting

-- there is a first part
abbrev HasFirst : List (List ℕ) → Type 0
HasFirst ps = (q : List ℕ) × (qs : List (List ℕ)) × (ps ≡ q ∷ qs)

pub HasFirst-onto_first : (x : ℕ) (ps : List (List ℕ)) → HasFirst (onto_first x ps)
HasFirst-onto_first x [] = (x ∷ [], [], refl)
HasFirst-onto_first x (p ∷ ps) = (x ∷ p, ps, refl)

pub HasFirst-slice_split : (p : ℕ → Bool) (xs : List ℕ) → HasFirst (slice_split p xs)
HasFirst-slice_split p [] = ([], [], refl)
HasFirst-slice_split p (x ∷ xs) =
    elim (p x) as (λ b. HasFirst (cond b ([] ∷ slice_split p xs) (onto_first x (slice_split p xs))))
    [ true ↦ ([], slice_split p xs, refl) | false ↦ HasFirst-onto_first x (slice_split p xs) ]

pub onto_first-append : (x : ℕ) (ps qs : List (List ℕ)) → HasFirst ps → onto_first x (ps ++ qs) ≡ onto_first x ps ++ qs
onto_first-append x ps qs h = rw h.2 refl

pub slice_split-append : (p : ℕ → Bool) (xs : List ℕ) (y : ℕ) (ys : List ℕ) → p y ≡ true → slice_split p (xs ++ y ∷ ys) ≡ slice_split p xs ++ slice_split p ys
slice_split-append p [] y ys h = rw h refl
slice_split-append p (x ∷ xs) y ys h =
    rw (slice_split-append p xs y ys h)
    (elim (p x) as (λ b. cond b ([] ∷ (slice_split p xs ++ slice_split p ys)) (onto_first x (slice_split p xs ++ slice_split p ys))
    ≡ cond b ([] ∷ slice_split p xs) (onto_first x (slice_split p xs)) ++ slice_split p ys)
    [ true ↦ refl | false ↦ onto_first-append x (slice_split p xs) (slice_split p ys) (HasFirst-slice_split p xs) ])

-- ---- lines

pub lines-append : (xs ys : List ℕ) → lines (xs ++ line_feed ∷ ys) ≡ lines xs ++ lines ys
lines-append xs ys =
    ap (λ ps. filter (λ line. not (is_silent line)) ps) (slice_split-append (λ b. b == line_feed) xs line_feed ys refl)
    ∙ filter-append (λ line. not (is_silent line)) (parts xs) (parts ys)

-- a line feed at the end makes no line more
pub lines-ended : (xs : List ℕ) → lines (xs ++ line_feed ∷ []) ≡ lines xs
lines-ended xs = lines-append xs [] ∙ append-nil (lines xs)

slice_split-line : (line : List ℕ) → has_line_feed line ≡ false → parts line ≡ line ∷ []
slice_split-line [] h = refl
slice_split-line (b ∷ line) h =
    let here : (b == line_feed) ≡ false = or_left (b == line_feed) (has_line_feed line) h in
    let more : has_line_feed line ≡ false = or_right (b == line_feed) (has_line_feed line) h in
    rw (here, slice_split-line line more) refl

pub IsOneLine-empty : IsOneLine []
IsOneLine-empty = record { no_feed = refl }

pub IsOneLine-append : {xs ys : List ℕ} → IsOneLine xs → IsOneLine ys → IsOneLine (xs ++ ys)
IsOneLine-append {xs = xs} {ys = ys} h k = record {
  no_feed = list_any-append (λ b. b == line_feed) xs ys ∙ rw (h.no_feed, k.no_feed) refl;
}

pub IsOneLine-byte : {b : ℕ} → (b ≡ line_feed → ⊥) → IsOneLine (b ∷ [])
IsOneLine-byte {b = b} h = record { no_feed = rw (ne_eqb b line_feed h) refl }

-- one byte more, which is no line feed
pub IsOneLine-push : {kept : List ℕ} {b : ℕ} → IsOneLine kept → (b ≡ line_feed → ⊥) → IsOneLine (kept ++ b ∷ [])
IsOneLine-push h k = IsOneLine-append h (IsOneLine-byte k)

position_past : (bytes : List ℕ) → position (λ b. b == line_feed) bytes ≡ None → length bytes ≤ position_or_len (λ b. b == line_feed) bytes
position_past bytes h =
    elim (cases_Bool (nat_lt (position_or_len (λ b. b == line_feed) bytes) (length bytes))) [
      | inl e ↦ absurd (let f : Some (position_or_len (λ b. b == line_feed) bytes) ≡ None = rw e at h in cc)
      | inr e ↦ ltb-false (position_or_len (λ b. b == line_feed) bytes) (length bytes) e
    ]

is_silent-taken : (n : ℕ) (line : List ℕ) → is_silent (take (suc n) line) ≡ is_silent line
is_silent-taken n [] = refl
is_silent-taken n (b ∷ line) = refl

-- a line that begins with more than 1,024 bytes
silent_by_first : (kept more : List ℕ) → 1 ≤ length kept → is_silent (kept ++ more) ≡ is_silent kept
silent_by_first [] more h = absurd (omega arith)
silent_by_first (b ∷ kept) more h = refl

-- a script is one line, or a line with its line feed and what follows it
pub data Divided : List ℕ → Type 0 where
  one : {script : List ℕ} → IsOneLine script → Divided script
  first : {script : List ℕ} (line rest : List ℕ) → IsOneLine line → script ≡ line ++ line_feed ∷ rest → Divided script

divided-push : (b : ℕ) (script : List ℕ) → (b == line_feed) ≡ false → Divided script → Divided (b ∷ script)
divided-push b script h (one l) = one (record { no_feed = rw (h, l.no_feed) refl })
divided-push b script h (first line rest l e) = first (b ∷ line) rest (record { no_feed = rw (h, l.no_feed) refl }) (ap (λ bs. b ∷ bs) e)

pub divided : (script : List ℕ) → Divided script
divided [] = one IsOneLine-empty
divided (b ∷ script) =
    elim (cases_Bool (b == line_feed)) [
      | inl e ↦ first [] script IsOneLine-empty (ap (λ c. c ∷ script) (eqb-true b line_feed e))
      | inr e ↦ divided-push b script e (divided script)
    ]

-- ---- the commands of a table of forms

module _ {C : Type 0} (forms : List (Form C)) where
  pub commands-append : (xs ys : List ℕ) → commands_by forms (xs ++ line_feed ∷ ys) ≡ commands_by forms xs ++ commands_by forms ys
  commands-append xs ys = ap (λ ls. map (read_by forms) ls) (lines-append xs ys) ∙ map-append (read_by forms) (lines xs) (lines ys)

  pub commands-ended : (xs : List ℕ) → commands_by forms (xs ++ line_feed ∷ []) ≡ commands_by forms xs
  commands-ended xs = ap (λ ls. map (read_by forms) ls) (lines-ended xs)

  -- the commands of two scripts in a row, of which the first ends with a line feed
  pub commands-append_ended : (xs ys : List ℕ) → commands_by forms ((xs ++ line_feed ∷ []) ++ ys) ≡ commands_by forms (xs ++ line_feed ∷ []) ++ commands_by forms ys
  commands-append_ended xs ys =
      ap (commands_by forms) (append_assoc xs (line_feed ∷ []) ys) ∙ commands-append xs ys ∙ ap (λ cs. cs ++ commands_by forms ys) (sym (commands-ended xs))

  -- whole lines, and what follows them
  pub commands-whole : {xs : List ℕ} (ys : List ℕ) → IsWhole xs → commands_by forms (xs ++ ys) ≡ commands_by forms xs ++ commands_by forms ys
  commands-whole ys no_line = refl
  commands-whole ys (whole_lines front e) = rw e (commands-append_ended front ys)

  pub commands_line : (line : List ℕ) → IsOneLine line → commands_by forms line ≡ asked_by forms line
  commands_line line h =
      ap (λ ps. map (read_by forms) (filter (λ l. not (is_silent l)) ps)) (slice_split-line line h.no_feed)
      ∙ elim (is_silent line) as (λ b. map (read_by forms) (cond (not b) (line ∷ []) []) ≡ cond b [] (read_by forms line ∷ [])) [ true ↦ refl | false ↦ refl ]

  -- the first line, and what follows its line feed
  pub commands_first : (line rest : List ℕ) → IsOneLine line → commands_by forms (line ++ line_feed ∷ rest) ≡ asked_by forms line ++ commands_by forms rest
  commands_first line rest h = commands-append line rest ∙ ap (λ cs. cs ++ commands_by forms rest) (commands_line line h)

  pub commands_at : (bytes : List ℕ) (i : ℕ) → position (λ b. b == line_feed) bytes ≡ Some i → commands_by forms bytes ≡ asked_by forms (take i bytes) ++ commands_by forms (drop (i + 1) bytes)
  commands_at bytes i h =
      let p = position-Some (λ b. b == line_feed) bytes i 0 h in
      let within : i < length bytes = p.0 in
      let here : get_or bytes i 0 ≡ line_feed = eqb-true (get_or bytes i 0) line_feed p.1 in
      let whole : bytes ≡ take i bytes ++ line_feed ∷ drop (i + 1) bytes =
      sym (take-append-drop i bytes) ∙ ap (λ l. take i bytes ++ l) (drop_more bytes i 0 within ∙ ap (λ b. b ∷ drop (i + 1) bytes) here) in
      let one : IsOneLine (take i bytes) = record {
        no_feed = list_any_none (λ b. b == line_feed) (take i bytes)
            (λ k d l. let low : k < i = omega (arith, length-take-le i bytes) in rw (get_or-take i bytes k d low, get_or_default bytes k d 0 (omega arith)) (p.2 k low));
      } in
      ap (commands_by forms) whole ∙ commands_first (take i bytes) (drop (i + 1) bytes) one

  pub commands_none : (bytes : List ℕ) → position (λ b. b == line_feed) bytes ≡ None → commands_by forms bytes ≡ asked_by forms bytes
  commands_none bytes h =
      commands_line bytes (record {
        no_feed = list_any_none (λ b. b == line_feed) bytes
            (λ k d l. let low : k < position_or_len (λ b. b == line_feed) bytes = omega (arith, position_past bytes h) in
            rw (get_or_default bytes k d 0 l) (fails_before_first (λ b. b == line_feed) bytes k 0 low));
      })

  command_of_long : (line : List ℕ) → longest_line < length line → read_by forms line ≡ None
  command_of_long line h = rw (lt-leb (length line) longest_line h) refl

  -- of a long line its first 1,025 bytes say all
  pub command_in-taken : (line : List ℕ) → asked_by forms (take 1025 line) ≡ asked_by forms line
  command_in-taken line =
      elim (cases_lt longest_line (length line)) [
        | inl h ↦
            let taken : read_by forms (take 1025 line) ≡ None = command_of_long (take 1025 line) (omega (arith, length-take-le 1025 line)) in
            rw (taken, command_of_long line h, is_silent-taken 1024 line) refl
        | inr h ↦ ap (asked_by forms) (take_all 1025 line (omega arith))
      ]

  pub command_in-long : (kept more : List ℕ) → longest_line < length kept → asked_by forms (kept ++ more) ≡ asked_by forms kept
  command_in-long kept more h =
      rw (
        silent_by_first kept more (omega arith),
        command_of_long (kept ++ more) (omega (arith, length-append kept more)),
        command_of_long kept h,
      ) refl

  -- Of a line that is too long already a byte more changes nothing.
  pub commands_dropped : (kept : List ℕ) (b : ℕ) (rest : List ℕ) → 1025 ≤ length kept → IsOneLine kept → (b ≡ line_feed → ⊥) → commands_by forms (kept ++ b ∷ rest) ≡ commands_by forms (kept ++ rest)
  commands_dropped kept b rest long line other = dropped (divided rest)
    where
      dropped : Divided rest → commands_by forms (kept ++ b ∷ rest) ≡ commands_by forms (kept ++ rest)
      dropped (one l) =
          commands_line (kept ++ b ∷ rest) (IsOneLine-append line (IsOneLine-append (IsOneLine-byte other) l))
          ∙ command_in-long kept (b ∷ rest) (omega arith)
          ∙ sym (command_in-long kept rest (omega arith))
          ∙ sym (commands_line (kept ++ rest) (IsOneLine-append line l))
      dropped (first front more l e) =
          ap (commands_by forms) (ap (λ r. kept ++ b ∷ r) e ∙ sym (append_assoc kept (b ∷ front) (line_feed ∷ more)))
          ∙ commands_first (kept ++ b ∷ front) more (IsOneLine-append line (IsOneLine-append (IsOneLine-byte other) l))
          ∙ ap (λ cs. cs ++ commands_by forms more) (command_in-long kept (b ∷ front) (omega arith) ∙ sym (command_in-long kept front (omega arith)))
          ∙ sym (commands_first (kept ++ front) more (IsOneLine-append line l))
          ∙ ap (commands_by forms) (append_assoc kept front (line_feed ∷ more) ∙ ap (λ r. kept ++ r) (sym e))
