-- Texts that are made of lines: each line is one, none stands aside, and those that tell of a commit are acknowledged.
use Rattle.std.proofs.Common.{◌≡◌, ℕ, zero-add, Bool, true, false, cond, List, [], ◌∷◌, ◌++◌, refl, ap, sym, ◌∙◌, append_assoc}
use Rattle.std.proofs.lemmas.List.{append-nil}
use Rattle.std.proofs.lemmas.List.Sums.{sum_by-append}
use Rattle.std.proofs.lemmas.List.Concat.{flat_map-append}
use Rattle.std.specs.Prelude.{map, filter, flat_map, count_by, ◌==◌, ◌||◌, if◌then◌else◌}
use Rattle.std.specs.List.{AllByRecursion}
use Rattle.texts.specs.Lines.{line_feed, has_line_feed, ended}
use Rattle.texts.specs.Output.{IsWhole, whole_lines, pieces, strip, acknowledges, acked}
use Rattle.texts.proofs.OutputLaws.{pieces_line, keeps, IsWhole-empty, IsWhole-append}

-- a line with its line feed has one
pub ends : (bytes : List ℕ) → has_line_feed (bytes ++ line_feed ∷ []) ≡ true
ends [] = refl
ends (b ∷ bytes) = rw (ends bytes) (elim (b == line_feed) as (λ t. (t || true) ≡ true) [ true ↦ refl | false ↦ refl ])

module _ {R : Type 0} (line : R → List ℕ) where
  -- the text of some replies
  abbrev pub text_by : List R → List ℕ
  text_by rs = flat_map (λ r. ended (line r)) rs

  pub IsWhole-text : (rs : List R) → IsWhole (text_by rs)
  IsWhole-text [] = IsWhole-empty
  IsWhole-text (r ∷ rs) = IsWhole-append (whole_lines (line r) refl) (IsWhole-text rs)

  pub text_one : (r : R) → text_by (r ∷ []) ≡ ended (line r)
  text_one r = append-nil (ended (line r))

  pub text-append : (rs qs : List R) → text_by (rs ++ qs) ≡ text_by rs ++ text_by qs
  text-append rs qs = flat_map-append (λ r. ended (line r)) rs qs

  -- What is asked of replies: each that fits is one line and stands, and its line acknowledges a commit where it tells of one.
  pub record AreLines (Fits : R → Type 0) (tells : R → Bool) : Type 0 where
    pub one_line : (r : R) → Fits r → has_line_feed (line r) ≡ false
    pub stands : (r : R) → keeps (ended (line r)) ≡ true
    pub told : (r : R) → acknowledges (ended (line r)) ≡ tells r

  module _ {Fits : R → Type 0} {tells : R → Bool} (lines : AreLines Fits tells) where
    -- the lines of a text are its replies
    pub pieces_text : (rs : List R) (ys : List ℕ) → AllByRecursion Fits rs → pieces (text_by rs ++ ys) ≡ map (λ r. ended (line r)) rs ++ pieces ys
    pieces_text [] ys h = refl
    pieces_text (r ∷ rs) ys h =
        let regrouped : text_by (r ∷ rs) ++ ys ≡ line r ++ line_feed ∷ (text_by rs ++ ys) = append_assoc (ended (line r)) (text_by rs) ys ∙ append_assoc (line r) (line_feed ∷ []) (text_by rs ++ ys) in
        ap pieces regrouped ∙ pieces_line (line r) (text_by rs ++ ys) (lines.one_line r h.0) ∙ ap (λ ps. ended (line r) ∷ ps) (pieces_text rs ys h.1)

    pub pieces_replies : (rs : List R) → AllByRecursion Fits rs → pieces (text_by rs) ≡ map (λ r. ended (line r)) rs
    pieces_replies rs h = ap pieces (sym (append-nil (text_by rs))) ∙ pieces_text rs [] h ∙ append-nil (map (λ r. ended (line r)) rs)

    kept_replies : (rs : List R) → flat_map (λ l. l) (filter keeps (map (λ r. ended (line r)) rs)) ≡ text_by rs
    kept_replies [] = refl
    kept_replies (r ∷ rs) = rw (lines.stands r) (ap (λ l. ended (line r) ++ l) (kept_replies rs))

    -- no reply is taken out
    pub strip-text : (rs : List R) → AllByRecursion Fits rs → strip (text_by rs) ≡ text_by rs
    strip-text rs h = ap (λ ps. flat_map (λ l. l) (filter keeps ps)) (pieces_replies rs h) ∙ kept_replies rs

    counted : (rs : List R) → count_by acknowledges (map (λ r. ended (line r)) rs) ≡ count_by tells rs
    counted [] = refl
    counted (r ∷ rs) =
        sum_by-append (λ p. cond (acknowledges p) 1 0) (ended (line r) ∷ []) (map (λ r. ended (line r)) rs)
        ∙ rw (lines.told r, counted rs) (sym (sum_by-append (λ s. cond (tells s) 1 0) (r ∷ []) rs))

    -- each commit that is replied to is acknowledged, and nothing else is
    pub acked-text : (rs : List R) → AllByRecursion Fits rs → acked (text_by rs) ≡ count_by tells rs
    acked-text rs h = ap (λ ps. count_by acknowledges ps) (pieces_replies rs h) ∙ counted rs

    -- one reply acknowledges one commit where it tells of it, and else none
    pub acked-reply : (r : R) → Fits r → acked (ended (line r)) ≡ (if tells r then 1 else 0)
    acked-reply r h = ap acked (sym (text_one r)) ∙ acked-text (r ∷ []) (h, tt) ∙ zero-add (cond (tells r) 1 0)
