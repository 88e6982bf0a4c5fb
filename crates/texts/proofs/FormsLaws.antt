-- A table of forms: what it reads, one of its forms reads.
use Rattle.std.proofs.Common.{◌≡◌, ℕ, ◌≤◌, List, [], ◌∷◌, ◌++◌, length, Option, Some, None, inl, inr}
use Rattle.std.proofs.lemmas.Bool.{cases_Bool, leb-true}
use Rattle.std.proofs.lemmas.Slice.Eq.{bytes_eq-Decides}
use Rattle.std.specs.Prelude.{nat_le, bytes_eq}
use Rattle.std.specs.List.{AllByRecursion}
use Rattle.texts.specs.Fields.{cut}
use Rattle.texts.specs.Forms.{Form, by_word, read_by, longest_line}
use Rattle.texts.proofs.FieldsLaws.{left_text, cut_whole}

module _ {C : Type 0} where
  -- What the reader of each word of a table makes of the rest has a property: so has what the table reads.
  pub by_word_all : (P : C → Type 0) (word : List ℕ) (left : Option (List ℕ)) (table : List (Form C)) →
      AllByRecursion (λ form. (c : C) → word ≡ form.0 → form.1 left ≡ Some c → P c) table → (c : C) → by_word table word left ≡ Some c → P c
  by_word_all P word left [] a c h = absurd cc
  by_word_all P word left (form ∷ table) a c h =
      elim (cases_Bool (bytes_eq word form.0)) [
        | inl e ↦ a.0 c ((bytes_eq-Decides word form.0).0 e) (rw e at h)
        | inr e ↦ by_word_all P word left table a.1 c (rw e at h)
      ]

  -- a line that is read is its first word and what is left behind it, and not too long
  pub read_by_parts : (forms : List (Form C)) (line : List ℕ) (c : C) → read_by forms line ≡ Some c →
      (by_word forms (cut line).0 (cut line).1 ≡ Some c) × (line ≡ (cut line).0 ++ left_text (cut line).1) × (length line ≤ longest_line)
  read_by_parts forms line c h =
      elim (cases_Bool (nat_le (length line) longest_line)) [
        | inl e ↦ (rw e at h, cut_whole line, leb-true (length line) longest_line e)
        | inr e ↦ absurd (let never : None ≡ Some c = rw e at h in cc)
      ]
