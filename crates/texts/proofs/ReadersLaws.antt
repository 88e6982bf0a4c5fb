-- Readers of numbers, and the last field of a line.
use Rattle.std.proofs.Common.{◌≡◌, ℕ, ◌<◌, ◌≤◌, ◌^◌, List, ◌∷◌, ◌++◌, ap, sym, ◌∙◌, arith, Option, Some, None}
use Rattle.std.proofs.lemmas.List.{append-nil}
use Rattle.std.specs.Prelude.{decimal}
use Rattle.texts.specs.Numbers.{key_of, number_below, IsKey}
use Rattle.texts.specs.Fields.{space, field, at_end}
use Rattle.texts.proofs.NumbersLaws.{number_below_sound, number_below_complete, decimal_not}
use Rattle.texts.proofs.FieldsLaws.{left_text, IsWordReader, field_sound, field_complete, at_end_sound}

abbrev pub as_is : List ℕ → List ℕ
as_is bytes = bytes

pub numbers_below : (limit : ℕ) → limit ≤ 2 ^ 64 → IsWordReader (number_below limit) (λ n. decimal n) (λ n. n < limit)
numbers_below limit small = record {
  reader = record {
    sound = λ bytes a h. number_below_sound limit bytes a small h;
    complete = λ a h. number_below_complete limit a small h;
  };
  one_word = λ a h. decimal_not space a (omega arith);
}

pub keys : IsWordReader key_of (λ n. decimal n) IsKey
keys = numbers_below 0x1_0000_0000_0000_0000 (omega arith)

-- ---- the last field

module _ {A : Type 0} (read : List ℕ → Option A) (show : A → List ℕ) (Fits : A → Type 0) where
  pub field_last : IsWordReader read show Fits → (a : A) → Fits a → field read (Some (show a)) ≡ Some (a, None)
  field_last w a h = ap (λ l. field read (Some l)) (sym (append-nil (show a))) ∙ field_complete read show Fits w a None h

  -- a last field that something reads
  pub last_sound : {C : Type 0} → IsWordReader read show Fits → (left : Option (List ℕ)) (p : A × Option (List ℕ)) (make c : C) →
      field read left ≡ Some p → at_end make p.1 ≡ Some c → (left_text left ≡ space ∷ show p.0) × Fits p.0 × (make ≡ c)
  last_sound w left p make c h e =
      let f = field_sound read show Fits w left p h in
      let g = at_end_sound make c p.1 e in
      (f.0 ∙ ap (λ l. space ∷ (show p.0 ++ l)) g.0 ∙ ap (λ l. space ∷ l) (append-nil (show p.0)), f.1, g.1)
