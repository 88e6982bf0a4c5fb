-- Numbers in plain decimal: what is read is what is printed.
use Rattle.std.proofs.Common.{◌≡◌, ℕ, zero, suc, ◌+◌, ◌/◌, ◌%◌, ◌<◌, ◌≤◌, ◌^◌, Bool, true, false, cond, List, [], ◌∷◌, length, get_or, drop, ◌*◌, refl, ap, sym, ◌∙◌, arith, Some, None, inl, inr, ◌⊎◌}
use Rattle.std.proofs.lemmas.Bool.{and_parts, and_from, or_cases, ltb-true, lt-ltb, le-ltb, eqb-true, not-true, ne_eqb, cases_Bool, cases_lt, eqb-false}
use Rattle.std.proofs.lemmas.Str.Parse.{IsNumeralModel, numerals_by_value, tells_all_ascii_digits}
use Rattle.std.proofs.lemmas.Fmt.{digits_decimal, digits_value-decimal, decimal-digits_value, decimal_nonempty, first_decimal, decimal_digit}
use Rattle.std.specs.Prelude.{not, ◌==◌, ◌&&◌, ◌||◌, nat_lt, decimal}
use Rattle.std.specs.Str.{all_ascii_digits}
use Rattle.std.specs.Str.Parse.{digits_value, digits_value_after}
use Rattle.std.specs.Fmt.{digit_glyph, digits_onto, digits}
use Rattle.std.specs.List.{list_any}
use Rattle.std.specs.Char.{digit_value}
use Rattle.std.proofs.lemmas.List.{drop_more, drop_all}
use Rattle.texts.specs.Numbers.{is_plain, number_below, digits_number}

own : IsNumeralModel (λ ds. all_ascii_digits ds ≡ true) (λ ds. digits_value 10 ds)
own = numerals_by_value (λ ds. all_ascii_digits ds ≡ true) tells_all_ascii_digits

-- a choice that gives a value
pub cond_some : {A : Type 0} (b : Bool) (x a : A) → cond b (Some x) None ≡ Some a → (b ≡ true) × (x ≡ a)
cond_some true x a h = (refl, cc)
cond_some false x a h = absurd cc

-- what is plain is long enough, and a leading zero stands alone
pub plain_parts : (bytes : List ℕ) → is_plain bytes ≡ true →
    (all_ascii_digits bytes ≡ true) × (0 < length bytes) × (get_or bytes 0 0 ≡ 48 → length bytes ≡ 1)
plain_parts bytes h =
    let p = and_parts (all_ascii_digits bytes) (length bytes == 1 || (nat_lt 1 (length bytes) && not (get_or bytes 0 0 == 48))) h in
    elim (or_cases (length bytes == 1) (nat_lt 1 (length bytes) && not (get_or bytes 0 0 == 48)) p.1) [
      | inl e ↦ let one : length bytes ≡ 1 = eqb-true (length bytes) 1 e in (p.0, omega arith, λ _. one)
      | inr e ↦
          let q = and_parts (nat_lt 1 (length bytes)) (not (get_or bytes 0 0 == 48)) e in
          let long : 1 < length bytes = ltb-true 1 (length bytes) q.0 in
          (p.0, omega arith, λ z. absurd (eqb-false (get_or bytes 0 0) 48 (not-true (get_or bytes 0 0 == 48) q.1) z))
    ]

-- what is read is below the limit, and is the number's text
pub number_below_sound : (limit : ℕ) (bytes : List ℕ) (n : ℕ) → limit ≤ 2 ^ 64 → number_below limit bytes ≡ Some n → (bytes ≡ decimal n) × (n < limit)
number_below_sound limit bytes n small h =
    let c = cond_some (is_plain bytes && nat_lt (digits_value 10 bytes) limit) (digits_value 10 bytes) n h in
    let p = and_parts (is_plain bytes) (nat_lt (digits_value 10 bytes) limit) c.0 in
    let q = plain_parts bytes p.0 in
    let below : digits_value 10 bytes < limit = ltb-true (digits_value 10 bytes) limit p.1 in
    let same : digits_value 10 bytes ≡ n = c.1 in
    let text : decimal (digits_value 10 bytes) ≡ bytes = decimal-digits_value own bytes q.0 q.1 q.2 (omega arith) in
    (sym text ∙ ap (λ k. decimal k) same, rw same at below)

above_one : (k : ℕ) → 0 < k → (k ≡ 1 → ⊥) → 1 < k
above_one k some other = elim (cases_lt 1 k) [ inl h ↦ h | inr h ↦ absurd (other (omega arith)) ]

-- the text of a number is plain
pub is_plain-decimal : (n : ℕ) → n < 2 ^ 64 → is_plain (decimal n) ≡ true
is_plain-decimal n small =
    and_from (all_ascii_digits (decimal n)) (length (decimal n) == 1 || (nat_lt 1 (length (decimal n)) && not (get_or (decimal n) 0 0 == 48)))
    (digits_decimal own n small) (shape (cases_lt n 10))
  where
    shape : ((n < 10) ⊎ (10 ≤ n)) → (length (decimal n) == 1 || (nat_lt 1 (length (decimal n)) && not (get_or (decimal n) 0 0 == 48))) ≡ true
    shape (inl low) = rw (decimal_digit n low) refl
    shape (inr high) =
        let first : 48 < get_or (decimal n) 0 0 = first_decimal n (omega arith) small in
        let other : (get_or (decimal n) 0 0 == 48) ≡ false = ne_eqb (get_or (decimal n) 0 0) 48 (λ e. omega arith) in
        let some : 0 < length (decimal n) = decimal_nonempty n small in
        elim (cases_Bool (length (decimal n) == 1)) [
          | inl e ↦ rw e refl
          | inr e ↦
              let more : nat_lt 1 (length (decimal n)) ≡ true = lt-ltb 1 (length (decimal n)) (above_one (length (decimal n)) some (eqb-false (length (decimal n)) 1 e)) in
              rw (e, other, more) refl
        ]

-- the text of a number is read as that number
pub number_below_complete : (limit n : ℕ) → limit ≤ 2 ^ 64 → n < limit → number_below limit (decimal n) ≡ Some n
number_below_complete limit n small h =
    let fits : n < 2 ^ 64 = omega arith in
    rw (is_plain-decimal n fits, digits_value-decimal own n fits, lt-ltb n limit h) refl

-- ---- which bytes stand in a text of digits

glyph_not : (c d : ℕ) → c < 48 → (digit_glyph false d == c) ≡ false
glyph_not c d h =
    elim (cases_Bool (nat_lt d 10)) [
      | inl e ↦ rw e (ne_eqb (48 + d) c (λ s. omega arith))
      | inr e ↦ rw e (ne_eqb (87 + d) c (λ s. omega arith))
    ]

digits_onto_not : (c k n : ℕ) (acc : List ℕ) → c < 48 → list_any (λ b. b == c) acc ≡ false → list_any (λ b. b == c) (digits_onto k 10 false n acc) ≡ false
digits_onto_not c zero n acc h a = a
digits_onto_not c (suc k) n acc h a =
    let more : list_any (λ b. b == c) (digit_glyph false (n % 10) ∷ acc) ≡ false = rw (glyph_not c (n % 10) h) a in
    elim (n / 10 == 0) as (λ t. list_any (λ b. b == c) (cond t (digit_glyph false (n % 10) ∷ acc) (digits_onto k 10 false (n / 10) (digit_glyph false (n % 10) ∷ acc))) ≡ false)
    [ true ↦ more | false ↦ digits_onto_not c k (n / 10) (digit_glyph false (n % 10) ∷ acc) h more ]

-- no byte below the digits stands in a number's text, such as a space or a line feed
pub decimal_not : (c n : ℕ) → c < 48 → list_any (λ b. b == c) (decimal n) ≡ false
unfolding digits
decimal_not c n h = digits_onto_not c 64 n [] h refl

-- ---- reading digit by digit

after_ge : (n : ℕ) (ds : List ℕ) → n ≤ digits_value_after 10 n ds
after_ge n [] = omega arith
after_ge n (d ∷ ds) = omega (arith, after_ge (n * 10 + digit_value d) ds)

-- a number that has grown too large stays so
pub too_large : (bytes : List ℕ) (n i : ℕ) → i < length bytes → digits_value_after 10 n (drop i bytes) ≡ digits_value 10 bytes → 2 ^ 64 ≤ n * 10 + digit_value (get_or bytes i 0) → digits_number bytes ≡ None
too_large bytes n i l e big =
    let step : digits_value_after 10 (n * 10 + digit_value (get_or bytes i 0)) (drop (i + 1) bytes) ≡ digits_value 10 bytes = rw (drop_more bytes i 0 l) at e in
    let most : 2 ^ 64 ≤ digits_value 10 bytes = omega (arith, step, after_ge (n * 10 + digit_value (get_or bytes i 0)) (drop (i + 1) bytes)) in
    rw (le-ltb (digits_value 10 bytes) (2 ^ 64) most) (elim (all_ascii_digits bytes) as (λ b. cond (b && false) (Some (digits_value 10 bytes)) None ≡ None) [ true ↦ refl | false ↦ refl ])

-- digits to the end, and a number of 64 bits
pub all_read : (bytes : List ℕ) (n i : ℕ) → length bytes ≤ i → all_ascii_digits (drop i bytes) ≡ all_ascii_digits bytes → digits_value_after 10 n (drop i bytes) ≡ digits_value 10 bytes → n < 2 ^ 64 → digits_number bytes ≡ Some n
all_read bytes n i l d v small =
    let digits : true ≡ all_ascii_digits bytes = rw (drop_all i bytes l) at d in
    let value : n ≡ digits_value 10 bytes = rw (drop_all i bytes l) at v in
    rw (← digits, ← value, lt-ltb n (2 ^ 64) small) refl
