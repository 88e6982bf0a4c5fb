-- The shapes of the forms: what is read is what is written.
use Rattle.std.proofs.Common.{◌≡◌, ℕ, suc, ◌<◌, ◌≤◌, ◌^◌, true, false, cond, List, [], ◌∷◌, ◌++◌, refl, ap, ◌∙◌, arith, Option, Some, None, inl, inr, subst}
use Rattle.std.proofs.lemmas.Bool.{and_parts, or_cases, leb-true, le-leb, ne_eqb, eqb-true}
use Rattle.std.specs.Prelude.{◌==◌, ◌&&◌, ◌||◌, nat_le, decimal, option_map, IsTrue}
use Rattle.std.specs.List.{list_any, list_all}
use Rattle.rows.specs.Names.{is_name_byte, is_name, IsName, name_of}
use Rattle.rows.specs.Value.{is_value, IsValue, value_of}
use Rattle.texts.specs.Numbers.{key_of, number_below, IsKey, IsCount}
use Rattle.texts.specs.Fields.{◌>>=◌, space, field, remainder, at_end}
use Rattle.script.specs.Shapes.{count_up_to, bare, one_name, name_key, name_two_keys, name_key_value, one_count}
use Rattle.texts.proofs.NumbersLaws.{cond_some, number_below_sound, number_below_complete, decimal_not}
use Rattle.texts.proofs.FieldsLaws.{left_text, IsReader, IsWordReader, bind_some, map_some, field_sound, field_complete, remainder_sound, at_end_sound}
use Rattle.texts.proofs.ReadersLaws.{as_is, keys, field_last, last_sound}

-- ---- names, values and numbers as fields

name_byte_not : (c b : ℕ) → c < 48 → is_name_byte b ≡ true → (b == c) ≡ false
name_byte_not c b h n =
    elim (or_cases ((nat_le 97 b && nat_le b 122) || (nat_le 48 b && nat_le b 57)) (b == 95) n) [
      | inl m ↦ elim (or_cases (nat_le 97 b && nat_le b 122) (nat_le 48 b && nat_le b 57) m) [
        | inl l ↦ let low : 97 ≤ b = leb-true 97 b (and_parts (nat_le 97 b) (nat_le b 122) l).0 in ne_eqb b c (λ e. omega arith)
        | inr l ↦ let low : 48 ≤ b = leb-true 48 b (and_parts (nat_le 48 b) (nat_le b 57) l).0 in ne_eqb b c (λ e. omega arith)
      ]
      | inr m ↦ let same : b ≡ 95 = eqb-true b 95 m in ne_eqb b c (λ e. omega arith)
    ]

-- no byte below `0` stands in a name
pub name_not : (c : ℕ) (t : List ℕ) → c < 48 → list_all is_name_byte t ≡ true → list_any (λ b. b == c) t ≡ false
name_not c [] h n = refl
name_not c (b ∷ t) h n =
    let p = and_parts (is_name_byte b) (list_all is_name_byte t) n in
    rw (name_byte_not c b h p.0, name_not c t h p.1) refl

pub names : IsWordReader name_of as_is IsName
names = record {
  reader = record {
    sound = λ bytes a h. let c = cond_some (is_name bytes) bytes a h in (c.1, subst (λ l. IsTrue (is_name l)) c.1 c.0);
    complete = λ a h. rw h refl;
  };
  one_word = λ a h. name_not space a (omega arith) (and_parts _ (list_all is_name_byte a) h).1;
}

pub values : IsReader value_of as_is IsValue
values = record {
  sound = λ bytes a h. let c = cond_some (is_value bytes) bytes a h in (c.1, subst (λ l. IsTrue (is_value l)) c.1 c.0);
  complete = λ a h. rw h refl;
}

pub counts : (most : ℕ) → suc most ≤ 2 ^ 64 → IsWordReader (count_up_to most) (λ n. decimal n) (IsCount most)
counts most small = record {
  reader = record {
    sound = λ bytes a h.
        let b = bind_some (number_below (suc most) bytes) (λ n. cond (nat_le 1 n) (Some n) None) a h in
        let c = cond_some (nat_le 1 b.0) b.0 a b.2 in
        let s = number_below_sound (suc most) bytes a small (b.1 ∙ ap (λ n. Some n) c.1) in
        (s.0, (rw c.1 at (leb-true 1 b.0 c.0), s.1));
    complete = λ a h. rw (number_below_complete (suc most) a small h.1, le-leb 1 a h.0) refl;
  };
  one_word = λ a h. decimal_not space a (omega arith);
}

-- ---- the shapes

abbrev pub Text : Type 0
Text = List ℕ

module _ {C : Type 0} where
  pub bare_sound : (make c : C) (left : Option Text) → bare make left ≡ Some c → (left_text left ≡ []) × (make ≡ c)
  bare_sound make c left h = at_end_sound make c left h

  pub one_name_sound : (make : Text → C) (c : C) (left : Option Text) → one_name make left ≡ Some c →
      (t : Text) × IsName t × (make t ≡ c) × (left_text left ≡ space ∷ t)
  one_name_sound make c left h =
      let b = bind_some (field name_of left) (λ t. at_end (make t.0) t.1) c h in
      let f = last_sound name_of as_is IsName names left b.0 (make b.0.0) c b.1 b.2 in
      (b.0.0, f.1, f.2, f.0)

  pub one_name_complete : (make : Text → C) (t : Text) → IsName t → one_name make (Some t) ≡ Some (make t)
  one_name_complete make t h = rw (field_last name_of as_is IsName names t h) refl

  pub name_key_sound : (make : Text → ℕ → C) (c : C) (left : Option Text) → name_key make left ≡ Some c →
      (t : Text) × (k : ℕ) × IsName t × IsKey k × (make t k ≡ c) × (left_text left ≡ space ∷ (t ++ space ∷ decimal k))
  name_key_sound make c left h =
      let b = bind_some (field name_of left) (λ t. field key_of t.1 >>= (λ k. at_end (make t.0 k.0) k.1)) c h in
      let f = field_sound name_of as_is IsName names left b.0 b.1 in
      let d = bind_some (field key_of b.0.1) (λ k. at_end (make b.0.0 k.0) k.1) c b.2 in
      let g = last_sound key_of (λ n. decimal n) IsKey keys b.0.1 d.0 (make b.0.0 d.0.0) c d.1 d.2 in
      (b.0.0, d.0.0, f.1, g.1, g.2, f.0 ∙ ap (λ l. space ∷ (b.0.0 ++ l)) g.0)

  pub name_key_complete : (make : Text → ℕ → C) (t : Text) (k : ℕ) → IsName t → IsKey k → name_key make (Some (t ++ space ∷ decimal k)) ≡ Some (make t k)
  name_key_complete make t k ht hk =
      rw (field_complete name_of as_is IsName names t (Some (decimal k)) ht, field_last key_of (λ n. decimal n) IsKey keys k hk) refl

  pub name_two_keys_sound : (make : Text → ℕ → ℕ → C) (c : C) (left : Option Text) → name_two_keys make left ≡ Some c →
      (t : Text) × (low : ℕ) × (high : ℕ) × IsName t × IsKey low × IsKey high × (make t low high ≡ c) × (left_text left ≡ space ∷ (t ++ space ∷ (decimal low ++ space ∷ decimal high)))
  name_two_keys_sound make c left h =
      let b = bind_some (field name_of left) (λ t. field key_of t.1 >>= (λ low. field key_of low.1 >>= (λ high. at_end (make t.0 low.0 high.0) high.1))) c h in
      let f = field_sound name_of as_is IsName names left b.0 b.1 in
      let d = bind_some (field key_of b.0.1) (λ low. field key_of low.1 >>= (λ high. at_end (make b.0.0 low.0 high.0) high.1)) c b.2 in
      let g = field_sound key_of (λ n. decimal n) IsKey keys b.0.1 d.0 d.1 in
      let e = bind_some (field key_of d.0.1) (λ high. at_end (make b.0.0 d.0.0 high.0) high.1) c d.2 in
      let i = last_sound key_of (λ n. decimal n) IsKey keys d.0.1 e.0 (make b.0.0 d.0.0 e.0.0) c e.1 e.2 in
      (b.0.0, d.0.0, e.0.0, f.1, g.1, i.1, i.2, f.0 ∙ ap (λ l. space ∷ (b.0.0 ++ l)) (g.0 ∙ ap (λ l. space ∷ (decimal d.0.0 ++ l)) i.0))

  pub name_two_keys_complete : (make : Text → ℕ → ℕ → C) (t : Text) (low high : ℕ) → IsName t → IsKey low → IsKey high →
      name_two_keys make (Some (t ++ space ∷ (decimal low ++ space ∷ decimal high))) ≡ Some (make t low high)
  name_two_keys_complete make t low high ht hl hh =
      rw (
        field_complete name_of as_is IsName names t (Some (decimal low ++ space ∷ decimal high)) ht,
        field_complete key_of (λ n. decimal n) IsKey keys low (Some (decimal high)) hl,
        field_last key_of (λ n. decimal n) IsKey keys high hh,
      ) refl

  pub name_key_value_sound : (make : Text → ℕ → Text → C) (c : C) (left : Option Text) → name_key_value make left ≡ Some c →
      (t : Text) × (k : ℕ) × (v : Text) × IsName t × IsKey k × IsValue v × (make t k v ≡ c) × (left_text left ≡ space ∷ (t ++ space ∷ (decimal k ++ space ∷ v)))
  name_key_value_sound make c left h =
      let b = bind_some (field name_of left) (λ t. field key_of t.1 >>= (λ k. option_map (make t.0 k.0) (remainder value_of k.1))) c h in
      let f = field_sound name_of as_is IsName names left b.0 b.1 in
      let d = bind_some (field key_of b.0.1) (λ k. option_map (make b.0.0 k.0) (remainder value_of k.1)) c b.2 in
      let g = field_sound key_of (λ n. decimal n) IsKey keys b.0.1 d.0 d.1 in
      let e = map_some (make b.0.0 d.0.0) (remainder value_of d.0.1) c d.2 in
      let i = remainder_sound value_of as_is IsValue values d.0.1 e.0 e.1 in
      (b.0.0, d.0.0, e.0, f.1, g.1, i.1, e.2, f.0 ∙ ap (λ l. space ∷ (b.0.0 ++ l)) (g.0 ∙ ap (λ l. space ∷ (decimal d.0.0 ++ l)) i.0))

  pub name_key_value_complete : (make : Text → ℕ → Text → C) (t : Text) (k : ℕ) (v : Text) → IsName t → IsKey k → IsValue v →
      name_key_value make (Some (t ++ space ∷ (decimal k ++ space ∷ v))) ≡ Some (make t k v)
  name_key_value_complete make t k v ht hk hv =
      rw (
        field_complete name_of as_is IsName names t (Some (decimal k ++ space ∷ v)) ht,
        field_complete key_of (λ n. decimal n) IsKey keys k (Some v) hk,
        hv,
      ) refl

  pub one_count_sound : (most : ℕ) → suc most ≤ 2 ^ 64 → (make : ℕ → C) (c : C) (left : Option Text) → one_count most make left ≡ Some c →
      (n : ℕ) × IsCount most n × (make n ≡ c) × (left_text left ≡ space ∷ decimal n)
  one_count_sound most small make c left h =
      let b = bind_some (field (count_up_to most) left) (λ n. at_end (make n.0) n.1) c h in
      let f = last_sound (count_up_to most) (λ n. decimal n) (IsCount most) (counts most small) left b.0 (make b.0.0) c b.1 b.2 in
      (b.0.0, f.1, f.2, f.0)

  pub one_count_complete : (most : ℕ) → suc most ≤ 2 ^ 64 → (make : ℕ → C) (n : ℕ) → IsCount most n → one_count most make (Some (decimal n)) ≡ Some (make n)
  one_count_complete most small make n h = rw (field_last (count_up_to most) (λ n. decimal n) (IsCount most) (counts most small) n h) refl
