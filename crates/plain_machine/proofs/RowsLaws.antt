-- Changes of rows at a place among them.
use Rattle.std.proofs.Common.{◌≡◌, ℕ, suc, ◌+◌, ◌<◌, ◌≤◌, Bool, true, false, cond, List, [], ◌∷◌, ◌++◌, length, get_or, drop, set, refl, ap, ◌∙◌, arith, Option, Some, None, inl, inr}
use Rattle.std.proofs.lemmas.Bool.{cases_Bool, ltb-true, ltb-false, eq-eqb, ne_eqb}
use Rattle.std.proofs.lemmas.List.{drop_more}
use Rattle.std.specs.Prelude.{nat_lt, nat_le, not, is_some, ◌==◌, ◌&&◌}
use Rattle.std.specs.List.{insert, remove, position, position_or_len}
use Rattle.rows.specs.Rows.{Row, row_get, row_put, row_delete}
use Rattle.script.specs.Tables.{has_row, row_range}
use Rattle.plain_machine.specs.Plain.{is_key, not_below}

-- ---- where something stands first

module _ {X : Type 0} (p : X → Bool) where
  -- how many elements stand before the first one that passes
  abbrev pub place : List X → ℕ
  place [] = 0
  place (x ∷ xs) = cond (p x) 0 (suc (place xs))

  place-position : (xs : List X) → place xs ≡ position_or_len p xs
  place-position [] = refl
  place-position (x ∷ xs) =
      let behind : suc (place xs) ≡ 1 + position_or_len p xs = omega (arith, place-position xs) in
      elim (p x) as (λ b. cond b 0 (suc (place xs)) ≡ cond (not b) (1 + position_or_len p xs) 0) [ true ↦ refl | false ↦ behind ]

  pub at_some : (xs : List X) (i : ℕ) → position p xs ≡ Some i → (place xs < length xs) × (place xs ≡ i)
  at_some xs i h =
      let same = place-position xs in
      elim (cases_Bool (nat_lt (position_or_len p xs) (length xs))) [
        | inl e ↦ let s : Some (position_or_len p xs) ≡ Some i = rw e at h in let t : position_or_len p xs ≡ i = cc in let l : position_or_len p xs < length xs = ltb-true (position_or_len p xs) (length xs) e in (omega (arith, same), same ∙ t)
        | inr e ↦ absurd (let f : None ≡ Some i = rw e at h in cc)
      ]

  pub at_none : (xs : List X) → position p xs ≡ None → length xs ≤ place xs
  at_none xs h =
      let same = place-position xs in
      elim (cases_Bool (nat_lt (position_or_len p xs) (length xs))) [
        | inl e ↦ absurd (let f : Some (position_or_len p xs) ≡ None = rw e at h in cc)
        | inr e ↦ let l : length xs ≤ position_or_len p xs = ltb-false (position_or_len p xs) (length xs) e in omega (arith, same)
      ]

-- ---- a put

put_over : (key : ℕ) (value : List ℕ) (rows : List Row) (d : Row) → place (not_below key) rows < length rows → (get_or rows (place (not_below key) rows) d).0 ≡ key →
    row_put key value rows ≡ set rows (place (not_below key) rows) (key, value)
put_over key value [] d i s = absurd (omega arith)
put_over key value (row ∷ rows) d i s =
    elim (cases_Bool (nat_lt row.0 key)) [
      | inl e ↦ let j : suc (place (not_below key) rows) < suc (length rows) = rw e at i in rw e (ap (λ rs. row ∷ rs) (put_over key value rows d (omega arith) (rw e at s)))
      | inr e ↦ rw (e, eq-eqb row.0 key (rw e at s)) refl
    ]

put_between : (key : ℕ) (value : List ℕ) (rows : List Row) (d : Row) → place (not_below key) rows < length rows → ((get_or rows (place (not_below key) rows) d).0 ≡ key → ⊥) →
    row_put key value rows ≡ insert rows (place (not_below key) rows) (key, value)
put_between key value [] d i s = absurd (omega arith)
put_between key value (row ∷ rows) d i s =
    elim (cases_Bool (nat_lt row.0 key)) [
      | inl e ↦ let j : suc (place (not_below key) rows) < suc (length rows) = rw e at i in rw e (ap (λ rs. row ∷ rs) (put_between key value rows d (omega arith) (rw e at s)))
      | inr e ↦ rw (e, ne_eqb row.0 key (rw e at s)) refl
    ]

put_last : (key : ℕ) (value : List ℕ) (rows : List Row) → length rows ≤ place (not_below key) rows → row_put key value rows ≡ rows ++ (key, value) ∷ []
put_last key value [] i = refl
put_last key value (row ∷ rows) i =
    elim (cases_Bool (nat_lt row.0 key)) [
      | inl e ↦ let j : suc (length rows) ≤ suc (place (not_below key) rows) = rw e at i in rw e (ap (λ rs. row ∷ rs) (put_last key value rows (omega arith)))
      | inr e ↦ absurd (let j : suc (length rows) ≤ 0 = rw e at i in omega arith)
    ]

module _ (key : ℕ) (rows : List Row) where
  pub put_at_same : (value : List ℕ) (i : ℕ) (d : Row) → position (not_below key) rows ≡ Some i → (get_or rows i d).0 ≡ key → row_put key value rows ≡ set rows i (key, value)
  put_at_same value i d h s =
      let p = at_some (not_below key) rows i h in
      put_over key value rows d p.0 (rw p.1 s) ∙ ap (λ k. set rows k (key, value)) p.1

  pub put_at_other : (value : List ℕ) (i : ℕ) (d : Row) → position (not_below key) rows ≡ Some i → ((get_or rows i d).0 ≡ key → ⊥) → row_put key value rows ≡ insert rows i (key, value)
  put_at_other value i d h s =
      let p = at_some (not_below key) rows i h in
      put_between key value rows d p.0 (rw p.1 s) ∙ ap (λ k. insert rows k (key, value)) p.1

  pub put_at_none : (value : List ℕ) → position (not_below key) rows ≡ None → row_put key value rows ≡ rows ++ (key, value) ∷ []
  put_at_none value h = put_last key value rows (at_none (not_below key) rows h)

-- ---- a look-up and a delete

get_place : (key : ℕ) (rows : List Row) (d : Row) → place (is_key key) rows < length rows → row_get key rows ≡ Some (get_or rows (place (is_key key) rows) d).1
get_place key [] d i = absurd (omega arith)
get_place key (row ∷ rows) d i =
    elim (cases_Bool (row.0 == key)) [
      | inl e ↦ rw e refl
      | inr e ↦ let j : suc (place (is_key key) rows) < suc (length rows) = rw e at i in rw e (get_place key rows d (omega arith))
    ]

get_past : (key : ℕ) (rows : List Row) → length rows ≤ place (is_key key) rows → row_get key rows ≡ None
get_past key [] i = refl
get_past key (row ∷ rows) i =
    elim (cases_Bool (row.0 == key)) [
      | inl e ↦ absurd (let j : suc (length rows) ≤ 0 = rw e at i in omega arith)
      | inr e ↦ let j : suc (length rows) ≤ suc (place (is_key key) rows) = rw e at i in rw e (get_past key rows (omega arith))
    ]

delete_place : (key : ℕ) (rows : List Row) → place (is_key key) rows < length rows → row_delete key rows ≡ remove rows (place (is_key key) rows)
delete_place key [] i = absurd (omega arith)
delete_place key (row ∷ rows) i =
    elim (cases_Bool (row.0 == key)) [
      | inl e ↦ rw e refl
      | inr e ↦ let j : suc (place (is_key key) rows) < suc (length rows) = rw e at i in rw e (ap (λ rs. row ∷ rs) (delete_place key rows (omega arith)))
    ]

delete_past : (key : ℕ) (rows : List Row) → length rows ≤ place (is_key key) rows → row_delete key rows ≡ rows
delete_past key [] i = refl
delete_past key (row ∷ rows) i =
    elim (cases_Bool (row.0 == key)) [
      | inl e ↦ absurd (let j : suc (length rows) ≤ 0 = rw e at i in omega arith)
      | inr e ↦ let j : suc (length rows) ≤ suc (place (is_key key) rows) = rw e at i in rw e (ap (λ rs. row ∷ rs) (delete_past key rows (omega arith)))
    ]

module _ (key : ℕ) (rows : List Row) where
  pub get_at : (i : ℕ) (d : Row) → position (is_key key) rows ≡ Some i → row_get key rows ≡ Some (get_or rows i d).1
  get_at i d h = let p = at_some (is_key key) rows i h in get_place key rows d p.0 ∙ ap (λ k. Some (get_or rows k d).1) p.1

  pub get_none : position (is_key key) rows ≡ None → row_get key rows ≡ None
  get_none h = get_past key rows (at_none (is_key key) rows h)

  pub delete_at : (i : ℕ) → position (is_key key) rows ≡ Some i → row_delete key rows ≡ remove rows i
  delete_at i h = let p = at_some (is_key key) rows i h in delete_place key rows p.0 ∙ ap (λ k. remove rows k) p.1

  pub delete_none : position (is_key key) rows ≡ None → row_delete key rows ≡ rows
  delete_none h = delete_past key rows (at_none (is_key key) rows h)

  pub has_by : (at : Option ℕ) → position (is_key key) rows ≡ at → is_some at ≡ has_row key rows
  has_by None h = rw (get_none h) refl
  has_by (Some i) h = rw (get_at i (0, []) h) refl

-- ---- a scan

pub scan_next : (low high : ℕ) (rows : List Row) (i : ℕ) (d : Row) → i < length rows → row_range low high (drop i rows) ≡ cond (nat_le low (get_or rows i d).0 && nat_le (get_or rows i d).0 high) (get_or rows i d ∷ row_range low high (drop (i + 1) rows)) (row_range low high (drop (i + 1) rows))
scan_next low high rows i d l = ap (row_range low high) (drop_more rows i d l)
