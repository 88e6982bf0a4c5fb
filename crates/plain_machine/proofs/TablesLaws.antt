-- Changes of tables at a place among them.
use Rattle.std.proofs.Common.{◌≡◌, ℕ, suc, ◌<◌, ◌≤◌, List, [], ◌∷◌, length, get_or, set, refl, ap, sym, ◌∙◌, arith, Option, Some, None, Result, Ok, Err, OnOk, inl, inr}
use Rattle.std.proofs.lemmas.Bool.{cases_Bool}
use Rattle.std.specs.Prelude.{is_some, bytes_eq}
use Rattle.std.specs.List.{position}
use Rattle.rows.specs.Rows.{Row}
use Rattle.rows.specs.Tables.{Table}
use Rattle.rows.specs.Tables.{rows_of, is_known, with_rows}
use Rattle.script.specs.Tables.{rows_or_none}
use Rattle.plain_machine.specs.Plain.{is_table}
use Rattle.plain_machine.proofs.RowsLaws.{place, at_some, at_none}

module _ (name : List ℕ) where
  rows_place : (tables : List Table) (d : Table) → place (is_table name) tables < length tables → rows_of name tables ≡ Some (get_or tables (place (is_table name) tables) d).1
  rows_place [] d i = absurd (omega arith)
  rows_place (table ∷ tables) d i =
      elim (cases_Bool (bytes_eq table.0 name)) [
        | inl e ↦ rw e refl
        | inr e ↦ let j : suc (place (is_table name) tables) < suc (length tables) = rw e at i in rw e (rows_place tables d (omega arith))
      ]

  rows_past : (tables : List Table) → length tables ≤ place (is_table name) tables → rows_of name tables ≡ None
  rows_past [] i = refl
  rows_past (table ∷ tables) i =
      elim (cases_Bool (bytes_eq table.0 name)) [
        | inl e ↦ absurd (let j : suc (length tables) ≤ 0 = rw e at i in omega arith)
        | inr e ↦ let j : suc (length tables) ≤ suc (place (is_table name) tables) = rw e at i in rw e (rows_past tables (omega arith))
      ]

  with_rows_place : (rows : List Row) (tables : List Table) (d : Table) → place (is_table name) tables < length tables →
      with_rows name rows tables ≡ set tables (place (is_table name) tables) ((get_or tables (place (is_table name) tables) d).0, rows)
  with_rows_place rows [] d i = absurd (omega arith)
  with_rows_place rows (table ∷ tables) d i =
      elim (cases_Bool (bytes_eq table.0 name)) [
        | inl e ↦ rw e refl
        | inr e ↦ let j : suc (place (is_table name) tables) < suc (length tables) = rw e at i in rw e (ap (λ ts. table ∷ ts) (with_rows_place rows tables d (omega arith)))
      ]

  with_rows_past : (rows : List Row) (tables : List Table) → length tables ≤ place (is_table name) tables → with_rows name rows tables ≡ tables
  with_rows_past rows [] i = refl
  with_rows_past rows (table ∷ tables) i =
      elim (cases_Bool (bytes_eq table.0 name)) [
        | inl e ↦ absurd (let j : suc (length tables) ≤ 0 = rw e at i in omega arith)
        | inr e ↦ let j : suc (length tables) ≤ suc (place (is_table name) tables) = rw e at i in rw e (ap (λ ts. table ∷ ts) (with_rows_past rows tables (omega arith)))
      ]

  known_rows : (tables : List Table) → is_known name tables ≡ is_some (rows_of name tables)
  known_rows [] = refl
  known_rows (table ∷ tables) =
      elim (cases_Bool (bytes_eq table.0 name)) [
        | inl e ↦ rw e refl
        | inr e ↦ rw e (known_rows tables)
      ]

  module _ (tables : List Table) where
    pub rows_at : (i : ℕ) (d : Table) → position (is_table name) tables ≡ Some i → rows_or_none name tables ≡ (get_or tables i d).1
    rows_at i d h = let p = at_some (is_table name) tables i h in rw (rows_place tables d p.0) (ap (λ k. (get_or tables k d).1) p.1)

    pub found_at : (i : ℕ) (d : Table) → position (is_table name) tables ≡ Some i → rows_of name tables ≡ Some (get_or tables i d).1
    found_at i d h = let p = at_some (is_table name) tables i h in rows_place tables d p.0 ∙ ap (λ k. Some (get_or tables k d).1) p.1

    pub found_none : position (is_table name) tables ≡ None → rows_of name tables ≡ None
    found_none h = rows_past tables (at_none (is_table name) tables h)

    pub rows_none : position (is_table name) tables ≡ None → rows_or_none name tables ≡ []
    rows_none h = rw (rows_past tables (at_none (is_table name) tables h)) refl

    pub known_by : (at : Option ℕ) → position (is_table name) tables ≡ at → is_some at ≡ is_known name tables
    known_by None h = sym (known_rows tables ∙ ap is_some (rows_past tables (at_none (is_table name) tables h)))
    known_by (Some i) h = sym (known_rows tables ∙ ap is_some (rows_place tables ([], []) (at_some (is_table name) tables i h).0))

    with_rows_at : (rows : List Row) (i : ℕ) (d : Table) → position (is_table name) tables ≡ Some i → with_rows name rows tables ≡ set tables i ((get_or tables i d).0, rows)
    with_rows_at rows i d h =
        let p = at_some (is_table name) tables i h in
        with_rows_place rows tables d p.0 ∙ ap (λ k. set tables k ((get_or tables k d).0, rows)) p.1

    -- a table that is not there does not change
    pub changed_none : (rows : List Row) → position (is_table name) tables ≡ None → tables ≡ with_rows name rows tables
    changed_none rows h = sym (with_rows_past rows tables (at_none (is_table name) tables h))

    -- the rows of the table of the name are changed
    pub changed_at : (change : List Row → List Row) (i : ℕ) (t : Table) → position (is_table name) tables ≡ Some i → t ≡ get_or tables i t →
        set tables i (t.0, change t.1) ≡ with_rows name (change (rows_or_none name tables)) tables
    changed_at change i t h e =
        let rows : t.1 ≡ rows_or_none name tables = ap (λ (x : Table). x.1) e ∙ sym (rows_at i t h) in
        ap (λ rs. set tables i (t.0, change rs)) rows
        ∙ ap (λ (x : Table). set tables i (x.0, change (rows_or_none name tables))) e
        ∙ sym (with_rows_at (change (rows_or_none name tables)) i t h)

-- a fact about an answer, from one about it
pub on_ok : {T E P Q : Type 0} (r : Result T E) → (P → Q) → OnOk r P → OnOk r Q
on_ok (Ok x) f h = f h
on_ok (Err e) f h = tt
