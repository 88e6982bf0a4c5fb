-- Rows and children by the place of a key.
use Rattle.std.proofs.Common.{◌≡◌, ℕ, zero, suc, ◌+◌, ◌*◌, ◌<◌, ◌≤◌, inl, inr, true, false, if◌then◌else◌, List, [], ◌∷◌, length, get_or, refl, sym, ap, arith, nat_lt, nat_eq, slice_set}
use Rattle.std.specs.List.{insert, remove}
use Rattle.std.proofs.lemmas.Bool.{lt-ltb, le-ltb, eqb-true, eq-eqb, ne_eqb, cases_lt, cases_eq}
use Rattle.rows.specs.Rows.{Row, keys, row_put, row_delete, Ascends}
use Rattle.page_format.specs.Sound.{row_bytes}
use Rattle.page_format.proofs.RowLemmas.{row_bytes-cons}
use Rattle.node_edit.specs.Edit.{place_of, has_key, child_put}

pub place_within : {X : Type 0} (key : ℕ) (entries : List (ℕ × X)) → place_of key entries ≤ length entries
place_within key [] = omega arith
place_within key (entry ∷ rest) =
    let ih = place_within key rest in
    elim (cases_lt entry.0 key) [
      | inl lt ↦ rw (lt-ltb entry.0 key lt) (omega (arith, ih))
      | inr ge ↦ rw (le-ltb entry.0 key ge) (omega arith)
    ]

-- so many entries are below the key, and then comes one that is not
pub place_next : {X : Type 0} (key i : ℕ) (entries : List (ℕ × X)) (d : ℕ × X) → i < length entries → i ≤ place_of key entries → (get_or entries i d).0 < key → i + 1 ≤ place_of key entries
place_next key i [] d within at below = absurd (omega (arith, within))
place_next key zero (entry ∷ rest) d within at below = rw (lt-ltb entry.0 key below) (omega arith)
place_next key (suc i) (entry ∷ rest) d within at below =
    elim (cases_lt entry.0 key) [
      | inl lt ↦
          let least : suc i ≤ suc (place_of key rest) = rw (lt-ltb entry.0 key lt) at at in
          let ih = place_next key i rest d (omega (arith, within)) (omega (arith, least)) below in
          rw (lt-ltb entry.0 key lt) (omega (arith, ih))
      | inr ge ↦ let none : suc i ≤ 0 = rw (le-ltb entry.0 key ge) at at in absurd (omega (arith, none))
    ]

pub place_here : {X : Type 0} (key i : ℕ) (entries : List (ℕ × X)) (d : ℕ × X) → i < length entries → i ≤ place_of key entries → key ≤ (get_or entries i d).0 → i ≡ place_of key entries
place_here key i [] d within at above = absurd (omega (arith, within))
place_here key zero (entry ∷ rest) d within at above = rw (le-ltb entry.0 key above) refl
place_here key (suc i) (entry ∷ rest) d within at above =
    elim (cases_lt entry.0 key) [
      | inl lt ↦
          let least : suc i ≤ suc (place_of key rest) = rw (lt-ltb entry.0 key lt) at at in
          let ih = place_here key i rest d (omega (arith, within)) (omega (arith, least)) above in
          rw (lt-ltb entry.0 key lt) (ap suc ih)
      | inr ge ↦ let none : suc i ≤ 0 = rw (le-ltb entry.0 key ge) at at in absurd (omega (arith, none))
    ]

pub has_key-is : {X : Type 0} (key : ℕ) (entries : List (ℕ × X)) (d : ℕ × X) → place_of key entries < length entries → has_key key entries ≡ nat_eq (get_or entries (place_of key entries) d).0 key
has_key-is key [] d within = absurd (omega (arith, within))
has_key-is key (entry ∷ rest) d within =
    elim (cases_lt entry.0 key) [
      | inl lt ↦
          let less : suc (place_of key rest) < suc (length rest) = rw (lt-ltb entry.0 key lt) at within in
          rw (lt-ltb entry.0 key lt) (has_key-is key rest d (omega (arith, less)))
      | inr ge ↦ rw (le-ltb entry.0 key ge) refl
    ]

-- a way to put an entry at its key, in place of one that has the key
pub record Puts {X : Type 0} (key : ℕ) (x : X) (put : List (ℕ × X) → List (ℕ × X)) : Type 0 where
  pub none : put [] ≡ (key, x) ∷ []
  pub some : (entry : ℕ × X) (rest : List (ℕ × X)) → put (entry ∷ rest) ≡ (if nat_lt entry.0 key then entry ∷ put rest else if nat_eq entry.0 key then (key, x) ∷ rest else (key, x) ∷ entry ∷ rest)

pub row_puts : (key : ℕ) (value : List ℕ) → Puts key value (row_put key value)
row_puts key value = record { none = refl; some = λ entry rest. refl }

pub child_puts : (key page : ℕ) → Puts key page (child_put key page)
child_puts key page = record { none = refl; some = λ entry rest. refl }

-- a new key
pub put_new : {X : Type 0} {key : ℕ} {x : X} {put : List (ℕ × X) → List (ℕ × X)} → Puts key x put → (entries : List (ℕ × X)) (at : ℕ) → has_key key entries ≡ false → at ≡ place_of key entries → put entries ≡ insert entries at (key, x)
put_new puts [] at none is = rw is puts.none
put_new {X} {key} puts (entry ∷ rest) at none is =
    rw (is, puts.some entry rest) (elim (cases_lt entry.0 key) [
      | inl lt ↦
          let left : has_key key rest ≡ false = rw (lt-ltb entry.0 key lt) at none in
          rw (lt-ltb entry.0 key lt) (ap (λ r. entry ∷ r) (put_new puts rest (place_of key rest) left refl))
      | inr ge ↦ let other : nat_eq entry.0 key ≡ false = rw (le-ltb entry.0 key ge) at none in rw (le-ltb entry.0 key ge, other) refl
    ])

-- a key that is there
pub put_again : {X : Type 0} {key : ℕ} {x : X} {put : List (ℕ × X) → List (ℕ × X)} → Puts key x put → (entries mid : List (ℕ × X)) (at : ℕ) → has_key key entries ≡ true → at ≡ place_of key entries → mid ≡ remove entries at → put entries ≡ insert mid at (key, x)
put_again puts [] mid at there is cut = absurd (cc)
put_again {X} {key} puts (entry ∷ rest) mid at there is cut =
    rw (cut, is, puts.some entry rest) (elim (cases_lt entry.0 key) [
      | inl lt ↦
          let left : has_key key rest ≡ true = rw (lt-ltb entry.0 key lt) at there in
          rw (lt-ltb entry.0 key lt) (ap (λ r. entry ∷ r) (put_again puts rest (remove rest (place_of key rest)) (place_of key rest) left refl refl))
      | inr ge ↦ let same : nat_eq entry.0 key ≡ true = rw (le-ltb entry.0 key ge) at there in rw (le-ltb entry.0 key ge, same) refl
    ])

pub put_same : (key : ℕ) (value : List ℕ) (rows : List Row) (d : Row) → has_key key rows ≡ true → row_put key value rows ≡ slice_set rows (place_of key rows) ((get_or rows (place_of key rows) d).0, value)
put_same key value [] d there = absurd (cc)
put_same key value (row ∷ rows) d there =
    elim (cases_lt row.0 key) [
      | inl lt ↦ let rest : has_key key rows ≡ true = rw (lt-ltb row.0 key lt) at there in rw (lt-ltb row.0 key lt) (ap (λ r. row ∷ r) (put_same key value rows d rest))
      | inr ge ↦
          let same : nat_eq row.0 key ≡ true = rw (le-ltb row.0 key ge) at there in
          rw (le-ltb row.0 key ge, same) (ap (λ (k : ℕ). (k, value) ∷ rows) (sym (eqb-true row.0 key same)))
    ]

pub delete_there : (key low high : ℕ) (rows : List Row) → Ascends low high (keys rows) → has_key key rows ≡ true → row_delete key rows ≡ remove rows (place_of key rows)
delete_there key low high [] up there = absurd (cc)
delete_there key low high (row ∷ rows) up there =
    elim (cases_lt row.0 key) [
      | inl lt ↦
          let rest : has_key key rows ≡ true = rw (lt-ltb row.0 key lt) at there in
          rw (lt-ltb row.0 key lt, ne_eqb row.0 key (λ e. omega (arith, e, lt))) (ap (λ r. row ∷ r) (delete_there key (row.0 + 1) high rows up.2 rest))
      | inr ge ↦ let same : nat_eq row.0 key ≡ true = rw (le-ltb row.0 key ge) at there in rw (le-ltb row.0 key ge, same) refl
    ]

above_all : (key low high : ℕ) (rows : List Row) → key < low → Ascends low high (keys rows) → row_delete key rows ≡ rows
above_all key low high [] lt up = refl
above_all key low high (row ∷ rows) lt up = rw (ne_eqb row.0 key (λ e. omega (arith, e, lt, up.0))) (ap (λ r. row ∷ r) (above_all key (row.0 + 1) high rows (omega (arith, lt, up.0)) up.2))

pub delete_none : (key low high : ℕ) (rows : List Row) → Ascends low high (keys rows) → has_key key rows ≡ false → row_delete key rows ≡ rows
delete_none key low high [] up none = refl
delete_none key low high (row ∷ rows) up none =
    elim (cases_lt row.0 key) [
      | inl lt ↦
          let rest : has_key key rows ≡ false = rw (lt-ltb row.0 key lt) at none in
          rw (ne_eqb row.0 key (λ e. omega (arith, e, lt))) (ap (λ r. row ∷ r) (delete_none key (row.0 + 1) high rows up.2 rest))
      | inr ge ↦
          let other : nat_eq row.0 key ≡ false = rw (le-ltb row.0 key ge) at none in
          rw other (ap (λ r. row ∷ r) (above_all key (row.0 + 1) high rows (elim (cases_eq row.0 key) [ inl e ↦ let wrong = eq-eqb row.0 key e in absurd (cc) | inr ne ↦ omega (arith, ge, ne) ]) up.2))
    ]

pub rows_few : (rows : List Row) → 12 * length rows ≤ row_bytes rows
rows_few [] = omega arith
rows_few (row ∷ rows) = let ih = rows_few rows in omega (arith, row_bytes-cons row rows, ih)
