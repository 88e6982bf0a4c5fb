-- Ordered lists of rows, and what an operation does to the part of a list that its key belongs to.
use Rattle.std.proofs.Common.{◌≡◌, ℕ, ◌+◌, ◌<◌, ◌≤◌, inl, inr, List, [], ◌∷◌, ◌++◌, Option, Some, None, refl, ap, subst, ◌∙◌, arith}
use Rattle.std.proofs.lemmas.Bool.{lt-ltb, le-ltb, eq-eqb, ne_eqb, cases_lt, cases_eq}
use Rattle.rows.specs.Rows.{Row, keys, row_get, row_put, row_delete, row_next, Ascends, Each, AllBelow, AllAbove}

pub Ascends-lower : (low next high : ℕ) (ks : List ℕ) → low ≤ next → Ascends next high ks → Ascends low high ks
Ascends-lower low next high [] h up = tt
Ascends-lower low next high (k ∷ ks) h up = (omega (arith, h, up.0), up.1, up.2)

pub Ascends-append : (low mid next high : ℕ) (xs ys : List ℕ) → low ≤ next → mid < next → mid ≤ high → Ascends low mid xs → Ascends next high ys → Ascends low high (xs ++ ys)
Ascends-append low mid next high [] ys h before within first second = Ascends-lower low next high ys h second
Ascends-append low mid next high (x ∷ xs) ys h before within first second =
    (first.0, omega (arith, first.1), Ascends-append (x + 1) mid next high xs ys (omega (arith, first.1)) before within first.2 second)

pub below_bound : (low high key : ℕ) (rows : List Row) → high < key → Ascends low high (keys rows) → AllBelow key rows
below_bound low high key [] h up = tt
below_bound low high key (row ∷ rows) h up = (omega (arith, up.1), below_bound (row.0 + 1) high key rows h up.2)

pub above_bound : (low high key : ℕ) (rows : List Row) → key < low → Ascends low high (keys rows) → AllAbove key rows
above_bound low high key [] h up = tt
above_bound low high key (row ∷ rows) h up = (omega (arith, up.0), above_bound (row.0 + 1) high key rows (omega (arith, up.0)) up.2)

pub Each-append : {X : Type 0} (P : X → Type 0) (xs ys : List X) → Each P xs → Each P ys → Each P (xs ++ ys)
Each-append P [] ys first second = second
Each-append P (x ∷ xs) ys first second = (first.0, Each-append P xs ys first.1 second)

-- rows below the key, or above it, play no part in what is found there
pub row_get-behind : (key : ℕ) (before rows : List Row) → AllBelow key before → row_get key (before ++ rows) ≡ row_get key rows
row_get-behind key [] rows low = refl
row_get-behind key (row ∷ before) rows low = rw (ne_eqb row.0 key (λ e. omega (arith, low.0, e))) (row_get-behind key before rows low.1)

pub row_get-none_above : (key : ℕ) (rows : List Row) → AllAbove key rows → row_get key rows ≡ None
row_get-none_above key [] high = refl
row_get-none_above key (row ∷ rows) high = rw (ne_eqb row.0 key (λ e. omega (arith, high.0, e))) (row_get-none_above key rows high.1)

pub row_get-front : (key : ℕ) (rows after : List Row) → AllAbove key after → row_get key (rows ++ after) ≡ row_get key rows
row_get-front key [] after high = row_get-none_above key after high
row_get-front key (row ∷ rows) after high =
    elim (cases_eq row.0 key) [
      | inl e ↦ rw (eq-eqb row.0 key e) refl
      | inr ne ↦ rw (ne_eqb row.0 key ne) (row_get-front key rows after high)
    ]

pub row_get-amid : (key : ℕ) (before rows after : List Row) → AllBelow key before → AllAbove key after → row_get key (before ++ (rows ++ after)) ≡ row_get key rows
row_get-amid key before rows after low high = row_get-behind key before (rows ++ after) low ∙ row_get-front key rows after high

-- a change at a key changes only the part that the key belongs to
pub row_put-behind : (key : ℕ) (value : List ℕ) (before rows : List Row) → AllBelow key before → row_put key value (before ++ rows) ≡ before ++ row_put key value rows
row_put-behind key value [] rows low = refl
row_put-behind key value (row ∷ before) rows low = rw (lt-ltb row.0 key low.0) (ap (λ r. row ∷ r) (row_put-behind key value before rows low.1))

row_put-first : (key : ℕ) (value : List ℕ) (after : List Row) → AllAbove key after → row_put key value after ≡ (key, value) ∷ after
row_put-first key value [] high = refl
row_put-first key value (row ∷ after) high = rw (le-ltb row.0 key (omega (arith, high.0)), ne_eqb row.0 key (λ e. omega (arith, high.0, e))) refl

pub row_put-front : (key : ℕ) (value : List ℕ) (rows after : List Row) → AllAbove key after → row_put key value (rows ++ after) ≡ row_put key value rows ++ after
row_put-front key value [] after high = row_put-first key value after high
row_put-front key value (row ∷ rows) after high =
    elim (cases_lt row.0 key) [
      | inl lt ↦ rw (lt-ltb row.0 key lt) (ap (λ r. row ∷ r) (row_put-front key value rows after high))
      | inr ge ↦
          elim (cases_eq row.0 key) [
            | inl e ↦ rw (le-ltb row.0 key ge, eq-eqb row.0 key e) refl
            | inr ne ↦ rw (le-ltb row.0 key ge, ne_eqb row.0 key ne) refl
          ]
    ]

pub row_put-amid : (key : ℕ) (value : List ℕ) (before rows after : List Row) → AllBelow key before → AllAbove key after
    → row_put key value (before ++ (rows ++ after)) ≡ before ++ (row_put key value rows ++ after)
row_put-amid key value before rows after low high =
    row_put-behind key value before (rows ++ after) low ∙ ap (λ r. before ++ r) (row_put-front key value rows after high)

pub row_delete-behind : (key : ℕ) (before rows : List Row) → AllBelow key before → row_delete key (before ++ rows) ≡ before ++ row_delete key rows
row_delete-behind key [] rows low = refl
row_delete-behind key (row ∷ before) rows low = rw (ne_eqb row.0 key (λ e. omega (arith, low.0, e))) (ap (λ r. row ∷ r) (row_delete-behind key before rows low.1))

row_delete-none : (key : ℕ) (after : List Row) → AllAbove key after → row_delete key after ≡ after
row_delete-none key [] high = refl
row_delete-none key (row ∷ after) high = rw (ne_eqb row.0 key (λ e. omega (arith, high.0, e))) (ap (λ r. row ∷ r) (row_delete-none key after high.1))

pub row_delete-front : (key : ℕ) (rows after : List Row) → AllAbove key after → row_delete key (rows ++ after) ≡ row_delete key rows ++ after
row_delete-front key [] after high = row_delete-none key after high
row_delete-front key (row ∷ rows) after high =
    elim (cases_eq row.0 key) [
      | inl e ↦ rw (eq-eqb row.0 key e) refl
      | inr ne ↦ rw (ne_eqb row.0 key ne) (ap (λ r. row ∷ r) (row_delete-front key rows after high))
    ]

pub row_delete-amid : (key : ℕ) (before rows after : List Row) → AllBelow key before → AllAbove key after
    → row_delete key (before ++ (rows ++ after)) ≡ before ++ (row_delete key rows ++ after)
row_delete-amid key before rows after low high =
    row_delete-behind key before (rows ++ after) low ∙ ap (λ r. before ++ r) (row_delete-front key rows after high)

-- the next row is in the part that the key belongs to, or else it is the first one after that part
abbrev pub or_else : {X : Type 0} → Option X → Option X → Option X
or_else None other = other
or_else (Some x) other = Some x

pub row_next-behind : (from : ℕ) (before rows : List Row) → AllBelow from before → row_next from (before ++ rows) ≡ row_next from rows
row_next-behind from [] rows low = refl
row_next-behind from (row ∷ before) rows low = rw (lt-ltb row.0 from low.0) (row_next-behind from before rows low.1)

pub row_next-append : (from : ℕ) (rows after : List Row) → row_next from (rows ++ after) ≡ or_else (row_next from rows) (row_next from after)
row_next-append from [] after = refl
row_next-append from (row ∷ rows) after =
    elim (cases_lt row.0 from) [
      | inl lt ↦ rw (lt-ltb row.0 from lt) (row_next-append from rows after)
      | inr ge ↦ rw (le-ltb row.0 from ge) refl
    ]

-- a put keeps the order
pub Ascends-put : (low high key : ℕ) (value : List ℕ) (rows : List Row) → low ≤ key → key ≤ high → Ascends low high (keys rows) → Ascends low high (keys (row_put key value rows))
Ascends-put low high key value [] above within up = (above, within, tt)
Ascends-put low high key value (row ∷ rows) above within up =
    elim (cases_lt row.0 key) [
      | inl lt ↦ rw (lt-ltb row.0 key lt) ((up.0, up.1, Ascends-put (row.0 + 1) high key value rows (omega (arith, lt)) within up.2))
      | inr ge ↦
          elim (cases_eq row.0 key) [
            | inl e ↦ rw (le-ltb row.0 key ge, eq-eqb row.0 key e) ((above, within, subst (λ k. Ascends (k + 1) high (keys rows)) e up.2))
            | inr ne ↦ rw (le-ltb row.0 key ge, ne_eqb row.0 key ne) ((above, within, (omega (arith, ge, ne), up.1, up.2)))
          ]
    ]

pub Ascends-delete : (low high key : ℕ) (rows : List Row) → Ascends low high (keys rows) → Ascends low high (keys (row_delete key rows))
Ascends-delete low high key [] up = tt
Ascends-delete low high key (row ∷ rows) up =
    elim (cases_eq row.0 key) [
      | inl e ↦ rw (eq-eqb row.0 key e) (Ascends-lower low (row.0 + 1) high (keys rows) (omega (arith, up.0)) up.2)
      | inr ne ↦ rw (ne_eqb row.0 key ne) ((up.0, up.1, Ascends-delete (row.0 + 1) high key rows up.2))
    ]
