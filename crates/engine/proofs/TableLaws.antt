-- What the answers of tables mean for the plain machine.
use Rattle.std.proofs.Common.{◌≡◌, ℕ, ◌+◌, ◌<◌, ◌≤◌, Bool, true, false, not, List, [], ◌∷◌, ◌++◌, map, zero-add, length, refl, sym, ap, ◌∙◌, arith, inl, inr, Some, None, Option, is_some, cond}
use Rattle.std.specs.Prelude.{◌&&◌, ◌||◌, nat_le, nat_lt, bytes_eq, unwrap_or}
use Rattle.std.proofs.lemmas.Bool.{cases_Bool, cases_lt, le-leb, lt-leb, lt-ltb, le-ltb}
use Rattle.rows.specs.Rows.{Row, row_get, row_put, row_delete}
use Rattle.rows.specs.declared.limits.Limits.{Limits}
use Rattle.rows.specs.Tables.{Table}
use Rattle.rows.specs.Tables.{rows_of, is_known, with_rows}
use Rattle.table_store.specs.Getting.{got_of, found_value}
use Rattle.table_store.specs.Putting.{stored_of}
use Rattle.table_store.specs.Deleting.{deleted_of}
use Rattle.table_store.specs.declared.answer.Stored.TheVariants as stored
use Rattle.table_store.specs.declared.answer.Deleted.TheVariants as deleted
use Rattle.table_store.specs.declared.answer.Got.{Got}
use Rattle.script.specs.Tables.{has_row, row_range, with_table}
use Rattle.script.specs.Machine.{Bounds, State, Open, current, writes_so_far, first_true, transaction_wrong, table_wrong, writes_spent, tables_spent, rows_spent, is_full, accepted, written, found, scanned, rows_in, step, judged}
use Rattle.script.specs.declared.command.Command.{Command}
use Rattle.script.specs.declared.command.Command.TheVariants as command
use Rattle.script.specs.declared.command.Reason.{Reason}
use Rattle.script.specs.declared.command.Reason.TheVariants as reason
use Rattle.script.specs.declared.command.Reply.{Reply}
use Rattle.script.specs.declared.command.Reply.TheVariants as reply
use Rattle.engine.specs.Commands.{reply_of, reason_of}

-- a name is known where it has rows
pub known_is : (name : List ℕ) (T : List Table) → is_known name T ≡ is_some (rows_of name T)
known_is name [] = refl
known_is name (t ∷ rest) = elim (cases_Bool (bytes_eq t.0 name)) [
  | inl e ↦ rw e refl
  | inr e ↦ rw e (known_is name rest)
]

pub rows_known : (name : List ℕ) (T : List Table) (rows : List Row) → rows_of name T ≡ Some rows → is_known name T ≡ true
rows_known name T rows is = known_is name T ∙ ap (λ (o : Option (List Row)). is_some o) is

pub none_unknown : (name : List ℕ) (T : List Table) → rows_of name T ≡ None → is_known name T ≡ false
none_unknown name T is = known_is name T ∙ ap (λ (o : Option (List Row)). is_some o) is

-- what each answer says of the rows

pub not_stored : (limits : Limits) (key : ℕ) (o : Option (List Row)) → stored.NoTable ≡ stored_of limits key o → o ≡ None
not_stored limits key None is = refl
not_stored limits key (Some rows) is = elim (cases_Bool (is_some (row_get key rows) || nat_lt (length rows) limits.rows)) [
  | inl e ↦ let bad : stored.NoTable ≡ stored.Done = rw e at is in absurd (cc)
  | inr e ↦ let bad : stored.NoTable ≡ stored.TableFull = rw e at is in absurd (cc)
]

-- a table that has no room for the key, or that takes it
full_by : (most n : ℕ) (has : Bool) → (has || nat_lt n most) ≡ false → (nat_le most n && not has) ≡ true
full_by most n true e = absurd (cc)
full_by most n false e = elim (cases_lt n most) [
  | inl l ↦ let bad : true ≡ false = rw (lt-ltb n most l) at e in absurd (cc)
  | inr g ↦ rw (le-leb most n g) refl
]

room_by : (most n : ℕ) (has : Bool) → (has || nat_lt n most) ≡ true → (nat_le most n && not has) ≡ false
room_by most n true e = elim (cases_Bool (nat_le most n)) [ inl y ↦ rw y refl | inr z ↦ rw z refl ]
room_by most n false e = elim (cases_lt n most) [
  | inl l ↦ rw (lt-leb most n l) refl
  | inr g ↦ let bad : false ≡ true = rw (le-ltb n most g) at e in absurd (cc)
]

pub full_stored : (limits : Limits) (key : ℕ) (o : Option (List Row)) → stored.TableFull ≡ stored_of limits key o → (is_some o ≡ true) × (is_full limits.rows key o ≡ true)
full_stored limits key None is = absurd (cc)
full_stored limits key (Some rows) is = elim (cases_Bool (is_some (row_get key rows) || nat_lt (length rows) limits.rows)) [
  | inl e ↦ let bad : stored.TableFull ≡ stored.Done = rw e at is in absurd (cc)
  | inr e ↦ (refl, full_by limits.rows (length rows) (is_some (row_get key rows)) e)
]

pub done_stored : (limits : Limits) (key : ℕ) (o : Option (List Row)) → stored.Done ≡ stored_of limits key o → (is_some o ≡ true) × (is_full limits.rows key o ≡ false)
done_stored limits key None is = absurd (cc)
done_stored limits key (Some rows) is = elim (cases_Bool (is_some (row_get key rows) || nat_lt (length rows) limits.rows)) [
  | inl e ↦ (refl, room_by limits.rows (length rows) (is_some (row_get key rows)) e)
  | inr e ↦ let bad : stored.Done ≡ stored.TableFull = rw e at is in absurd (cc)
]

pub not_deleted : (key : ℕ) (o : Option (List Row)) → deleted.NoTable ≡ deleted_of key o → o ≡ None
not_deleted key None is = refl
not_deleted key (Some rows) is = elim (cases_Bool (is_some (row_get key rows))) [
  | inl e ↦ let bad : deleted.NoTable ≡ deleted.Done = rw e at is in absurd (cc)
  | inr e ↦ let bad : deleted.NoTable ≡ deleted.Absent = rw e at is in absurd (cc)
]

pub absent_deleted : (key : ℕ) (o : Option (List Row)) → deleted.Absent ≡ deleted_of key o → (is_some o ≡ true) × (has_row key (unwrap_or o []) ≡ false)
absent_deleted key None is = absurd (cc)
absent_deleted key (Some rows) is = elim (cases_Bool (is_some (row_get key rows))) [
  | inl e ↦ let bad : deleted.Absent ≡ deleted.Done = rw e at is in absurd (cc)
  | inr e ↦ (refl, e)
]

pub done_deleted : (key : ℕ) (o : Option (List Row)) → deleted.Done ≡ deleted_of key o → (is_some o ≡ true) × (has_row key (unwrap_or o []) ≡ true)
done_deleted key None is = absurd (cc)
done_deleted key (Some rows) is = elim (cases_Bool (is_some (row_get key rows))) [
  | inl e ↦ (refl, e)
  | inr e ↦ let bad : deleted.Done ≡ deleted.Absent = rw e at is in absurd (cc)
]

-- ---- the first of five tests that holds

none_holds : {A : Type 0} (a b c d e : Bool) (p q r s t : A) → a ≡ false → b ≡ false → c ≡ false → d ≡ false → e ≡ false
    → first_true ((a, p) ∷ (b, q) ∷ (c, r) ∷ (d, s) ∷ (e, t) ∷ []) ≡ None
none_holds a b c d e p q r s t ha hb hc hd he = rw (ha, hb, hc, hd, he) refl

second_holds : {A : Type 0} (a b c d e : Bool) (p q r s t : A) → a ≡ false → b ≡ true → first_true ((a, p) ∷ (b, q) ∷ (c, r) ∷ (d, s) ∷ (e, t) ∷ []) ≡ Some q
second_holds a b c d e p q r s t ha hb = rw (ha, hb) refl

third_holds : {A : Type 0} (a b c d e : Bool) (p q r s t : A) → a ≡ false → b ≡ false → c ≡ true → first_true ((a, p) ∷ (b, q) ∷ (c, r) ∷ (d, s) ∷ (e, t) ∷ []) ≡ Some r
third_holds a b c d e p q r s t ha hb hc = rw (ha, hb, hc) refl

fourth_holds : {A : Type 0} (a b c d e : Bool) (p q r s t : A) → a ≡ false → b ≡ false → c ≡ false → d ≡ true → first_true ((a, p) ∷ (b, q) ∷ (c, r) ∷ (d, s) ∷ (e, t) ∷ []) ≡ Some s
fourth_holds a b c d e p q r s t ha hb hc hd = rw (ha, hb, hc, hd) refl

fifth_holds : {A : Type 0} (a b c d e : Bool) (p q r s t : A) → a ≡ false → b ≡ false → c ≡ false → d ≡ false → e ≡ true → first_true ((a, p) ∷ (b, q) ∷ (c, r) ∷ (d, s) ∷ (e, t) ∷ []) ≡ Some t
fifth_holds a b c d e p q r s t ha hb hc hd he = rw (ha, hb, hc, hd, he) refl

-- ---- a step by the first test of its command that holds

module _ (bounds : Bounds) (s : State) (c : Command) where
  abbrev first : Bool
  first = transaction_wrong c (is_some s.transaction)

  abbrev second : Bool
  second = table_wrong c (current s)

  abbrev third : Bool
  third = writes_spent bounds.writes c (writes_so_far s.transaction)

  abbrev fourth : Bool
  fourth = tables_spent bounds.tables c (current s)

  abbrev fifth : Bool
  fifth = rows_spent bounds.rows c (current s)

  abbrev tests : Bool → Bool → Bool → Bool → Bool → Option Reason
  tests p q r t u = first_true ((p, reason.Transaction) ∷ (q, reason.Table) ∷ (r, reason.Writes) ∷ (t, reason.Tables) ∷ (u, reason.Full) ∷ [])

  by : (o : Option Reason) → tests first second third fourth fifth ≡ o → step bounds s (Some c) ≡ judged o s c
  by o is = ap (λ (x : Option Reason). judged x s c) is

  pub is_table : first ≡ false → second ≡ true → step bounds s (Some c) ≡ (s, reply.Refused reason.Table ∷ [])
  is_table a b = by (Some reason.Table) (second_holds first second third fourth fifth reason.Transaction reason.Table reason.Writes reason.Tables reason.Full a b)

  pub is_writes : first ≡ false → second ≡ false → third ≡ true → step bounds s (Some c) ≡ (s, reply.Refused reason.Writes ∷ [])
  is_writes a b d = by (Some reason.Writes) (third_holds first second third fourth fifth reason.Transaction reason.Table reason.Writes reason.Tables reason.Full a b d)

  pub is_tables : first ≡ false → second ≡ false → third ≡ false → fourth ≡ true → step bounds s (Some c) ≡ (s, reply.Refused reason.Tables ∷ [])
  is_tables a b d e = by (Some reason.Tables) (fourth_holds first second third fourth fifth reason.Transaction reason.Table reason.Writes reason.Tables reason.Full a b d e)

  pub is_full_table : first ≡ false → second ≡ false → third ≡ false → fourth ≡ false → fifth ≡ true → step bounds s (Some c) ≡ (s, reply.Refused reason.Full ∷ [])
  is_full_table a b d e f = by (Some reason.Full) (fifth_holds first second third fourth fifth reason.Transaction reason.Table reason.Writes reason.Tables reason.Full a b d e f)

  pub is_accepted : first ≡ false → second ≡ false → third ≡ false → fourth ≡ false → fifth ≡ false → step bounds s (Some c) ≡ accepted s c
  is_accepted a b d e f = by None (none_holds first second third fourth fifth reason.Transaction reason.Table reason.Writes reason.Tables reason.Full a b d e f)

-- ---- the commands on tables, by what the tables answer

-- an open transaction that may have one more write
pub record MayWrite (bounds : Bounds) (s : State) (o : Open) : Type 0 where
  pub is_open : s.transaction ≡ Some o
  pub more : o.writes < bounds.writes

module _ (bounds : Bounds) (s : State) where
  shut : (o : Open) → s.transaction ≡ Some o → not (is_some s.transaction) ≡ false
  shut o is = ap (λ (x : Option Open). not (is_some x)) is

  known : (name : List ℕ) → is_some (rows_of name (current s)) ≡ true → not (is_known name (current s)) ≡ false
  known name is = ap not (known_is name (current s) ∙ is)

  unknown : (name : List ℕ) → rows_of name (current s) ≡ None → not (is_known name (current s)) ≡ true
  unknown name is = ap not (none_unknown name (current s) is)

  module _ (o : Open) (may : MayWrite bounds s o) where
    left : nat_le bounds.writes (writes_so_far s.transaction) ≡ false
    left = ap (λ (x : Option Open). nat_le bounds.writes (writes_so_far x)) may.is_open ∙ lt-leb bounds.writes o.writes may.more

    module _ (name : List ℕ) (key : ℕ) (value : List ℕ) (limits : Limits) (rows : bounds.rows ≡ limits.rows) where
      pub put_unknown : stored.NoTable ≡ stored_of limits key (rows_of name (current s)) → step bounds s (Some (command.Put name key value)) ≡ (s, reply.Refused reason.Table ∷ [])
      put_unknown is = is_table bounds s (command.Put name key value) (shut o may.is_open) (unknown name (not_stored limits key (rows_of name (current s)) is))

      pub put_full : stored.TableFull ≡ stored_of limits key (rows_of name (current s)) → step bounds s (Some (command.Put name key value)) ≡ (s, reply.Refused reason.Full ∷ [])
      put_full is =
          let it : (is_some (rows_of name (current s)) ≡ true) × (is_full limits.rows key (rows_of name (current s)) ≡ true) = full_stored limits key (rows_of name (current s)) is in
          is_full_table bounds s (command.Put name key value) (shut o may.is_open) (known name it.0) left refl (ap (λ n. is_full n key (rows_of name (current s))) rows ∙ it.1)

      pub put_done : stored.Done ≡ stored_of limits key (rows_of name (current s))
          → step bounds s (Some (command.Put name key value)) ≡ (written (with_rows name (row_put key value (rows_in name s)) (current s)) s, reply.Fine ∷ [])
      put_done is =
          let it : (is_some (rows_of name (current s)) ≡ true) × (is_full limits.rows key (rows_of name (current s)) ≡ false) = done_stored limits key (rows_of name (current s)) is in
          is_accepted bounds s (command.Put name key value) (shut o may.is_open) (known name it.0) left refl (ap (λ n. is_full n key (rows_of name (current s))) rows ∙ it.1)

    module _ (name : List ℕ) (key : ℕ) where
      pub del_unknown : deleted.NoTable ≡ deleted_of key (rows_of name (current s)) → step bounds s (Some (command.Del name key)) ≡ (s, reply.Refused reason.Table ∷ [])
      del_unknown is = is_table bounds s (command.Del name key) (shut o may.is_open) (unknown name (not_deleted key (rows_of name (current s)) is))

      abbrev removed : State × List Reply
      removed = (written (with_rows name (row_delete key (rows_in name s)) (current s)) s, reply.Fine ∷ [])

      pub del_absent : deleted.Absent ≡ deleted_of key (rows_of name (current s)) → step bounds s (Some (command.Del name key)) ≡ (s, reply.Absent ∷ [])
      del_absent is =
          let it : (is_some (rows_of name (current s)) ≡ true) × (has_row key (rows_in name s) ≡ false) = absent_deleted key (rows_of name (current s)) is in
          is_accepted bounds s (command.Del name key) (shut o may.is_open) (known name it.0) left refl refl ∙ ap (λ (b : Bool). cond b removed (s, reply.Absent ∷ [])) it.1

      pub del_done : deleted.Done ≡ deleted_of key (rows_of name (current s)) → step bounds s (Some (command.Del name key)) ≡ removed
      del_done is =
          let it : (is_some (rows_of name (current s)) ≡ true) × (has_row key (rows_in name s) ≡ true) = done_deleted key (rows_of name (current s)) is in
          is_accepted bounds s (command.Del name key) (shut o may.is_open) (known name it.0) left refl refl ∙ ap (λ (b : Bool). cond b removed (s, reply.Absent ∷ [])) it.1

    module _ (name : List ℕ) where
      pub create_present : is_known name (current s) ≡ true → step bounds s (Some (command.Create name)) ≡ (s, reply.Refused reason.Table ∷ [])
      create_present is = is_table bounds s (command.Create name) (shut o may.is_open) is

      pub create_no_slot : is_known name (current s) ≡ false → length (current s) ≡ bounds.tables → step bounds s (Some (command.Create name)) ≡ (s, reply.Refused reason.Tables ∷ [])
      create_no_slot is most = is_tables bounds s (command.Create name) (shut o may.is_open) is left (le-leb bounds.tables (length (current s)) (omega (arith, most)))

      pub create_made : is_known name (current s) ≡ false → length (current s) < bounds.tables → step bounds s (Some (command.Create name)) ≡ (written (with_table name (current s)) s, reply.Fine ∷ [])
      create_made is less = is_accepted bounds s (command.Create name) (shut o may.is_open) is left (lt-leb bounds.tables (length (current s)) less) refl

  -- reads, in a transaction or out of one

  abbrev answered : Reply → State × List Reply
  answered r = (s, r ∷ [])

  as_reply : (v : Option (List ℕ)) → found v ≡ reply_of (found_value v)
  as_reply None = refl
  as_reply (Some w) = refl

  get_from : (name : List ℕ) (key : ℕ) (o : Option (List Row)) → rows_of name (current s) ≡ o → step bounds s (Some (command.Get name key)) ≡ answered (reply_of (got_of key o))
  get_from name key None no_rows = is_table bounds s (command.Get name key) refl (unknown name no_rows)
  get_from name key (Some rows) has =
      is_accepted bounds s (command.Get name key) refl (known name (ap (λ (x : Option (List Row)). is_some x) has)) refl refl refl
      ∙ ap (λ (x : Option (List Row)). answered (found (row_get key (unwrap_or x [])))) has
      ∙ ap answered (as_reply (row_get key rows))

  pub get_gives : (name : List ℕ) (key : ℕ) (answer : Got) → answer ≡ got_of key (rows_of name (current s)) → step bounds s (Some (command.Get name key)) ≡ (s, reply_of answer ∷ [])
  get_gives name key answer is = get_from name key (rows_of name (current s)) refl ∙ ap (λ (x : Got). answered (reply_of x)) (sym is)

  pub scan_unknown : (name : List ℕ) (low high : ℕ) → is_known name (current s) ≡ false → step bounds s (Some (command.Scan name low high)) ≡ (s, reply.Refused reason.Table ∷ [])
  scan_unknown name low high is = is_table bounds s (command.Scan name low high) refl (ap not is)

  pub scan_known : (name : List ℕ) (low high : ℕ) → is_known name (current s) ≡ true → step bounds s (Some (command.Scan name low high)) ≡ (s, scanned (row_range low high (rows_in name s)))
  scan_known name low high is = is_accepted bounds s (command.Scan name low high) refl (ap not is) refl refl refl

  -- neither changes anything
  pub scan_stays : (name : List ℕ) (low high : ℕ) → (step bounds s (Some (command.Scan name low high))).0 ≡ s
  scan_stays name low high = elim (cases_Bool (is_known name (current s))) [
    | inl e ↦ ap (λ (p : State × List Reply). p.0) (scan_known name low high e)
    | inr e ↦ ap (λ (p : State × List Reply). p.0) (scan_unknown name low high e)
  ]

  -- a write in a transaction that has had the most

  module _ (o : Open) (is_open : s.transaction ≡ Some o) (spent : bounds.writes ≤ o.writes) where
    none_left : nat_le bounds.writes (writes_so_far s.transaction) ≡ true
    none_left = ap (λ (x : Option Open). nat_le bounds.writes (writes_so_far x)) is_open ∙ le-leb bounds.writes o.writes spent

    abbrev refused : Bool → Bool → State × List Reply
    refused creates known = (s, reply.Refused (reason_of known creates) ∷ [])

    spent_by : (c : Command) (creates known : Bool) → transaction_wrong c (is_some s.transaction) ≡ false → writes_spent bounds.writes c (writes_so_far s.transaction) ≡ true
        → table_wrong c (current s) ≡ cond creates known (not known) → step bounds s (Some c) ≡ refused creates known
    spent_by c true true a t w = is_table bounds s c a w
    spent_by c true false a t w = is_writes bounds s c a w t
    spent_by c false true a t w = is_writes bounds s c a w t
    spent_by c false false a t w = is_table bounds s c a w

    pub spent_put : (name : List ℕ) (key : ℕ) (value : List ℕ) → step bounds s (Some (command.Put name key value)) ≡ (s, reply.Refused (reason_of (is_known name (current s)) false) ∷ [])
    spent_put name key value = spent_by (command.Put name key value) false (is_known name (current s)) (shut o is_open) none_left refl

    pub spent_del : (name : List ℕ) (key : ℕ) → step bounds s (Some (command.Del name key)) ≡ (s, reply.Refused (reason_of (is_known name (current s)) false) ∷ [])
    spent_del name key = spent_by (command.Del name key) false (is_known name (current s)) (shut o is_open) none_left refl

    pub spent_create : (name : List ℕ) → step bounds s (Some (command.Create name)) ≡ (s, reply.Refused (reason_of (is_known name (current s)) true) ∷ [])
    spent_create name = spent_by (command.Create name) true (is_known name (current s)) (shut o is_open) none_left refl

-- the rows of a scan that has given none, and its end
pub scanned_from : (rows : List Row) (low high : ℕ) → scanned (row_range low high rows) ≡ map (λ (row : Row). reply.Row row.0 row.1) (row_range low high rows) ++ reply.Finish (0 + length (row_range low high rows)) ∷ []
scanned_from rows low high = ap (λ (n : ℕ). map (λ (row : Row). reply.Row row.0 row.1) (row_range low high rows) ++ reply.Finish n ∷ []) (sym (zero-add (length (row_range low high rows))))
