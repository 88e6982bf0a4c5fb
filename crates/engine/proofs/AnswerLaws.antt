-- What the answers of tables mean for the state that an engine shows.
use Rattle.std.proofs.Common.{◌≡◌, ℕ, ◌+◌, ◌*◌, ◌/◌, ◌<◌, ◌≤◌, true, false, List, [], ◌∷◌, length, refl, sym, ap, subst, ◌∙◌, arith, Some, None, Option, is_some}
use Rattle.std.specs.Prelude.{unwrap_or}
use Rattle.devices.specs.World.{Standing as Device}
use Rattle.line_pages.specs.Lines.{Lines}
use Rattle.rows.specs.Rows.{Row, row_put, row_delete}
use Rattle.table_catalog.specs.Catalog.{tables}
use Rattle.rows.specs.Tables.{Table}
use Rattle.rows.specs.Tables.{rows_of, with_rows, is_known}
use Rattle.table_store.specs.Created.{Makes}
use Rattle.table_store.specs.Changed.{ChangesTable}
use Rattle.table_store.specs.Putting.{stored_of}
use Rattle.table_store.specs.Deleting.{deleted_of}
use Rattle.table_store.specs.declared.answer.Stored.TheVariants as stored
use Rattle.table_store.specs.declared.answer.Deleted.TheVariants as deleted
use Rattle.flat_transactions.specs.declared.book.Book.{Book}
use Rattle.flat_transactions.specs.OpenStore.{account}
use Rattle.flat_transactions.specs.Order.{pages}
use Rattle.script.specs.Tables.{with_table}
use Rattle.script.specs.Machine.{Bounds, State, Open, current, written, rows_in, step}
use Rattle.script.specs.declared.command.Command.TheVariants as command
use Rattle.script.specs.declared.command.Reason.TheVariants as reason
use Rattle.script.specs.declared.command.Reply.TheVariants as reply
use Rattle.engine.specs.declared.engine.Engine.{Engine}
use Rattle.engine.specs.Commands.{reason_of}
use Rattle.engine.specs.Holds.{bounds_in, HoldsTables}
use Rattle.engine.specs.Engine.{engine_sizes, engine_lines, has_open, writes_done, most_writes, StandsFor, Shows, IsTransaction}
use Rattle.engine.proofs.HoldsLaws.{holds_by}
use Rattle.engine.proofs.TableLaws.{MayWrite, done_stored, done_deleted, put_unknown, put_full, put_done, del_unknown, del_absent, del_done, create_present, create_no_slot, create_made, spent_put, spent_del, spent_create}

-- the transaction that a book has open
open_by : (book : Book) (o : Option Open) → (account book).is_open ≡ true → IsTransaction book o → (t : Open) × (o ≡ Some t) × (t.writes ≡ (account book).accepted)
open_by book None is_open it = let bad : true ≡ false = sym is_open ∙ it in absurd (cc)
open_by book (Some t) is_open it = (t, refl, it.1)

-- the tables with other rows in one of them
abbrev pub stepped : List ℕ → (List Row → List Row) → State → List Table
stepped name change s = with_rows name (change (rows_in name s)) (current s)

module _ (old : Engine) (a : Device) (stands : StandsFor old a) (s : State) (shows : Shows old a s) where
  abbrev seen : List Table
  seen = tables (engine_lines old a)

  same : seen ≡ current s
  same = shows.seen.tables_are

  -- one table changed
  pub change_holds : (lines : Lines) (name : List ℕ) (change : List Row → List Row) → is_some (rows_of name seen) ≡ true
      → ChangesTable old.limits (pages (engine_sizes old)) (engine_lines old a) lines name change → HoldsTables (engine_sizes old) lines (stepped name change s)
  change_holds lines name change has changed = holds_by (engine_sizes old) lines old.limits stands.limits changed.store (stepped name change s) (changes (rows_of name seen) refl has)
    where
      changes : (o : Option (List Row)) → rows_of name seen ≡ o → is_some o ≡ true → tables lines ≡ stepped name change s
      changes None is none = absurd (cc)
      changes (Some rows) is some =
          changed.tables_are rows is
          ∙ ap (λ (x : Option (List Row)). with_rows name (change (unwrap_or x [])) seen) (sym is)
          ∙ ap (λ (T : List Table). with_rows name (change (unwrap_or (rows_of name T) [])) T) same

  -- one table more
  pub make_holds : (lines : Lines) (name : List ℕ) → Makes old.limits (pages (engine_sizes old)) (engine_lines old a) lines name → HoldsTables (engine_sizes old) lines (with_table name (current s))
  make_holds lines name made = holds_by (engine_sizes old) lines old.limits stands.limits made.store (with_table name (current s)) (made.tables_are ∙ ap (λ (T : List Table). with_table name T) same)

  abbrev bounds : Bounds
  bounds = bounds_in (engine_sizes old)

  rows_same : bounds.rows ≡ old.limits.rows
  rows_same = sym stands.limits.rows

  module _ (is_open : has_open old ≡ true) where
    opened : (t : Open) × (s.transaction ≡ Some t) × (t.writes ≡ writes_done old)
    opened = open_by old.book s.transaction is_open shows.transaction

    -- the transaction has had all its writes
    module _ (spent : most_writes old ≤ writes_done old) where
      most : bounds.writes ≤ (opened.0).writes
      most = let had : (opened.0).writes ≡ writes_done old = opened.2 in let writes : most_writes old ≡ (engine_sizes old).writes = stands.writes in omega (arith, had, writes, spent)

      pub put_spent : (name : List ℕ) (key : ℕ) (value : List ℕ) → step bounds s (Some (command.Put name key value)) ≡ (s, reply.Refused (reason_of (is_known name (current s)) false) ∷ [])
      put_spent = spent_put bounds s opened.0 opened.1 most

      pub del_spent : (name : List ℕ) (key : ℕ) → step bounds s (Some (command.Del name key)) ≡ (s, reply.Refused (reason_of (is_known name (current s)) false) ∷ [])
      del_spent = spent_del bounds s opened.0 opened.1 most

      pub create_spent : (name : List ℕ) → step bounds s (Some (command.Create name)) ≡ (s, reply.Refused (reason_of (is_known name (current s)) true) ∷ [])
      create_spent = spent_create bounds s opened.0 opened.1 most

    -- it may have one more write
    module _ (more : writes_done old < most_writes old) where
      may : MayWrite bounds s opened.0
      may = record {
        is_open = opened.1;
        more = let had : (opened.0).writes ≡ writes_done old = opened.2 in let writes : most_writes old ≡ (engine_sizes old).writes = stands.writes in omega (arith, had, writes, more);
      }

      module _ (name : List ℕ) (key : ℕ) (value : List ℕ) where
        pub put_no_table : stored.NoTable ≡ stored_of old.limits key (rows_of name seen) → step bounds s (Some (command.Put name key value)) ≡ (s, reply.Refused reason.Table ∷ [])
        put_no_table is = put_unknown bounds s opened.0 may name key value old.limits rows_same (is ∙ ap (λ (T : List Table). stored_of old.limits key (rows_of name T)) same)

        pub put_no_room : stored.TableFull ≡ stored_of old.limits key (rows_of name seen) → step bounds s (Some (command.Put name key value)) ≡ (s, reply.Refused reason.Full ∷ [])
        put_no_room is = put_full bounds s opened.0 may name key value old.limits rows_same (is ∙ ap (λ (T : List Table). stored_of old.limits key (rows_of name T)) same)

        pub put_writes : stored.Done ≡ stored_of old.limits key (rows_of name seen) → step bounds s (Some (command.Put name key value)) ≡ (written (stepped name (row_put key value) s) s, reply.Fine ∷ [])
        put_writes is = put_done bounds s opened.0 may name key value old.limits rows_same (is ∙ ap (λ (T : List Table). stored_of old.limits key (rows_of name T)) same)

        pub put_holds : (lines : Lines) → stored.Done ≡ stored_of old.limits key (rows_of name seen)
            → ChangesTable old.limits (pages (engine_sizes old)) (engine_lines old a) lines name (row_put key value) → HoldsTables (engine_sizes old) lines (stepped name (row_put key value) s)
        put_holds lines is = change_holds lines name (row_put key value) (done_stored old.limits key (rows_of name seen) is).0

      module _ (name : List ℕ) (key : ℕ) where
        pub del_no_table : deleted.NoTable ≡ deleted_of key (rows_of name seen) → step bounds s (Some (command.Del name key)) ≡ (s, reply.Refused reason.Table ∷ [])
        del_no_table is = del_unknown bounds s opened.0 may name key (is ∙ ap (λ (T : List Table). deleted_of key (rows_of name T)) same)

        pub del_no_row : deleted.Absent ≡ deleted_of key (rows_of name seen) → step bounds s (Some (command.Del name key)) ≡ (s, reply.Absent ∷ [])
        del_no_row is = del_absent bounds s opened.0 may name key (is ∙ ap (λ (T : List Table). deleted_of key (rows_of name T)) same)

        pub del_writes : deleted.Done ≡ deleted_of key (rows_of name seen) → step bounds s (Some (command.Del name key)) ≡ (written (stepped name (row_delete key) s) s, reply.Fine ∷ [])
        del_writes is = del_done bounds s opened.0 may name key (is ∙ ap (λ (T : List Table). deleted_of key (rows_of name T)) same)

        pub del_holds : (lines : Lines) → deleted.Done ≡ deleted_of key (rows_of name seen)
            → ChangesTable old.limits (pages (engine_sizes old)) (engine_lines old a) lines name (row_delete key) → HoldsTables (engine_sizes old) lines (stepped name (row_delete key) s)
        del_holds lines is = change_holds lines name (row_delete key) (done_deleted key (rows_of name seen) is).0

      module _ (name : List ℕ) where
        pub create_there : is_known name seen ≡ true → step bounds s (Some (command.Create name)) ≡ (s, reply.Refused reason.Table ∷ [])
        create_there is = create_present bounds s opened.0 may name (sym (ap (λ (T : List Table). is_known name T) same) ∙ is)

        pub create_no_more : is_known name seen ≡ false → length seen ≡ old.limits.tables → step bounds s (Some (command.Create name)) ≡ (s, reply.Refused reason.Tables ∷ [])
        create_no_more is most = create_no_slot bounds s opened.0 may name (sym (ap (λ (T : List Table). is_known name T) same) ∙ is) (sym (ap length same) ∙ most ∙ stands.limits.tables)

        pub create_writes : is_known name seen ≡ false → length seen < old.limits.tables → step bounds s (Some (command.Create name)) ≡ (written (with_table name (current s)) s, reply.Fine ∷ [])
        create_writes is less =
            let count : length seen ≡ length (current s) = ap length same in
            let all : old.limits.tables ≡ (engine_sizes old).tables = stands.limits.tables in
            create_made bounds s opened.0 may name (sym (ap (λ (T : List Table). is_known name T) same) ∙ is) (omega (arith, less, count, all))

-- there are pages for all tables
pub enough_pages : (old : Engine) (a : Device) → StandsFor old a → 1 + old.limits.tables * (old.limits.rows / 2 + 8) ≤ pages (engine_sizes old)
enough_pages old a stands =
    let P : ℕ → ℕ → Type 0 = λ t r. 1 + t * (r / 2 + 8) ≤ pages (engine_sizes old) in
    subst (λ t. P t old.limits.rows) (sym stands.limits.tables) (subst (λ r. P (engine_sizes old).tables r) (sym stands.limits.rows) (omega arith))
