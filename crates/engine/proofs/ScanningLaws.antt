-- A scan, row by row, over the rows of a table in order.
use Rattle.std.proofs.Common.{◌≡◌, ℕ, ◌+◌, ◌-◌, ◌<◌, ◌≤◌, min, Bool, true, false, cond, List, [], ◌∷◌, ◌++◌, map, length, refl, sym, ap, subst, ◌∙◌, arith, inl, inr, Some, None, Option, Result, Ok, Err}
use Rattle.std.specs.Prelude.{◌&&◌, nat_le, bytes_eq, unwrap_or}
use Rattle.std.proofs.lemmas.Bool.{cases_Bool, cases_lt, cases_eq, le-leb, lt-leb, eq-eqb, ne_eqb}
use Rattle.devices.specs.World.{Standing as Device}
use Rattle.line_pages.specs.Lines.{Lines}
use Rattle.line_pages.specs.Standing.{HasCause}
use Rattle.line_pages.specs.declared.stop.Stop.{Stop}
use Rattle.line_pages.specs.declared.stop.Stop.TheVariants.{Nvm, Ssd, Damaged}
use Rattle.line_pages.specs.declared.touches.Accesses.{Accesses}
use Rattle.rows.specs.Rows.{Row, keys, row_next, Ascends, Each, last_key}
use Rattle.tree_search.proofs.OrderLaws.{tree_rows-ascend}
use Rattle.rows.specs.declared.limits.Limits.{Limits}
use Rattle.table_store.specs.declared.answer.Next.{Next}
use Rattle.table_store.specs.declared.answer.Next.TheVariants as next
use Rattle.table_catalog.specs.Catalog.{entries, tables, table_of}
use Rattle.rows.specs.Tables.{Table}
use Rattle.table_catalog.specs.Stored.{IsStore, HasTree}
use Rattle.rows.specs.Tables.{rows_of}
use Rattle.engine.specs.Causes.{IsRowDamage}
use Rattle.table_store.specs.Scanning.{next_of, row_up_to}
use Rattle.flat_transactions.proofs.OpenStoreLaws.{rested_ready}
use Rattle.script.specs.Tables.{row_range}
use Rattle.script.specs.Machine.{State}
use Rattle.script.specs.declared.command.Reply.{Reply}
use Rattle.script.specs.declared.command.Reply.TheVariants as reply
use Rattle.script.proofs.ScanLaws.{range_empty, range_none, range_past, range_next, next_from}
use Rattle.engine.specs.declared.engine.Engine.{Engine}
use Rattle.engine.specs.declared.scan.Scan.{Scan}
use Rattle.engine.specs.Commands.{shown}
use Rattle.engine.specs.Engine.{StandsFor, Shows}
use Rattle.engine.specs.Scanning.{behind, ended, reply_by, scan_by, Gives}
use Rattle.engine.specs.Steps.{Does, scan_replies, rows_left, calls_left}
use Rattle.engine.proofs.CommandLaws.{transaction_by}

-- the rows of each table of a store ascend
ascend_in : {E : Type 0} (table : E → Table) (Has : E → Type 0) (name : List ℕ) → ((e : E) → Has e → Ascends 0 last_key (keys (table e).1)) → (es : List E) → Each Has es → (rows : List Row)
    → rows_of name (map table es) ≡ Some rows → Ascends 0 last_key (keys rows)
ascend_in table Has name each [] all rows is = absurd (cc)
ascend_in table Has name each (e ∷ es) all rows is = elim (cases_Bool (bytes_eq (table e).0 name)) [
  | inl y ↦
      let here : Some ((table e).1) ≡ Some rows = rw y at is in
      let same : (table e).1 ≡ rows = cc in
      subst (λ (rs : List Row). Ascends 0 last_key (keys rs)) same (each e all.0)
  | inr n ↦ ascend_in table Has name each es all.1 rows (rw n at is)
]

pub rows_ascend : (limits : Limits) (count : ℕ) (lines : Lines) → IsStore limits count lines → (name : List ℕ) (rows : List Row) → rows_of name (tables lines) ≡ Some rows → Ascends 0 last_key (keys rows)
rows_ascend limits count lines store name rows is =
    ascend_in (table_of lines) (HasTree count lines) name (λ e it. tree_rows-ascend count lines (e.levels - 1) e.root 0 last_key true it.0) (entries lines) store.trees rows is

-- ---- the replies

abbrev given : List Row → List Reply
given rows = map (λ (row : Row). reply.Row row.0 row.1) rows

replies_of : (scan : Scan) (rows : List Row) → scan.over ≡ false → scan_replies scan rows ≡ given (rows_left scan rows) ++ reply.Finish (scan.count + length (rows_left scan rows)) ∷ []
replies_of scan rows still = ap (λ (b : Bool). cond b [] (given (rows_left scan rows) ++ reply.Finish (scan.count + length (rows_left scan rows)) ∷ [])) still

-- no row is left
at_end : (scan : Scan) (rows : List Row) → scan.over ≡ false → rows_left scan rows ≡ [] → scan_replies scan rows ≡ reply.Finish scan.count ∷ scan_replies (ended scan) rows
at_end scan rows still none =
    replies_of scan rows still
    ∙ ap (λ (rs : List Row). given rs ++ reply.Finish (scan.count + length rs) ∷ []) none
    ∙ ap (λ (n : ℕ). reply.Finish n ∷ []) (omega arith)

-- the rows left behind a row
left_behind : (scan : Scan) (key : ℕ) (rows : List Row) → rows_left (behind key scan) rows ≡ row_range (key + 1) scan.to rows
left_behind scan key rows = elim (cases_eq key scan.to) [
  | inl e ↦ rw (eq-eqb key scan.to e) (range_empty 1 0 rows (omega arith) ∙ sym (range_empty (key + 1) scan.to rows (omega (arith, e))))
  | inr n ↦ rw (ne_eqb key scan.to n) refl
]

count_behind : (count last : ℕ) → count < last → min (count + 1) last ≡ count + 1
count_behind count last less = omega (arith, less)

at_row : (scan : Scan) (rows : List Row) (row : Row) → scan.over ≡ false → scan.count < 18446744073709551615 → rows_left scan rows ≡ row ∷ row_range (row.0 + 1) scan.to rows
    → scan_replies scan rows ≡ reply.Row row.0 row.1 ∷ scan_replies (behind row.0 scan) rows
at_row scan rows row still few is =
    let left = row_range (row.0 + 1) scan.to rows in
    let total : scan.count + length (row ∷ left) ≡ (behind row.0 scan).count + length left = omega (arith, count_behind scan.count 18446744073709551615 few) in
    replies_of scan rows still
    ∙ ap (λ (rs : List Row). given rs ++ reply.Finish (scan.count + length rs) ∷ []) is
    ∙ ap (λ (n : ℕ). reply.Row row.0 row.1 ∷ (given left ++ reply.Finish n ∷ [])) total
    ∙ ap (λ (rs : List Row). reply.Row row.0 row.1 ∷ (given rs ++ reply.Finish ((behind row.0 scan).count + length rs) ∷ [])) (sym (left_behind scan row.0 rows))
    ∙ ap (λ (rs : List Reply). reply.Row row.0 row.1 ∷ rs) (sym (replies_of (behind row.0 scan) rows still))

abbrev Goes : Scan → List Row → Next → Type 0
Goes scan rows n = scan_replies scan rows ≡ reply_by scan n ∷ scan_replies (scan_by scan n) rows

row_goes : (scan : Scan) (rows : List Row) (row : Row) → scan.over ≡ false → scan.count < 18446744073709551615 → scan.from ≤ row.0 → row.0 ≤ scan.to → rows_left scan rows ≡ row ∷ row_range (row.0 + 1) scan.to rows
    → Goes scan rows (next.Row row.0 row.1)
row_goes scan rows row still few low high is =
    subst (λ (b : Bool). scan_replies scan rows ≡ cond b (reply.Row row.0 row.1) (reply.Finish scan.count) ∷ scan_replies (cond b (behind row.0 scan) (ended scan)) rows)
    (sym (ap (λ (b : Bool). b && nat_le row.0 scan.to) (le-leb scan.from row.0 low) ∙ le-leb row.0 scan.to high)) (at_row scan rows row still few is)

up_to_goes : (scan : Scan) (rows : List Row) → scan.over ≡ false → scan.count < 18446744073709551615 → Ascends 0 last_key (keys rows) → (o : Option Row) → row_next scan.from rows ≡ o → Goes scan rows (row_up_to scan.to o)
up_to_goes scan rows still few up None is = at_end scan rows still (range_none scan.from scan.to rows is)
up_to_goes scan rows still few up (Some row) is = elim (cases_lt scan.to row.0) [
  | inl past ↦ rw (lt-leb row.0 scan.to past) (at_end scan rows still (range_past scan.from scan.to 0 last_key rows row up is past))
  | inr within ↦ rw (le-leb row.0 scan.to within) (row_goes scan rows row still few (next_from scan.from rows row is) within (range_next scan.from scan.to 0 last_key rows row up is within))
]

pub goes_on : (scan : Scan) → scan.over ≡ false → scan.count < 18446744073709551615 → (o : Option (List Row)) → ((rows : List Row) → o ≡ Some rows → Ascends 0 last_key (keys rows))
    → scan_replies scan (unwrap_or o []) ≡ reply_by scan (next_of scan.from scan.to o) ∷ scan_replies (scan_by scan (next_of scan.from scan.to o)) (unwrap_or o [])
goes_on scan still few None up = at_end scan [] still refl
goes_on scan still few (Some rows) up = up_to_goes scan rows still few (up rows refl) (row_next scan.from rows) refl

-- ---- what it leaves

-- where the bounds are empty it ends
pub ends_empty : {A : Type 0} (of : Next → A) (scan : Scan) → of next.NoTable ≡ of next.End → scan.to < scan.from → (o : Option (List Row)) → of next.End ≡ of (next_of scan.from scan.to o)
ends_empty of scan same empty None = sym same
ends_empty of scan same empty (Some rows) = up_to (row_next scan.from rows) refl
  where
    up_to : (p : Option Row) → row_next scan.from rows ≡ p → of next.End ≡ of (row_up_to scan.to p)
    up_to None is = refl
    up_to (Some row) is = let low : scan.from ≤ row.0 = next_from scan.from rows row is in rw (lt-leb row.0 scan.to (omega (arith, low, empty))) refl

-- a row within the bounds, or the end
pub gives_by : (scan : Scan) (n : Next) → Gives scan (reply_by scan n) (scan_by scan n)
gives_by scan (next.Row key value) = elim (cases_lt key scan.from) [
  | inl below ↦ rw (lt-leb scan.from key below) (refl, refl)
  | inr low ↦ elim (cases_lt scan.to key) [
    | inl above ↦ rw (le-leb scan.from key low, lt-leb key scan.to above) (refl, refl)
    | inr high ↦ rw (le-leb scan.from key low, le-leb key scan.to high) (low, high, refl)
  ]
]
gives_by scan next.End = (refl, refl)
gives_by scan next.NoTable = (refl, refl)

some_left : (b : Bool) (n : ℕ) → 0 < cond b (2 + n) 1
some_left true n = omega arith
some_left false n = omega arith

fewer_ended : (scan : Scan) → scan.over ≡ false → calls_left (ended scan) < calls_left scan
fewer_ended scan still = rw still (some_left (nat_le scan.from scan.to) (scan.to - scan.from))

fewer_behind : (scan : Scan) (key : ℕ) → scan.over ≡ false → scan.from ≤ key → key ≤ scan.to → calls_left (behind key scan) < calls_left scan
fewer_behind scan key still low high = elim (cases_eq key scan.to) [
  | inl e ↦ rw (still, le-leb scan.from scan.to (omega (arith, low, high)), eq-eqb key scan.to e) (omega arith)
  | inr n ↦ rw (still, le-leb scan.from scan.to (omega (arith, low, high)), ne_eqb key scan.to n, le-leb (key + 1) scan.to (omega (arith, high, n))) (omega (arith, low, high, n))
]

pub fewer_by : (scan : Scan) (n : Next) → scan.over ≡ false → calls_left (scan_by scan n) < calls_left scan
fewer_by scan (next.Row key value) still = elim (cases_lt key scan.from) [
  | inl below ↦ rw (lt-leb scan.from key below) (fewer_ended scan still)
  | inr low ↦ elim (cases_lt scan.to key) [
    | inl above ↦ rw (le-leb scan.from key low, lt-leb key scan.to above) (fewer_ended scan still)
    | inr high ↦ rw (le-leb scan.from key low, le-leb key scan.to high) (fewer_behind scan key still low high)
  ]
]
fewer_by scan next.End still = fewer_ended scan still
fewer_by scan next.NoTable still = fewer_ended scan still

-- ---- the end of an access

abbrev pub rested : Engine → Accesses → Engine
rested engine accesses = record engine { book = record engine.book { accesses = accesses } }

pub stands_rested : (engine : Engine) (accesses : Accesses) (d : Device) → StandsFor engine d → StandsFor (rested engine accesses) d
stands_rested engine accesses d it = record {
  ready = rested_ready engine.book accesses d it.ready;
  disk = it.disk;
  limits = it.limits;
  writes = it.writes;
  few = it.few;
  room = it.room;
  counted = it.counted;
}

pub shows_rested : (engine : Engine) (accesses : Accesses) (d : Device) (s : State) → Shows engine d s → Shows (rested engine accesses) d s
shows_rested engine accesses d s it = record {
  committed = it.committed;
  seen = it.seen;
  transaction = transaction_by engine.book (rested engine accesses).book s.transaction refl refl it.transaction;
  commits = it.commits;
}

pub does_rested : {T : Type 0} (after : State → State) (old : Engine) (accesses : Accesses) (a : Device) (new : Engine) (b : Device) (r : Result T Stop) → Does after (rested old accesses) a new b r → Does after old a new b r
does_rested after old accesses a new b r it = record {
  shows = λ told s is. it.shows told s (shows_rested old accesses a s is);
  sound = λ told s is. it.sound told s (shows_rested old accesses a s is);
  moments = λ told steady s is. it.moments told steady s (shows_rested old accesses a s is);
  steady = it.steady;
  ready = it.ready;
  sizes = it.sizes;
  reach_rises = it.reach_rises;
  goes = it.goes;
}

-- an engine whose access was ended, as it was before
pub does_before : {T : Type 0} (after : State → State) (old between : Engine) (a : Device) (new : Engine) (b : Device) (r : Result T Stop) → between ≡ rested old between.book.accesses → Does after between a new b r → Does after old a new b r
does_before {T} after old between a new b r is it =
    does_rested after old between.book.accesses a new b r (subst (λ (e : Engine). Does {T = T} after e a new b r) is it)

pub stands_between : (old between : Engine) (a : Device) → between ≡ rested old between.book.accesses → StandsFor old a → StandsFor between a
stands_between old between a is it = subst (λ (e : Engine). StandsFor e a) (sym is) (stands_rested old between.book.accesses a it)

pub shows_between : (old between : Engine) (a : Device) (s : State) → between ≡ rested old between.book.accesses → Shows old a s → Shows between a s
shows_between old between a s is it = subst (λ (e : Engine). Shows e a s) (sym is) (shows_rested old between.book.accesses a s it)

-- why it stopped, by the pages of either
abbrev LookupCause : {T : Type 0} → Engine → Device → List ℕ → Engine → Device → Result T Stop → Type 0
LookupCause old a buffer new b r = HasCause (IsRowDamage old a buffer) (shown old a) (shown new b) r

cause_rested : {T : Type 0} (old : Engine) (accesses : Accesses) (a : Device) (buffer : List ℕ) (new : Engine) (b : Device) (r : Result T Stop) → LookupCause (rested old accesses) a buffer new b r → LookupCause old a buffer new b r
cause_rested old accesses a buffer new b (Ok v) it = record { failed = tt; kept = it.kept }
cause_rested old accesses a buffer new b (Err Nvm) it = record { failed = it.failed; kept = tt }
cause_rested old accesses a buffer new b (Err Ssd) it = record { failed = it.failed; kept = tt }
cause_rested old accesses a buffer new b (Err (Damaged e)) it = record { failed = it.failed; kept = tt }

pub cause_before : {T : Type 0} (old between : Engine) (a : Device) (buffer : List ℕ) (new : Engine) (b : Device) (r : Result T Stop) → between ≡ rested old between.book.accesses
    → LookupCause between a buffer new b r → LookupCause old a buffer new b r
cause_before {T} old between a buffer new b r is it =
    cause_rested old between.book.accesses a buffer new b r (subst (λ (e : Engine). LookupCause {T = T} e a buffer new b r) is it)

-- the same with another answer
pub cause_ok : {T U : Type 0} (old : Engine) (a : Device) (buffer : List ℕ) (new : Engine) (b : Device) (v : T) (w : U) → LookupCause {T = T} old a buffer new b (Ok v) → LookupCause {T = U} old a buffer new b (Ok w)
cause_ok old a buffer new b v w it = record { failed = tt; kept = it.kept }
