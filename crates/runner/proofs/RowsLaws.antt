-- The rows of a scan, as they are sent one by one.
use Rattle.std.proofs.Common.{◌≡◌, inl, inr, ℕ, ◌+◌, ◌<◌, ◌≤◌, min, Bool, true, false, cond, List, [], ◌∷◌, ◌++◌, length, map, Result, Ok, Err, Option, Some, None, refl, sym, ◌∙◌, ap, subst, arith, length-append, IsTrue}
use Rattle.std.specs.Prelude.{not, ◌&&◌, ◌||◌, nat_le, bytes_eq, unwrap_or}
use Rattle.std.specs.List.{list_all, list_any}
use Rattle.std.proofs.lemmas.Bool.{cases_Bool, and_parts}
use Rattle.std.proofs.lemmas.List.{append-nil, length-map}
use Rattle.std.proofs.lemmas.List.Filters.{length-filter_both}
use Rattle.std.proofs.lemmas.List.Folds.{list_any-append}
use Rattle.devices.specs.World.{Standing, GoesOn, IsTimed, last_count}
use Rattle.devices.proofs.MomentLaws.{Goes-on}
use Rattle.line_pages.specs.Lines.{Lines}
use Rattle.line_pages.specs.declared.stop.Stop.{Stop}
use Rattle.line_pages.specs.declared.stop.Stop.TheVariants.{Nvm, Ssd, Damaged}
use Rattle.line_pages.specs.Standing.{HasCause as HasStopCause}
use Rattle.rows.specs.Rows.{Row, Each, row_delete}
use Rattle.flat_transactions.specs.Order.{Sizes, pages}
use Rattle.rows.specs.declared.limits.Limits.{Limits}
use Rattle.table_catalog.specs.Catalog.{entries, tables, table_of, name_of, entry_rows, is_entry, names_differ, catalog_checks}
use Rattle.rows.specs.Tables.{Table}
use Rattle.table_catalog.specs.Stored.{IsStore, HasTree}
use Rattle.rows.specs.Tables.{rows_of, with_rows}
use Rattle.table_catalog.proofs.CatalogLaws.{AllHold, all_hold, fits_entry}
use Rattle.page_alloc.specs.Space.{high_of}
use Rattle.texts.specs.Runs as run
use Rattle.script.specs.declared.command.Command.{Command}
use Rattle.script.specs.declared.command.Command.TheVariants as command
use Rattle.script.specs.declared.command.Reason.{Reason}
use Rattle.script.specs.declared.command.Reply.{Reply}
use Rattle.script.specs.declared.command.Reply.TheVariants as reply
use Rattle.script.specs.Tables.{has_row, rows_or_none}
use Rattle.script.specs.Grammar.{command_of, command_in}
use Rattle.script.specs.Machine.{Bounds, State, current, step, refusal, judged, accepted, rows_in, written}
use Rattle.script.specs.Replies.{reply_text, text}
use Rattle.script.specs.Script.{machine}
use Rattle.texts.specs.Lines.{is_silent}
use Rattle.engine.specs.declared.engine.Engine.{Engine}
use Rattle.engine.specs.declared.scan.Scan.{Scan}
use Rattle.engine.specs.Commands.{shown}
use Rattle.engine.specs.Causes.{IsRowDamage, Stops}
use Rattle.engine.specs.Engine.{engine_sizes, evidence_bytes}
use Rattle.engine.specs.Holds.{HoldsTables, bounds_in}
use Rattle.engine.specs.Scanning.{behind, Gives}
use Rattle.engine.specs.Steps.{Does, rows_left, scan_replies, after_line}
use Rattle.runner.specs.Run.{Aim, Owes, AreSafe, Proceeds, IsFew}
use Rattle.runner.proofs.RunLaws.{does_safe, does_owes, safe_then, answered}

-- ---- few rows

-- of a list of tables each has few
few_in : {E : Type 0} (table : E → Table) (ok : E → Bool) (Has : E → Type 0) (most : ℕ) (name : List ℕ) → ((e : E) → ok e ≡ true → Has e → length (table e).1 ≤ most) → (es : List E) → list_all ok es ≡ true → Each Has es
    → length (unwrap_or (rows_of name (map table es)) []) ≤ most
few_in table ok Has most name few [] all each = omega arith
few_in table ok Has most name few (e ∷ es) all each =
    let parts = and_parts (ok e) (list_all ok es) all in
    elim (cases_Bool (bytes_eq (table e).0 name)) [
      | inl y ↦ rw y (few e parts.0 each.0)
      | inr n ↦ rw n (few_in table ok Has most name few es parts.1 each.1)
    ]

-- a table of a store has at most 1,000,000 rows
few_stored : (limits : Limits) (count : ℕ) (lines : Lines) (name : List ℕ) → IsStore limits count lines → length (rows_or_none name (tables lines)) ≤ limits.rows
few_stored limits count lines name store =
    let held : AllHold (catalog_checks limits count lines) = all_hold (catalog_checks limits count lines) store.catalog in
    let ok = and_parts (list_all (is_entry limits lines) (entries lines)) (names_differ (map name_of (entries lines))) held.1.1.1.1.0 in
    few_in (table_of lines) (is_entry limits lines) (HasTree count lines) limits.rows name
    (λ e is tree.
    let few : e.rows ≤ limits.rows = (fits_entry limits (high_of lines) e is).rows in
    let counted : length (entry_rows lines e) ≡ e.rows = tree.1 in
    omega (arith, few, counted))
    (entries lines) ok.0 store.trees

pub few_held : (g : Sizes) (lines : Lines) (T : List Table) (name : List ℕ) → HoldsTables g lines T → length (rows_or_none name T) ≤ 1000000
few_held g lines T name holds =
    let most : holds.limits.rows ≤ 1000000 = holds.limits.rows_few in
    let few : length (rows_or_none name (tables lines)) ≤ holds.limits.rows = few_stored holds.limits (pages g) lines name holds.store in
    subst (λ (all : List Table). length (rows_or_none name all) ≤ 1000000) holds.tables_are (omega (arith, most, few))

few_left : (scan : Scan) (rows : List Row) → length (rows_left scan rows) ≤ length rows
few_left scan rows =
    let test = λ (row : Row). nat_le scan.from row.0 && nat_le row.0 scan.to in
    let both = length-filter_both test (λ (row : Row). not (test row)) (λ row. refl) rows in
    omega (arith, both)

-- so a scan that begins has few
pub few_begun : (scan : Scan) (rows : List Row) → scan.count ≡ 0 → length rows ≤ 1000000 → IsFew scan rows
few_begun scan rows none few = let left : length (rows_left scan rows) ≤ length rows = few_left scan rows in omega (arith, none, few, left)

pub few_count : (scan : Scan) (rows : List Row) → IsFew scan rows → scan.count < last_count
few_count scan rows few = let less : scan.count + length (rows_left scan rows) < last_count = few in omega (arith, less)

-- ---- one row more

abbrev given : List Row → List Reply
given rows = map (λ (row : Row). reply.Row row.0 row.1) rows

count_given : (rows : List Row) (last : Reply) → length (given rows ++ last ∷ []) ≡ length rows + 1
count_given rows last = let whole = length-append (given rows) (last ∷ []) in let same = length-map rows (λ (row : Row). reply.Row row.0 row.1) in omega (arith, whole, same)

replies_of : (scan : Scan) (rows : List Row) → scan.over ≡ false → scan_replies scan rows ≡ given (rows_left scan rows) ++ reply.Finish (scan.count + length (rows_left scan rows)) ∷ []
replies_of scan rows still = ap (λ (b : Bool). cond b [] (given (rows_left scan rows) ++ reply.Finish (scan.count + length (rows_left scan rows)) ∷ [])) still

count_replies : (scan : Scan) (rows : List Row) → scan.over ≡ false → length (scan_replies scan rows) ≡ length (rows_left scan rows) + 1
count_replies scan rows still = ap length (replies_of scan rows still) ∙ count_given (rows_left scan rows) (reply.Finish (scan.count + length (rows_left scan rows)))

few_behind : (scan : Scan) (rows : List Row) (key : ℕ) (r : Reply) → scan.over ≡ false → IsFew scan rows → scan_replies scan rows ≡ r ∷ scan_replies (behind key scan) rows → IsFew (behind key scan) rows
few_behind scan rows key r still few is =
    let before : length (scan_replies scan rows) ≡ length (rows_left scan rows) + 1 = count_replies scan rows still in
    let after : length (scan_replies (behind key scan) rows) ≡ length (rows_left (behind key scan) rows) + 1 = count_replies (behind key scan) rows still in
    let same : length (scan_replies scan rows) ≡ 1 + length (scan_replies (behind key scan) rows) = ap length is ∙ omega arith in
    let count : (behind key scan).count ≤ scan.count + 1 = at_most scan.count last_count in
    let less : scan.count + length (rows_left scan rows) < last_count = few in
    omega (arith, before, after, same, count, less)
  where
    at_most : (n last : ℕ) → min (n + 1) last ≤ n + 1
    at_most n last = omega arith

pub few_next : (scan next : Scan) (rows : List Row) (r : Reply) → scan.over ≡ false → IsFew scan rows → Gives scan r next → scan_replies scan rows ≡ r ∷ scan_replies next rows → IsFew next rows
few_next scan next rows (reply.Row key value) still few gives is =
    subst (λ (x : Scan). IsFew x rows) (sym gives.2) (few_behind scan rows key (reply.Row key value) still few (subst (λ (x : Scan). scan_replies scan rows ≡ reply.Row key value ∷ scan_replies x rows) gives.2 is))
few_next scan next rows (reply.Finish n) still few gives is = subst (λ (x : Scan). IsFew x rows) (sym gives.1) few
few_next scan next rows reply.Fine still few gives is = absurd gives
few_next scan next rows (reply.Found v) still few gives is = absurd gives
few_next scan next rows reply.Absent still few gives is = absurd gives
few_next scan next rows (reply.Committed n) still few gives is = absurd gives
few_next scan next rows reply.Aborted still few gives is = absurd gives
few_next scan next rows (reply.Refused r) still few gives is = absurd gives

-- at the end nothing is left
pub none_left : (scan : Scan) (rows : List Row) → scan.over ≡ true → text (scan_replies scan rows) ≡ []
none_left scan rows over = ap (λ (b : Bool). text (cond b [] (given (rows_left scan rows) ++ reply.Finish (scan.count + length (rows_left scan rows)) ∷ []))) over

pub same_name : (scan next : Scan) (r : Reply) → Gives scan r next → next.name ≡ scan.name
same_name scan next (reply.Row key value) gives = ap (λ (x : Scan). x.name) gives.2
same_name scan next (reply.Finish n) gives = ap (λ (x : Scan). x.name) gives.1
same_name scan next reply.Fine gives = absurd gives
same_name scan next (reply.Found v) gives = absurd gives
same_name scan next reply.Absent gives = absurd gives
same_name scan next (reply.Committed n) gives = absurd gives
same_name scan next reply.Aborted gives = absurd gives
same_name scan next (reply.Refused r) gives = absurd gives

-- ---- how far the rows were sent

-- Each moment so far is safe, and the replies that are left are owed.
pub record Gave (aim : Aim) (engine : Engine) (s : State) (scan : Scan) (rows : List Row) (commands : List (Option Command)) (old mid : Standing) : Type 0 where
  pub few : IsFew scan rows
  pub safe : AreSafe aim old mid
  pub owes : Owes aim engine s (text (scan_replies scan rows)) commands mid

module _ (aim : Aim) (engine : Engine) (s : State) (scan : Scan) (rows : List Row) (commands : List (Option Command)) (old mid : Standing) (gave : Gave aim engine s scan rows commands old mid)
    (timed : IsTimed mid) (told : IsTrue mid.told) (after : Engine) (new : Standing) where
  -- a row is asked for
  pub asked_safe : {T : Type 0} (r : Result T Stop) → Does (λ (x : State). x) engine mid after new r → AreSafe aim old new
  asked_safe r does = safe_then gave.safe (Goes-on does.goes) (does_safe aim engine after s (text (scan_replies scan rows)) commands mid gave.owes (λ (x : State). x) new r refl timed told does)

  -- and given
  pub asked_owes : (r : Reply) (next : Scan) (bytes : List ℕ) → Does (λ (x : State). x) engine mid after new (Ok r) → scan_replies scan rows ≡ r ∷ scan_replies next rows → reply_text r ≡ bytes
      → Owes aim after s (bytes ++ text (scan_replies next rows)) commands new
  asked_owes r next bytes does is said =
      subst (λ (l : List ℕ). Owes aim after s (l ++ text (scan_replies next rows)) commands new) said
      (subst (λ (l : List Reply). Owes aim after s (text l) commands new) is (does_owes aim engine after s (text (scan_replies scan rows)) commands mid gave.owes new r timed told does))

  -- and sent
  pub sent_row : {T : Type 0} (r : Reply) (next : Scan) (last : Standing) (v : T) → scan.over ≡ false → Gives scan r next → Does (λ (x : State). x) engine mid after new (Ok r) → scan_replies scan rows ≡ r ∷ scan_replies next rows
      → GoesOn new last → Proceeds aim after s (text (scan_replies next rows)) commands new last (Ok v) → Gave aim after s next rows commands old last
  sent_row r next last v still gives does is goes says = record {
    few = few_next scan next rows r still gave.few gives is;
    safe = safe_then (asked_safe (Ok r) does) goes says.safe;
    owes = says.ok;
  }

-- ---- why a search for a row stops

pub row_stops : {T : Type 0} (old : Engine) (a : Standing) (new : Engine) (b : Standing) (r : Result T Stop)
    → HasStopCause (IsRowDamage old a (evidence_bytes new)) (shown old a) (shown new b) r → Stops old a new b r
row_stops old a new b (Ok v) it = record { failed = tt; kept = it.kept }
row_stops old a new b (Err Nvm) it = record { failed = it.failed; kept = tt }
row_stops old a new b (Err Ssd) it = record { failed = it.failed; kept = tt }
row_stops old a new b (Err (Damaged e)) it = record { failed = inl it.failed; kept = tt }

-- ---- a line that leads to a scan leaves the state

abbrev is_end : Reply → Bool
is_end (reply.Finish n) = true
is_end _ = false

-- a step with such a reply leaves the state
abbrev Leaves : State → State × List Reply → Type 0
Leaves s r = list_any is_end r.1 ≡ true → r.0 ≡ s

leaves_cond : (s : State) (b : Bool) (x y : State × List Reply) → Leaves s x → Leaves s y → Leaves s (cond b x y)
leaves_cond s true x y hx hy = hx
leaves_cond s false x y hx hy = hy

no_end : {P : Type 0} → false ≡ true → P
no_end h = absurd (cc)

leaves_accepted : (s : State) (c : Command) → Leaves s (accepted s c)
leaves_accepted s command.Begin h = no_end h
leaves_accepted s (command.Create t) h = no_end h
leaves_accepted s (command.Put t k v) h = no_end h
leaves_accepted s (command.Del t k) h =
    leaves_cond s (has_row k (rows_in t s)) (written (with_rows t (row_delete k (rows_in t s)) (current s)) s, reply.Fine ∷ []) (s, reply.Absent ∷ []) (λ e. no_end e) (λ e. refl) h
leaves_accepted s (command.Get t k) h = refl
leaves_accepted s (command.Scan t low high) h = refl
leaves_accepted s command.Commit h = no_end h
leaves_accepted s command.Abort h = no_end h
leaves_accepted s command.Checkpoint h = refl
leaves_accepted s command.Drain h = refl
leaves_accepted s (command.Clean n) h = refl

leaves_judged : (o : Option Reason) (s : State) (c : Command) → Leaves s (judged o s c)
leaves_judged None s c h = leaves_accepted s c h
leaves_judged (Some r) s c h = refl

leaves_step : (bounds : Bounds) (s : State) (c : Option Command) → Leaves s (step bounds s c)
leaves_step bounds s None h = refl
leaves_step bounds s (Some c) h = leaves_judged (refusal bounds s c) s c h

-- the replies of a scan that is not over have an end
scan_ends : (scan : Scan) (rows : List Row) → scan.over ≡ false → list_any is_end (scan_replies scan rows) ≡ true
scan_ends scan rows still =
    ap (list_any is_end) (replies_of scan rows still) ∙ list_any-append is_end (given (rows_left scan rows)) (reply.Finish (scan.count + length (rows_left scan rows)) ∷ [])
    ∙ last (list_any is_end (given (rows_left scan rows)))
  where
    last : (b : Bool) → (b || true) ≡ true
    last true = refl
    last false = refl

pub scan_still : (bounds : Bounds) (s : State) (line : List ℕ) (scan : Scan) (rows : List Row) → scan.over ≡ false → scan_replies scan rows ≡ run.replies (machine bounds) s (command_in line)
    → run.state_after (machine bounds) s (command_in line) ≡ s
scan_still bounds s line scan rows still is = by_silence (is_silent line) (sym (ap (list_any is_end) is) ∙ scan_ends scan rows still)
  where
    by_silence : (b : Bool) → list_any is_end (run.replies (machine bounds) s (cond b [] (command_of line ∷ []))) ≡ true → run.state_after (machine bounds) s (cond b [] (command_of line ∷ [])) ≡ s
    by_silence true h = no_end h
    by_silence false h = leaves_step bounds s (command_of line) (sym (ap (list_any is_end) (append-nil (step bounds s (command_of line)).1)) ∙ h)

-- A line that leads to a scan: its replies are owed over the tables that stand behind it, and there are few.
module _ (aim : Aim) (engine after : Engine) (s : State) (line : List ℕ) (commands : List (Option Command)) (old : Standing) (owes : Owes aim engine s [] (command_in line ++ commands) old)
    (new : Standing) (scan : Scan) (timed : IsTimed old) (told : IsTrue old.told) where
  abbrev behind_line : State
  behind_line = after_line engine (command_in line) s

  pub scan_owed : {T : Type 0} (x : T) → Does (after_line engine (command_in line)) engine old after new (Ok x) → scan.over ≡ false
      → scan_replies scan (rows_or_none scan.name (current s)) ≡ run.replies (machine (bounds_in (engine_sizes engine))) s (command_in line)
      → Owes aim after (after_line engine (command_in line) s) (text (scan_replies scan (rows_or_none scan.name (current (after_line engine (command_in line) s))))) commands new
  scan_owed x does still is =
      let same = scan_still (bounds_in (engine_sizes engine)) s line scan (rows_or_none scan.name (current s)) still is in
      answered aim engine after s line commands old owes new x (text (scan_replies scan (rows_or_none scan.name (current behind_line)))) timed told does
      (ap text (sym is) ∙ ap (λ (t : State). text (scan_replies scan (rows_or_none scan.name (current t)))) (sym same))

  pub scan_few : {bytes : List ℕ} → Owes aim after (after_line engine (command_in line) s) bytes commands new → scan.count ≡ 0 → IsFew scan (rows_or_none scan.name (current (after_line engine (command_in line) s)))
  scan_few owed none = few_begun scan (rows_or_none scan.name (current behind_line)) none (few_held _ _ (current behind_line) scan.name owed.shows.seen)
