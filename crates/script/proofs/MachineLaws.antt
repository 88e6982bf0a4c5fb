-- The plain machine: what its steps keep.
use Rattle.std.proofs.Common.{◌≡◌, ℕ, suc, ◌+◌, Bool, true, false, cond, List, [], ◌∷◌, ◌++◌, length, refl, ap, ◌∙◌, Option, Some, None}
use Rattle.std.specs.List.{list_any}
use Rattle.std.specs.Prelude.{is_some, map, option_map}
use Rattle.rows.specs.Rows.{Row, row_get, row_put, row_delete}
use Rattle.script.specs.Tables.{has_row, row_range}
use Rattle.texts.specs.Runs.{versions, commits}
use Rattle.script.specs.Replies.{is_committed}
use Rattle.script.specs.Machine.{Bounds, Open, State, refusal, accepted, judged, step, current, rows_in, written, found}
use Rattle.script.specs.Script.{machine}
use Rattle.rows.specs.Tables.{Table}
use Rattle.rows.specs.Tables.{with_rows}
use Rattle.script.specs.Tables.{with_table}
use Rattle.script.specs.declared.command.Command.{Command}
use Rattle.script.specs.declared.command.Command.TheVariants.{Create, Begin, Put, Del, Get, Scan, Commit, Abort, Checkpoint, Drain, Clean}
use Rattle.script.specs.declared.command.Reason.{Reason}
use Rattle.script.specs.declared.command.Reply.{Reply}
use Rattle.script.specs.declared.command.Reply.TheVariants as reply
use Rattle.script.specs.declared.command.Reply.TheVariants.{Fine, Absent, Finish}

-- the committed tables change only where a commit is told
cond_tables : (tables : List Table) (b : Bool) (x y : State × List Reply) → x.0.tables ≡ tables → y.0.tables ≡ tables → (cond b x y).0.tables ≡ tables
cond_tables tables true x y hx hy = hx
cond_tables tables false x y hx hy = hy

accepted_keeps : (s : State) (c : Command) → list_any is_committed (accepted s c).1 ≡ false → (accepted s c).0.tables ≡ s.tables
accepted_keeps s Commit h = absurd cc
accepted_keeps s (Del t k) h = cond_tables s.tables (has_row k (rows_in t s)) (written (with_rows t (row_delete k (rows_in t s)) (current s)) s, Fine ∷ []) (s, Absent ∷ []) refl refl
accepted_keeps s _ h = refl

judged_keeps : (o : Option Reason) (s : State) (c : Command) → list_any is_committed (judged o s c).1 ≡ false → (judged o s c).0.tables ≡ s.tables
judged_keeps None s c h = accepted_keeps s c h
judged_keeps (Some r) s c h = refl

pub step_keeps : (bounds : Bounds) (s : State) (c : Option Command) → list_any is_committed (step bounds s c).1 ≡ false → (step bounds s c).0.tables ≡ s.tables
step_keeps bounds s None h = refl
step_keeps bounds s (Some c) h = judged_keeps (refusal bounds s c) s c h

-- ---- what is open, and what is told, follows from the commands alone

abbrev pub is_open : State → Bool
is_open s = is_some s.transaction

abbrev pub tells : State × List Reply → Bool
tells r = list_any is_committed r.1

-- whether a command tells of a commit, and whether a transaction is open after it
abbrev pub signal : Option Command → Bool → Bool × Bool
signal (Some Begin) o = (false, true)
signal (Some Commit) o = (o, false)
signal (Some Abort) o = (false, false)
signal _ o = (false, o)

no_row_tells : (rows : List Row) (rest : List Reply) → list_any is_committed (map (λ (row : Row). reply.Row row.0 row.1) rows ++ rest) ≡ list_any is_committed rest
no_row_tells [] rest = refl
no_row_tells (row ∷ rows) rest = no_row_tells rows rest

written_open : (tables : List Table) (s : State) → is_open (written tables s) ≡ is_open s
written_open tables s = still s.transaction
  where
    still : (o : Option Open) → is_some (option_map (λ (o : Open). let r : Open = record { tables = tables; writes = o.writes + 1 } in r) o) ≡ is_some o
    still None = refl
    still (Some o) = refl

-- a command that neither begins nor ends a transaction
pub record Quiet (s : State) (r : State × List Reply) : Type 0 where
  pub silent : tells r ≡ false
  pub same : is_open r.0 ≡ is_open s

quiet_cond : (s : State) (b : Bool) (x y : State × List Reply) → Quiet s x → Quiet s y → Quiet s (cond b x y)
quiet_cond s true x y hx hy = hx
quiet_cond s false x y hx hy = hy

quiet_found : (s : State) (o : Option (List ℕ)) → Quiet s (s, found o ∷ [])
quiet_found s None = record { silent = refl; same = refl }
quiet_found s (Some v) = record { silent = refl; same = refl }

quiet_judged : (o : Option Reason) (s : State) (c : Command) → Quiet s (accepted s c) → Quiet s (judged o s c)
quiet_judged None s c h = h
quiet_judged (Some r) s c h = record { silent = refl; same = refl }

signal_quiet : (bounds : Bounds) (s : State) (c : Command) → Quiet s (accepted s c) → (tells (step bounds s (Some c)) ≡ false) × (is_open (step bounds s (Some c)).0 ≡ is_open s)
signal_quiet bounds s c h = let q = quiet_judged (refusal bounds s c) s c h in (q.silent, q.same)

begin_signal : (o : Option Open) (s : State) → s.transaction ≡ o → (bounds : Bounds) → (tells (step bounds s (Some Begin)) ≡ false) × (is_open (step bounds s (Some Begin)).0 ≡ true)
begin_signal None s e bounds = rw e (refl, refl)
begin_signal (Some o) s e bounds = rw e (refl, refl)

commit_signal : (o : Option Open) (s : State) → s.transaction ≡ o → (bounds : Bounds) → (tells (step bounds s (Some Commit)) ≡ is_some o) × (is_open (step bounds s (Some Commit)).0 ≡ false)
commit_signal None s e bounds = rw e (refl, refl)
commit_signal (Some o) s e bounds = rw e (refl, refl)

abort_signal : (o : Option Open) (s : State) → s.transaction ≡ o → (bounds : Bounds) → (tells (step bounds s (Some Abort)) ≡ false) × (is_open (step bounds s (Some Abort)).0 ≡ false)
abort_signal None s e bounds = rw e (refl, refl)
abort_signal (Some o) s e bounds = rw e (refl, refl)

pub step_signal : (bounds : Bounds) (s : State) (c : Option Command) →
    (tells (step bounds s c) ≡ (signal c (is_open s)).0) × (is_open (step bounds s c).0 ≡ (signal c (is_open s)).1)
step_signal bounds s None = (refl, refl)
step_signal bounds s (Some Begin) = begin_signal s.transaction s refl bounds
step_signal bounds s (Some Commit) = commit_signal s.transaction s refl bounds
step_signal bounds s (Some Abort) = abort_signal s.transaction s refl bounds
step_signal bounds s (Some (Create t)) = signal_quiet bounds s (Create t) (record { silent = refl; same = written_open (with_table t (current s)) s })
step_signal bounds s (Some (Put t k v)) = signal_quiet bounds s (Put t k v) (record { silent = refl; same = written_open (with_rows t (row_put k v (rows_in t s)) (current s)) s })
step_signal bounds s (Some (Del t k)) = signal_quiet bounds s (Del t k)
    (quiet_cond s (has_row k (rows_in t s)) (written (with_rows t (row_delete k (rows_in t s)) (current s)) s, Fine ∷ []) (s, Absent ∷ [])
    (record { silent = refl; same = written_open (with_rows t (row_delete k (rows_in t s)) (current s)) s }) (record { silent = refl; same = refl }))
step_signal bounds s (Some (Get t k)) = signal_quiet bounds s (Get t k) (quiet_found s (row_get k (rows_in t s)))
step_signal bounds s (Some (Scan t low high)) = signal_quiet bounds s (Scan t low high)
    (record { silent = no_row_tells (row_range low high (rows_in t s)) (Finish (length (row_range low high (rows_in t s))) ∷ []); same = refl })
step_signal bounds s (Some Checkpoint) = signal_quiet bounds s Checkpoint (record { silent = refl; same = refl })
step_signal bounds s (Some Drain) = signal_quiet bounds s Drain (record { silent = refl; same = refl })
step_signal bounds s (Some (Clean n)) = signal_quiet bounds s (Clean n) (record { silent = refl; same = refl })

-- how many commits are accepted, by the commands alone
abbrev pub commits_of : Bool → List (Option Command) → ℕ
commits_of o [] = 0
commits_of o (c ∷ cs) = cond (signal c o).0 (suc (commits_of (signal c o).1 cs)) (commits_of (signal c o).1 cs)

pub commits_from : (bounds : Bounds) (s : State) (cs : List (Option Command)) → commits (machine bounds) s cs ≡ commits_of (is_open s) cs
commits_from bounds s [] = refl
commits_from bounds s (c ∷ cs) =
    let g = step_signal bounds s c in
    let rest : commits (machine bounds) (step bounds s c).0 cs ≡ commits_of (signal c (is_open s)).1 cs = commits_from bounds (step bounds s c).0 cs ∙ ap (λ o. commits_of o cs) g.1 in
    rw g.0 (elim (signal c (is_open s)).0 as (λ b. length (cond b ((step bounds s c).0.tables ∷ versions (machine bounds) (step bounds s c).0 cs) (versions (machine bounds) (step bounds s c).0 cs)) ≡ cond b (suc (commits_of (signal c (is_open s)).1 cs)) (commits_of (signal c (is_open s)).1 cs))
    [ true ↦ ap suc rest | false ↦ rest ])
