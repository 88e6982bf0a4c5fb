-- Each commit is one whole transaction.
use Rattle.std.proofs.Common.{◌≡◌, ℕ, zero, suc, ◌+◌, ◌<◌, append_assoc, Bool, true, false, cond, List, [], ◌∷◌, ◌++◌, get_or, refl, ap, sym, ◌∙◌, arith, Option, Some, None, inl, inr, ◌⊎◌, subst}
use Rattle.std.proofs.lemmas.Bool.{cases_Bool}
use Rattle.std.proofs.lemmas.List.{get_or_default}
use Rattle.rows.specs.Rows.{row_delete}
use Rattle.script.specs.Tables.{has_row}
use Rattle.rows.specs.Tables.{Table}
use Rattle.rows.specs.Tables.{with_rows}
use Rattle.texts.specs.Runs as run
use Rattle.script.specs.Machine.{Bounds, Open, State, opening, refusal, accepted, judged, step, current, rows_in, written}
use Rattle.script.specs.Script.{machine}
use Rattle.script.specs.Laws.{begun, StaysOpen, IsTransaction}
use Rattle.script.specs.declared.command.Command.{Command}
use Rattle.script.specs.declared.command.Command.TheVariants.{Create, Begin, Put, Del, Get, Scan, Commit, Abort, Checkpoint, Drain, Clean}
use Rattle.script.specs.declared.command.Reason.{Reason}
use Rattle.script.specs.declared.command.Reply.{Reply}
use Rattle.script.specs.declared.command.Reply.TheVariants.{Fine, Absent}
use Rattle.texts.proofs.RunsLaws.{state_after-append}
use Rattle.script.proofs.MachineLaws.{is_open, tells, signal, step_signal, step_keeps}

-- ---- the number of commits

cond_commits : (n : ℕ) (b : Bool) (x y : State × List Reply) → x.0.commits ≡ n → y.0.commits ≡ n → (cond b x y).0.commits ≡ n
cond_commits n true x y hx hy = hx
cond_commits n false x y hx hy = hy

accepted_commits : (s : State) (c : Command) → tells (accepted s c) ≡ false → (accepted s c).0.commits ≡ s.commits
accepted_commits s Commit h = absurd cc
accepted_commits s (Del t k) h = cond_commits s.commits (has_row k (rows_in t s)) (written (with_rows t (row_delete k (rows_in t s)) (current s)) s, Fine ∷ []) (s, Absent ∷ []) refl refl
accepted_commits s _ h = refl

judged_commits : (o : Option Reason) (s : State) (c : Command) → tells (judged o s c) ≡ false → (judged o s c).0.commits ≡ s.commits
judged_commits None s c h = accepted_commits s c h
judged_commits (Some r) s c h = refl

step_commits : (bounds : Bounds) (s : State) (c : Option Command) → tells (step bounds s c) ≡ false → (step bounds s c).0.commits ≡ s.commits
step_commits bounds s None h = refl
step_commits bounds s (Some c) h = judged_commits (refusal bounds s c) s c h

-- ---- what is open was begun, and led to where it is

-- A transaction over these tables, so many commits behind the start, was begun by one of the commands so far, stayed open by
-- those behind it, and led to a state.
record IsBegun (bounds : Bounds) (first : State) (done : List (Option Command)) (tables : List Table) (count : ℕ) (s : State) : Type 0 where
  before : List (Option Command)
  body : List (Option Command)
  done_is : done ≡ before ++ (Some Begin ∷ body)
  stands : run.state_after (machine bounds) first before ≡ record { tables = tables; transaction = None; commits = count }
  stays_open : StaysOpen bounds (begun tables count) body
  led : run.state_after (machine bounds) (begun tables count) body ≡ s

-- the commands so far led to a state, and where a transaction is open there it was begun by them
record Since (bounds : Bounds) (first : State) (done : List (Option Command)) (s : State) : Type 0 where
  reached : run.state_after (machine bounds) first done ≡ s
  begun_by : is_open s ≡ true → IsBegun bounds first done s.tables s.commits s

Since-none : (bounds : Bounds) (s : State) → is_open s ≡ false → Since bounds s [] s
Since-none bounds s closed = record { reached = refl; begun_by = λ e. absurd (let f : false ≡ true = sym closed ∙ e in cc) }

-- one command more that leaves it open
StaysOpen-append : (bounds : Bounds) (s : State) (cs : List (Option Command)) (c : Option Command) → StaysOpen bounds s cs →
    is_open (run.state_after (machine bounds) s (cs ++ c ∷ [])) ≡ true → StaysOpen bounds s (cs ++ c ∷ [])
StaysOpen-append bounds s [] c so_far last = (so_far, last)
StaysOpen-append bounds s (x ∷ cs) c so_far last = (so_far.0, StaysOpen-append bounds (step bounds s x).0 cs c so_far.1 last)

quietly : (bounds : Bounds) (s : State) (c : Option Command) → (signal c (is_open s)) ≡ (false, is_open s) → is_open (step bounds s c).0 ≡ true →
    (is_open s ≡ true) × (tells (step bounds s c) ≡ false)
quietly bounds s c q h =
    let g = step_signal bounds s c in
    (sym (g.1 ∙ ap (λ (p : Bool × Bool). p.1) q) ∙ h, g.0 ∙ ap (λ (p : Bool × Bool). p.0) q)

-- a `begin` that is taken, or a command in a transaction that stays open
abbrev Opens : Bounds → State → Option Command → Type 0
Opens bounds s c =
    ((c ≡ Some Begin) × (s.transaction ≡ None) × ((step bounds s c).0 ≡ begun s.tables s.commits))
    ⊎ ((is_open s ≡ true) × (tells (step bounds s c) ≡ false))

begin_opened : (o : Option Open) (bounds : Bounds) (s : State) → s.transaction ≡ o → Opens bounds s (Some Begin)
begin_opened None bounds s e = inl (refl, e, rw e refl)
begin_opened (Some o) bounds s e = inr (rw e refl, rw e refl)

opened : (bounds : Bounds) (s : State) (c : Option Command) → is_open (step bounds s c).0 ≡ true → Opens bounds s c
opened bounds s (Some Begin) h = begin_opened s.transaction bounds s refl
opened bounds s (Some Commit) h = absurd (let f = (step_signal bounds s (Some Commit)).1 in cc)
opened bounds s (Some Abort) h = absurd (let f = (step_signal bounds s (Some Abort)).1 in cc)
opened bounds s None h = inr (quietly bounds s None refl h)
opened bounds s (Some (Create t)) h = inr (quietly bounds s (Some (Create t)) refl h)
opened bounds s (Some (Put t k v)) h = inr (quietly bounds s (Some (Put t k v)) refl h)
opened bounds s (Some (Del t k)) h = inr (quietly bounds s (Some (Del t k)) refl h)
opened bounds s (Some (Get t k)) h = inr (quietly bounds s (Some (Get t k)) refl h)
opened bounds s (Some (Scan t low high)) h = inr (quietly bounds s (Some (Scan t low high)) refl h)
opened bounds s (Some Checkpoint) h = inr (quietly bounds s (Some Checkpoint) refl h)
opened bounds s (Some Drain) h = inr (quietly bounds s (Some Drain) refl h)
opened bounds s (Some (Clean n)) h = inr (quietly bounds s (Some (Clean n)) refl h)

closed_state : (s : State) → s.transaction ≡ None → s ≡ record { tables = s.tables; transaction = None; commits = s.commits }
closed_state s e = ap (λ (o : Option Open). let x : State = record { tables = s.tables; transaction = o; commits = s.commits } in x) e

-- what stands behind a `begin`
begins : (bounds : Bounds) (first : State) (done : List (Option Command)) (s : State) → run.state_after (machine bounds) first done ≡ s →
    s.transaction ≡ None → IsBegun bounds first (done ++ Some Begin ∷ []) s.tables s.commits (begun s.tables s.commits)
begins bounds first done s reached closed = record {
  before = done;
  body = [];
  done_is = refl;
  stands = reached ∙ closed_state s closed;
  stays_open = refl;
  led = refl;
}

-- what stands behind a command more of the body
goes_on : (bounds : Bounds) (first : State) (done : List (Option Command)) (tables : List Table) (count : ℕ) (s : State) (c : Option Command) →
    IsBegun bounds first done tables count s → is_open (step bounds s c).0 ≡ true → IsBegun bounds first (done ++ c ∷ []) tables count (step bounds s c).0
goes_on bounds first done tables count s c b still =
    let led : run.state_after (machine bounds) (begun tables count) (b.body ++ c ∷ []) ≡ (step bounds s c).0 =
    state_after-append (machine bounds) (begun tables count) b.body (c ∷ []) ∙ ap (λ (t : State). (step bounds t c).0) b.led in
    record {
      before = b.before;
      body = b.body ++ c ∷ [];
      done_is = ap (λ (d : List (Option Command)). d ++ c ∷ []) b.done_is ∙ append_assoc b.before (Some Begin ∷ b.body) (c ∷ []);
      stands = b.stands;
      stays_open = StaysOpen-append bounds (begun tables count) b.body c b.stays_open (ap is_open led ∙ still);
      led = led;
    }

-- either way, over the tables and the count of the state behind it
began : (bounds : Bounds) (first : State) (done : List (Option Command)) (s : State) (c : Option Command) → Since bounds first done s →
    is_open (step bounds s c).0 ≡ true → Opens bounds s c →
    IsBegun bounds first (done ++ c ∷ []) (step bounds s c).0.tables (step bounds s c).0.commits (step bounds s c).0
began bounds first done s c since h (inl o) =
    subst (λ (x : Option Command). IsBegun bounds first (done ++ x ∷ []) (step bounds s c).0.tables (step bounds s c).0.commits (step bounds s c).0) (sym o.0)
    (subst (λ (t : State). IsBegun bounds first (done ++ Some Begin ∷ []) t.tables t.commits t) (sym o.2) (begins bounds first done s since.reached o.1))
began bounds first done s c since h (inr o) =
    subst (λ (T : List Table). IsBegun bounds first (done ++ c ∷ []) T (step bounds s c).0.commits (step bounds s c).0) (sym (step_keeps bounds s c o.1))
    (subst (λ (n : ℕ). IsBegun bounds first (done ++ c ∷ []) s.tables n (step bounds s c).0) (sym (step_commits bounds s c o.1))
    (goes_on bounds first done s.tables s.commits s c (since.begun_by o.0) h))

Since-step : (bounds : Bounds) (first : State) (done : List (Option Command)) (s : State) (c : Option Command) → Since bounds first done s →
    Since bounds first (done ++ c ∷ []) (step bounds s c).0
Since-step bounds first done s c since = record {
  reached = state_after-append (machine bounds) first done (c ∷ []) ∙ ap (λ (t : State). (step bounds t c).0) since.reached;
  begun_by = λ h. began bounds first done s c since h (opened bounds s c h);
}

-- ---- a step that commits

-- a `commit` that is taken: it makes the copy into the tables, and counts one more
abbrev Commits : Bounds → State → Option Command → Type 0
Commits bounds s c =
    (c ≡ Some Commit) × (copy : Open) × (s.transaction ≡ Some copy) × ((step bounds s c).0.tables ≡ copy.tables)
    × ((step bounds s c).0.commits ≡ s.commits + 1)

commit_made : (o : Option Open) (bounds : Bounds) (s : State) → s.transaction ≡ o → tells (step bounds s (Some Commit)) ≡ true → Commits bounds s (Some Commit)
commit_made None bounds s e h = absurd (let f : false ≡ true = rw e at h in cc)
commit_made (Some o) bounds s e h = (refl, o, e, rw e refl, rw e refl)

untold : (bounds : Bounds) (s : State) (c : Option Command) (b : Bool) → signal c (is_open s) ≡ (false, b) → tells (step bounds s c) ≡ true → ⊥
untold bounds s c b q h = let g = (step_signal bounds s c).0 ∙ ap (λ (p : Bool × Bool). p.0) q in let f : false ≡ true = sym g ∙ h in cc

made : (bounds : Bounds) (s : State) (c : Option Command) → tells (step bounds s c) ≡ true → Commits bounds s c
made bounds s (Some Commit) h = commit_made s.transaction bounds s refl h
made bounds s (Some Begin) h = absurd (untold bounds s (Some Begin) true refl h)
made bounds s (Some Abort) h = absurd (untold bounds s (Some Abort) false refl h)
made bounds s None h = absurd (untold bounds s None (is_open s) refl h)
made bounds s (Some (Create t)) h = absurd (untold bounds s (Some (Create t)) (is_open s) refl h)
made bounds s (Some (Put t k v)) h = absurd (untold bounds s (Some (Put t k v)) (is_open s) refl h)
made bounds s (Some (Del t k)) h = absurd (untold bounds s (Some (Del t k)) (is_open s) refl h)
made bounds s (Some (Get t k)) h = absurd (untold bounds s (Some (Get t k)) (is_open s) refl h)
made bounds s (Some (Scan t low high)) h = absurd (untold bounds s (Some (Scan t low high)) (is_open s) refl h)
made bounds s (Some Checkpoint) h = absurd (untold bounds s (Some Checkpoint) (is_open s) refl h)
made bounds s (Some Drain) h = absurd (untold bounds s (Some Drain) (is_open s) refl h)
made bounds s (Some (Clean n)) h = absurd (untold bounds s (Some (Clean n)) (is_open s) refl h)

IsTransaction-step : (bounds : Bounds) (first : State) (done : List (Option Command)) (s : State) (c : Option Command) (cs : List (Option Command)) →
    Since bounds first done s → tells (step bounds s c) ≡ true → IsTransaction bounds first (done ++ c ∷ cs) s.commits s.tables (step bounds s c).0.tables
IsTransaction-step bounds first done s c cs since h =
    let m : Commits bounds s c = made bounds s c h in
    let b : IsBegun bounds first done s.tables s.commits s = since.begun_by (rw m.2 refl) in
    record {
      before = b.before;
      body = b.body;
      rest = cs;
      script_is =
          ap (λ (x : Option Command). done ++ x ∷ cs) m.0 ∙ ap (λ (d : List (Option Command)). d ++ Some Commit ∷ cs) b.done_is
          ∙ append_assoc b.before (Some Begin ∷ b.body) (Some Commit ∷ cs);
      stands = b.stands;
      stays_open = b.stays_open;
      copy = m.1;
      led = ap (λ (t : State). t.transaction) b.led ∙ m.2;
      made = sym m.3;
    }

-- ---- every commit of a run

-- the first commit is this step's, and the later ones are those of the rest
told : (bounds : Bounds) (first : State) (done : List (Option Command)) (s : State) (c : Option Command) (cs : List (Option Command)) (k : ℕ) →
    Since bounds first done s → tells (step bounds s c) ≡ true → k < suc (run.commits (machine bounds) (step bounds s c).0 cs) →
    ((j : ℕ) → j < run.commits (machine bounds) (step bounds s c).0 cs → IsTransaction bounds first (done ++ c ∷ cs) ((step bounds s c).0.commits + j)
    (run.after (machine bounds) (step bounds s c).0 cs j) (run.after (machine bounds) (step bounds s c).0 cs (suc j))) →
    IsTransaction bounds first (done ++ c ∷ cs) (s.commits + k) (run.after (machine bounds) s (c ∷ cs) k) (run.after (machine bounds) s (c ∷ cs) (suc k))
told bounds first done s c cs zero since e l rest =
    let still : s.commits + zero ≡ s.commits = omega arith in
    rw (e, still) (IsTransaction-step bounds first done s c cs since e)
told bounds first done s c cs (suc k) since e l rest =
    let t : State = (step bounds s c).0 in
    let vs : List (List Table) = t.tables ∷ run.versions (machine bounds) t cs in
    let more : s.commits + suc k ≡ t.commits + k = let m = made bounds s c e in let one : t.commits ≡ s.commits + 1 = m.4 in omega arith in
    rw (e, more, get_or_default vs k s.tables t.tables (omega arith), get_or_default vs (suc k) s.tables t.tables (omega arith)) (rest k (omega arith))

-- a step that tells of no commit leaves what stands after each
after_quiet : (bounds : Bounds) (s : State) (c : Option Command) (cs : List (Option Command)) (j : ℕ) → tells (step bounds s c) ≡ false →
    run.after (machine bounds) s (c ∷ cs) j ≡ run.after (machine bounds) (step bounds s c).0 cs j
after_quiet bounds s c cs j e =
    let t : State = (step bounds s c).0 in
    rw e (ap (λ (T : List Table). get_or (T ∷ run.versions (machine bounds) t cs) j T) (sym (step_keeps bounds s c e)))

IsTransaction-after : (bounds : Bounds) (first : State) (done : List (Option Command)) (s : State) (cs : List (Option Command)) (k : ℕ) →
    Since bounds first done s → k < run.commits (machine bounds) s cs →
    IsTransaction bounds first (done ++ cs) (s.commits + k) (run.after (machine bounds) s cs k) (run.after (machine bounds) s cs (suc k))
IsTransaction-after bounds first done s [] k since h = absurd (omega arith)
IsTransaction-after bounds first done s (c ∷ cs) k since h =
    let later : (j : ℕ) → j < run.commits (machine bounds) (step bounds s c).0 cs → IsTransaction bounds first (done ++ c ∷ cs) ((step bounds s c).0.commits + j)
    (run.after (machine bounds) (step bounds s c).0 cs j) (run.after (machine bounds) (step bounds s c).0 cs (suc j)) =
    λ j l. subst (λ (all : List (Option Command)). IsTransaction bounds first all ((step bounds s c).0.commits + j)
    (run.after (machine bounds) (step bounds s c).0 cs j) (run.after (machine bounds) (step bounds s c).0 cs (suc j)))
    (append_assoc done (c ∷ []) cs)
    (IsTransaction-after bounds first (done ++ c ∷ []) (step bounds s c).0 cs j (Since-step bounds first done s c since) l) in
    elim (cases_Bool (tells (step bounds s c))) [
      | inl e ↦ told bounds first done s c cs k since e (rw e at h) later
      | inr e ↦
          let l : k < run.commits (machine bounds) (step bounds s c).0 cs = rw e at h in
          let same : (step bounds s c).0.commits + k ≡ s.commits + k = ap (λ (n : ℕ). n + k) (step_commits bounds s c e) in
          rw (after_quiet bounds s c cs k e, after_quiet bounds s c cs (suc k) e)
          (subst (λ (n : ℕ). IsTransaction bounds first (done ++ c ∷ cs) n (run.after (machine bounds) (step bounds s c).0 cs k)
          (run.after (machine bounds) (step bounds s c).0 cs (suc k))) same (later k l))
    ]

-- the same of a whole script, from the start on
pub IsTransaction-whole : (bounds : Bounds) (tables : List Table) (cs : List (Option Command)) (k : ℕ) → k < run.commits (machine bounds) (opening tables) cs →
    IsTransaction bounds (opening tables) cs k (run.after (machine bounds) (opening tables) cs k) (run.after (machine bounds) (opening tables) cs (suc k))
IsTransaction-whole bounds tables cs k h =
    let first : State = opening tables in
    let same : first.commits + k ≡ k = omega arith in
    subst (λ (n : ℕ). IsTransaction bounds first cs n (run.after (machine bounds) first cs k) (run.after (machine bounds) first cs (suc k))) same
    (IsTransaction-after bounds first [] first cs k (Since-none bounds first refl) h)
