-- What the promises of the top call need of a script, its replies and its commits.
use Rattle.std.proofs.Common.{◌≡◌, ℕ, ◌+◌, ◌≤◌, Bool, true, false, cond, List, [], ◌∷◌, ◌++◌, length, zero-add, refl, ap, ◌∙◌, arith, Option, Some, None}
use Rattle.std.proofs.lemmas.List.Sums.{sum_by-append}
use Rattle.std.specs.Prelude.{map, count_by, IfSome, ◌||◌}
use Rattle.std.specs.List.{AllByRecursion}
use Rattle.rows.specs.Rows.{Row, row_get}
use Rattle.script.specs.Tables.{has_row, row_range}
use Rattle.rows.specs.Tables.{Table}
use Rattle.script.specs.Tables.{AreTables}
use Rattle.script.specs.Grammar.{command_of, IsCommand}
use Rattle.script.specs.Replies.{text, is_committed, reply_line}
use Rattle.texts.specs.Output.{strip, acked}
use Rattle.texts.specs.Runs as run
use Rattle.script.specs.Machine.{Bounds, State, opening, refusal, accepted, judged, step, rows_in, found}
use Rattle.script.specs.Grammar.{commands}
use Rattle.script.specs.Script.{machine, replies, commits, after}
use Rattle.script.specs.declared.command.Command.{Command}
use Rattle.script.specs.declared.command.Command.TheVariants.{Create, Begin, Put, Del, Get, Scan, Commit, Abort, Checkpoint, Drain, Clean}
use Rattle.script.specs.declared.command.Reason.{Reason}
use Rattle.script.specs.declared.command.Reply.{Reply}
use Rattle.script.specs.declared.command.Reply.TheVariants as reply
use Rattle.script.specs.declared.command.Reply.TheVariants.{Finish}
use Rattle.texts.proofs.RunsLaws.{after_so_far, after_next}
use Rattle.script.proofs.GrammarLaws.{IsCommand-read, IsCommand-script}
use Rattle.script.specs.Replies.{IsReply}
use Rattle.texts.proofs.TextLaws.{strip-text, acked-text}
use Rattle.script.proofs.RepliesLaws.{are_lines}
use Rattle.texts.proofs.OutputLaws.{acked_prefix}
use Rattle.script.proofs.MachineLaws.{step_keeps, tells, commits_of, commits_from}
use Rattle.script.proofs.ValuesLaws.{IsState, IsResult-step, IsReply-replies}

-- ---- each commit has one reply

count-cons : (r : Reply) (rs : List Reply) → count_by is_committed (r ∷ rs) ≡ cond (is_committed r) 1 0 + count_by is_committed rs
count-cons r rs = sum_by-append (λ s. cond (is_committed s) 1 0) (r ∷ []) rs ∙ ap (λ n. n + count_by is_committed rs) (zero-add (cond (is_committed r) 1 0))

count-append : (rs qs : List Reply) → count_by is_committed (rs ++ qs) ≡ count_by is_committed rs + count_by is_committed qs
count-append rs qs = sum_by-append (λ s. cond (is_committed s) 1 0) rs qs

-- the replies tell of one commit at most
abbrev OneCommit : State × List Reply → Type 0
OneCommit r = count_by is_committed r.1 ≡ cond (tells r) 1 0

single : (s : State) (r : Reply) → OneCommit (s, r ∷ [])
single s r = elim (is_committed r) as (λ b. 0 + cond b 1 0 ≡ cond (b || false) 1 0) [ true ↦ refl | false ↦ refl ]

one-cond : (b : Bool) (x y : State × List Reply) → OneCommit x → OneCommit y → OneCommit (cond b x y)
one-cond true x y h k = h
one-cond false x y h k = k

no_rows : (s : State) (rows : List Row) (n : ℕ) → OneCommit (s, map (λ (row : Row). reply.Row row.0 row.1) rows ++ Finish n ∷ [])
no_rows s [] n = refl
no_rows s (row ∷ rows) n = count-cons (reply.Row row.0 row.1) (map (λ (row : Row). reply.Row row.0 row.1) rows ++ Finish n ∷ []) ∙ zero-add _ ∙ no_rows s rows n

one-accepted : (s : State) (c : Command) → OneCommit (accepted s c)
one-accepted s (Create t) = refl
one-accepted s Begin = refl
one-accepted s (Put t k v) = refl
one-accepted s (Del t k) = one-cond (has_row k (rows_in t s)) _ _ refl refl
one-accepted s (Get t k) = single s (found (row_get k (rows_in t s)))
one-accepted s (Scan t low high) = no_rows s (row_range low high (rows_in t s)) (length (row_range low high (rows_in t s)))
one-accepted s Commit = refl
one-accepted s Abort = refl
one-accepted s Checkpoint = refl
one-accepted s Drain = refl
one-accepted s (Clean n) = refl

one-judged : (o : Option Reason) (s : State) (c : Command) → OneCommit (judged o s c)
one-judged None s c = one-accepted s c
one-judged (Some r) s c = refl

one-step : (bounds : Bounds) (s : State) (c : Option Command) → OneCommit (step bounds s c)
one-step bounds s None = refl
one-step bounds s (Some c) = one-judged (refusal bounds s c) s c

pub count-replies : (bounds : Bounds) (s : State) (cs : List (Option Command)) → count_by is_committed (run.replies (machine bounds) s cs) ≡ run.commits (machine bounds) s cs
count-replies bounds s [] = refl
count-replies bounds s (c ∷ cs) =
    let t : State = (step bounds s c).0 in
    count-append (step bounds s c).1 (run.replies (machine bounds) t cs)
    ∙ ap (λ n. n + count_by is_committed (run.replies (machine bounds) t cs)) (one-step bounds s c)
    ∙ elim (tells (step bounds s c)) as (λ b. cond b 1 0 + count_by is_committed (run.replies (machine bounds) t cs) ≡ length (cond b (t.tables ∷ run.versions (machine bounds) t cs) (run.versions (machine bounds) t cs)))
    [ true ↦ let ih = count-replies bounds t cs in omega (arith, ih) | false ↦ zero-add _ ∙ count-replies bounds t cs ]

-- ---- scripts

IsState-opening : (tables : List Table) → AreTables tables → IsState (opening tables)
IsState-opening tables h = record { tables = h; copy = tt }

pub IsReply-script : (bounds : Bounds) (tables : List Table) (script : List ℕ) → AreTables tables → AllByRecursion IsReply (replies bounds tables script)
IsReply-script bounds tables script h = IsReply-replies bounds (opening tables) (commands script) (IsState-opening tables h) (IsCommand-script script)

-- no reply looks like a line that stands aside
pub strip-replies : (bounds : Bounds) (tables : List Table) (script : List ℕ) → AreTables tables → strip (text (replies bounds tables script)) ≡ text (replies bounds tables script)
strip-replies bounds tables script h = strip-text reply_line are_lines (replies bounds tables script) (IsReply-script bounds tables script h)

-- the whole text acknowledges every commit
pub acked-replies : (bounds : Bounds) (tables : List Table) (script : List ℕ) → AreTables tables → acked (text (replies bounds tables script)) ≡ commits bounds tables script
acked-replies bounds tables script h =
    acked-text reply_line are_lines (replies bounds tables script) (IsReply-script bounds tables script h) ∙ count-replies bounds (opening tables) (commands script)

-- and a beginning of it no more than there are
pub acked-le-commits : (bounds : Bounds) (tables : List Table) (script sent more : List ℕ) → AreTables tables → sent ++ more ≡ text (replies bounds tables script) → acked sent ≤ commits bounds tables script
acked-le-commits bounds tables script sent more h e =
    let whole : acked (sent ++ more) ≡ commits bounds tables script = ap acked e ∙ acked-replies bounds tables script h in
    let part : acked sent ≤ acked (sent ++ more) = acked_prefix sent more in
    omega arith

-- the number of commits does not depend on the tables and the bounds
pub commits-script : (bounds : Bounds) (tables : List Table) (script : List ℕ) → commits bounds tables script ≡ commits_of false (commands script)
commits-script bounds tables script = commits_from bounds (opening tables) (commands script)

-- after the commits so far there stand the committed tables, whatever follows
pub after-so_far : (bounds : Bounds) (tables : List Table) (script : List ℕ) (xs ys : List (Option Command)) → commands script ≡ xs ++ ys →
    after bounds tables script (run.commits (machine bounds) (opening tables) xs) ≡ (run.state_after (machine bounds) (opening tables) xs).tables
after-so_far bounds tables script xs ys e = rw e (after_so_far (machine bounds) (step_keeps bounds) (opening tables) xs ys)

-- and after one commit more those that the step leaves which tells of it
pub after-next : (bounds : Bounds) (tables : List Table) (script : List ℕ) (xs : List (Option Command)) (c : Option Command) (ys : List (Option Command)) → commands script ≡ xs ++ c ∷ ys →
    tells (step bounds (run.state_after (machine bounds) (opening tables) xs) c) ≡ true →
    after bounds tables script (run.commits (machine bounds) (opening tables) xs + 1) ≡ (step bounds (run.state_after (machine bounds) (opening tables) xs) c).0.tables
after-next bounds tables script xs c ys e h = rw e (after_next (machine bounds) (step_keeps bounds) (opening tables) xs c ys h)

-- a line of a script keeps the tables such as can be written
pub IsState-line : (bounds : Bounds) (s : State) (line : List ℕ) → IsState s → IsState (step bounds s (command_of line)).0
IsState-line bounds s line h = (IsResult-step bounds s (command_of line) h (IsCommand-read line)).state

-- what one step says acknowledges its commit
pub acked-step : (bounds : Bounds) (s : State) (c : Option Command) → IsState s → IfSome c IsCommand → acked (text (step bounds s c).1) ≡ cond (tells (step bounds s c)) 1 0
acked-step bounds s c h k = acked-text reply_line are_lines (step bounds s c).1 (IsResult-step bounds s c h k).replies ∙ one-step bounds s c
