-- What the calls that open and end transactions mean for the plain machine.
use Rattle.std.proofs.Common.{◌≡◌, ℕ, ◌+◌, ◌^◌, ◌<◌, ◌≤◌, List, refl, sym, ap, ◌∙◌, subst, arith, true, false, IsTrue, Result, Ok, Err, Option, Some, None, [], ◌∷◌}
use Rattle.std.specs.Prelude.{IfErr, IsErr, IsErrAnd}
use Rattle.devices.specs.World.{Standing, Goes}
use Rattle.devices.proofs.MomentLaws.{Goes-refl}
use Rattle.line_pages.specs.Lines.{Lines}
use Rattle.line_pages.specs.declared.stop.Stop.{Stop}
use Rattle.line_pages.specs.declared.stop.Stop.TheVariants.{Nvm, Ssd, Damaged}
use Rattle.rows.specs.Tables.{Table}
use Rattle.flat_transactions.specs.declared.book.Book.{Book}
use Rattle.flat_transactions.specs.OpenStore.{Account, account, committed_lines, LeavesCommitted, IsCounted}
use Rattle.flat_transactions.specs.Order.{Sizes, ssd_blocks}
use Rattle.flat_transactions.specs.StoreStanding.{IsReady, IsSteady}
use Rattle.flat_transactions.specs.StoreCalls.{StoreCall, IsCommitted, IsOldOrNew, KeepsLines, CommitsLines, AbortsLines, Begins, Ends, Checkpoints}
use Rattle.flat_transactions.proofs.OpenStoreLaws.{call_sizes}
use Rattle.script.specs.Machine.{Bounds, State, Open, current, step, accepted}
use Rattle.script.specs.declared.command.Command.TheVariants as command
use Rattle.script.specs.declared.command.Reply.TheVariants as reply
use Rattle.engine.specs.declared.engine.Engine.{Engine}
use Rattle.engine.specs.Holds.{HoldsTables, bounds_in}
use Rattle.engine.specs.Engine.{IsSteadyFor, engine_sizes, engine_lines, has_open, writes_done, most_writes, log_end, StandsFor, IsTransaction, Shows}
use Rattle.line_pages.specs.Standing.{IsFault}
use Rattle.engine.specs.declared.scan.Step.TheVariants.{Said}
use Rattle.engine.specs.Steps.{Does, after_command}
use Rattle.engine.specs.Answers.{Answers}
use Rattle.engine.proofs.HoldsLaws.{holds_same}
use Rattle.engine.proofs.DoesLaws.{does_same, does_kept, does_chosen}

-- ---- the machine's state, by the book

pub none_open : (book : Book) (t : Option Open) → IsTransaction book t → (account book).is_open ≡ false → t ≡ None
none_open book None is closed = refl
none_open book (Some o) is closed = absurd (bad (sym is.0 ∙ closed))
  where
    bad : true ≡ false → ⊥
    bad e = absurd (cc)

pub some_open : (book : Book) (t : Option Open) → IsTransaction book t → (account book).is_open ≡ true → (o : Open) × (t ≡ Some o) × (o.writes ≡ (account book).accepted)
some_open book None is open_now = absurd (bad (sym is ∙ open_now))
  where
    bad : false ≡ true → ⊥
    bad e = absurd (cc)
some_open book (Some o) is open_now = (o, refl, is.1)

pub closed_transaction : (book : Book) (t : Option Open) → t ≡ None → (account book).is_open ≡ false → IsTransaction book t
closed_transaction book t none closed = subst (λ (x : Option Open). IsTransaction book x) (sym none) closed

pub current_closed : (s : State) → s.transaction ≡ None → current s ≡ s.tables
current_closed s none = rw none refl

-- each command, where it is not refused
pub step_begin : (bounds : Bounds) (s : State) → s.transaction ≡ None → step bounds s (Some command.Begin) ≡ accepted s command.Begin
step_begin bounds s none = rw none refl

pub step_commit : (bounds : Bounds) (s : State) (o : Open) → s.transaction ≡ Some o → step bounds s (Some command.Commit) ≡ accepted s command.Commit
step_commit bounds s o some = rw some refl

pub step_abort : (bounds : Bounds) (s : State) (o : Open) → s.transaction ≡ Some o → step bounds s (Some command.Abort) ≡ accepted s command.Abort
step_abort bounds s o some = rw some refl

pub step_checkpoint : (bounds : Bounds) (s : State) → s.transaction ≡ None → step bounds s (Some command.Checkpoint) ≡ accepted s command.Checkpoint
step_checkpoint bounds s none = rw none refl

-- ---- what an engine stands for and shows behind a call

pub stands_by : (old new : Engine) (a b : Standing) → StandsFor old a → engine_sizes new ≡ engine_sizes old → new.limits ≡ old.limits → new.writes ≡ old.writes → Goes a b → IsReady new.book b
    → (has_open new ≡ true → writes_done new ≤ most_writes old) → (has_open new ≡ true → writes_done new < most_writes old → 640 ≤ (account new.book).room) → new.commits ≤ log_end new → StandsFor new b
stands_by old new a b stands sizes limits writes goes ready few room counted = record {
  ready = ready;
  disk = subst (λ n. ssd_blocks (engine_sizes new) ≤ n) (sym goes.blocks) (subst (λ (x : Sizes). ssd_blocks x ≤ a.blocks) (sym sizes) stands.disk);
  limits = record {
    tables = ap (λ x. x.tables) limits ∙ stands.limits.tables ∙ sym (ap (λ (x : Sizes). x.tables) sizes);
    rows = ap (λ x. x.rows) limits ∙ stands.limits.rows ∙ sym (ap (λ (x : Sizes). x.rows) sizes);
  };
  writes = writes ∙ stands.writes ∙ sym (ap (λ (x : Sizes). x.writes) sizes);
  few = λ is. subst (λ n. writes_done new ≤ n) (sym writes) (few is);
  room = λ is more. room is (subst (λ n. writes_done new < n) writes more);
  counted = counted;
}

pub shows_by : (old new : Engine) (b : Standing) (t : State) (kept seen : Lines) → engine_sizes new ≡ engine_sizes old → committed_lines b ≡ kept → engine_lines new b ≡ seen
    → HoldsTables (engine_sizes old) kept t.tables → HoldsTables (engine_sizes old) seen (current t) → IsTransaction new.book t.transaction → new.commits ≡ t.commits → Shows new b t
shows_by old new b t kept seen sizes kept_is seen_is holds sees transaction commits = record {
  committed = subst (λ (x : Sizes). HoldsTables x (committed_lines b) t.tables) (sym sizes) (holds_same (engine_sizes old) kept (committed_lines b) t.tables kept_is holds);
  seen = subst (λ (x : Sizes). HoldsTables x (engine_lines new b) (current t)) (sym sizes) (holds_same (engine_sizes old) seen (engine_lines new b) (current t) seen_is sees);
  transaction = transaction;
  commits = commits;
}

-- ---- faults

pub fault_is : (a b : Standing) (why : Stop) → IsCounted a b why → IsFault why
fault_is a b Nvm is = tt
fault_is a b Ssd is = tt
fault_is a b (Damaged evidence) is = absurd is

-- a stop that was handed on
pub handed_on : {T : Type 0} (r : Result T Stop) (why : Stop) (P : Stop → Type 0) → IsErr r × IsErrAnd r (λ found. found ≡ why) → P why → IfErr r P
handed_on (Ok v) why P is p = tt
handed_on (Err found) why P is p = subst P (sym is.1) p

-- where a store's call answers ok, and where it stops
pub does_stopped : {T : Type 0} (after : State → State) (old : Engine) (a : Standing) (new : Engine) (b : Standing) (r : Result T Stop) (why : Stop) → IsErr r × IsErrAnd r (λ found. found ≡ why) → StandsFor old a
    → engine_sizes new ≡ engine_sizes old → Goes a b → LeavesCommitted old.book a b
    → (IsTrue a.told → (s : State) → Shows old a s → IsFault why) → Does after old a new b r
does_stopped after old a new b (Ok v) why is stands sizes goes during fault = let none : false ≡ true = is.0 in absurd (cc)
does_stopped after old a new b (Err found) why is stands sizes goes during fault =
    does_kept after old a new b (Err found) stands sizes goes during tt (λ steady. tt) tt (λ told s shows. subst IsFault (sym is.1) (fault told s shows)) (λ told s shows. tt)

-- ---- the calls

module _ (old : Engine) (a : Standing) (stands : StandsFor old a) (book : Book) (b : Standing) where
  abbrev with_book : Engine
  with_book = record old { book = book }

  module _ (closed : has_open old ≡ false) (call : StoreCall (IsCommitted a) old.book a book b) where
    was_closed : (s : State) → Shows old a s → s.transaction ≡ None
    was_closed s is = none_open old.book s.transaction is.transaction closed

    pub begin_does : (lines : IsTrue a.told → KeepsLines old.book a book b) → Begins old.book book → IsReady book b → (IsSteady old.book a → IsSteady book b)
        → Does (after_command old (Some command.Begin)) old a with_book b (Ok (Said reply.Fine))
    begin_does lines begins ready steady =
        does_kept (after_command old (Some command.Begin)) old a with_book b (Ok (Said reply.Fine)) stands (call_sizes old.book a book b call) call.goes call.during begins.reach_rises steady
        (stands_by old with_book a b stands (call_sizes old.book a book b call) refl refl call.goes ready (λ is. subst (λ n. n ≤ old.writes) (sym begins.accepted) (omega arith)) (λ is more. subst (λ n. 640 ≤ n) (sym begins.room) (omega arith))
        (subst (λ n. old.commits ≤ n) (sym begins.tail) stands.counted)) (λ told s is. tt)
        (λ told s is.
        subst (λ (t : State). Shows with_book b t) (sym (ap (λ x. x.0) (step_begin (bounds_in (engine_sizes old)) s (was_closed s is))))
        (shows_by old with_book b (accepted s command.Begin).0 (committed_lines a) (engine_lines old a) (call_sizes old.book a book b call) (lines told).committed (lines told).current is.committed
        (subst (λ (T : List Table). HoldsTables (engine_sizes old) (engine_lines old a) T) (current_closed s (was_closed s is)) is.seen) (begins.is_open, sym begins.accepted) is.commits))

    pub begin_replies : Answers old a (Some command.Begin) (Ok (Said reply.Fine))
    begin_replies = λ told s is. ap (λ x. x.1) (step_begin (bounds_in (engine_sizes old)) s (was_closed s is))

  module _ (open_now : has_open old ≡ true) where
    -- the machine's transaction
    its : (s : State) → Shows old a s → (o : Open) × (s.transaction ≡ Some o) × (o.writes ≡ writes_done old)
    its s is = some_open old.book s.transaction is.transaction open_now

    abort_step_is : (s : State) → Shows old a s → step (bounds_in (engine_sizes old)) s (Some command.Abort) ≡ accepted s command.Abort
    abort_step_is s is = let t = its s is in step_abort (bounds_in (engine_sizes old)) s t.0 t.1

    commit_step_is : (s : State) → Shows old a s → step (bounds_in (engine_sizes old)) s (Some command.Commit) ≡ accepted s command.Commit
    commit_step_is s is = let t = its s is in step_commit (bounds_in (engine_sizes old)) s t.0 t.1

    closed_facts : {P : Type 0} → (account book).is_open ≡ false → (account book).is_open ≡ true → P
    closed_facts closed is = let bad : false ≡ true = sym closed ∙ is in absurd (cc)

    pub abort_does : StoreCall (IsCommitted a) old.book a book b → (lines : IsTrue a.told → AbortsLines old.book a book b) → Ends old.book book → IsReady book b → (IsSteady old.book a → IsSteady book b)
        → Does (after_command old (Some command.Abort)) old a with_book b (Ok (Said reply.Aborted))
    abort_does call lines ends ready steady =
        does_kept (after_command old (Some command.Abort)) old a with_book b (Ok (Said reply.Aborted)) stands (call_sizes old.book a book b call) call.goes call.during ends.reach_rises steady
        (stands_by old with_book a b stands (call_sizes old.book a book b call) refl refl call.goes ready (λ is. closed_facts ends.is_open is) (λ is more. closed_facts ends.is_open is)
        (let low : old.commits ≤ log_end old = stands.counted in let moved : (account book).tail ≡ log_end old + 1 = ends.tail in omega (arith, low, moved))) (λ told s is. tt)
        (λ told s is.
        subst (λ (t : State). Shows with_book b t) (sym (ap (λ x. x.0) (abort_step_is s is)))
        (shows_by old with_book b (accepted s command.Abort).0 (committed_lines a) (committed_lines a) (call_sizes old.book a book b call) (lines told).committed (lines told).current is.committed is.committed ends.is_open is.commits))

    pub abort_replies : Answers old a (Some command.Abort) (Ok (Said reply.Aborted))
    abort_replies = λ told s is. ap (λ x. x.1) (abort_step_is s is)

    -- one commit more
    abbrev counted : Engine
    counted = record old { book = book; commits = old.commits + 1 }

    pub commit_does : StoreCall (IsOldOrNew old.book a) old.book a book b → (lines : IsTrue a.told → CommitsLines old.book a book b) → Ends old.book book → IsReady book b → (IsSteady old.book a → IsSteady book b)
        → Does (after_command old (Some command.Commit)) old a counted b (Ok (Said (reply.Committed (old.commits + 1))))
    commit_does call lines ends ready steady =
        does_chosen (after_command old (Some command.Commit)) old a counted b (Ok (Said (reply.Committed (old.commits + 1)))) stands (call_sizes old.book a book b call) call.goes call.during ends.reach_rises steady
        (stands_by old counted a b stands (call_sizes old.book a book b call) refl refl call.goes ready (λ is. closed_facts ends.is_open is) (λ is more. closed_facts ends.is_open is)
        (let low : old.commits ≤ log_end old = stands.counted in let moved : (account book).tail ≡ log_end old + 1 = ends.tail in omega (arith, low, moved))) (λ told s is. tt)
        (λ told s is.
        subst (λ (t : State). Shows counted b t) (sym (ap (λ x. x.0) (commit_step_is s is)))
        (shows_by old counted b (accepted s command.Commit).0 (engine_lines old a) (engine_lines old a) (call_sizes old.book a book b call) (lines told).committed (lines told).current is.seen is.seen ends.is_open
        (ap (λ n. n + 1) is.commits)))
        (λ s is. ap (λ x. x.0.tables) (commit_step_is s is))

    pub commit_stopped : {T : Type 0} (r : Result T Stop) (why : Stop) → IsErr r × IsErrAnd r (λ found. found ≡ why) → StoreCall (IsOldOrNew old.book a) old.book a book b → IsFault why
        → Does (after_command old (Some command.Commit)) old a with_book b r
    commit_stopped (Ok v) why is call fault = let none : false ≡ true = is.0 in absurd (cc)
    commit_stopped (Err found) why is call fault =
        does_chosen (after_command old (Some command.Commit)) old a with_book b (Err found) stands (call_sizes old.book a book b call) call.goes call.during tt (λ steady. tt) tt (λ told s shows. subst IsFault (sym is.1) fault) (λ told s shows. tt)
        (λ s is. ap (λ x. x.0.tables) (commit_step_is s is))

    pub commit_replies : Answers old a (Some command.Commit) (Ok (Said (reply.Committed (old.commits + 1))))
    commit_replies = λ told s is. ap (λ x. x.1) (commit_step_is s is) ∙ ap (λ n. reply.Committed (n + 1) ∷ []) (sym is.commits)

  module _ (closed : has_open old ≡ false) where
    stays_closed : (s : State) → Shows old a s → s.transaction ≡ None
    stays_closed s is = none_open old.book s.transaction is.transaction closed

    pub checkpoint_does : StoreCall (IsCommitted a) old.book a book b → (lines : IsTrue a.told → KeepsLines old.book a book b) → Checkpoints old.book book → IsReady book b → (IsSteady old.book a → IsSteady book b)
        → Does (after_command old (Some command.Checkpoint)) old a with_book b (Ok (Said reply.Fine))
    checkpoint_does call lines made ready steady =
        does_kept (after_command old (Some command.Checkpoint)) old a with_book b (Ok (Said reply.Fine)) stands (call_sizes old.book a book b call) call.goes call.during
        (let empty : (account book).room ≡ 0 = made.room in let same : (account book).tail ≡ log_end old = made.tail in omega (arith, empty, same)) steady
        (stands_by old with_book a b stands (call_sizes old.book a book b call) refl refl call.goes ready (λ is. let bad : false ≡ true = sym made.is_open ∙ is in absurd (cc)) (λ is more. let bad : false ≡ true = sym made.is_open ∙ is in absurd (cc))
        (subst (λ n. old.commits ≤ n) (sym made.tail) stands.counted)) (λ told s is. tt)
        (λ told s is.
        subst (λ (t : State). Shows with_book b t) (sym (ap (λ x. x.0) (step_checkpoint (bounds_in (engine_sizes old)) s (stays_closed s is))))
        (shows_by old with_book b s (committed_lines a) (engine_lines old a) (call_sizes old.book a book b call) (lines told).committed (lines told).current is.committed is.seen
        (closed_transaction book s.transaction (stays_closed s is) made.is_open) is.commits))

    pub checkpoint_replies : Answers old a (Some command.Checkpoint) (Ok (Said reply.Fine))
    checkpoint_replies = λ told s is. ap (λ x. x.1) (step_checkpoint (bounds_in (engine_sizes old)) s (stays_closed s is))

-- a call that changes no line and no transaction
module _ (old : Engine) (a : Standing) (stands : StandsFor old a) (book : Book) (b : Standing) (call : StoreCall (IsCommitted a) old.book a book b) (same : account book ≡ account old.book) where
  pub quiet_does : {T : Type 0} (after : State → State) (v : T) → (IsTrue a.told → KeepsLines old.book a book b) → IsReady book b → (IsSteadyFor old a → IsSteady book b)
      → (IsTrue a.told → (s : State) → Shows old a s → after s ≡ s) → Does after old a (record old { book = book }) b (Ok v)
  quiet_does after v lines ready steady stays =
      let is_open : (account book).is_open ≡ has_open old = ap (λ (x : Account). x.is_open) same in
      let accepted : (account book).accepted ≡ writes_done old = ap (λ (x : Account). x.accepted) same in
      let room : (account book).room ≡ (account old.book).room = ap (λ (x : Account). x.room) same in
      let tail : (account book).tail ≡ log_end old = ap (λ (x : Account). x.tail) same in
      does_kept after old a (record old { book = book }) b (Ok v) stands (call_sizes old.book a book b call) call.goes call.during (omega (arith, room, tail)) steady
      (stands_by old (record old { book = book }) a b stands (call_sizes old.book a book b call) refl refl call.goes ready
      (λ is. subst (λ n. n ≤ most_writes old) (sym accepted) (stands.few (sym is_open ∙ is)))
      (λ is more. subst (λ n. 640 ≤ n) (sym room) (stands.room (sym is_open ∙ is) (subst (λ n. n < most_writes old) accepted more)))
      (subst (λ n. old.commits ≤ n) (sym tail) stands.counted)) (λ told s is. tt)
      (λ told s is.
      subst (λ (t : State). Shows (record old { book = book }) b t) (sym (stays told s is))
      (shows_by old (record old { book = book }) b s (committed_lines a) (engine_lines old a) (call_sizes old.book a book b call) (lines told).committed (lines told).current is.committed is.seen
      (by_account s.transaction is_open accepted is.transaction) is.commits))
    where
      by_account : (t : Option Open) → (account book).is_open ≡ has_open old → (account book).accepted ≡ writes_done old → IsTransaction old.book t → IsTransaction book t
      by_account None is_open accepted it = is_open ∙ it
      by_account (Some o) is_open accepted it = (is_open ∙ it.0, it.1 ∙ sym accepted)

-- nothing is done
pub does_still : {T : Type 0} (after : State → State) (old : Engine) (a : Standing) (value : T) → StandsFor old a → (IsTrue a.told → (s : State) → Shows old a s → s ≡ after s) → Does after old a old a (Ok value)
does_still after old a value stands same =
    does_same (λ s. s) after old a old a (Ok value)
    (does_kept (λ s. s) old a old a (Ok value) stands refl (Goes-refl a) (λ told steady m low high lines left. absurd (omega (arith, low, high))) (omega arith) (λ steady. steady) stands (λ told s is. tt) (λ told s is. is)) same
