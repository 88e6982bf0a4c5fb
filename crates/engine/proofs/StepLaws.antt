-- What the commands of a script make of an engine.
use Rattle.std.proofs.Common.{◌≡◌, ℕ, List, refl, sym, ap, ◌∙◌, subst, true, false, not, Bool, IsTrue, Result, Ok, Err, Option, Some, None, [], ◌∷◌, ◌++◌, append-nil, is_some}
use Rattle.std.specs.Prelude.{IfOk, IsErr, IsErrAnd}
use Rattle.devices.specs.World.{Standing}
use Rattle.damage.specs.declared.evidence.Evidence.{Evidence}
use Rattle.line_pages.specs.declared.stop.Stop.{Stop}
use Rattle.line_pages.specs.declared.stop.Stop.TheVariants.{Nvm, Ssd, Damaged}
use Rattle.texts.specs.Lines.{is_silent}
use Rattle.texts.specs.Runs as run
use Rattle.script.specs.Grammar.{command_in, command_of}
use Rattle.script.specs.Script.{machine}
use Rattle.line_pages.specs.declared.touches.Accesses.{Accesses}
use Rattle.line_pages.specs.Standing.{HasCause, IsCause}
use Rattle.flat_transactions.specs.declared.book.Book.{Book}
use Rattle.flat_transactions.specs.OpenStore.{account}
use Rattle.flat_transactions.proofs.OpenStoreLaws.{rested_ready}
use Rattle.script.specs.Machine.{Bounds, State, Open, current, step, transaction_wrong}
use Rattle.script.specs.declared.command.Command.{Command}
use Rattle.script.specs.declared.command.Command.TheVariants as command
use Rattle.script.specs.declared.command.Reason.TheVariants as reason
use Rattle.script.specs.declared.command.Reply.TheVariants as reply
use Rattle.engine.specs.declared.engine.Engine.{Engine}
use Rattle.engine.specs.declared.scan.Step.{Step}
use Rattle.engine.specs.declared.scan.Step.TheVariants.{Silent, Said}
use Rattle.engine.specs.Holds.{bounds_in}
use Rattle.engine.specs.Engine.{engine_sizes, has_open, evidence_bytes, StandsFor, IsTransaction, Shows}
use Rattle.line_pages.specs.Standing.{IsFault}
use Rattle.engine.specs.Commands.{shown}
use Rattle.engine.specs.Causes.{IsDamage, IsUndoDamage, Stops, StopsUndoing}
use Rattle.engine.specs.Steps.{Does, after_command, after_line, step_replies, IsBegun}
use Rattle.engine.specs.Answers.{Answers, AnswersLine, Obeys, closed}
use Rattle.engine.specs.Resting.{is_read, AreReads, Reads}
use Rattle.engine.specs.Refused.{LineStaysIfRefused}
use Rattle.engine.proofs.CauseLaws.{causes_weaker}
use Rattle.engine.proofs.RestLaws.{reads_still, reads_after_rest, read_some}
use Rattle.engine.proofs.RefusalLaws.{stays_still, refused_after_rest}
use Rattle.engine.proofs.TransactionLaws.{does_still, none_open, some_open, step_abort}
use Rattle.engine.proofs.DoesLaws.{does_same}

-- a command by other words for it
pub obeys_at : (c d : Command) (old : Engine) (a : Standing) (new : Engine) (b : Standing) (r : Result Step Stop) → c ≡ d → Obeys (Some d) old a new b r → Obeys (Some c) old a new b r
obeys_at c d old a new b r same it = subst (λ (x : Command). Obeys (Some x) old a new b r) (sym same) it

-- a command that writes
pub unread : {A : Type 0} → false ≡ true → A
unread clash = absurd (cc)

-- A command by what its own call promises.
pub obeys_by : (P : Evidence → Type 0) (c d : Command) (old : Engine) (a : Standing) (new : Engine) (b : Standing) (r : Result Step Stop) → c ≡ d
    → Does (after_command old (Some d)) old a new b r → Answers old a (Some d) r → IfOk r IsBegun → IfOk r (LineStaysIfRefused old a new b) → ((e : Evidence) → P e → IsDamage old a new b (evidence_bytes new) e) → HasCause P (shown old a) (shown new b) r → (IsTrue (is_read (Some d)) → Reads old a new b r) → Obeys (Some c) old a new b r
obeys_by P c d old a new b r same does replies begun refused weaker cause reads =
    obeys_at c d old a new b r same
    (record {
      does = does;
      replies = replies;
      begun = begun;
      refused = refused;
      cause = causes_weaker P (IsDamage old a new b (evidence_bytes new)) (shown old a) (shown new b) r weaker cause;
      reads = reads;
    })

-- ---- whether a transaction is open

pub is_open_is : (book : Book) (t : Option Open) → IsTransaction book t → is_some t ≡ (account book).is_open
is_open_is book None it = sym it
is_open_is book (Some o) it = sym it.0

pub not_false : (b : Bool) → not b ≡ false → b ≡ true
not_false true e = refl
not_false false e = absurd (let bad : true ≡ false = e in cc)

step_misplaced : (bounds : Bounds) (s : State) (c : Command) → transaction_wrong c (is_some s.transaction) ≡ true → step bounds s (Some c) ≡ (s, reply.Refused reason.Transaction ∷ [])
step_misplaced bounds s c wrong = rw wrong refl

-- A command that is refused as `transaction`.
pub obeys_misplaced : (c : Command) (old : Engine) (a : Standing) → StandsFor old a → transaction_wrong c (has_open old) ≡ true → Obeys (Some c) old a old a (Ok (Said (reply.Refused reason.Transaction)))
obeys_misplaced c old a stands wrong = record {
  does = does_still (after_command old (Some c)) old a (Said (reply.Refused reason.Transaction)) stands (λ told s shows. sym (ap (λ x. x.0) (found s shows)));
  replies = λ told s shows. ap (λ x. x.1) (found s shows);
  begun = tt;
  refused = stays_still old a;
  cause = record { failed = tt; kept = (refl, refl) };
  reads = λ read. reads_still old a (Said (reply.Refused reason.Transaction));
}
  where
    found : (s : State) → Shows old a s → step (bounds_in (engine_sizes old)) s (Some c) ≡ (s, reply.Refused reason.Transaction ∷ [])
    found s shows = step_misplaced (bounds_in (engine_sizes old)) s c (ap (transaction_wrong c) (is_open_is old.book s.transaction shows.transaction) ∙ wrong)

-- ---- behind the end of the open access

module _ (old : Engine) (touched : Accesses) where
  abbrev rested : Engine
  rested = record old { book = record old.book { accesses = touched } }

  stands_rested : (a : Standing) → StandsFor old a → StandsFor rested a
  stands_rested a it = record {
    ready = rested_ready old.book touched a it.ready;
    disk = it.disk;
    limits = it.limits;
    writes = it.writes;
    few = it.few;
    room = it.room;
    counted = it.counted;
  }

  transaction_rested : (t : Option Open) → IsTransaction old.book t → IsTransaction rested.book t
  transaction_rested None it = it
  transaction_rested (Some o) it = it

  shows_rested : (a : Standing) (s : State) → Shows old a s → Shows rested a s
  shows_rested a s it = record { committed = it.committed; seen = it.seen; transaction = transaction_rested s.transaction it.transaction; commits = it.commits }

  does_rested : {T : Type 0} (after : State → State) (a : Standing) (new : Engine) (b : Standing) (r : Result T Stop) → Does after rested a new b r → Does after old a new b r
  does_rested after a new b r it = record {
    shows = λ told s shows. it.shows told s (shows_rested a s shows);
    sound = λ told s shows. it.sound told s (shows_rested a s shows);
    moments = λ told steady s shows. it.moments told steady s (shows_rested a s shows);
    steady = it.steady;
    ready = it.ready;
    sizes = it.sizes;
    reach_rises = it.reach_rises;
    goes = it.goes;
  }

  one_cause : (a : Standing) (new : Engine) (b : Standing) (why : Stop) → IsCause (IsDamage rested a new b (evidence_bytes new)) (shown rested a) (shown new b) why → IsCause (IsDamage old a new b (evidence_bytes new)) (shown old a) (shown new b) why
  one_cause a new b Nvm h = h
  one_cause a new b Ssd h = h
  one_cause a new b (Damaged e) h = h

  cause_rested : {T : Type 0} (a : Standing) (new : Engine) (b : Standing) (r : Result T Stop) → Stops rested a new b r → Stops old a new b r
  cause_rested a new b (Ok v) it = record { failed = tt; kept = it.kept }
  cause_rested a new b (Err why) it = record { failed = one_cause a new b why it.failed; kept = tt }

  one_undoing : (a : Standing) (new : Engine) (b : Standing) (why : Stop) → IsCause (IsUndoDamage rested a) (shown rested a) (shown new b) why → IsCause (IsUndoDamage old a) (shown old a) (shown new b) why
  one_undoing a new b Nvm h = h
  one_undoing a new b Ssd h = h
  one_undoing a new b (Damaged e) h = h

  undoing_rested : {T : Type 0} (a : Standing) (new : Engine) (b : Standing) (r : Result T Stop) → StopsUndoing rested a new b r → StopsUndoing old a new b r
  undoing_rested a new b (Ok v) it = record { failed = tt; kept = it.kept }
  undoing_rested a new b (Err why) it = record { failed = one_undoing a new b why it.failed; kept = tt }

-- whatever the book is behind it
module _ (old : Engine) (book : Book) (same : book ≡ record old.book { accesses = book.accesses }) where
  pub stands_after_rest : (a : Standing) → StandsFor old a → StandsFor (record old { book = book }) a
  stands_after_rest a it = subst (λ (x : Book). StandsFor (record old { book = x }) a) (sym same) (stands_rested old book.accesses a it)

  pub does_after_rest : {T : Type 0} (after : State → State) (a : Standing) (new : Engine) (b : Standing) (r : Result T Stop) → Does after (record old { book = book }) a new b r → Does after old a new b r
  does_after_rest after a new b r it = does_rested old book.accesses after a new b r (subst (λ (x : Book). Does after (record old { book = x }) a new b r) same it)

  pub undoing_after_rest : {T : Type 0} (a : Standing) (new : Engine) (b : Standing) (r : Result T Stop) → StopsUndoing (record old { book = book }) a new b r → StopsUndoing old a new b r
  undoing_after_rest a new b r it = undoing_rested old book.accesses a new b r (subst (λ (x : Book). StopsUndoing (record old { book = x }) a new b r) same it)

  pub shows_after_rest : (a : Standing) (s : State) → Shows old a s → Shows (record old { book = book }) a s
  shows_after_rest a s it = subst (λ (x : Book). Shows (record old { book = x }) a s) (sym same) (shows_rested old book.accesses a s it)

-- ---- a line

if_ok : {T E : Type 0} {P Q : T → Type 0} (r : Result T E) → ((v : T) → P v → Q v) → IfOk r P → IfOk r Q
if_ok (Ok v) f h = f v h
if_ok (Err e) f h = tt

module _ (bounds : Bounds) (s : State) (line : List ℕ) where
  silent_state : is_silent line ≡ true → run.state_after (machine bounds) s (command_in line) ≡ s
  silent_state silent = rw silent refl

  silent_replies : is_silent line ≡ true → run.replies (machine bounds) s (command_in line) ≡ []
  silent_replies silent = rw silent refl

  none_state : is_silent line ≡ false → command_of line ≡ None → run.state_after (machine bounds) s (command_in line) ≡ s
  none_state said none = rw (said, none) refl

  none_replies : is_silent line ≡ false → command_of line ≡ None → run.replies (machine bounds) s (command_in line) ≡ reply.Refused reason.Form ∷ []
  none_replies said none = rw (said, none) refl

  some_state : (c : Command) → is_silent line ≡ false → command_of line ≡ Some c → run.state_after (machine bounds) s (command_in line) ≡ (step bounds s (Some c)).0
  some_state c said some = rw (said, some) refl

  some_replies : (c : Command) → is_silent line ≡ false → command_of line ≡ Some c → run.replies (machine bounds) s (command_in line) ≡ (step bounds s (Some c)).1 ++ []
  some_replies c said some = rw (said, some) refl

-- What a line leads to.
pub record Leads (line : List ℕ) (old : Engine) (a : Standing) (new : Engine) (b : Standing) (r : Result Step Stop) : Type 0 where
  pub does : Does (after_line old (command_in line)) old a new b r
  pub replies : AnswersLine old a (command_in line) r
  pub refused : IfOk r (LineStaysIfRefused old a new b)
  pub cause : Stops old a new b r
  pub reads : AreReads (command_in line) → Reads old a new b r

module _ (line : List ℕ) (old : Engine) (a : Standing) (stands : StandsFor old a) (book : Book) (same : book ≡ record old.book { accesses = book.accesses }) where
  still : (answer : Step) → ((s : State) → run.state_after (machine (bounds_in (engine_sizes old))) s (command_in line) ≡ s)
      → ((s : State) → step_replies answer (current s) ≡ run.replies (machine (bounds_in (engine_sizes old))) s (command_in line)) → LineStaysIfRefused (record old { book = book }) a (record old { book = book }) a answer → Leads line old a (record old { book = book }) a (Ok answer)
  still answer state replied refused = record {
    does = does_after_rest old book same (after_line old (command_in line)) a (record old { book = book }) a (Ok answer)
        (does_still (after_line old (command_in line)) (record old { book = book }) a answer (stands_after_rest old book same a stands) (λ told s shows. sym (state s)));
    replies = λ told s shows. replied s;
    refused = refused_after_rest old book same a (record old { book = book }) a (Ok answer) refused;
    cause = record { failed = tt; kept = (refl, refl) };
    reads = λ read. reads_after_rest old a (record old { book = book }) a book (Ok answer) same (reads_still (record old { book = book }) a answer);
  }

  pub leads_silent : is_silent line ≡ true → Leads line old a (record old { book = book }) a (Ok Silent)
  leads_silent silent = still Silent (λ s. silent_state (bounds_in (engine_sizes old)) s line silent) (λ s. sym (silent_replies (bounds_in (engine_sizes old)) s line silent)) tt

  pub leads_none : is_silent line ≡ false → command_of line ≡ None → Leads line old a (record old { book = book }) a (Ok (Said (reply.Refused reason.Form)))
  leads_none said none = still (Said (reply.Refused reason.Form)) (λ s. none_state (bounds_in (engine_sizes old)) s line said none) (λ s. sym (none_replies (bounds_in (engine_sizes old)) s line said none))
      (stays_still (record old { book = book }) a)

  module _ (c : Command) (new : Engine) (b : Standing) (r : Result Step Stop) where
    pub leads_some : is_silent line ≡ false → command_of line ≡ Some c → Obeys (Some c) (record old { book = book }) a new b r → Leads line old a new b r
    leads_some said some it =
        let at_old : Obeys (Some c) (record old { book = record old.book { accesses = book.accesses } }) a new b r = subst (λ (x : Book). Obeys (Some c) (record old { book = x }) a new b r) same it in
        record {
          does = does_same (after_command old (Some c)) (after_line old (command_in line)) old a new b r (does_rested old book.accesses (after_command old (Some c)) a new b r at_old.does)
              (λ told s shows. sym (some_state (bounds_in (engine_sizes old)) s line c said some));
          replies = λ told s shows.
              if_ok r (λ answer found. sym (some_replies (bounds_in (engine_sizes old)) s line c said some ∙ append-nil (step (bounds_in (engine_sizes old)) s (Some c)).1 ∙ found)) (at_old.replies told s (shows_rested old book.accesses a s shows));
          refused = refused_after_rest old book same a new b r it.refused;
          cause = cause_rested old book.accesses a new b r at_old.cause;
          reads = λ read. reads_after_rest old a new b book r same (it.reads (read_some line c said some read));
        }

-- ---- the end of a run

pub closed_still : (old : Engine) (a : Standing) → StandsFor old a → has_open old ≡ false → Does {T = Unit {0}} closed old a old a (Ok tt)
closed_still old a stands shut = does_still closed old a tt stands (λ told s shows. same s (none_open old.book s.transaction shows.transaction shut))
  where
    same : (s : State) → s.transaction ≡ None → s ≡ closed s
    same s none = ap (λ (t : Option Open). record s { transaction = t }) none

pub closed_aborted : (old : Engine) (a : Standing) (new : Engine) (b : Standing) {T : Type 0} (r : Result T Stop) → has_open old ≡ true → Does (after_command old (Some command.Abort)) old a new b r → Does closed old a new b r
closed_aborted old a new b r open_now it =
    does_same (after_command old (Some command.Abort)) closed old a new b r it
    (λ told s shows. let t = some_open old.book s.transaction shows.transaction open_now in ap (λ x. x.0) (step_abort (bounds_in (engine_sizes old)) s t.0 t.1))

-- the same answer of another type
pub does_ok : {T U : Type 0} (after : State → State) (old : Engine) (a : Standing) (new : Engine) (b : Standing) (v : T) (u : U) → Does after old a new b (Ok v) → Does after old a new b (Ok u)
does_ok after old a new b v u it = record { shows = it.shows; sound = it.sound; moments = it.moments; steady = it.steady; ready = it.ready; sizes = it.sizes; reach_rises = it.reach_rises; goes = it.goes }

pub does_err : {T U : Type 0} (after : State → State) (old : Engine) (a : Standing) (new : Engine) (b : Standing) (r : Result U Stop) (why : Stop) → IsErr r × IsErrAnd r (λ found. found ≡ why) → Does {T = T} after old a new b (Err why) → Does after old a new b r
does_err after old a new b (Ok v) why is it = let none : false ≡ true = is.0 in absurd (cc)
does_err after old a new b (Err found) why is it = record {
  shows = λ told s shows. tt;
  sound = λ told s shows. subst IsFault (sym is.1) (it.sound told s shows);
  moments = it.moments;
  steady = λ steady. tt;
  ready = tt;
  sizes = it.sizes;
  reach_rises = tt;
  goes = it.goes;
}
