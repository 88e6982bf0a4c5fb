-- What a command on tables makes of an engine, by what its call of pages did.
use Rattle.std.proofs.Common.{◌≡◌, ℕ, ◌+◌, ◌<◌, ◌≤◌, Bool, true, false, cond, List, [], ◌∷◌, refl, sym, ap, subst, ◌∙◌, arith, Some, None, Option, IsTrue, Result, Ok, Err}
use Rattle.std.specs.Prelude.{OnOk, IfOk, IfErr, IsErr, IsErrAnd, ◌==◌}
use Rattle.std.proofs.lemmas.Bool.{ne_eqb}
use Rattle.devices.specs.World.{Standing as Device, Goes}
use Rattle.line_pages.specs.Lines.{Lines}
use Rattle.line_pages.specs.Standing.{Standing as Shown, KeepsLines, HasCause, IsCause}
use Rattle.damage.specs.declared.evidence.Evidence.{Evidence}
use Rattle.line_pages.specs.declared.stop.Stop.{Stop}
use Rattle.line_pages.specs.declared.stop.Stop.TheVariants.{Nvm, Ssd, Damaged}
use Rattle.page_format.specs.Search.{Keeps}
use Rattle.table_catalog.specs.Stored.{IsStore}
use Rattle.page_format.specs.declared.work.Work.{Work}
use Rattle.rows.specs.Tables.{Table}
use Rattle.flat_transactions.specs.declared.book.Book.{Book}
use Rattle.flat_transactions.specs.OpenStore.{account, current_lines, committed_lines, CallsPages, KeepsStore}
use Rattle.flat_transactions.specs.Order.{Sizes, pages, ssd_blocks}
use Rattle.flat_transactions.specs.StoreStanding.{standing_of, book_sizes, reach, IsReady, IsSteady}
use Rattle.flat_transactions.specs.StoreCalls.{NextWrite}
use Rattle.flat_transactions.proofs.OpenStoreLaws.{pages_keep, next_sizes, next_lines, next_tail}
use Rattle.script.specs.Machine.{State, Open, current, written}
use Rattle.script.specs.declared.command.Reply.{Reply}
use Rattle.engine.specs.declared.engine.Engine.{Engine}
use Rattle.engine.specs.Holds.{AreLimits, HoldsTables}
use Rattle.engine.specs.Engine.{engine_sizes, engine_lines, has_open, writes_done, most_writes, log_end, StandsFor, Shows, IsTransaction}
use Rattle.line_pages.specs.Standing.{IsFault}
use Rattle.engine.specs.declared.scan.Step.{Step}
use Rattle.engine.specs.declared.scan.Step.TheVariants.{Said}
use Rattle.engine.specs.Steps.{Does, step_replies}
use Rattle.engine.proofs.HoldsLaws.{holds_same, holds_with}
use Rattle.engine.proofs.DoesLaws.{does_kept}

-- the engine with another book and other buffers
abbrev pub with_book : Engine → Book → Work → Engine
with_book engine book work = record engine { book = book; work = work }

-- an error that `?` hands on
pub handed_on : {T : Type 0} (r : Result T Stop) (why : Stop) → IsErr r × IsErrAnd r (λ found. found ≡ why) → r ≡ Err why
handed_on (Ok v) why is = let none : false ≡ true = is.0 in absurd (cc)
handed_on (Err found) why is = ap Err is.1

-- what a call makes, by the device that it leaves
pub on_device : {W T : Type 0} (standing : W → Device) (after : State → State) (old : Engine) (a : Device) (new : Engine) (w v : W) (r : Result T Stop) → w ≡ v
    → Does after old a new (standing v) r → Does after old a new (standing w) r
on_device {W} {T} standing after old a new w v r is it = subst (λ (x : W). Does after old a new (standing x) r) (sym is) it

-- why a call stopped, the references being of no name, and what the buffer fails
cause_is : (Fails Damage : Evidence → Type 0) (old new : Book) (a b : Device) (book_name device_name since book_name_after device_name_after since_after : ℕ) (why : Stop) → Keeps Fails why
    → IsCause Damage (standing_of old a book_name device_name since) (standing_of new b book_name_after device_name_after since_after) why → IsCause (λ e. Fails e × Damage e) (standing_of old a 0 0 0) (standing_of new b 0 0 0) why
cause_is Fails Damage old new a b book_name device_name since book_name_after device_name_after since_after Nvm fails h = h
cause_is Fails Damage old new a b book_name device_name since book_name_after device_name_after since_after Ssd fails h = h
cause_is Fails Damage old new a b book_name device_name since book_name_after device_name_after since_after (Damaged e) fails h = (fails, h)

pub cause_fails : {W T U : Type 0} (standing : W → Device) (Fails Damage : Evidence → Type 0) (old new : Book) (a : Device) (w v : W) (book_name device_name since book_name_after device_name_after since_after : ℕ) (r : Result U Stop) (why : Stop)
    → w ≡ v → IsErr r × IsErrAnd r (λ found. found ≡ why) → Keeps Fails why
    → HasCause {T = T} Damage (standing_of old a book_name device_name since) (standing_of new (standing v) book_name_after device_name_after since_after) (Err why)
    → HasCause (λ e. Fails e × Damage e) (standing_of old a 0 0 0) (standing_of new (standing w) 0 0 0) r
cause_fails {W} {T} {U} standing Fails Damage old new a w v book_name device_name since book_name_after device_name_after since_after r why same is fails cause =
    subst (λ (x : W). HasCause (λ e. Fails e × Damage e) (standing_of old a 0 0 0) (standing_of new (standing x) 0 0 0) r) (sym same)
    (subst (λ (x : Result U Stop). HasCause (λ e. Fails e × Damage e) (standing_of old a 0 0 0) (standing_of new (standing v) 0 0 0) x) (sym (handed_on r why is))
    (record { failed = cause_is Fails Damage old new a (standing v) book_name device_name since book_name_after device_name_after since_after why fails cause.failed; kept = tt }))

-- the same where the damage is of the pages at the stop
pub cause_fails_at : {W T U : Type 0} (standing : W → Device) (Fails : Evidence → Type 0) (Damage : Lines → Evidence → Type 0) (old new : Book) (a : Device) (w v : W) (book_name device_name since book_name_after device_name_after since_after : ℕ) (r : Result U Stop) (why : Stop)
    → w ≡ v → IsErr r × IsErrAnd r (λ found. found ≡ why) → Keeps Fails why
    → HasCause {T = T} (Damage (current_lines new (standing v))) (standing_of old a book_name device_name since) (standing_of new (standing v) book_name_after device_name_after since_after) (Err why)
    → HasCause (λ e. Fails e × Damage (current_lines new (standing w)) e) (standing_of old a 0 0 0) (standing_of new (standing w) 0 0 0) r
cause_fails_at {W} {T} {U} standing Fails Damage old new a w v book_name device_name since book_name_after device_name_after since_after r why same is fails cause =
    subst (λ (lines : Lines). HasCause (λ e. Fails e × Damage lines e) (standing_of old a 0 0 0) (standing_of new (standing w) 0 0 0) r)
    (ap (λ (x : W). current_lines new (standing x)) (sym same))
    (cause_fails {T = T} standing Fails (Damage (current_lines new (standing v))) old new a w v book_name device_name since book_name_after device_name_after since_after r why same is fails cause)

-- the pages that an engine shows are a store of its limits
pub store_shown : (old : Engine) (a : Device) (s : State) → StandsFor old a → Shows old a s → IsStore old.limits (pages (engine_sizes old)) (engine_lines old a)
store_shown old a s stands shows = holds_with (engine_sizes old) (engine_lines old a) (current s) old.limits stands.limits shows.seen

-- the open transaction by another book
pub transaction_by : (old new : Book) (o : Option Open) → (account new).is_open ≡ (account old).is_open → (account new).accepted ≡ (account old).accepted → IsTransaction old o → IsTransaction new o
transaction_by old new None is_open accepted it = is_open ∙ it
transaction_by old new (Some o) is_open accepted it = (is_open ∙ it.0, it.1 ∙ sym accepted)

-- and with one write more
transaction_next : (old new : Book) (s : State) (T : List Table) → (account old).is_open ≡ true → (account new).is_open ≡ true → (account new).accepted ≡ (account old).accepted + 1 → IsTransaction old s.transaction → IsTransaction new (written T s).transaction
transaction_next old new s T was is_open accepted it = next s.transaction it
  where
    next : (o : Option Open) → IsTransaction old o → IsTransaction new (Rattle.std.specs.Prelude.option_map (λ (o : Open). record { tables = T; writes = o.writes + 1 }) o)
    next None none = let bad : true ≡ false = sym was ∙ none in absurd (cc)
    next (Some o) is = (is_open, omega (arith, accepted, is.1))

-- what the command sees behind a write
current_next : (old : Book) (s : State) (T : List Table) → (account old).is_open ≡ true → IsTransaction old s.transaction → current (written T s) ≡ T
current_next old s T was it = next s.transaction it
  where
    next : (o : Option Open) → IsTransaction old o → Rattle.script.specs.Machine.tables_of_open s.tables (Rattle.std.specs.Prelude.option_map (λ (o : Open). record { tables = T; writes = o.writes + 1 }) o) ≡ T
    next None none = let bad : true ≡ false = sym was ∙ none in absurd (cc)
    next (Some o) is = refl

module _ {book_name device_name since book_name_after device_name_after since_after : ℕ} (old : Engine) (a b : Device) (book : Book) (work : Work) (stands : StandsFor old a)
    (call : CallsPages old.book a book_name device_name since book b book_name_after device_name_after since_after) (begun : since ≡ a.clock) where
  keep : KeepsStore old.book a book b
  keep = pages_keep old.book book a b call begun

  -- a call that stopped
  pub does_fails : {T : Type 0} (after : State → State) (r : Result T Stop) (why : Stop) → IsErr r × IsErrAnd r (λ found. found ≡ why) → (IsTrue a.told → (s : State) → Shows old a s → IsFault why) → Does after old a (with_book old book work) b r
  does_fails {T} after r why is sound =
      subst (λ (x : Result T Stop). Does after old a (with_book old book work) b x) (sym (handed_on r why is))
      (does_kept after old a (with_book old book work) b (Err why) stands keep.sizes keep.goes keep.during tt (λ steady. tt) tt sound (λ told s shows. tt))

  -- the committed tables stay
  committed_stays : IsTrue a.told → (s : State) → Shows old a s → HoldsTables (book_sizes book) (committed_lines b) s.tables
  committed_stays told s shows =
      subst (λ (g : Sizes). HoldsTables g (committed_lines b) s.tables) (sym keep.sizes)
      (holds_same (engine_sizes old) (committed_lines a) (committed_lines b) s.tables (keep.committed told) shows.committed)

  -- ---- a call that changed no line
  module _ (ready : IsReady book b) (keeps : KeepsLines (standing_of old.book a book_name device_name since) (standing_of book b book_name_after device_name_after since_after)) where
    stands_kept : StandsFor (with_book old book work) b
    stands_kept =
        let same_writes : (account book).accepted ≡ writes_done old = keep.accepted in
        let room : (account book).room ≡ (account old.book).room = keeps.room in
        let same_reach : reach book ≡ reach old.book = keep.reach_is in
        let few : has_open old ≡ true → writes_done old ≤ most_writes old = stands.few in
        let enough : has_open old ≡ true → writes_done old < most_writes old → 640 ≤ (account old.book).room = stands.room in
        let counted : old.commits ≤ log_end old = stands.counted in
        record {
          ready = ready;
          disk = subst (λ (x : Sizes). ssd_blocks x ≤ b.blocks) (sym keep.sizes) (subst (λ n. ssd_blocks (engine_sizes old) ≤ n) (sym keep.goes.blocks) stands.disk);
          limits = subst (λ (x : Sizes). AreLimits x old.limits) (sym keep.sizes) stands.limits;
          writes = stands.writes ∙ ap (λ (x : Sizes). x.writes) (sym keep.sizes);
          few = λ still. let it : writes_done old ≤ most_writes old = few (sym keep.is_open ∙ still) in omega (arith, it, same_writes);
          room = λ still more. let it : 640 ≤ (account old.book).room = enough (sym keep.is_open ∙ still) (omega (arith, more, same_writes)) in omega (arith, it, room);
          counted = omega (arith, counted, room, same_reach);
        }

    shows_kept : IsTrue a.told → (s : State) → Shows old a s → Shows (with_book old book work) b s
    shows_kept told s shows = record {
      committed = committed_stays told s shows;
      seen = subst (λ (g : Sizes). HoldsTables g (current_lines book b) (current s)) (sym keep.sizes)
          (holds_same (engine_sizes old) (engine_lines old a) (current_lines book b) (current s) (keeps.current told) shows.seen);
      transaction = transaction_by old.book book s.transaction keep.is_open keep.accepted shows.transaction;
      commits = shows.commits;
    }

    pub does_stays : {T : Type 0} (after : State → State) (v : T) → (IsSteady old.book a → IsSteady book b) → (IsTrue a.told → (s : State) → Shows old a s → after s ≡ s)
        → Does after old a (with_book old book work) b (Ok v)
    does_stays after v steady same =
        let same_reach : reach book ≡ reach old.book = keep.reach_is in
        does_kept after old a (with_book old book work) b (Ok v) stands keep.sizes keep.goes keep.during (omega (arith, same_reach)) steady stands_kept (λ told s shows. tt)
        (λ told s shows. subst (λ (x : State). Shows (with_book old book work) b x) (sym (same told s shows)) (shows_kept told s shows))

  -- ---- a write of the open transaction
  module _ (next : Book) (ready : IsReady book b) (was_open : has_open old ≡ true) (more : writes_done old < most_writes old) (nexts : NextWrite book next) (next_ready : IsReady next b) where
    sizes_next : book_sizes next ≡ engine_sizes old
    sizes_next = next_sizes book next nexts ∙ keep.sizes

    room_next : (n m none some : ℕ) → n < m → cond (n == m) none some ≡ some
    room_next n m none some less = ap (λ (x : Bool). cond x none some) (ne_eqb n m (λ e. omega (arith, e, less)))

    stands_next : StandsFor (with_book old next work) b
    stands_next =
        let same_writes : (account book).accepted ≡ writes_done old = keep.accepted in
        let one : (account next).accepted ≡ (account book).accepted + 1 = nexts.accepted in
        let same_reach : reach book ≡ reach old.book = keep.reach_is in
        let few : (account book).room ≤ 640 = ready.few in
        let enough : 640 ≤ (account old.book).room = stands.room was_open more in
        let tail : (account next).tail ≡ (account book).tail = next_tail book next nexts in
        let counted : old.commits ≤ log_end old = stands.counted in
        let writes : most_writes old ≡ (book_sizes book).writes = stands.writes ∙ ap (λ (x : Sizes). x.writes) (sym keep.sizes) in
        record {
          ready = next_ready;
          disk = subst (λ (x : Sizes). ssd_blocks x ≤ b.blocks) (sym sizes_next) (subst (λ n. ssd_blocks (engine_sizes old) ≤ n) (sym keep.goes.blocks) stands.disk);
          limits = subst (λ (x : Sizes). AreLimits x old.limits) (sym sizes_next) stands.limits;
          writes = stands.writes ∙ ap (λ (x : Sizes). x.writes) (sym sizes_next);
          few = λ still. omega (arith, same_writes, one, more);
          room = λ still left.
              let six : (account next).room ≡ 640 = nexts.room ∙ room_next ((account book).accepted + 1) (book_sizes book).writes 0 640 (omega (arith, one, left, writes)) in
              omega (arith, six);
          counted = omega (arith, counted, same_reach, few, enough, tail);
        }

    shows_next : IsTrue a.told → (s : State) → Shows old a s → (T : List Table) → HoldsTables (engine_sizes old) (current_lines book b) T → Shows (with_book old next work) b (written T s)
    shows_next told s shows T holds = record {
      committed = subst (λ (g : Sizes). HoldsTables g (committed_lines b) s.tables) (keep.sizes ∙ sym sizes_next) (committed_stays told s shows);
      seen = subst (λ (tables : List Table). HoldsTables (book_sizes next) (current_lines next b) tables) (sym (current_next old.book s T was_open shows.transaction))
          (subst (λ (g : Sizes). HoldsTables g (current_lines next b) T) (sym sizes_next) (holds_same (engine_sizes old) (current_lines book b) (current_lines next b) T (next_lines book next b nexts) holds));
      transaction = transaction_next old.book next s T was_open nexts.is_open
          (let one : (account next).accepted ≡ (account book).accepted + 1 = nexts.accepted in let same_writes : (account book).accepted ≡ writes_done old = keep.accepted in omega (arith, one, same_writes)) shows.transaction;
      commits = shows.commits;
    }

    pub does_writes : {T : Type 0} (after : State → State) (v : T) (tables_of : State → List Table) → (IsSteady old.book a → IsSteady next b) → (IsTrue a.told → (s : State) → Shows old a s → after s ≡ written (tables_of s) s)
        → (IsTrue a.told → (s : State) → Shows old a s → HoldsTables (engine_sizes old) (current_lines book b) (tables_of s)) → Does after old a (with_book old next work) b (Ok v)
    does_writes after v tables_of steady same holds =
        let same_reach : reach book ≡ reach old.book = keep.reach_is in
        let rises : reach next ≤ reach book + 1921 = nexts.reach_rises in
        does_kept after old a (with_book old next work) b (Ok v) stands sizes_next keep.goes keep.during (omega (arith, same_reach, rises)) steady stands_next (λ told s shows. tt)
        (λ told s shows. subst (λ (x : State). Shows (with_book old next work) b x) (sym (same told s shows)) (shows_next told s shows (tables_of s) (holds told s shows)))

-- ---- what one call makes, said of another result

pub does_ok : {T U : Type 0} (after : State → State) (old : Engine) (a : Device) (new : Engine) (b : Device) (v : T) (w : U) → Does {T = T} after old a new b (Ok v) → Does {T = U} after old a new b (Ok w)
does_ok after old a new b v w it = record { shows = it.shows; sound = λ told s shows. tt; moments = it.moments; steady = it.steady; ready = it.ready; sizes = it.sizes; reach_rises = it.reach_rises; goes = it.goes }

pub does_err : {T U : Type 0} (after : State → State) (old : Engine) (a : Device) (new : Engine) (b : Device) (r : Result U Stop) (why : Stop) → IsErr r × IsErrAnd r (λ found. found ≡ why)
    → Does {T = T} after old a new b (Err why) → Does {T = U} after old a new b r
does_err {T} {U} after old a new b r why is it =
    subst (λ (x : Result U Stop). Does {T = U} after old a new b x) (sym (handed_on r why is))
    (record { shows = λ told s shows. tt; sound = it.sound; moments = it.moments; steady = λ steady. tt; ready = tt; sizes = it.sizes; reach_rises = tt; goes = it.goes })

pub cause_err : {A T U : Type 0} (Damage : Evidence → Type 0) (old new : Shown A) (r : Result U Stop) (why : Stop) → IsErr r × IsErrAnd r (λ found. found ≡ why)
    → HasCause {T = T} Damage old new (Err why) → HasCause {T = U} Damage old new r
cause_err {A} {T} {U} Damage old new r why is it = subst (λ (x : Result U Stop). HasCause {T = U} Damage old new x) (sym (handed_on r why is)) (record { failed = it.failed; kept = tt })

pub replies_by : (T : List Table) (r : Result Step Stop) (x : Reply) (all : List Reply) → all ≡ x ∷ [] → IfOk r (λ y. y ≡ Said x) → IfOk r (λ y. all ≡ step_replies y T)
replies_by T (Ok y) x all is same = is ∙ ap (λ (z : Step). step_replies z T) (sym same)
replies_by T (Err e) x all is same = tt
