-- A refused command changes neither the tables nor the transaction.
use Rattle.std.proofs.Common.{◌≡◌, ℕ, refl, sym, subst, arith, Result, Ok, Err}
use Rattle.std.specs.Prelude.{OnOk, IfOk}
use Rattle.devices.specs.World.{Standing as Device}
use Rattle.line_pages.specs.Standing.{KeepsLines}
use Rattle.line_pages.specs.declared.stop.Stop.{Stop}
use Rattle.line_pages.specs.declared.touches.Accesses.{Accesses}
use Rattle.page_format.specs.declared.work.Work.{Work}
use Rattle.flat_transactions.specs.declared.book.Book.{Book}
use Rattle.flat_transactions.specs.OpenStore.{account, CallsPages, KeepsStore}
use Rattle.flat_transactions.specs.StoreStanding.{standing_of, reach}
use Rattle.flat_transactions.proofs.OpenStoreLaws.{pages_keep}
use Rattle.script.specs.declared.command.Reply.{Reply}
use Rattle.script.specs.declared.command.Reply.TheVariants.{Fine, Found, Absent, Row, Finish, Committed, Aborted, Refused}
use Rattle.engine.specs.declared.engine.Engine.{Engine}
use Rattle.engine.specs.declared.scan.Step.{Step}
use Rattle.engine.specs.declared.scan.Step.TheVariants.{Silent, Said, Scanning}
use Rattle.engine.specs.Refused.{Stays, StaysIfRefused, LineStaysIfRefused}
use Rattle.engine.proofs.CommandLaws.{with_book}

-- a call of pages that changed no line
pub stays_kept : {W : Type 0} {book_name device_name since book_name_after device_name_after since_after : ℕ} (standing : W → Device) (old : Engine) (a : Device) (w v : W) (book : Book) (work : Work) → w ≡ v
    → CallsPages old.book a book_name device_name since book (standing v) book_name_after device_name_after since_after
    → since ≡ a.clock → KeepsLines (standing_of old.book a book_name device_name since) (standing_of book (standing v) book_name_after device_name_after since_after)
    → Stays old a (with_book old book work) (standing w)
stays_kept {book_name = book_name} {device_name = device_name} {since = since} {book_name_after = book_name_after} {device_name_after = device_name_after} {since_after = since_after} standing old a w v book work same call begun keeps =
    let keep : KeepsStore old.book a book (standing v) = pages_keep old.book book a (standing v) call begun in
    let room : (account book).room ≡ (account old.book).room = keeps.room in
    let same_reach : reach book ≡ reach old.book = keep.reach_is in
    subst (λ x. Stays old a (with_book old book work) (standing x)) (sym same) (record {
      is_open = keep.is_open;
      accepted = keep.accepted;
      room = room;
      commits = refl;
      start = keep.start;
      tail = omega (arith, room, same_reach);
      current = keeps.current;
      committed = keep.committed;
    })

pub stays_still : (old : Engine) (a : Device) → Stays old a old a
stays_still old a = record { is_open = refl; accepted = refl; room = refl; commits = refl; start = refl; tail = refl; current = λ told. refl; committed = λ told. refl }

-- ---- answers

module _ (old : Engine) (a : Device) (new : Engine) (b : Device) where
  -- whatever is replied
  pub refused_any : (r : Reply) → Stays old a new b → StaysIfRefused old a new b r
  refused_any Fine it = tt
  refused_any (Found value) it = tt
  refused_any Absent it = tt
  refused_any (Row key value) it = tt
  refused_any (Finish rows) it = tt
  refused_any (Committed commits) it = tt
  refused_any Aborted it = tt
  refused_any (Refused why) it = it

  pub refused_all : (r : Result Step Stop) → OnOk r (Stays old a new b) → IfOk r (LineStaysIfRefused old a new b)
  refused_all (Ok Silent) it = tt
  refused_all (Ok (Said v)) it = refused_any v it
  refused_all (Ok (Scanning scan)) it = tt
  refused_all (Err why) it = tt

-- ---- behind the end of the open access

module _ (old : Engine) (touched : Accesses) (a : Device) (new : Engine) (b : Device) where
  abbrev rested : Engine
  rested = record old { book = record old.book { accesses = touched } }

  stays_rested : Stays rested a new b → Stays old a new b
  stays_rested it = record { is_open = it.is_open; accepted = it.accepted; room = it.room; commits = it.commits; start = it.start; tail = it.tail; current = it.current; committed = it.committed }

  reply_rested : (r : Reply) → StaysIfRefused rested a new b r → StaysIfRefused old a new b r
  reply_rested Fine it = tt
  reply_rested (Found value) it = tt
  reply_rested Absent it = tt
  reply_rested (Row key value) it = tt
  reply_rested (Finish rows) it = tt
  reply_rested (Committed commits) it = tt
  reply_rested Aborted it = tt
  reply_rested (Refused why) it = stays_rested it

  line_rested : (r : Result Step Stop) → IfOk r (LineStaysIfRefused rested a new b) → IfOk r (LineStaysIfRefused old a new b)
  line_rested (Ok Silent) it = tt
  line_rested (Ok (Said r)) it = reply_rested r it
  line_rested (Ok (Scanning scan)) it = tt
  line_rested (Err why) it = tt

pub refused_after_rest : (old : Engine) (book : Book) → book ≡ record old.book { accesses = book.accesses } → (a : Device) (new : Engine) (b : Device) (r : Result Step Stop)
    → IfOk r (LineStaysIfRefused (record old { book = book }) a new b) → IfOk r (LineStaysIfRefused old a new b)
refused_after_rest old book same a new b r it =
    line_rested old book.accesses a new b r (subst (λ (x : Book). IfOk r (LineStaysIfRefused (record old { book = x }) a new b)) same it)
