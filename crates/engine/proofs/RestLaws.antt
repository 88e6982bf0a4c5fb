-- Where nothing is written all lines stay, and a page that is shown is one of theirs.
use Rattle.std.proofs.Common.{◌≡◌, ◌∙◌, ℕ, List, [], ◌∷◌, refl, sym, ap, subst, inl, inr, true, false, Bool, IsTrue, Result, Ok, Err, Option, Some}
use Rattle.std.specs.Prelude.{OnOk, IfErr, IsErr, IsErrAnd, ◌&&◌}
use Rattle.std.specs.List.{list_all}
use Rattle.devices.specs.World.{Standing as Device}
use Rattle.damage.specs.declared.evidence.Evidence.{Evidence}
use Rattle.damage.specs.declared.evidence.Evidence.TheVariants.{Super, Frames, Log, Page, Walk}
use Rattle.line_pages.specs.declared.stop.Stop.{Stop}
use Rattle.line_pages.specs.declared.stop.Stop.TheVariants.{Nvm, Ssd, Damaged}
use Rattle.line_pages.specs.declared.touches.Accesses.{Accesses}
use Rattle.line_pages.specs.Bytes.{bytes_of}
use Rattle.line_pages.specs.Lines.{Lines}
use Rattle.line_pages.specs.Standing.{Standing, HasCause, KeepsLines as AllStay}
use Rattle.page_format.specs.Search.{Keeps, IsNodeDamage}
use Rattle.page_format.specs.declared.work.Work.{Work}
use Rattle.rows.specs.declared.limits.Limits.{Limits}
use Rattle.table_catalog.specs.Catalog.{IsCatalogDamage}
use Rattle.texts.specs.Lines.{is_silent}
use Rattle.flat_transactions.specs.declared.book.Book.{Book}
use Rattle.flat_transactions.specs.OpenStore.{CallsPages, IsCounted, IsCountedOrDamage, IsLogDamage}
use Rattle.flat_transactions.specs.Order.{pages}
use Rattle.flat_transactions.specs.StoreStanding.{standing_of}
use Rattle.flat_transactions.specs.StoreCalls.{KeepsLines, CommitsLines, AbortsLines}
use Rattle.flat_transactions.proofs.OpenStoreLaws.{pages_keep}
use Rattle.script.specs.Grammar.{command_in, command_of}
use Rattle.script.specs.declared.command.Command.{Command}
use Rattle.engine.specs.declared.engine.Engine.{Engine}
use Rattle.engine.specs.Causes.{IsNameDamage, IsRowDamage}
use Rattle.engine.specs.Commands.{shown}
use Rattle.engine.specs.Engine.{engine_sizes, engine_lines, evidence_bytes}
use Rattle.engine.specs.Resting.{is_read, AreReads, Rests, IsPageOf, Reads}
use Rattle.engine.proofs.CommandLaws.{with_book}

-- ---- answers

on_err : {T : Type 0} (P : Type 0) (r : Result T Stop) → IsErr r → OnOk r P
on_err P (Ok v) is = let clash : false ≡ true = is in absurd (cc)
on_err P (Err why) is = tt

on_why : {T : Type 0} (P : Stop → Type 0) (r : Result T Stop) (why : Stop) → IsErr r × IsErrAnd r (λ found. found ≡ why) → P why → IfErr r P
on_why P (Ok v) why is p = tt
on_why P (Err found) why is p = subst P (sym is.1) p

-- ---- a page of the evidence

by_catalog : (limits : Limits) (count : ℕ) (held lines : Lines) (buffer : List ℕ) (e : Evidence) → held ≡ lines → IsCatalogDamage limits count held buffer e → IsPageOf lines buffer e
by_catalog limits count held lines buffer (Page page level low high check) same it = it.bytes ∙ ap (λ (l : Lines). bytes_of l 0) same ∙ ap (λ (n : ℕ). bytes_of lines n) (sym it.shown.0)
by_catalog limits count held lines buffer (Super words check) same it = tt
by_catalog limits count held lines buffer (Frames first second entry check) same it = tt
by_catalog limits count held lines buffer (Log offset line tail check) same it = tt
by_catalog limits count held lines buffer (Walk page kept found check) same it = tt

by_node : (count : ℕ) (held lines : Lines) (buffer : List ℕ) (e : Evidence) → held ≡ lines → IsNodeDamage count held buffer e → IsPageOf lines buffer e
by_node count held lines buffer (Page page level low high check) same it = it.1 ∙ ap (λ (l : Lines). bytes_of l page) same
by_node count held lines buffer (Super words check) same it = tt
by_node count held lines buffer (Frames first second entry check) same it = tt
by_node count held lines buffer (Log offset line tail check) same it = tt
by_node count held lines buffer (Walk page kept found check) same it = tt

module _ (lines : Lines) (old : Engine) (a : Device) (rests : Rests lines old a) (told : IsTrue a.told) (buffer : List ℕ) (e : Evidence) where
  name_page : IsNameDamage old a buffer e → IsPageOf lines buffer e
  name_page it = by_catalog old.limits (pages (engine_sizes old)) (engine_lines old a) lines buffer e rests.current (it.1 told)

  row_page : IsRowDamage old a buffer e → IsPageOf lines buffer e
  row_page it = elim (it.1 told) [
    | inl catalog ↦ by_catalog old.limits (pages (engine_sizes old)) (engine_lines old a) lines buffer e rests.current catalog
    | inr node ↦ by_node (pages (engine_sizes old)) (engine_lines old a) lines buffer e rests.current node
  ]

stop_page : {A T : Type 0} (P : Evidence → Type 0) (x y : Standing A) (lines : Lines) (buffer : List ℕ) (r : Result T Stop) → ((e : Evidence) → P e → IsPageOf lines buffer e) → HasCause P x y r → IfErr r (Keeps (IsPageOf lines buffer))
stop_page P x y lines buffer (Ok v) page it = tt
stop_page P x y lines buffer (Err Nvm) page it = tt
stop_page P x y lines buffer (Err Ssd) page it = tt
stop_page P x y lines buffer (Err (Damaged e)) page it = page e it.failed

-- ---- calls on pages

-- one that stopped
pub reads_name : {T : Type 0} (old : Engine) (a : Device) (new : Engine) (b : Device) (r : Result T Stop) → IsErr r → HasCause (IsNameDamage old a (evidence_bytes new)) (shown old a) (shown new b) r → Reads old a new b r
reads_name old a new b r is cause = record {
  stays = λ told lines rests. on_err _ r is;
  shows = λ told lines rests. stop_page (IsNameDamage old a (evidence_bytes new)) (shown old a) (shown new b) lines (evidence_bytes new) r (λ e it. name_page lines old a rests told (evidence_bytes new) e it) cause;
}

pub reads_row : {T : Type 0} (old : Engine) (a : Device) (new : Engine) (b : Device) (r : Result T Stop) → IsErr r → HasCause (IsRowDamage old a (evidence_bytes new)) (shown old a) (shown new b) r → Reads old a new b r
reads_row old a new b r is cause = record {
  stays = λ told lines rests. on_err _ r is;
  shows = λ told lines rests. stop_page (IsRowDamage old a (evidence_bytes new)) (shown old a) (shown new b) lines (evidence_bytes new) r (λ e it. row_page lines old a rests told (evidence_bytes new) e it) cause;
}

-- and one that changed no line
pub reads_stays : {W T : Type 0} {book_name device_name since book_name_after device_name_after since_after : ℕ} (standing : W → Device) (old : Engine) (a : Device) (w v : W) (book : Book) (work : Work) (value : T) → w ≡ v
    → CallsPages old.book a book_name device_name since book (standing v) book_name_after device_name_after since_after
    → since ≡ a.clock → AllStay (standing_of old.book a book_name device_name since) (standing_of book (standing v) book_name_after device_name_after since_after)
    → Reads old a (with_book old book work) (standing w) (Ok value)
reads_stays {book_name = book_name} {device_name = device_name} {since = since} {book_name_after = book_name_after} {device_name_after = device_name_after} {since_after = since_after} standing old a w v book work value same call begun keeps = record {
  stays = λ told lines rests. subst (λ x. Rests lines (with_book old book work) (standing x)) (sym same) (record {
    current = keeps.current told ∙ rests.current;
    committed = (pages_keep old.book book a (standing v) call begun).committed told ∙ rests.committed;
  });
  shows = λ told lines rests. tt;
}

-- nothing happens
pub reads_still : {T : Type 0} (old : Engine) (a : Device) (value : T) → Reads old a old a (Ok value)
reads_still old a value = record { stays = λ told lines rests. rests; shows = λ told lines rests. tt }

-- the same by another answer
pub reads_ok : {T U : Type 0} (old : Engine) (a : Device) (new : Engine) (b : Device) (v : T) (w : U) → Reads {T = T} old a new b (Ok v) → Reads {T = U} old a new b (Ok w)
reads_ok old a new b v w it = record { stays = it.stays; shows = λ told lines rests. tt }

pub reads_err : {T U : Type 0} (old : Engine) (a : Device) (new : Engine) (b : Device) (r : Result U Stop) (why : Stop) → IsErr r × IsErrAnd r (λ found. found ≡ why) → Reads {T = T} old a new b (Err why) → Reads {T = U} old a new b r
reads_err old a new b r why is it = record {
  stays = λ told lines rests. on_err _ r is.0;
  shows = λ told lines rests. on_why (Keeps (IsPageOf lines (evidence_bytes new))) r why is (it.shows told lines rests);
}

-- ---- calls that open and end transactions

fault_page : (a b : Device) (lines : Lines) (buffer : List ℕ) (why : Stop) → IsCounted a b why → Keeps (IsPageOf lines buffer) why
fault_page a b lines buffer Nvm is = tt
fault_page a b lines buffer Ssd is = tt
fault_page a b lines buffer (Damaged e) is = absurd is

line_page : (book : Book) (a : Device) (lines : Lines) (buffer : List ℕ) (e : Evidence) → IsLogDamage book a e → IsPageOf lines buffer e
line_page book a lines buffer e it = subst (λ (x : Evidence). IsPageOf lines buffer x) (sym it.keeps) tt

abort_page : (book : Book) (a b : Device) (lines : Lines) (buffer : List ℕ) (why : Stop) → IsCountedOrDamage book a b why → Keeps (IsPageOf lines buffer) why
abort_page book a b lines buffer Nvm is = tt
abort_page book a b lines buffer Ssd is = tt
abort_page book a b lines buffer (Damaged e) is = line_page book a lines buffer e is

module _ (old : Engine) (a : Device) (new : Engine) (b : Device) where
  pub reads_fault : {T : Type 0} (r : Result T Stop) (why : Stop) → IsErr r × IsErrAnd r (λ found. found ≡ why) → IsCounted a b why → Reads old a new b r
  reads_fault r why is fault = record {
    stays = λ told lines rests. on_err _ r is.0;
    shows = λ told lines rests. on_why (Keeps (IsPageOf lines (evidence_bytes new))) r why is (fault_page a b lines (evidence_bytes new) why fault);
  }

  pub reads_abort : {T : Type 0} (book : Book) (r : Result T Stop) (why : Stop) → IsErr r × IsErrAnd r (λ found. found ≡ why) → IsCountedOrDamage book a b why → Reads old a new b r
  reads_abort book r why is stop = record {
    stays = λ told lines rests. on_err _ r is.0;
    shows = λ told lines rests. on_why (Keeps (IsPageOf lines (evidence_bytes new))) r why is (abort_page book a b lines (evidence_bytes new) why stop);
  }

  pub reads_kept : {T : Type 0} (value : T) → (IsTrue a.told → KeepsLines old.book a new.book b) → Reads old a new b (Ok value)
  reads_kept value keeps = record {
    stays = λ told lines rests. record { current = (keeps told).current ∙ rests.current; committed = (keeps told).committed ∙ rests.committed };
    shows = λ told lines rests. tt;
  }

  pub reads_committed : {T : Type 0} (value : T) → (IsTrue a.told → CommitsLines old.book a new.book b) → Reads old a new b (Ok value)
  reads_committed value commits = record {
    stays = λ told lines rests. record { current = (commits told).current ∙ rests.current; committed = (commits told).committed ∙ rests.current };
    shows = λ told lines rests. tt;
  }

  pub reads_aborted : {T : Type 0} (value : T) → (IsTrue a.told → AbortsLines old.book a new.book b) → Reads old a new b (Ok value)
  reads_aborted value aborts = record {
    stays = λ told lines rests. record { current = (aborts told).current ∙ rests.committed; committed = (aborts told).committed ∙ rests.committed };
    shows = λ told lines rests. tt;
  }

-- ---- behind the end of the open access

module _ (old : Engine) (a : Device) (new : Engine) (b : Device) where
  rests_rested : (touched : Accesses) (lines : Lines) → Rests lines old a → Rests lines (record old { book = record old.book { accesses = touched } }) a
  rests_rested touched lines it = record { current = it.current; committed = it.committed }

  pub reads_after_rest : {T : Type 0} (book : Book) (r : Result T Stop) → book ≡ record old.book { accesses = book.accesses } → Reads (record old { book = book }) a new b r → Reads old a new b r
  reads_after_rest book r same it =
      let from : (lines : Lines) → Rests lines old a → Rests lines (record old { book = book }) a =
      λ lines rests. subst (λ (x : Book). Rests lines (record old { book = x }) a) (sym same) (rests_rested book.accesses lines rests) in
      record { stays = λ told lines rests. it.stays told lines (from lines rests); shows = λ told lines rests. it.shows told lines (from lines rests) }

  pub reads_between : {T : Type 0} (between : Engine) (r : Result T Stop) → between ≡ record old { book = record old.book { accesses = between.book.accesses } } → Reads between a new b r → Reads old a new b r
  reads_between between r same it =
      let from : (lines : Lines) → Rests lines old a → Rests lines between a =
      λ lines rests. subst (λ (x : Engine). Rests lines x a) (sym same) (rests_rested between.book.accesses lines rests) in
      record { stays = λ told lines rests. it.stays told lines (from lines rests); shows = λ told lines rests. it.shows told lines (from lines rests) }

-- ---- the one command of a line

pub read_one : (c : Option Command) → AreReads (c ∷ []) → IsTrue (is_read c)
read_one c are = here (is_read c) are
  where
    here : (b : Bool) → (b && true) ≡ true → b ≡ true
    here true e = refl
    here false e = e

pub read_some : (line : List ℕ) (c : Command) → is_silent line ≡ false → command_of line ≡ Some c → AreReads (command_in line) → IsTrue (is_read (Some c))
read_some line c said some are = read_one (Some c) (subst IsTrue found are)
  where
    found : list_all is_read (command_in line) ≡ list_all is_read (Some c ∷ [])
    found = rw (said, some) refl
