-- Calls of pages, by what they do to the book and the device of a store.
use Rattle.std.proofs.Common.{◌≡◌, ℕ, ◌+◌, ◌^◌, ◌<◌, ◌≤◌, Bool, true, List, [], ◌∷◌, ◌++◌, length, refl, sym, ap, ◌∙◌, subst, arith, IsTrue, Some, Result, Ok, Err, min}
use Rattle.std.specs.Prelude.{OnOk}
use mathlib.Core.Path.{fun_ext}
use Rattle.nvm_model.specs.declared.line.Line.{Line}
use Rattle.devices.specs.State.{State, Leaves, current, fresh}
use Rattle.devices.specs.World.{Standing as Device, Goes, Stays, MakesAll, now}
use Rattle.line_pages.specs.Lines.{Lines, with_line}
use Rattle.line_pages.specs.LineSets.{pages_of}
use Rattle.line_pages.specs.Touch.{Touch, accesses, touch_of}
use Rattle.line_pages.specs.Standing.{Continues, IsTouch}
use Rattle.line_pages.specs.declared.touches.Accesses.{Accesses}
use Rattle.line_pages.proofs.TouchLaws.{accesses_push}
use Rattle.flat_store_meaning.specs.Layout.{pages, nvm_lines, ring_lines, is_allowed}
use Rattle.flat_store_meaning.specs.Put.{IsLine}
use Rattle.flat_store_meaning.proofs.AtEndLaws.{OnOk_map}
use Rattle.flat_store_laws.specs.Calls.{write_calls}
use Rattle.flat_store_laws.specs.ShownPages.{pages_in, committed_in}
use Rattle.flat_store_laws.specs.Steps.{MayLeave, LeadsTo}
use Rattle.flat_store_laws.proofs.StepLaws.{write_step, open_left, leaves_earlier, read_facts, read_committed, read_current, steady_facts, steady_during}
use Rattle.flat_nvm_layout.specs.Sizes.{sizes_of}
use Rattle.flat_nvm_layout.specs.declared.geometry.Geometry.{Geometry}
use Rattle.flat_transactions.specs.declared.book.Book.{Book}
use Rattle.flat_transactions.specs.StoreStanding.{past_of, standing_of, book_sizes, reach, reserve, kept_lines, Stands, IsReady, IsSteady}
use Rattle.flat_transactions.specs.BookCalls.{IsWritten}
use Rattle.flat_transactions.specs.StoreCalls.{HoldsAlong}
use Rattle.flat_transactions.proofs.CallLaws.{at_end, holds_ok}
use Rattle.flat_transactions.proofs.StandsLaws.{stands_read, write_leads, write_along}

-- Every call of pages: nothing apart changes, and each moment recovers to the committed pages.
pub continues_by : (old new : Book) (a b : Device) (book_name device_name since : ℕ)
    → new.log.geometry ≡ old.log.geometry → new.log.start ≡ old.log.start → new.is_open ≡ old.is_open → new.accepted ≡ old.accepted → reach new ≡ reach old
    → (added : List Touch) → new.accesses.touches.list ≡ old.accesses.touches.list ++ added → since ≤ a.clock → Goes a b → b.block_reads ≡ a.block_reads
    → (IsTrue a.told → committed_in (now b) ≡ committed_in (now a))
    → (IsTrue a.told → IsSteady old a → (m : ℕ) → a.clock < m → m ≤ b.clock → (lines : Lines) → MayLeave (book_sizes old) b m lines → lines ≡ committed_in (now a))
    → Continues (MayLeave (book_sizes old) a) (MayLeave (book_sizes new) b) (IsSteady old a) (standing_of old a book_name device_name since) (standing_of new b book_name device_name since)
continues_by old new a b book_name device_name since geometry start is_open accepted reaches added touches early goes reads kept during = record {
  count = ap (λ (g : Geometry). pages (sizes_of g)) geometry;
  told = goes.told;
  committed = kept;
  apart = same_apart;
  nvm_faults = goes.nvm_faults;
  ssd_faults = goes.ssd_faults;
  touches = (added, touches);
  clock = goes.clock;
  earlier = λ m lines early left. leaves_earlier (book_sizes old) a b goes m lines early (of_old m lines left);
  during = λ told steady m low high lines left. during told steady m low high lines (of_old m lines left);
}
  where
    of_old : (m : ℕ) (lines : Lines) → MayLeave (book_sizes new) b m lines → MayLeave (book_sizes old) b m lines
    of_old m lines left = subst (λ (x : Geometry). MayLeave (sizes_of x) b m lines) geometry left

    same_apart : (standing_of new b book_name device_name since).apart ≡ (standing_of old a book_name device_name since).apart
    same_apart =
        let past : past_of b since ≡ past_of a since = fun_ext (λ m. goes.earlier (min m since) (omega (arith, early))) in
        let e1 = goes.outside in
        let e2 = goes.lines in
        let e3 = goes.blocks in
        let e4 = goes.told in
        let e5 = goes.honest in
        cc

-- a call that changes no device
pub reads_over : (old : Book) (touched : Accesses) (a b : Device) (book_name device_name since : ℕ)
    → (added : List Touch) → touched.touches.list ≡ old.accesses.touches.list ++ added → since ≤ a.clock → Goes a b → b.block_reads ≡ a.block_reads → Stays a b
    → Continues (MayLeave (book_sizes old) a) (MayLeave (book_sizes old) b) (IsSteady old a) (standing_of old a book_name device_name since) (standing_of (record old { accesses = touched }) b book_name device_name since)
reads_over old touched a b book_name device_name since added touches early goes reads stays =
    continues_by old (record old { accesses = touched }) a b book_name device_name since refl refl refl refl refl added touches early goes reads
    (λ told. ap committed_in (at_end goes stays told))
    (λ told steady m low high lines left. open_left (book_sizes old) old.log.start old.log.tail (now a) (steady told).facts lines left.0
    (subst (λ (s : State). Leaves s left.0) ((stays told).each m (omega arith) high) left.1) left.2)

-- the touch of a call
pub touched_by : {T E : Type 0} (old new : Book) (a b : Device) (book_name device_name since page line : ℕ) (writes : Bool) (r : Result T E) → new.accesses.open_access ≡ Some (page, writes)
    → new.accesses.touches.list ≡ old.accesses.touches.list ++ touch_of old.accesses.open_access page line writes ∷ []
    → IsTouch page line writes (standing_of old a book_name device_name since) (standing_of new b book_name device_name since) r
touched_by old new a b book_name device_name since page line writes r access touches = record {
  access = access;
  visits = ap (λ ts. length (accesses ts)) touches ∙ accesses_push old.accesses.touches.list (touch_of old.accesses.open_access page line writes);
  touches = holds_ok r touches;
}

pub ok_both : {T E P Q R : Type 0} (r : Result T E) → (P → Q → R) → OnOk r P → OnOk r Q → OnOk r R
ok_both (Ok v) f p q = f p q
ok_both (Err e) f p q = tt

pub ok_under : {T E A : Type 0} (P : Type 0) (r : Result T E) → (A → OnOk r P) → OnOk r (A → P)
ok_under P (Ok v) f = f
ok_under P (Err e) f = tt

-- the facts by the book behind a call
pub stands_by : (old new : Book) (start tail first : ℕ) (s : State) → new.log.geometry ≡ old.log.geometry → new.log.start ≡ start → new.log.tail ≡ tail → new.first ≡ first
    → Stands (book_sizes old) start tail first s → Stands (book_sizes new) new.log.start new.log.tail new.first s
stands_by old new start tail first s geometry starts tails firsts it =
    subst (λ (x : Geometry). Stands (sizes_of x) new.log.start new.log.tail new.first s) (sym geometry)
    (subst (λ n. Stands (book_sizes old) n new.log.tail new.first s) (sym starts)
    (subst (λ n. Stands (book_sizes old) start n new.first s) (sym tails)
    (subst (λ n. Stands (book_sizes old) start tail n s) (sym firsts) it)))

-- the log has room for the record of a line that may be written
pub record_room : (book : Book) (a : Device) → IsReady book a → 1 ≤ book.room → book.log.tail + 3 ≤ book.log.start + ring_lines (book_sizes book)
record_room book a ready some = let all : reach book + kept_lines book ≤ book.log.start + ring_lines (book_sizes book) = ready.room in omega (arith, all, some)

-- A write keeps the facts of a store at each moment.
pub write_holds : {T E : Type 0} (book : Book) (a b : Device) (page line : ℕ) (value : Line) (r : Result T E) → IsReady book a → page < pages (book_sizes book) → line < 64 → IsLine value → 1 ≤ book.room
    → MakesAll (write_calls (book_sizes book) book.log.tail page line value (now a)) a b r → Goes a b → IsTrue a.told → IsSteady book a → HoldsAlong (book_sizes book) a b
write_holds book a b page line value r ready hp hl is_line some makes goes told steady =
    write_along (book_sizes book) book.log.start book.log.tail book.first a b r goes told (steady told) page line value hp hl is_line (record_room book a ready some) makes

-- A write, by the calls that it made on the device.
module _ (old : Book) (touched : Accesses) (new : Book) (a b : Device) (page line : ℕ) (value : Line) {T E : Type 0} (r : Result T E)
    (ready : IsReady old a) (hp : page < pages (book_sizes old)) (hl : line < 64) (is_line : IsLine value) (some : 1 ≤ old.room)
    (written : IsWritten page line (record old { accesses = touched }) new r)
    (makes : MakesAll (write_calls (book_sizes old) old.log.tail page line value (now a)) a b r) (goes : Goes a b) where
  room_for : old.log.tail + 3 ≤ old.log.start + ring_lines (book_sizes old)
  room_for = record_room old a ready some

  abbrev Facts : State → Type 0
  Facts s = Stands (book_sizes old) old.log.start (old.log.tail + 3) old.first s

  leads_from : (s : State) → Stands (book_sizes old) old.log.start old.log.tail old.first s → LeadsTo (book_sizes old) Facts (write_calls (book_sizes old) old.log.tail page line value s) s
  leads_from s it = write_leads (book_sizes old) old.log.start old.log.tail old.first s it page line value hp hl is_line room_for

  seen_leads : IsTrue a.told → LeadsTo (book_sizes old) Facts (write_calls (book_sizes old) old.log.tail page line value (now a)) (fresh (current (now a)))
  seen_leads told = leads_from (fresh (current (now a))) (ready.read told)

  pub write_continues : (book_name device_name since : ℕ) (added : List Touch) → touched.touches.list ≡ old.accesses.touches.list ++ added → since ≤ a.clock → b.block_reads ≡ a.block_reads
      → Continues (MayLeave (book_sizes old) a) (MayLeave (book_sizes new) b) (IsSteady old a) (standing_of old a book_name device_name since) (standing_of new b book_name device_name since)
  write_continues book_name device_name since added touches early reads =
      continues_by old new a b book_name device_name since written.geometry written.start written.is_open written.accepted written.reach_is added
      (ap (λ (x : Accesses). x.touches.list) written.accesses ∙ touches) early goes reads
      (λ told. read_committed (write_calls (book_sizes old) old.log.tail page line value (now a)) a b r goes makes told (seen_leads told))
      (λ told steady. steady_during (write_calls (book_sizes old) old.log.tail page line value (now a)) a b r goes makes told (leads_from (now a) (steady told)))

  same_kept : kept_lines new ≡ kept_lines old
  same_kept =
      ap (λ o. reserve o new.log.geometry.writes new.accepted) written.is_open
      ∙ ap (λ (x : Geometry). reserve old.is_open x.writes new.accepted) written.geometry
      ∙ ap (λ n. reserve old.is_open old.log.geometry.writes n) written.accepted

  ready_by : new.log.tail ≡ old.log.tail + 3 → (IsTrue a.told → Facts (fresh (current (now b)))) → IsReady new b
  ready_by tail read =
      let ring : ring_lines (book_sizes new) ≡ ring_lines (book_sizes old) = ap (λ (x : Geometry). ring_lines (sizes_of x)) written.geometry in
      let lines : pages_of new.loose ≡ pages_of old.loose = written.sized in
      let count : pages (book_sizes new) ≡ pages (book_sizes old) = ap (λ (x : Geometry). pages (sizes_of x)) written.geometry in
      let enough : pages (book_sizes old) ≤ pages_of old.loose = ready.sized in
      let reaches : reach new ≡ reach old = written.reach_is in
      let all : reach old + kept_lines old ≤ old.log.start + ring_lines (book_sizes old) = ready.room in
      let start : new.log.start ≡ old.log.start = written.start in
      let first : new.first ≡ old.first = written.first in
      let begins : old.log.start ≤ old.first = ready.begins in
      let behind : old.first ≤ old.log.tail = ready.within in
      let kept : kept_lines new ≡ kept_lines old = same_kept in
      let under : reach old + kept_lines old ≤ 2 ^ 62 = ready.below in
      let most : old.room ≤ 640 = ready.few in
      record {
        fits = subst (λ (x : Geometry). nvm_lines (sizes_of x) ≤ b.lines) (sym written.geometry) (subst (λ n. nvm_lines (book_sizes old) ≤ n) (sym goes.lines) ready.fits);
        allowed = subst (λ (x : Geometry). is_allowed (sizes_of x) ≡ true) (sym written.geometry) ready.allowed;
        sized = omega (arith, enough, lines, count);
        room = omega (arith, all, reaches, kept, start, ring);
        below = omega (arith, under, reaches, kept);
        few = omega (arith, most, reaches, tail);
        begins = omega (arith, begins, start, first);
        within = omega (arith, behind, tail, first);
        closed = λ shut. let none : old.room ≡ 0 = (ready.closed (sym written.is_open ∙ shut)).room in absurd (omega (arith, none, some));
        read = λ told. stands_by old new old.log.start (old.log.tail + 3) old.first (fresh (current (now b))) written.geometry written.start tail written.first (read (subst IsTrue goes.told told));
      }

  pub write_ready : OnOk r (IsReady new b)
  write_ready = ok_both r ready_by written.tail
      (ok_under (Facts (fresh (current (now b)))) r (λ told. read_facts (write_calls (book_sizes old) old.log.tail page line value (now a)) a b r goes makes told Facts (stands_read (book_sizes old) old.log.start (old.log.tail + 3) old.first) (seen_leads told)))

  pub write_steady : IsSteady old a → OnOk r (IsSteady new b)
  write_steady steady = ok_both r
      (λ tail facts told. stands_by old new old.log.start (old.log.tail + 3) old.first (now b) written.geometry written.start tail written.first (facts (subst IsTrue goes.told told)))
      written.tail (ok_under (Facts (now b)) r (λ told. steady_facts (write_calls (book_sizes old) old.log.tail page line value (now a)) a b r goes makes told Facts (leads_from (now a) (steady told))))

  pub write_current : IsTrue a.told → OnOk r (pages_in (book_sizes new) (now b) ≡ with_line page line value (pages_in (book_sizes old) (now a)))
  write_current told = OnOk_map r (λ same. ap (λ (x : Geometry). pages_in (sizes_of x) (now b)) written.geometry ∙ same)
      (read_current (write_calls (book_sizes old) old.log.tail page line value (now a)) a b r goes makes told (book_sizes old) old.log.start (old.log.tail + 3)
      (write_step (book_sizes old) old.log.start old.log.tail (fresh (current (now a))) (ready.read told).facts page line value hp hl is_line room_for))

  pub write_room : OnOk r (new.room + 1 ≡ old.room)
  write_room = OnOk_map r (λ tail. let reaches : reach new ≡ reach old = written.reach_is in omega (arith, tail, reaches, some)) written.tail
