-- A checkpoint, by what it does to the book and the device of a store.
use Rattle.std.proofs.Common.{◌≡◌, ◌+◌, ◌^◌, ◌≤◌, true, false, sym, ap, ◌∙◌, subst, arith, IsTrue, Result}
use Rattle.std.specs.Prelude.{OnOk}
use Rattle.devices.specs.State.{State, current, fresh}
use Rattle.devices.specs.World.{Standing as Device, Goes, now}
use Rattle.line_pages.specs.LineSets.{pages_of}
use Rattle.line_pages.specs.declared.line_set.LineSet.{LineSet}
use Rattle.flat_store_meaning.specs.Layout.{pages, nvm_lines, is_allowed}
use Rattle.flat_store_meaning.proofs.AtEndLaws.{OnOk_map}
use Rattle.flat_store_laws.specs.OpenGroup.{OpenGroup}
use Rattle.flat_store_laws.specs.ShownPages.{pages_in}
use Rattle.flat_nvm_layout.specs.Sizes.{sizes_of}
use Rattle.flat_nvm_layout.specs.declared.geometry.Geometry.{Geometry}
use Rattle.flat_nvm_log.specs.declared.log.Log.{Log}
use Rattle.flat_nvm_log.specs.Moved.{IsEmptied}
use Rattle.flat_transactions.specs.declared.book.Book.{Book}
use Rattle.flat_transactions.specs.Closing.{IsClosed, ClosesRead, ClosesSteady, Empties}
use Rattle.flat_transactions.specs.StoreStanding.{book_sizes, reach, reserve, kept_lines, Stands, IsReady, IsSteady}
use Rattle.flat_transactions.specs.StoreCalls.{StoreCall, KeepsLines, IsCommitted}
use Rattle.flat_transactions.proofs.BookLaws.{stands_by, ok_both, ok_under}

-- the book behind a checkpoint, with this log and this set
abbrev pub emptied_book : Book → Log → LineSet → Book
emptied_book old log loose = record old { log = log; loose = loose }

module _ (old : Book) (log : Log) (loose : LineSet) (a b : Device) {T E : Type 0} (r : Result T E) (ready : IsReady old a) (shut : old.is_open ≡ false) (sized : pages_of loose ≡ pages_of old.loose)
    (emptied : IsEmptied old.log log r) (empties : IsTrue a.told → Empties (book_sizes old) old.log.start old.log.tail a b r) (goes : Goes a b) where
  first : old.first ≡ old.log.tail
  first = (ready.closed shut).first

  -- the group that begins at the tail
  group_at : (s : State) → Stands (book_sizes old) old.log.start old.log.tail old.first s → OpenGroup (book_sizes old) old.log.start old.log.tail (current s)
  group_at s it = subst (λ n. OpenGroup (book_sizes old) old.log.start n (current s)) first it.group

  closes_read : (told : IsTrue a.told) → ClosesRead (book_sizes old) old.log.tail old.log.tail (pages_in (book_sizes old) (now a)) a b r
  closes_read told = (empties told).read (ready.read told).facts (group_at (fresh (current (now a))) (ready.read told))

  closes_steady : (told : IsTrue a.told) → IsSteady old a → ClosesSteady (book_sizes old) old.log.tail old.log.tail a b r
  closes_steady told steady = (empties told).steady (steady told).facts (group_at (now a) (steady told))

  stands_new : (s : State) → log.start ≡ old.log.tail → IsClosed (book_sizes old) old.log.tail old.log.tail s → Stands (book_sizes (emptied_book old log loose)) log.start log.tail old.first s
  stands_new s start it = stands_by old (emptied_book old log loose) old.log.tail old.log.tail old.log.tail s emptied.geometry start emptied.tail first (record { facts = it.facts; group = it.group })

  ready_by : log.start ≡ old.log.tail → (IsTrue a.told → IsClosed (book_sizes old) old.log.tail old.log.tail (fresh (current (now b)))) → IsReady (emptied_book old log loose) b
  ready_by start closed =
      let none : kept_lines (emptied_book old log loose) ≡ 0 = ap (λ o. reserve o log.geometry.writes old.accepted) shut in
      let under : reach old + kept_lines old ≤ 2 ^ 62 = ready.below in
      let no_room : old.room ≡ 0 = (ready.closed shut).room in
      let tail : log.tail ≡ old.log.tail = emptied.tail in
      let at : old.first ≡ old.log.tail = first in
      record {
        fits = subst (λ (x : Geometry). nvm_lines (sizes_of x) ≤ b.lines) (sym emptied.geometry) (subst (λ n. nvm_lines (book_sizes old) ≤ n) (sym goes.lines) ready.fits);
        allowed = subst (λ (x : Geometry). is_allowed (sizes_of x) ≡ true) (sym emptied.geometry) ready.allowed;
        sized = subst (λ (x : Geometry). pages (sizes_of x) ≤ pages_of loose) (sym emptied.geometry) (subst (λ n. pages (book_sizes old) ≤ n) (sym sized) ready.sized);
        room = omega (arith, none, no_room, tail, start);
        below = omega (arith, under, none, no_room, tail);
        few = omega (arith, no_room);
        begins = omega (arith, start, at);
        within = omega (arith, tail, at);
        closed = λ still. record { room = no_room; first = at ∙ sym tail };
        read = λ told. stands_new (fresh (current (now b))) start (closed (subst IsTrue goes.told told));
      }

  pub emptied_ready : OnOk r (IsReady (emptied_book old log loose) b)
  emptied_ready = ok_both r ready_by emptied.ok
      (ok_under (IsClosed (book_sizes old) old.log.tail old.log.tail (fresh (current (now b)))) r (λ told. (closes_read told).closed))

  pub emptied_steady : IsSteady old a → OnOk r (IsSteady (emptied_book old log loose) b)
  emptied_steady steady = ok_both r (λ start closed told. stands_new (now b) start (closed (subst IsTrue goes.told told)))
      emptied.ok (ok_under (IsClosed (book_sizes old) old.log.tail old.log.tail (now b)) r (λ told. (closes_steady told steady).closed))

  pub emptied_lines : IsTrue a.told → OnOk r (KeepsLines old a (emptied_book old log loose) b)
  emptied_lines told =
      OnOk_map r (λ same. record { current = ap (λ (x : Geometry). pages_in (sizes_of x) (now b)) emptied.geometry ∙ same; committed = (closes_read told).committed }) (closes_read told).current

  pub emptied_call : (new : Book) → new.log.geometry ≡ old.log.geometry → new.accesses ≡ old.accesses → b.block_reads ≡ a.block_reads → StoreCall (IsCommitted a) old a new b
  emptied_call new geometry accesses reads = record {
    geometry = geometry;
    accesses = accesses;
    goes = goes;
    block_reads = reads;
    during = λ told steady. (closes_steady told steady).during;
    held = λ told steady. (closes_steady told steady).held;
  }
