-- The end of a transaction, by what it does to the book and the device of a store.
use Rattle.std.proofs.Common.{◌≡◌, ◌+◌, ◌-◌, ◌*◌, ◌^◌, ◌≤◌, true, false, refl, sym, ap, ◌∙◌, subst, arith, IsTrue, Result}
use Rattle.std.specs.Prelude.{OnOk}
use Rattle.devices.specs.State.{State, current, fresh}
use Rattle.devices.specs.World.{Standing as Device, Goes, MakesAll, now}
use Rattle.line_pages.specs.Lines.{Lines}
use Rattle.line_pages.specs.LineSets.{pages_of}
use Rattle.line_pages.specs.declared.stop.Stop.{Stop}
use Rattle.flat_store_meaning.specs.Layout.{pages, nvm_lines, ring_lines, is_allowed}
use Rattle.flat_store_meaning.specs.Put.{append_calls}
use Rattle.flat_store_meaning.specs.Append.{commit_lines}
use Rattle.flat_store_meaning.proofs.AtEndLaws.{OnOk_map}
use Rattle.flat_store_laws.specs.ShownPages.{pages_in, committed_in}
use Rattle.flat_store_laws.specs.Steps.{CommitsOpen}
use Rattle.flat_store_laws.proofs.StepLaws.{commit_step, commit_current, commit_result, commit_during, steady_held}
use Rattle.flat_store_laws.proofs.EndLaws.{commit_held}
use Rattle.flat_nvm_layout.specs.Sizes.{sizes_of}
use Rattle.flat_nvm_layout.specs.declared.geometry.Geometry.{Geometry}
use Rattle.flat_nvm_log.specs.declared.log.Log.{Log}
use Rattle.flat_nvm_log.specs.Moved.{IsMoved}
use Rattle.flat_transactions.specs.declared.book.Book.{Book}
use Rattle.flat_transactions.specs.Closing.{IsClosed, ClosesRead, ClosesSteady, Aborts}
use Rattle.flat_transactions.specs.StoreStanding.{book_sizes, reach, reserve, kept_lines, Stands, IsReady, IsSteady}
use Rattle.flat_transactions.specs.StoreCalls.{StoreCall, LeavesOnly, CommitsLines, AbortsLines, IsCommitted, IsOldOrNew}
use Rattle.flat_transactions.proofs.StandsLaws.{stands_leaves, stands_read, commit_stands, after_read, after_steady}
use Rattle.flat_transactions.proofs.BookLaws.{stands_by, ok_both, ok_under}

-- the log has room for the end
pub end_room : (book : Book) (a : Device) → IsReady book a → book.is_open ≡ true → book.log.tail + 1 ≤ book.log.start + ring_lines (book_sizes book)
end_room book a ready opened =
    let one : kept_lines book ≡ 1920 * (book.log.geometry.writes - book.accepted - 1) + 1 = ap (λ o. reserve o book.log.geometry.writes book.accepted) opened in
    let all : reach book + kept_lines book ≤ book.log.start + ring_lines (book_sizes book) = ready.room in
    omega (arith, all, one)

-- the book behind the end, with this log
abbrev pub ended : Book → Log → Book
ended old log = record old { log = log; is_open = false; room = 0; first = log.tail }

-- It allows no write, and asks less of the log than before.
pub ended_ready : (old : Book) (log : Log) (a b : Device) → IsReady old a → old.is_open ≡ true → Goes a b → log.geometry ≡ old.log.geometry → log.start ≡ old.log.start → log.tail ≡ old.log.tail + 1
    → (IsTrue b.told → Stands (book_sizes (ended old log)) log.start log.tail log.tail (fresh (current (now b)))) → IsReady (ended old log) b
ended_ready old log a b ready opened goes geometry start tail read =
    let one : kept_lines old ≡ 1920 * (old.log.geometry.writes - old.accepted - 1) + 1 = ap (λ o. reserve o old.log.geometry.writes old.accepted) opened in
    let all : reach old + kept_lines old ≤ old.log.start + ring_lines (book_sizes old) = ready.room in
    let under : reach old + kept_lines old ≤ 2 ^ 62 = ready.below in
    let ring : ring_lines (sizes_of log.geometry) ≡ ring_lines (book_sizes old) = ap (λ (x : Geometry). ring_lines (sizes_of x)) geometry in
    let begins : old.log.start ≤ old.first = ready.begins in
    let behind : old.first ≤ old.log.tail = ready.within in
    record {
      fits = subst (λ (x : Geometry). nvm_lines (sizes_of x) ≤ b.lines) (sym geometry) (subst (λ n. nvm_lines (book_sizes old) ≤ n) (sym goes.lines) ready.fits);
      allowed = subst (λ (x : Geometry). is_allowed (sizes_of x) ≡ true) (sym geometry) ready.allowed;
      sized = subst (λ (x : Geometry). pages (sizes_of x) ≤ pages_of old.loose) (sym geometry) ready.sized;
      room = omega (arith, all, one, start, tail, ring);
      below = omega (arith, under, one, tail);
      few = omega arith;
      begins = omega (arith, begins, behind, start, tail);
      within = omega arith;
      closed = λ shut. record { room = refl; first = refl };
      read = read;
    }

pub ended_reach : (old : Book) (log : Log) → log.tail ≡ old.log.tail + 1 → reach (ended old log) ≤ reach old + 1921
ended_reach old log tail = omega (arith, tail)

-- A commit, by the calls that it made on the device.
module _ (old : Book) (log : Log) (a b : Device) {T E : Type 0} (r : Result T E) (ready : IsReady old a) (opened : old.is_open ≡ true)
    (moved : IsMoved old.log log 1 r) (makes : MakesAll (append_calls (book_sizes old) old.log.tail commit_lines) a b r) (goes : Goes a b) where
  abbrev Facts : State → Type 0
  Facts s = Stands (book_sizes old) old.log.start (old.log.tail + 1) (old.log.tail + 1) s

  stands_new : (s : State) → log.tail ≡ old.log.tail + 1 → Facts s → Stands (book_sizes (ended old log)) log.start log.tail log.tail s
  stands_new s tail it = stands_by old (ended old log) old.log.start (old.log.tail + 1) (old.log.tail + 1) s moved.geometry moved.start tail tail it

  pub commit_read : IsTrue a.told → OnOk r (Facts (fresh (current (now b))))
  commit_read told =
      after_read (append_calls (book_sizes old) old.log.tail commit_lines) a b r makes told Facts (stands_read (book_sizes old) old.log.start (old.log.tail + 1) (old.log.tail + 1))
      (commit_stands (book_sizes old) old.log.start old.log.tail old.first (fresh (current (now a))) (ready.read told) (end_room old a ready opened))

  pub commit_holds : IsTrue a.told → IsSteady old a → OnOk r (Facts (now b))
  commit_holds told steady =
      after_steady (append_calls (book_sizes old) old.log.tail commit_lines) a b r makes told Facts
      (commit_stands (book_sizes old) old.log.start old.log.tail old.first (now a) (steady told) (end_room old a ready opened))

  pub commit_ready : OnOk r (IsReady (ended old log) b)
  commit_ready = ok_both r
      (λ tail facts. ended_ready old log a b ready opened goes moved.geometry moved.start tail (λ told. stands_new (fresh (current (now b))) tail (facts (subst IsTrue goes.told told))))
      moved.ok (ok_under (Facts (fresh (current (now b)))) r commit_read)

  pub commit_steady : IsSteady old a → OnOk r (IsSteady (ended old log) b)
  commit_steady steady = ok_both r (λ tail facts told. stands_new (now b) tail (facts (subst IsTrue goes.told told)))
      moved.ok (ok_under (Facts (now b)) r (λ told. commit_holds told steady))

  pub commit_lines_are : IsTrue a.told → OnOk r (CommitsLines old a (ended old log) b)
  commit_lines_are told = ok_both r
      (λ same gives. record { current = ap (λ (x : Geometry). pages_in (sizes_of x) (now b)) moved.geometry ∙ same; committed = gives })
      (commit_current (append_calls (book_sizes old) old.log.tail commit_lines) a b r goes makes told (book_sizes old) old.log.start (old.log.tail + 1) (step told))
      (commit_result (append_calls (book_sizes old) old.log.tail commit_lines) a b r goes makes told (book_sizes old) old.log.start (old.log.tail + 1) (step told))
    where
      step : IsTrue a.told → CommitsOpen (book_sizes old) old.log.start (old.log.tail + 1) (append_calls (book_sizes old) old.log.tail commit_lines) (fresh (current (now a)))
      step told = commit_step (book_sizes old) old.log.start old.log.tail (fresh (current (now a))) (ready.read told).facts (end_room old a ready opened)

  pub commit_leaves : IsTrue a.told → IsSteady old a → OnOk r (LeavesOnly (book_sizes old) (pages_in (book_sizes old) (now a)) b)
  commit_leaves told steady = ok_both r
      (λ facts lines. subst (λ (x : Lines). LeavesOnly (book_sizes old) x b) lines.committed (stands_leaves (book_sizes old) old.log.start (old.log.tail + 1) (old.log.tail + 1) b facts))
      (commit_holds told steady) (commit_lines_are told)

  pub commit_call : (new : Book) → new.log.geometry ≡ old.log.geometry → new.accesses ≡ old.accesses → b.block_reads ≡ a.block_reads → StoreCall (IsOldOrNew old a) old a new b
  commit_call new geometry accesses reads = record {
    geometry = geometry;
    accesses = accesses;
    goes = goes;
    block_reads = reads;
    during = λ told steady. commit_during (append_calls (book_sizes old) old.log.tail commit_lines) a b r goes makes told (book_sizes old) old.log.start (old.log.tail + 1)
        (commit_step (book_sizes old) old.log.start old.log.tail (now a) (steady told).facts (end_room old a ready opened));
    held = λ told steady. steady_held (append_calls (book_sizes old) old.log.tail commit_lines) a b r goes makes told (book_sizes old)
        (commit_held (book_sizes old) old.log.start old.log.tail (now a) (steady told).facts (end_room old a ready opened));
  }

-- An abort, by what it did to the log and the device.
module _ (old : Book) (log : Log) (a b : Device) {T : Type 0} (r : Result T Stop) (ready : IsReady old a) (opened : old.is_open ≡ true)
    (moved : IsMoved old.log log 1 r) (aborts : IsTrue a.told → Aborts (book_sizes old) old.log.start old.log.tail old.first a b r) (goes : Goes a b) where
  abort_read : (told : IsTrue a.told) → ClosesRead (book_sizes old) old.log.start (old.log.tail + 1) (committed_in (now a)) a b r
  abort_read told = (aborts told).read (ready.read told).facts (ready.read told).group

  abort_holds : (told : IsTrue a.told) → IsSteady old a → ClosesSteady (book_sizes old) old.log.start (old.log.tail + 1) a b r
  abort_holds told steady = (aborts told).steady (steady told).facts (steady told).group

  stands_back : (s : State) → log.tail ≡ old.log.tail + 1 → IsClosed (book_sizes old) old.log.start (old.log.tail + 1) s → Stands (book_sizes (ended old log)) log.start log.tail log.tail s
  stands_back s tail it =
      stands_by old (ended old log) old.log.start (old.log.tail + 1) (old.log.tail + 1) s moved.geometry moved.start tail tail (record { facts = it.facts; group = it.group })

  pub abort_ready : OnOk r (IsReady (ended old log) b)
  abort_ready = ok_both r
      (λ tail closed. ended_ready old log a b ready opened goes moved.geometry moved.start tail (λ told. stands_back (fresh (current (now b))) tail (closed (subst IsTrue goes.told told))))
      moved.ok (ok_under (IsClosed (book_sizes old) old.log.start (old.log.tail + 1) (fresh (current (now b)))) r (λ told. (abort_read told).closed))

  pub abort_steady : IsSteady old a → OnOk r (IsSteady (ended old log) b)
  abort_steady steady = ok_both r (λ tail closed told. stands_back (now b) tail (closed (subst IsTrue goes.told told)))
      moved.ok (ok_under (IsClosed (book_sizes old) old.log.start (old.log.tail + 1) (now b)) r (λ told. (abort_holds told steady).closed))

  pub abort_lines_are : IsTrue a.told → OnOk r (AbortsLines old a (ended old log) b)
  abort_lines_are told =
      OnOk_map r (λ same. record { current = ap (λ (x : Geometry). pages_in (sizes_of x) (now b)) moved.geometry ∙ same; committed = (abort_read told).committed }) (abort_read told).current

  pub abort_call : (new : Book) → new.log.geometry ≡ old.log.geometry → new.accesses ≡ old.accesses → b.block_reads ≡ a.block_reads → StoreCall (IsCommitted a) old a new b
  abort_call new geometry accesses reads = record {
    geometry = geometry;
    accesses = accesses;
    goes = goes;
    block_reads = reads;
    during = λ told steady. (abort_holds told steady).during;
    held = λ told steady. (abort_holds told steady).held;
  }
