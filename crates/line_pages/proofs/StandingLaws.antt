-- Calls in a row.
use Rattle.std.proofs.Common.{◌≡◌, ℕ, ◌+◌, ◌≤◌, inl, inr, false, cond, IsTrue, [], ◌∷◌, ◌++◌, refl, sym, ap, subst, ◌∙◌, arith, append_assoc, append-nil, Result, Ok, Err, IsErr, true, length, length-append, Some, List, None}
use Rattle.std.proofs.lemmas.Bool.{cases_lt, cases_Bool}
use Rattle.nvm_model.specs.declared.line.Line.{Line}
use Rattle.line_pages.specs.declared.stop.Stop.{Stop}
use Rattle.line_pages.specs.Lines.{Lines}
use Rattle.line_pages.specs.Touch.{Access, accesses, begins, touch_of, accesses_from, access_after, begun_from, last_from}
use Rattle.line_pages.specs.Standing.{Standing, Continues, KeepsPages, Reads, Writes, ReadsPage, WritesPage, KeepsLines, AddsReads}
use Rattle.line_pages.proofs.LineLaws.{with_line-other_page}
use Rattle.line_pages.proofs.TouchLaws.{accesses-append, writes-append, goes_on, goes_on_writing, accesses_from-append, access_after-append, accesses_from-begun, access_after-last, alone-append, alone_reads, run_alone, run_open}

pub Continues-refl : {A : Type 0} (leave : ℕ → Lines → Type 0) (steady : Type 0) (s : Standing A) → Continues leave leave steady s s
Continues-refl leave steady s = record {
  count = refl;
  told = refl;
  committed = λ told. refl;
  apart = refl;
  nvm_faults = omega arith;
  ssd_faults = omega arith;
  touches = ([], sym (append-nil s.touches));
  clock = omega arith;
  earlier = λ m lines early h. h;
  during = λ told steady m low high. absurd (omega arith);
}

-- one call after another, which was steady again
pub Continues-trans : {A : Type 0} {p q r : ℕ → Lines → Type 0} {steady steady_between : Type 0} {a b c : Standing A}
    → Continues p q steady a b → (steady → steady_between) → Continues q r steady_between b c → Continues p r steady a c
Continues-trans {a = a} {b = b} {c = c} first again second = record {
  count = second.count ∙ first.count;
  told = second.told ∙ first.told;
  committed = λ told. second.committed (subst IsTrue (sym first.told) told) ∙ first.committed told;
  apart = second.apart ∙ first.apart;
  nvm_faults = omega (arith, first.nvm_faults, second.nvm_faults);
  ssd_faults = omega (arith, first.ssd_faults, second.ssd_faults);
  touches = (first.touches.0 ++ second.touches.0, second.touches.1 ∙ ap (λ ts. ts ++ second.touches.0) first.touches.1 ∙ append_assoc a.touches first.touches.0 second.touches.0);
  clock = omega (arith, first.clock, second.clock);
  earlier = λ m lines early h. first.earlier m lines early (second.earlier m lines (omega (arith, first.clock)) h);
  during = λ told steady m low high lines h. elim (cases_lt b.clock m) [
    | inl late ↦ second.during (subst IsTrue (sym first.told) told) (again steady) m late high lines h ∙ first.committed told
    | inr early ↦ first.during told steady m low early lines (second.earlier m lines early h)
  ];
}

-- a call after one that answered ok
pub KeepsPages-trans : {A T U : Type 0} {p q r : ℕ → Lines → Type 0} {steady steady_between steady_after ready_between ready_after : Type 0} {a b c : Standing A} {found : U} {result : Result T Stop}
    → KeepsPages p q steady steady_between ready_between a b (Ok found) → KeepsPages q r steady_between steady_after ready_after b c result
    → KeepsPages p r steady steady_after ready_after a c result
KeepsPages-trans first second = record {
  continues = Continues-trans first.continues first.steady second.continues;
  ready = second.ready;
  steady = λ s. second.steady (first.steady s);
}

-- a value that is made of what the last call gave
pub KeepsPages-gives : {A T U : Type 0} {p q : ℕ → Lines → Type 0} {steady steady_after ready_after : Type 0} {a b : Standing A} {found : T} {made : U}
    → KeepsPages p q steady steady_after ready_after a b (Ok found) → KeepsPages p q steady steady_after ready_after a b (Ok made)
KeepsPages-gives call = record { continues = call.continues; ready = call.ready; steady = call.steady }

pub KeepsPages-then : {A T U V : Type 0} {p q r : ℕ → Lines → Type 0} {steady steady_between steady_after ready_between ready_after : Type 0} {a b c : Standing A} {found : U} {next : V} {made : T}
    → KeepsPages p q steady steady_between ready_between a b (Ok found) → KeepsPages q r steady_between steady_after ready_after b c (Ok next)
    → KeepsPages p r steady steady_after ready_after a c (Ok made)
KeepsPages-then first second = KeepsPages-gives (KeepsPages-trans first second)

-- a stop that is handed on
pub KeepsPages-stops : {A T U : Type 0} {p q : ℕ → Lines → Type 0} {steady steady_after ready_after : Type 0} {a b : Standing A} {stop : Stop} (result : Result U Stop)
    → IsErr result → KeepsPages {T = T} p q steady steady_after ready_after a b (Err stop) → KeepsPages p q steady steady_after ready_after a b result
KeepsPages-stops (Ok value) is call = let bad : false ≡ true = is in absurd (cc)
KeepsPages-stops (Err handed) is call = record { continues = call.continues; ready = tt; steady = λ s. tt }

-- no call yet
pub KeepsPages-refl : {A T : Type 0} {leave : ℕ → Lines → Type 0} {steady ready : Type 0} {s : Standing A} {value : T} → ready → KeepsPages leave leave steady steady ready s s (Ok value)
KeepsPages-refl {leave = leave} {steady = steady} {s = s} is_ready = record { continues = Continues-refl leave steady s; ready = is_ready; steady = λ h. h }

-- more reads of the same page
pub ReadsPage-trans : {A : Type 0} {page : ℕ} {a b c : Standing A} → ReadsPage page a b → ReadsPage page b c → ReadsPage page a c
ReadsPage-trans {page = page} {a = a} {b = b} first second =
    let on = ap (λ o. begins o page false) first.access ∙ goes_on page in
    let rest = second.begun in
    let none : accesses second.added ≡ [] = second.begun ∙ ap (λ k. cond k ((page, false) ∷ []) []) on in
    record {
      told = second.told ∙ first.told;
      current = λ told. second.current (subst IsTrue (sym first.told) told) ∙ first.current told;
      room = second.room ∙ first.room;
      access = second.access;
      visits = second.visits ∙ ap (λ k. b.visits + cond k 1 0) on ∙ omega (arith, first.visits);
      added = first.added ++ second.added;
      touches = second.touches ∙ ap (λ ts. ts ++ second.added) first.touches ∙ append_assoc a.touches first.added second.added;
      begun = accesses-append first.added second.added ∙ ap (λ ts. accesses first.added ++ ts) none ∙ append-nil (accesses first.added) ∙ first.begun;
      alone = alone-append (page, false) first.added second.added first.alone second.alone;
    }

-- one read
pub one_read : {A T E : Type 0} {page line : ℕ} {old new : Standing A} (found : T) → new.told ≡ old.told → Reads {T = T} {E = E} page line old new (Ok found) → ReadsPage page old new
one_read {page = page} {line = line} {old = old} found told read = record {
  told = told;
  current = read.current;
  room = read.room;
  access = read.touch.access;
  visits = read.touch.visits;
  added = touch_of old.access page line false ∷ [];
  touches = read.touch.touches;
  begun = refl;
  alone = rw (goes_on page) refl;
}

-- reads of one page begin one access at most
pub one_access : {A : Type 0} {page : ℕ} {old new : Standing A} → ReadsPage page old new → new.visits ≤ old.visits + 1
one_access {page = page} {old = old} reads =
    elim (cases_Bool (begins old.access page false)) [
      | inl e ↦ let rise = reads.visits ∙ ap (λ b. old.visits + cond b 1 0) e in omega (arith, rise)
      | inr e ↦ let rise = reads.visits ∙ ap (λ b. old.visits + cond b 1 0) e in omega (arith, rise)
    ]

-- after such reads the page's access is open
pub still_open : {A : Type 0} {page : ℕ} {old new : Standing A} → ReadsPage page old new → begins new.access page false ≡ false
still_open {page = page} reads = ap (λ o. begins o page false) reads.access ∙ goes_on page

-- more writes of the same page
pub WritesPage-trans : {A : Type 0} {page : ℕ} {a b c : Standing A} → WritesPage page a b → WritesPage page b c → WritesPage page a c
WritesPage-trans {page = page} {a = a} {b = b} first second =
    let on = ap (λ o. begins o page true) first.access ∙ goes_on_writing page in
    let none : accesses second.added ≡ [] = second.begun ∙ ap (λ k. cond k ((page, true) ∷ []) []) on in
    record {
      told = second.told ∙ first.told;
      others = λ told p l apart. second.others (subst IsTrue (sym first.told) told) p l apart ∙ first.others told p l apart;
      access = second.access;
      visits = second.visits ∙ ap (λ k. b.visits + cond k 1 0) on ∙ omega (arith, first.visits);
      added = first.added ++ second.added;
      touches = second.touches ∙ ap (λ ts. ts ++ second.added) first.touches ∙ append_assoc a.touches first.added second.added;
      begun = accesses-append first.added second.added ∙ ap (λ ts. accesses first.added ++ ts) none ∙ append-nil (accesses first.added) ∙ first.begun;
      alone = alone-append (page, true) first.added second.added first.alone second.alone;
      room = omega (arith, first.room, second.room, length-append first.added second.added);
    }

-- one write
pub one_write : {A T E : Type 0} {page line : ℕ} {value : Line} {old new : Standing A} (done : T) → new.told ≡ old.told → Writes {T = T} {E = E} page line value old new (Ok done) → WritesPage page old new
one_write {page = page} {line = line} {value = value} {old = old} done told write = record {
  told = told;
  others = λ told p l apart. ap (λ lines. lines p l) (write.current told) ∙ with_line-other_page page line value old.current p l apart;
  access = write.touch.access;
  visits = write.touch.visits;
  added = touch_of old.access page line true ∷ [];
  touches = write.touch.touches;
  begun = refl;
  alone = rw (goes_on_writing page) refl;
  room = write.room;
}

-- writes of one page begin one access at most
pub one_access_written : {A : Type 0} {page : ℕ} {old new : Standing A} → WritesPage page old new → new.visits ≤ old.visits + 1
one_access_written {page = page} {old = old} writes =
    elim (cases_Bool (begins old.access page true)) [
      | inl e ↦ let rise = writes.visits ∙ ap (λ b. old.visits + cond b 1 0) e in omega (arith, rise)
      | inr e ↦ let rise = writes.visits ∙ ap (λ b. old.visits + cond b 1 0) e in omega (arith, rise)
    ]

-- no read yet, in an open access
pub ReadsPage-refl : {A : Type 0} (page : ℕ) (s : Standing A) → s.access ≡ Some (page, false) → ReadsPage page s s
ReadsPage-refl page s is_open =
    let on = ap (λ o. begins o page false) is_open ∙ goes_on page in
    record {
      told = refl;
      current = λ told. refl;
      room = refl;
      access = is_open;
      visits = rw on (omega arith);
      added = [];
      touches = sym (append-nil s.touches);
      begun = rw on refl;
      alone = refl;
    }

-- at least one read of one page
pub page_adds : {A : Type 0} {page : ℕ} {old new : Standing A} → (reads : ReadsPage page old new) → begins old.access page false ≡ true → AddsReads (λ pages. pages ≡ (page, false) ∷ []) old new
page_adds {page = page} {old = old} reads starts =
    let begun : accesses reads.added ≡ (page, false) ∷ [] = reads.begun ∙ ap (λ b. cond b ((page, false) ∷ []) []) starts in
    let alone : accesses_from None reads.added ≡ (page, false) ∷ [] = run_alone (page, false) (page, false) reads.added begun reads.alone in
    record {
      added = reads.added;
      touches = reads.touches;
      visits = reads.visits ∙ ap (λ b. old.visits + cond b 1 0) starts ∙ ap (λ xs. old.visits + length xs) (sym begun);
      begun = begun
          ∙ sym (accesses_from-begun old.access reads.added ∙ ap (begun_from old.access) alone ∙ ap (λ b. cond b ((page, false) ∷ []) []) starts);
      access = reads.access ∙ sym (run_open old.access (page, false) (page, false) reads.added begun reads.alone);
      reads = alone_reads page reads.added reads.alone;
      fact = alone;
    }

-- reads after reads
pub AddsReads-trans : {A : Type 0} {First Second Both : List Access → Type 0} {a b c : Standing A} → ((x y : List Access) → First x → Second y → Both (x ++ begun_from (last_from None x) y))
    → AddsReads First a b → AddsReads Second b c → AddsReads Both a c
AddsReads-trans {Both = Both} {a = a} {b = b} join first second =
    let goes = first.access in
    record {
      added = first.added ++ second.added;
      touches = second.touches ∙ ap (λ ts. ts ++ second.added) first.touches ∙ append_assoc a.touches first.added second.added;
      visits = omega (arith, first.visits, second.visits, ap length (accesses-append first.added second.added), length-append (accesses first.added) (accesses second.added));
      begun = accesses-append first.added second.added ∙ ap (λ xs. xs ++ accesses second.added) first.begun
          ∙ ap (λ ys. accesses_from a.access first.added ++ ys) (second.begun ∙ ap (λ o. accesses_from o second.added) goes) ∙ sym (accesses_from-append a.access first.added second.added);
      access = second.access ∙ ap (λ o. access_after o second.added) goes ∙ sym (access_after-append a.access first.added second.added);
      reads = writes-append first.added second.added first.reads second.reads;
      fact = subst Both (sym (accesses_from-append None first.added second.added
          ∙ ap (λ ys. accesses_from None first.added ++ ys) (accesses_from-begun (access_after None first.added) second.added ∙ ap (λ o. begun_from o (accesses_from None second.added)) (access_after-last None first.added))))
          (join (accesses_from None first.added) (accesses_from None second.added) first.fact second.fact);
    }

pub KeepsLines-trans : {A : Type 0} {a b c : Standing A} → b.told ≡ a.told → KeepsLines a b → KeepsLines b c → KeepsLines a c
KeepsLines-trans told first second = record {
  current = λ t. second.current (subst IsTrue (sym told) t) ∙ first.current t;
  room = second.room ∙ first.room;
}

-- reads of one page change no line
pub page_keeps : {A : Type 0} {page : ℕ} {old new : Standing A} → ReadsPage page old new → KeepsLines old new
page_keeps reads = record { current = reads.current; room = reads.room }
