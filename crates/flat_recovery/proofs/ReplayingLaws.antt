-- A replay over a device, record by record, group by group.
use Rattle.std.proofs.Common.{◌≡◌, ℕ, suc, ◌+◌, ◌-◌, ◌*◌, ◌<◌, List, [], ◌∷◌, ◌++◌, refl, sym, ap, ◌∙◌, subst, arith, IsTrue, Result, Ok, Err}
use Rattle.std.specs.Prelude.{IsErr}
use Rattle.nvm_model.specs.declared.line.Line.{Line}
use Rattle.devices.specs.State.{Call}
use Rattle.devices.specs.State.Call.{store_line}
use Rattle.devices.specs.World.{Standing, Goes, Stays, Makes, MakesAll, now}
use Rattle.devices.proofs.MomentLaws.{Goes-on}
use Rattle.devices.proofs.JoinLaws.{Stays-now}
use Rattle.devices.proofs.CallLaws.{makes_one, makes_then, makes_stop}
use Rattle.flat_nvm_layout.specs.Sizes.{sizes_of}
use Rattle.flat_nvm_log.specs.declared.head.Head.TheVariants as head
use Rattle.flat_nvm_log.specs.declared.log.Log.{Log}
use Rattle.flat_store_meaning.specs.Layout.{Sizes, frame_line}
use Rattle.flat_store_meaning.specs.Format.{word_in}
use Rattle.flat_recovery.specs.Calls.{redo_calls, undo_calls}
use Rattle.flat_recovery.specs.Reading.{lines_at, changes_at, IsRecordAt, AreRecords}
use Rattle.flat_recovery.specs.Heads.{ReadsHead}
use Rattle.flat_recovery.specs.Replaying.{side_line, held_lines, MakesCalls, CopiesLine, StoresRecord}
use Rattle.flat_recovery.specs.declared.replaying.Group.{Group}
use Rattle.flat_recovery.specs.declared.replaying.Side.{Side}
use Rattle.flat_recovery.specs.declared.replaying.Side.TheVariants.{Before, After}
use Rattle.flat_recovery.specs.declared.errors.OpenError.{OpenError}
use Rattle.flat_recovery.proofs.CallsLaws.{makes_as}
use Rattle.flat_recovery.proofs.ReadingLaws.{changes_at-more}
use Rattle.flat_recovery.proofs.ReplayCallsLaws.{redo_calls-append, undo_calls-append, AreFrameStores, frames_lines, redo_frames, undo_frames}

pub err_is : (T : Type 0) (e : OpenError) → IsErr {T = T} {E = OpenError} (Err e)
err_is T e = refl

-- calls that change no device, and those behind them
pub stays_makes : {E : Type 0} {a b : Standing} → Goes a b → Stays a b → MakesAll {T = Unit {0}} {E = E} [] a b (Ok tt)
stays_makes goes stays = record { whole = λ told. Stays-now (Goes-on goes) stays told; part = stays }

pub makes_behind : {T E : Type 0} {calls : List Call} {a b d : Standing} {r : Result T E} → Goes a b → Goes b d → Stays a b → MakesAll calls b d r → MakesAll calls a d r
makes_behind p q stays makes = makes_then p q (stays_makes p stays) makes

pub told_then : {a b : Standing} → Goes a b → IsTrue a.told → IsTrue b.told
told_then goes told = subst (λ t. IsTrue t) (sym goes.told) told

-- a line of the log is stored
pub copy_done : {E F : Type 0} (place : ℕ) {v w : Line} {a b d : Standing} → v ≡ w → Goes a b → Goes b d → Stays a b → Makes {T = Unit {0}} {E = E} (store_line place v) b d (Ok tt)
    → MakesAll {T = Unit {0}} {E = F} (store_line place w ∷ []) a d (Ok tt)
copy_done place e p q stays makes =
    let made = makes_as (ap (λ (x : Line). store_line place x ∷ []) e) (makes_behind p q stays (makes_one makes)) in
    record { whole = made.whole; part = made.part }

pub copy_failed : {T E F : Type 0} (place : ℕ) {v w : Line} {a b d : Standing} {e : E} (r : Result T F) → IsErr r → v ≡ w → Goes a b → Goes b d → Stays a b → Makes {T = Unit {0}} {E = E} (store_line place v) b d (Err e)
    → MakesAll (store_line place w ∷ []) a d r
copy_failed place r failed e p q stays makes = makes_stop [] r failed (makes_as (ap (λ (x : Line). store_line place x ∷ []) e) (makes_behind p q stays (makes_one makes)))

-- the lines of the log that a call left which changed no device
pub held_same : (log : Log) (a b : Standing) → Goes a b → Stays a b → IsTrue a.told → held_lines log b ≡ held_lines log a
held_same log a b goes stays told = ap (lines_at (sizes_of log.geometry) log.start) (Stays-now (Goes-on goes) stays told)

-- a line of a record is stored in the place that its head names
pub record_stored : {T : Type 0} (log : Log) (at : ℕ) (side : Side) (a b d : Standing) (page l place from : ℕ) (r : Result T OpenError) → Goes a b → Goes b d → Stays a b → ReadsHead log at a (Ok (head.Line page l))
    → place ≡ frame_line (sizes_of log.geometry) page l → from ≡ at + side_line side → CopiesLine log from place b d r → StoresRecord log at side a d r
record_stored {T} log at side a b d page l place from r p q stays head place_is from_is copies = record {
  writes = λ told is.
      let line : head.line ≡ held_lines log a at = head.held told in
      let same : held_lines log b ≡ held_lines log a = held_same log a b p stays told in
      let made : MakesCalls (store_line place (held_lines log b from) ∷ []) b d r = copies.writes (told_then p told) in
      let e : place ≡ frame_line (sizes_of log.geometry) (word_in (held_lines log a at) 1) (word_in (held_lines log a at) 2) =
      place_is ∙ ap (λ n. frame_line (sizes_of log.geometry) n l) (sym ((head.judged).1).page_is ∙ ap (λ (x : Line). word_in x 1) line)
      ∙ ap (λ n. frame_line (sizes_of log.geometry) (word_in (held_lines log a at) 1) n) (sym ((head.judged).1).line_is ∙ ap (λ (x : Line). word_in x 2) line) in
      record {
        makes = makes_as (ap (λ n. store_line n (held_lines log b from) ∷ []) e
            ∙ ap (λ (x : Line). store_line (frame_line (sizes_of log.geometry) (word_in (held_lines log a at) 1) (word_in (held_lines log a at) 2)) x ∷ [])
            (ap (λ (f : ℕ → Line). f from) same ∙ ap (held_lines log a) from_is)) (makes_behind p q stays made.makes);
        only = made.only;
      };
}

-- stores in frames leave the lines of the log
pub lines_kept : {E : Type 0} (log : Log) (calls : List Call) (a b : Standing) → 0 < log.geometry.log_blocks → AreFrameStores (sizes_of log.geometry) calls → IsTrue a.told → MakesAll {T = Unit {0}} {E = E} calls a b (Ok tt)
    → held_lines log b ≡ held_lines log a
lines_kept log calls a b ring frames told makes =
    ap (lines_at (sizes_of log.geometry) log.start) (makes.whole told) ∙ frames_lines (sizes_of log.geometry) log.start calls (now a) ring frames

-- From the first record up to one of them, their lines after were stored.
module _ (log : Log) (group : Group) (a : Standing) where
  abbrev g : Sizes
  g = sizes_of log.geometry

  abbrev f : ℕ → Line
  f = held_lines log a

  abbrev Records : Type 0
  Records = AreRecords (sizes_of log.geometry) (held_lines log a) log.tail group.first group.count

  -- the record at an offset, as it is read after such stores
  still : (b : Standing) (at : ℕ) → held_lines log b ≡ held_lines log a → IsRecordAt g f log.tail at → IsRecordAt g (held_lines log b) log.tail at
  still b at same is = subst (λ (x : ℕ → Line). IsRecordAt g x log.tail at) (sym same) is

  store_of : Side → (ℕ → Line) → ℕ → Call
  store_of side x at = store_line (frame_line g (word_in (x at) 1) (word_in (x at) 2)) (x (at + side_line side))

  -- the next store
  next_store : {T : Type 0} (side : Side) (b d : Standing) (at : ℕ) (r : Result T OpenError) → Goes a b → IsTrue a.told → held_lines log b ≡ held_lines log a → IsRecordAt g f log.tail at → StoresRecord log at side b d r
      → MakesCalls (store_line (frame_line g (word_in (f at) 1) (word_in (f at) 2)) (f (at + side_line side)) ∷ []) b d r
  next_store side b d at r p told same is stored =
      let made : MakesCalls (store_line (frame_line g (word_in (held_lines log b at) 1) (word_in (held_lines log b at) 2)) (held_lines log b (at + side_line side)) ∷ []) b d r =
      stored.writes (told_then p told) (still b at same is) in
      record {
        makes = makes_as (ap (λ (x : ℕ → Line). store_line (frame_line g (word_in (x at) 1) (word_in (x at) 2)) (x (at + side_line side)) ∷ []) same) made.makes;
        only = made.only;
      }

  -- the records up to number n, and one more
  redo_split : (n m : ℕ) → redo_calls g (changes_at f group.first (n + m)) ≡ redo_calls g (changes_at f group.first n) ++ redo_calls g (changes_at f (group.first + 3 * n) m)
  redo_split n m = ap (redo_calls g) (changes_at-more f group.first n m) ∙ redo_calls-append g (changes_at f group.first n) (changes_at f (group.first + 3 * n) m)

  pub redo_more : (i : ℕ) (b d : Standing) → i < group.count → Goes a b → Goes b d → IsTrue a.told → Records → MakesAll {T = Unit {0}} {E = OpenError} (redo_calls g (changes_at f group.first i)) a b (Ok tt)
      → StoresRecord {T = Unit {0}} log (group.first + 3 * i) After b d (Ok tt) → MakesAll {T = Unit {0}} {E = OpenError} (redo_calls g (changes_at f group.first (i + 1))) a d (Ok tt)
  redo_more i b d less p q told records front stored =
      let same : held_lines log b ≡ held_lines log a = lines_kept log (redo_calls g (changes_at f group.first i)) a b records.ring (redo_frames g (changes_at f group.first i)) told front in
      makes_as (sym (redo_split i 1)) (makes_then p q front (next_store After b d (group.first + 3 * i) (Ok tt) p told same (records.each i less) stored).makes)

  pub redo_stopped : {T : Type 0} (i : ℕ) (b d : Standing) (e : OpenError) (r : Result T OpenError) → r ≡ Err e → i < group.count → Goes a b → Goes b d → IsTrue a.told → Records
      → MakesAll {T = Unit {0}} {E = OpenError} (redo_calls g (changes_at f group.first i)) a b (Ok tt) → StoresRecord {T = Unit {0}} log (group.first + 3 * i) After b d (Err e)
      → MakesCalls (redo_calls g (changes_at f group.first group.count)) a d r
  redo_stopped {T} i b d e r is less p q told records front stored =
      let same : held_lines log b ≡ held_lines log a = lines_kept log (redo_calls g (changes_at f group.first i)) a b records.ring (redo_frames g (changes_at f group.first i)) told front in
      let one : MakesCalls {T = Unit {0}} (store_line (frame_line g (word_in (f (group.first + 3 * i)) 1) (word_in (f (group.first + 3 * i)) 2)) (f (group.first + 3 * i + 2)) ∷ []) b d (Err e) =
      next_store After b d (group.first + 3 * i) (Err e) p told same (records.each i less) stored in
      let many : i + (1 + (group.count - i - 1)) ≡ group.count = omega arith in
      subst (λ (x : Result T OpenError). MakesCalls (redo_calls g (changes_at f group.first group.count)) a d x) (sym is) (record {
        makes = makes_as (sym (redo_split i (1 + (group.count - i - 1))) ∙ ap (λ n. redo_calls g (changes_at f group.first n)) many)
            (makes_then p q front (makes_as (sym (ap (redo_calls g) (changes_at-more f (group.first + 3 * i) 1 (group.count - i - 1))))
            (makes_stop (redo_calls g (changes_at f (group.first + 3 * i + 3 * 1) (group.count - i - 1))) {e = e} (Err e) (err_is T e) one.makes)));
        only = one.only;
      })

  -- the records from number n on, and one more before them
  undo_split : (n m : ℕ) → undo_calls g (changes_at f group.first (n + m)) ≡ undo_calls g (changes_at f (group.first + 3 * n) m) ++ undo_calls g (changes_at f group.first n)
  undo_split n m = ap (undo_calls g) (changes_at-more f group.first n m) ∙ undo_calls-append g (changes_at f group.first n) (changes_at f (group.first + 3 * n) m)

  undo_next : (n : ℕ) → n < group.count → undo_calls g (changes_at f (group.first + 3 * n) (group.count - n))
      ≡ undo_calls g (changes_at f (group.first + 3 * (n + 1)) (group.count - (n + 1))) ++ store_line (frame_line g (word_in (f (group.first + 3 * n)) 1) (word_in (f (group.first + 3 * n)) 2)) (f (group.first + 3 * n + 1)) ∷ []
  undo_next n less =
      let many : group.count - n ≡ suc (group.count - (n + 1)) = omega arith in
      let place : group.first + 3 * n + 3 ≡ group.first + 3 * (n + 1) = omega arith in
      ap (λ k. undo_calls g (changes_at f (group.first + 3 * n) k)) many
      ∙ ap (λ k. undo_calls g (changes_at f k (group.count - (n + 1))) ++ store_line (frame_line g (word_in (f (group.first + 3 * n)) 1) (word_in (f (group.first + 3 * n)) 2)) (f (group.first + 3 * n + 1)) ∷ []) place

  -- the same, by another number
  pub undo_as : (k n : ℕ) (b : Standing) → k ≡ n → MakesAll {T = Unit {0}} {E = OpenError} (undo_calls g (changes_at f (group.first + 3 * k) (group.count - k))) a b (Ok tt)
      → MakesAll {T = Unit {0}} {E = OpenError} (undo_calls g (changes_at f (group.first + 3 * n) (group.count - n))) a b (Ok tt)
  undo_as k n b e makes = makes_as (ap (λ j. undo_calls g (changes_at f (group.first + 3 * j) (group.count - j))) e) makes

  pub undo_more : (n : ℕ) (b d : Standing) → n < group.count → Goes a b → Goes b d → IsTrue a.told → Records
      → MakesAll {T = Unit {0}} {E = OpenError} (undo_calls g (changes_at f (group.first + 3 * (n + 1)) (group.count - (n + 1)))) a b (Ok tt)
      → StoresRecord {T = Unit {0}} log (group.first + 3 * n) Before b d (Ok tt) → MakesAll {T = Unit {0}} {E = OpenError} (undo_calls g (changes_at f (group.first + 3 * n) (group.count - n))) a d (Ok tt)
  undo_more n b d less p q told records front stored =
      let same : held_lines log b ≡ held_lines log a =
      lines_kept log (undo_calls g (changes_at f (group.first + 3 * (n + 1)) (group.count - (n + 1)))) a b records.ring (undo_frames g (changes_at f (group.first + 3 * (n + 1)) (group.count - (n + 1)))) told front in
      makes_as (sym (undo_next n less)) (makes_then p q front (next_store Before b d (group.first + 3 * n) (Ok tt) p told same (records.each n less) stored).makes)

  pub undo_stopped : {T : Type 0} (n : ℕ) (b d : Standing) (e : OpenError) (r : Result T OpenError) → r ≡ Err e → n < group.count → Goes a b → Goes b d → IsTrue a.told → Records
      → MakesAll {T = Unit {0}} {E = OpenError} (undo_calls g (changes_at f (group.first + 3 * (n + 1)) (group.count - (n + 1)))) a b (Ok tt)
      → StoresRecord {T = Unit {0}} log (group.first + 3 * n) Before b d (Err e) → MakesCalls (undo_calls g (changes_at f group.first group.count)) a d r
  undo_stopped {T} n b d e r is less p q told records front stored =
      let same : held_lines log b ≡ held_lines log a =
      lines_kept log (undo_calls g (changes_at f (group.first + 3 * (n + 1)) (group.count - (n + 1)))) a b records.ring (undo_frames g (changes_at f (group.first + 3 * (n + 1)) (group.count - (n + 1)))) told front in
      let one : MakesCalls {T = Unit {0}} (store_line (frame_line g (word_in (f (group.first + 3 * n)) 1) (word_in (f (group.first + 3 * n)) 2)) (f (group.first + 3 * n + 1)) ∷ []) b d (Err e) =
      next_store Before b d (group.first + 3 * n) (Err e) p told same (records.each n less) stored in
      let many : n + (group.count - n) ≡ group.count = omega arith in
      subst (λ (x : Result T OpenError). MakesCalls (undo_calls g (changes_at f group.first group.count)) a d x) (sym is) (record {
        makes = makes_as (sym (undo_split n (group.count - n)) ∙ ap (λ k. undo_calls g (changes_at f group.first k)) many)
            (makes_stop (undo_calls g (changes_at f group.first n)) (Err e) (err_is T e) (makes_as (sym (undo_next n less)) (makes_then p q front one.makes)));
        only = one.only;
      })

  -- all of them
  pub undo_all : (n : ℕ) → n ≡ 0 → changes_at f (group.first + 3 * n) (group.count - n) ≡ changes_at f group.first group.count
  undo_all n none =
      let place : group.first + 3 * n ≡ group.first = omega arith in
      let many : group.count - n ≡ group.count = omega arith in
      ap (λ k. changes_at f k (group.count - n)) place ∙ ap (changes_at f group.first) many

  pub undo_none : changes_at f (group.first + 3 * group.count) (group.count - group.count) ≡ []
  undo_none = let none : group.count - group.count ≡ 0 = omega arith in ap (changes_at f (group.first + 3 * group.count)) none
