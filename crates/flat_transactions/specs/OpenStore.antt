-- What the layers above know of an open store: its lines, its transaction and its log, what a crash may leave of it, and why its
-- calls stop.
use Rattle.std.specs.Prelude.{◌≡◌, ◌⊎◌, ℕ, ◌<◌, ◌≤◌, Bool, IsTrue, Result, IfErr, OnOk}
use Rattle.devices.specs.World.{Standing as Device, Goes, Rose, now}
use Rattle.damage.specs.declared.evidence.Evidence.{Evidence}
use Rattle.line_pages.specs.Lines.{Lines}
use Rattle.line_pages.specs.Standing.{Continues}
use Rattle.line_pages.specs.declared.stop.Stop.{Stop}
use Rattle.line_pages.specs.declared.stop.Stop.TheVariants.{Nvm, Ssd, Damaged}
use Rattle.flat_store_laws.specs.ShownPages.{pages_in, committed_in}
use Rattle.flat_store_laws.specs.Steps.{MayLeave}
use Rattle.flat_transactions.specs.declared.book.Book.{Book}
use Rattle.flat_transactions.specs.StoreStanding.{Apart, standing_of, book_sizes, reach, IsSteady}
use Rattle.flat_transactions.specs.TakenBack.{IsDamage}

-- ---- as one reads it

-- the current lines of a book's store
abbrev pub current_lines : Book → Device → Lines
current_lines book d = pages_in (book_sizes book) (now d)

-- the committed lines of the store that a device holds
abbrev pub committed_lines : Device → Lines
committed_lines d = committed_in (now d)

-- What a book says of its transaction, and of its log: whether one is open, how many of its writes are done, how many lines may
-- still be written, and between which offsets the log stands.
pub record Account : Type 0 where
  pub is_open : Bool
  pub accepted : ℕ
  pub room : ℕ
  pub start : ℕ
  pub tail : ℕ

abbrev pub account : Book → Account
account book = record { is_open = book.is_open; accepted = book.accepted; room = book.room; start = book.log.start; tail = book.log.tail }

-- ---- what a crash may leave

-- At each moment of a call on a steady store, what a crash leaves recovers to lines of which this holds.
abbrev pub LeavesAlong : (Lines → Type 0) → Book → Device → Device → Type 0
LeavesAlong Recovers old a b =
    IsTrue a.told → IsSteady old a → (m : ℕ) → a.clock < m → m ≤ b.clock → (lines : Lines) → MayLeave (book_sizes old) b m lines → Recovers lines

-- the committed lines alone, as they were before the call
abbrev pub LeavesCommitted : Book → Device → Device → Type 0
LeavesCommitted old a b = LeavesAlong (λ lines. lines ≡ committed_lines a) old a b

-- the committed lines or the current ones, as they were before the call
abbrev pub LeavesEither : Book → Device → Device → Type 0
LeavesEither old a b = LeavesAlong (λ lines. (lines ≡ committed_lines a) ⊎ (lines ≡ current_lines old a)) old a b

-- ---- calls of pages

-- a call of pages on the store of a book and its device, by the names of the two references and the moment at which it was put
-- over the device, before the call and after it
abbrev pub CallsPages : Book → Device → ℕ → ℕ → ℕ → Book → Device → ℕ → ℕ → ℕ → Type 0
CallsPages old a book_name device_name since new b book_name_after device_name_after since_after =
    Continues (MayLeave (book_sizes old) a) (MayLeave (book_sizes new) b) (IsSteady old a) (standing_of old a book_name device_name since)
    (standing_of new b book_name_after device_name_after since_after)

-- What such a call keeps, over a store that was put over its device just before. It leaves the committed lines at each moment.
pub record KeepsStore (old : Book) (a : Device) (new : Book) (b : Device) : Type 0 where
  pub sizes : book_sizes new ≡ book_sizes old
  pub goes : Goes a b
  pub is_open : (account new).is_open ≡ (account old).is_open
  pub accepted : (account new).accepted ≡ (account old).accepted
  pub start : (account new).start ≡ (account old).start
  pub reach_is : reach new ≡ reach old
  pub committed : IsTrue a.told → committed_lines b ≡ committed_lines a
  pub during : LeavesCommitted old a b

-- ---- why its calls stop

-- a fault of that device was counted, and no damage is found
abbrev pub IsCounted : Device → Device → Stop → Type 0
IsCounted a b Nvm = Rose a.nvm_faults b.nvm_faults
IsCounted a b Ssd = Rose a.ssd_faults b.ssd_faults
IsCounted a b (Damaged kept) = ⊥

-- each stop has its cause, and no fault is passed over
pub record HasFault {T : Type 0} (a b : Device) (result : Result T Stop) : Type 0 where
  pub failed : IfErr result (IsCounted a b)
  pub nvm : OnOk result (b.nvm_faults ≡ a.nvm_faults)
  pub ssd : OnOk result (b.ssd_faults ≡ a.ssd_faults)

-- the evidence is a line of the book's log that is no record of its store
abbrev pub IsLogDamage : Book → Device → Evidence → Type 0
IsLogDamage book d kept = IsDamage (book_sizes book) (account book).start (account book).tail d kept

-- a fault was counted, or a line of the log is damaged
abbrev pub IsCountedOrDamage : Book → Device → Device → Stop → Type 0
IsCountedOrDamage book a b Nvm = Rose a.nvm_faults b.nvm_faults
IsCountedOrDamage book a b Ssd = Rose a.ssd_faults b.ssd_faults
IsCountedOrDamage book a b (Damaged kept) = IsLogDamage book a kept

-- each stop of an abort has its cause, and no fault is passed over
pub record HasAbortCause {T : Type 0} (book : Book) (a b : Device) (result : Result T Stop) : Type 0 where
  pub failed : IfErr result (IsCountedOrDamage book a b)
  pub nvm : OnOk result (b.nvm_faults ≡ a.nvm_faults)
  pub ssd : OnOk result (b.ssd_faults ≡ a.ssd_faults)
