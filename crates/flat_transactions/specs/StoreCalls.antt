-- What the calls of a store do that are none of pages.
use Rattle.std.specs.Prelude.{◌≡◌, ◌⊎◌, ℕ, ◌+◌, ◌-◌, ◌*◌, ◌<◌, ◌≤◌, nat_le, ◌==◌, if◌then◌else◌, Bool, true, false, IsTrue, Result, OnOk, IfErr}
use Rattle.devices.specs.World.{Standing as Device, Goes, Rose}
use Rattle.line_pages.specs.Lines.{Lines}
use Rattle.line_pages.specs.LineSets.{pairs_of}
use Rattle.line_pages.specs.Pairs.{no_pairs}
use Rattle.line_pages.specs.declared.stop.Stop.{Stop}
use Rattle.line_pages.specs.declared.stop.Stop.TheVariants.{Nvm, Ssd, Damaged}
use Rattle.flat_store_meaning.specs.Layout.{Sizes, ring_lines}
use Rattle.flat_store_laws.specs.Steps.{MayLeave, HoldsFacts}
use Rattle.flat_transactions.specs.declared.book.Book.{Book}
use Rattle.flat_transactions.specs.OpenStore.{current_lines, committed_lines, LeavesAlong}
use Rattle.flat_transactions.specs.StoreStanding.{book_sizes, reach, IsSteady}

-- at each moment of a call the facts of a store hold
abbrev pub HoldsAlong : Sizes → Device → Device → Type 0
HoldsAlong g a b = (m : ℕ) → a.clock < m → m ≤ b.clock → HoldsFacts g (b.at m)

-- Whatever a call answers: the geometry, the accesses and the touches stay, and of the device its sizes, whether it is told
-- and honest, what stands beside it, its earlier moments and its count of block reads; no count of faults falls. Where the
-- store was steady, at each moment the facts of a store hold, and what a crash leaves recovers to lines of which `Recovers`
-- holds.
pub record StoreCall (Recovers : Lines → Type 0) (old : Book) (a : Device) (new : Book) (b : Device) : Type 0 where
  pub geometry : new.log.geometry ≡ old.log.geometry
  pub accesses : new.accesses ≡ old.accesses
  pub goes : Goes a b
  pub block_reads : b.block_reads ≡ a.block_reads
  pub during : LeavesAlong Recovers old a b
  pub held : IsTrue a.told → IsSteady old a → HoldsAlong (book_sizes old) a b

-- the committed lines, as they were before the call
abbrev pub IsCommitted : Device → Lines → Type 0
IsCommitted a lines = lines ≡ committed_lines a

-- the committed lines or the current ones, as they were before the call
abbrev pub IsOldOrNew : Book → Device → Lines → Type 0
IsOldOrNew old a lines = (lines ≡ committed_lines a) ⊎ (lines ≡ current_lines old a)

-- the current and the committed lines stay
pub record KeepsLines (old : Book) (a : Device) (new : Book) (b : Device) : Type 0 where
  pub current : current_lines new b ≡ current_lines old a
  pub committed : committed_lines b ≡ committed_lines a

-- the current lines stay, and become the committed ones
pub record CommitsLines (old : Book) (a : Device) (new : Book) (b : Device) : Type 0 where
  pub current : current_lines new b ≡ current_lines old a
  pub committed : committed_lines b ≡ current_lines old a

-- the committed lines stay, and become the current ones
pub record AbortsLines (old : Book) (a : Device) (new : Book) (b : Device) : Type 0 where
  pub current : current_lines new b ≡ committed_lines a
  pub committed : committed_lines b ≡ committed_lines a

-- whatever a crash leaves now recovers to these lines
abbrev pub LeavesOnly : Sizes → Lines → Device → Type 0
LeavesOnly g lines d = (left : Lines) → MayLeave g d d.clock left → left ≡ lines

-- the log has room for the longest transaction: 640 records of three lines for each write, and an end
abbrev pub has_room : Book → Bool
has_room book = nat_le (1920 * book.log.geometry.writes + 1) (ring_lines (book_sizes book) - (book.log.tail - book.log.start))

-- The log has room for the longest transaction, behind a checkpoint where it had none, and then it names no line.
pub record MakesRoom (old new : Book) : Type 0 where
  pub is_open : new.is_open ≡ false
  pub room : new.room ≡ 0
  pub start : new.log.start ≡ (if has_room old then old.log.start else old.log.tail)
  pub tail : new.log.tail ≡ old.log.tail
  pub loose : pairs_of new.loose ≡ (if has_room old then pairs_of old.loose else no_pairs)
  pub takes : new.log.tail + (1920 * new.log.geometry.writes + 1) ≤ new.log.start + ring_lines (book_sizes new)

-- A transaction begins, behind a checkpoint where the log had no room for it, and then the log names no line.
pub record Begins (old new : Book) : Type 0 where
  pub is_open : new.is_open ≡ true
  pub accepted : new.accepted ≡ 0
  pub room : new.room ≡ 640
  pub start : new.log.start ≡ (if has_room old then old.log.start else old.log.tail)
  pub tail : new.log.tail ≡ old.log.tail
  pub loose : pairs_of new.loose ≡ (if has_room old then pairs_of old.loose else no_pairs)
  pub reach_rises : reach new ≤ reach old + 1921

-- A write of the transaction is done; the next one, if there is one, may write 640 lines. The log names the same lines.
pub record NextWrite (old new : Book) : Type 0 where
  pub log : new.log ≡ old.log
  pub loose : new.loose ≡ old.loose
  pub is_open : new.is_open ≡ true
  pub accepted : new.accepted ≡ old.accepted + 1
  pub room : new.room ≡ (if old.accepted + 1 == old.log.geometry.writes then 0 else 640)
  pub reach_rises : reach new ≤ reach old + 1921

-- The transaction ends. The log names the same lines.
pub record Ends (old new : Book) : Type 0 where
  pub is_open : new.is_open ≡ false
  pub accepted : new.accepted ≡ old.accepted
  pub room : new.room ≡ 0
  pub start : new.log.start ≡ old.log.start
  pub tail : new.log.tail ≡ old.log.tail + 1
  pub loose : new.loose ≡ old.loose
  pub reach_rises : reach new ≤ reach old + 1921

-- The log is emptied, and names no line.
pub record Checkpoints (old new : Book) : Type 0 where
  pub is_open : new.is_open ≡ false
  pub accepted : new.accepted ≡ old.accepted
  pub room : new.room ≡ 0
  pub start : new.log.start ≡ old.log.tail
  pub tail : new.log.tail ≡ old.log.tail
  pub loose : pairs_of new.loose ≡ no_pairs

-- A fault of the NVM was counted. The disk is not used, and no damage is found.
abbrev pub IsNvmFault : Device → Device → Stop → Type 0
IsNvmFault a b Nvm = Rose a.nvm_faults b.nvm_faults
IsNvmFault a b Ssd = ⊥
IsNvmFault a b (Damaged evidence) = ⊥

-- each stop has its cause, and no fault is passed over
pub record FaultCause {T : Type 0} (a b : Device) (result : Result T Stop) : Type 0 where
  pub failed : IfErr result (IsNvmFault a b)
  pub nvm : OnOk result (b.nvm_faults ≡ a.nvm_faults)
  pub ssd : OnOk result (b.ssd_faults ≡ a.ssd_faults)
