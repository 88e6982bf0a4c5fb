-- The heads of a log, read one after the other.
use Rattle.std.proofs.Common.{◌≡◌, ℕ, ◌+◌, ◌-◌, ◌<◌, ◌≤◌, refl, sym, ap, ◌∙◌, subst, inl, inr, IsTrue, Some, None, Result, Ok, Err}
use Rattle.nvm_model.specs.declared.line.Line.{Line}
use Rattle.devices.specs.State.{State}
use Rattle.devices.specs.World.{Standing, Goes, Stays, Rose, now}
use Rattle.devices.proofs.MomentLaws.{Goes-on}
use Rattle.devices.proofs.JoinLaws.{Stays-now}
use Rattle.damage.specs.declared.evidence.Evidence.TheVariants as evidence
use Rattle.flat_nvm_layout.specs.Opening.{NoFault}
use Rattle.flat_nvm_layout.specs.Sizes.{sizes_of}
use Rattle.flat_nvm_log.specs.Heads.{Says}
use Rattle.flat_nvm_log.specs.declared.head.Head.{Head}
use Rattle.flat_nvm_log.specs.declared.head.Head.TheVariants as head
use Rattle.flat_nvm_log.specs.declared.record.EndKind.TheVariants.{Commit, Abort}
use Rattle.flat_nvm_log.specs.declared.log.Log.{Log}
use Rattle.flat_store_meaning.specs.Layout.{Sizes}
use Rattle.flat_store_meaning.specs.Format.{entry_check, log_check}
use Rattle.flat_store_meaning.specs.Format.Format.{whole_lines}
use Rattle.flat_store_meaning.specs.Recovered.{from}
use Rattle.flat_recovery.specs.Causes.{OpenCause, OpenStops}
use Rattle.flat_recovery.specs.Reading.{lines_at}
use Rattle.flat_recovery.specs.Heads.{head_lines, IsJudged, IsLoaded, ReadsHead, ChecksLog, fault_in}
use Rattle.flat_recovery.specs.declared.errors.OpenError.{OpenError}
use Rattle.flat_recovery.specs.declared.errors.OpenError.TheVariants.{Nvm, Ssd, NotAStore, TooSmall, LogEnded, Damaged, NoMemory}
use Rattle.flat_recovery.proofs.ReadingLaws.{Advances, advance_record, advance_end, first_fault, none_left}

pub NoFault-refl : (a : Standing) → NoFault a a
NoFault-refl a = record { nvm = refl; ssd = refl }

pub NoFault-trans : {a b c : Standing} → NoFault a b → NoFault b c → NoFault a c
NoFault-trans first second = record { nvm = second.nvm ∙ first.nvm; ssd = second.ssd ∙ first.ssd }

-- a judgement counts no fault
pub judged_cause : (log : Log) (at : ℕ) (line : Line) (a b : Standing) (r : Result Head OpenError) → IsJudged log at line r → NoFault a b → b.block_reads ≡ a.block_reads → OpenCause a b r
judged_cause log at line a b (Ok found) is none reads = record { stopped = tt; done = none; reads = reads }
judged_cause log at line a b (Err (Damaged kept)) is none reads = record { stopped = none; done = tt; reads = reads }
judged_cause log at line a b (Err Nvm) is none reads = absurd is
judged_cause log at line a b (Err Ssd) is none reads = absurd is
judged_cause log at line a b (Err NotAStore) is none reads = absurd is
judged_cause log at line a b (Err TooSmall) is none reads = absurd is
judged_cause log at line a b (Err LogEnded) is none reads = absurd is
judged_cause log at line a b (Err NoMemory) is none reads = absurd is

pub judged_loaded : (log : Log) (at : ℕ) (line : Line) (r : Result Head OpenError) → IsJudged log at line r → IsLoaded log at line r
judged_loaded log at line (Ok found) is = is
judged_loaded log at line (Err (Damaged kept)) is = is
judged_loaded log at line (Err Nvm) is = tt
judged_loaded log at line (Err Ssd) is = absurd is
judged_loaded log at line (Err NotAStore) is = absurd is
judged_loaded log at line (Err TooSmall) is = absurd is
judged_loaded log at line (Err LogEnded) is = absurd is
judged_loaded log at line (Err NoMemory) is = absurd is

-- causes, one call behind another
stops_then : (a b d : Standing) (why : OpenError) → Goes a b → NoFault a b → OpenStops why b d → OpenStops why a d
stops_then a b d Nvm goes none rose = subst (λ n. Rose n d.nvm_faults) none.nvm rose
stops_then a b d Ssd goes none stop = stop
stops_then a b d NotAStore goes none stop = NoFault-trans none stop
stops_then a b d TooSmall goes none stop = NoFault-trans none stop
stops_then a b d LogEnded goes none stop = NoFault-trans none stop
stops_then a b d (Damaged kept) goes none stop = NoFault-trans none stop
stops_then a b d NoMemory goes none stop = NoFault-trans none stop

pub cause_then : {T U : Type 0} {a b d : Standing} {e : OpenError} (r : Result U OpenError) → r ≡ Err e → Goes a b → NoFault a b → b.block_reads ≡ a.block_reads → OpenCause {T = T} b d (Err e) → OpenCause a d r
cause_then {T} {U} {a} {b} {d} {e} r is goes none reads cause = subst (λ (x : Result U OpenError). OpenCause a d x) (sym is) (record { stopped = stops_then a b d e goes none cause.stopped; done = tt; reads = cause.reads ∙ reads })

-- an entry with this head is read
pub head_advances : (g : Sizes) (f : ℕ → Line) (tail at : ℕ) (found : Head) → at < tail → entry_check whole_lines g (f at) (tail - at - 1) ≡ None → Says found (f at) → Advances g f tail at (head_lines found)
head_advances g f tail at (head.Line page l) less passes says = advance_record g f tail at less (record { kind = says.kind; passes = passes })
head_advances g f tail at (head.End Commit) less passes says = advance_end g f tail at less (inl says) passes
head_advances g f tail at (head.End Abort) less passes says = advance_end g f tail at less (inr says) passes

-- whatever the device is, the entry stands before the tail
pub head_fits : (log : Log) (at : ℕ) (line : Line) (found : Head) → at < log.tail → IsJudged log at line (Ok found) → at + head_lines found ≤ log.tail
head_fits log at line found less judged = (head_advances (sizes_of log.geometry) (λ o. line) log.tail at found less judged.0 judged.1).fits

-- From the beginning of the log to here: no device changed, and the checks of all heads are those of the heads that are left.
pub record Checked (log : Log) (at : ℕ) (old mid : Standing) : Type 0 where
  pub goes : Goes old mid
  pub stays : Stays old mid
  pub none : NoFault old mid
  pub reads : mid.block_reads ≡ old.block_reads
  pub above : log.start ≤ at
  pub below : at ≤ log.tail
  pub left : IsTrue old.told → fault_in log (lines_at (sizes_of log.geometry) log.start (now old))
      ≡ log_check whole_lines (sizes_of log.geometry) at 0 (from (lines_at (sizes_of log.geometry) log.start (now old)) at (log.tail - at))

-- the line that a head was read from is the log's at the beginning
line_is : (log : Log) (at : ℕ) (old mid : Standing) (line : Line) → Goes old mid → Stays old mid → IsTrue old.told → (IsTrue mid.told → line ≡ lines_at (sizes_of log.geometry) log.start (now mid) at)
    → line ≡ lines_at (sizes_of log.geometry) log.start (now old) at
line_is log at old mid line goes stays told held =
    held (subst (λ t. IsTrue t) (sym goes.told) told) ∙ ap (λ (s : State). lines_at (sizes_of log.geometry) log.start s at) (Stays-now (Goes-on goes) stays told)

pub checked_more : (log : Log) (at : ℕ) (old mid : Standing) (found : Head) → at < log.tail → Checked log at old mid → ReadsHead log at mid (Ok found) → IsTrue old.told
    → fault_in log (lines_at (sizes_of log.geometry) log.start (now old))
    ≡ log_check whole_lines (sizes_of log.geometry) (at + head_lines found) 0 (from (lines_at (sizes_of log.geometry) log.start (now old)) (at + head_lines found) (log.tail - (at + head_lines found)))
checked_more log at old mid found less it head told =
    let is : head.line ≡ lines_at (sizes_of log.geometry) log.start (now old) at = line_is log at old mid head.line it.goes it.stays told head.held in
    it.left told
    ∙ (head_advances (sizes_of log.geometry) (lines_at (sizes_of log.geometry) log.start (now old)) log.tail at found less
    (subst (λ (x : Line). entry_check whole_lines (sizes_of log.geometry) x (log.tail - at - 1) ≡ None) is (head.judged).0)
    (subst (λ (x : Line). Says found x) is (head.judged).1)).checks

pub checked_all : (log : Log) (at : ℕ) (old mid : Standing) → log.tail ≤ at → Checked log at old mid → ChecksLog {T = Unit {0}} log old (Ok tt)
checked_all log at old mid above it = record {
  keeps = tt;
  finds = λ told. it.left told ∙ ap (log_check whole_lines (sizes_of log.geometry) at 0) (none_left (lines_at (sizes_of log.geometry) log.start (now old)) log.tail at above);
}

-- why the check of all heads stops, by why one of them was not read
pub checks_stop : {T : Type 0} (log : Log) (at : ℕ) (old mid : Standing) (why : OpenError) → at < log.tail → Checked log at old mid → ReadsHead log at mid (Err why) → ChecksLog {T = T} log old (Err why)
checks_stop log at old mid (Damaged kept) less it head = record {
  keeps = record { offset = at; line = head.line; fault = head.judged };
  finds = λ told.
      let is : head.line ≡ lines_at (sizes_of log.geometry) log.start (now old) at = line_is log at old mid head.line it.goes it.stays told head.held in
      record {
        fault = record { offset = at; check = (head.judged).check };
        first = it.left told ∙ first_fault (sizes_of log.geometry) (lines_at (sizes_of log.geometry) log.start (now old)) log.tail at (head.judged).check less
            (subst (λ (x : Line). entry_check whole_lines (sizes_of log.geometry) x (log.tail - at - 1) ≡ Some (head.judged).check) is (head.judged).fails_it);
        keeps = (head.judged).keeps ∙ ap (λ (x : Line). evidence.Log at x log.tail (head.judged).check) is;
      };
}
checks_stop log at old mid Nvm less it head = record { keeps = tt; finds = λ told. tt }
checks_stop log at old mid Ssd less it head = absurd head.judged
checks_stop log at old mid NotAStore less it head = absurd head.judged
checks_stop log at old mid TooSmall less it head = absurd head.judged
checks_stop log at old mid LogEnded less it head = absurd head.judged
checks_stop log at old mid NoMemory less it head = absurd head.judged
