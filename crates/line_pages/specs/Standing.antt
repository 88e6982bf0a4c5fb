-- What a store of pages shows to the layers above it, and what its calls do to that.
use Rattle.std.specs.Prelude.{◌≡◌, ◌≢◌, ℕ, ◌+◌, ◌<◌, ◌≤◌, min, Bool, true, false, List, [], ◌∷◌, ◌++◌, filter, length, Option, Some, None, if◌then◌else◌, IsTrue, Result, Ok, Err, OnOk, IfErr}
use Rattle.nvm_model.specs.declared.line.Line.{Line}
use Rattle.damage.specs.declared.evidence.Evidence.{Evidence}
use Rattle.line_pages.specs.declared.stop.Stop.{Stop}
use Rattle.line_pages.specs.declared.stop.Stop.TheVariants.{Nvm, Ssd, Damaged}
use Rattle.line_pages.specs.Lines.{Lines, with_line}
use Rattle.line_pages.specs.Touch.{Touch, Access, begins, touch_of, accesses, accesses_from, access_after, writes_line}

-- a stop that is a fault, and no damage
abbrev pub IsFault : Stop → Type 0
IsFault Nvm = Unit {0}
IsFault Ssd = Unit {0}
IsFault (Damaged evidence) = ⊥

-- What is known of a store at one moment. `told` says whether its content is known: each clause on lines holds there
-- alone. `committed` are the lines that recovery gives, `room` is the number of line writes still allowed, `visits` that
-- of the accesses begun, `touches` are those of the calls that answered ok, `access` is the open access, `clock` the
-- present moment. `apart` is data of each implementation's choice, which no call of pages changes.
pub record Standing (A : Type 0) : Type 0 where
  pub count : ℕ
  pub told : Bool
  pub current : Lines
  pub committed : Lines
  pub room : ℕ
  pub visits : ℕ
  pub touches : List Touch
  pub access : Option Access
  pub nvm_faults : ℕ
  pub ssd_faults : ℕ
  pub clock : ℕ
  pub apart : A

-- the last number that a count can show; there it stays
abbrev pub last_count : ℕ
last_count = 18446744073709551615

-- a count that rose, or stands at its last value
abbrev pub Rose : ℕ → ℕ → Type 0
Rose before after = min (before + 1) last_count ≤ after

-- Whatever a call answers, and every call above too: the size, whether it is told, the committed pages and `apart` stay,
-- no count falls, no earlier touch goes, earlier moments leave nothing more, and at each moment since the start recovery
-- gives the committed pages. `before m lines` says that a crash at moment m may leave what recovers to these lines, as it
-- was known at the start, `after` as it is known at the end. `steady` says that it was known at the start what recovery gives.
pub record Continues {A : Type 0} (before after : ℕ → Lines → Type 0) (steady : Type 0) (old new : Standing A) : Type 0 where
  pub count : new.count ≡ old.count
  pub told : new.told ≡ old.told
  pub committed : IsTrue old.told → new.committed ≡ old.committed
  pub apart : new.apart ≡ old.apart
  pub nvm_faults : old.nvm_faults ≤ new.nvm_faults
  pub ssd_faults : old.ssd_faults ≤ new.ssd_faults
  pub touches : (added : List Touch) × (new.touches ≡ old.touches ++ added)
  pub clock : old.clock ≤ new.clock
  pub earlier : (m : ℕ) (lines : Lines) → m ≤ old.clock → after m lines → before m lines
  pub during : IsTrue old.told → steady → (m : ℕ) → old.clock < m → m ≤ new.clock → (lines : Lines) → after m lines → lines ≡ old.committed

-- What every call on pages keeps: it goes on from what it found, and after ok the pages are ready for the next call, and steady
-- where they were.
pub record KeepsPages {A T : Type 0} (before after : ℕ → Lines → Type 0) (was_steady is_steady is_ready : Type 0) (old new : Standing A) (result : Result T Stop) : Type 0 where
  pub continues : Continues before after was_steady old new
  pub ready : OnOk result is_ready
  pub steady : was_steady → OnOk result is_steady

-- A call on one line, whatever it answers: the access is that of its page and kind. One that succeeds puts its touch last.
pub record IsTouch {A : Type 0} {T E : Type 0} (page line : ℕ) (writes : Bool) (old new : Standing A) (result : Result T E) : Type 0 where
  pub access : new.access ≡ Some (page, writes)
  pub visits : new.visits ≡ old.visits + (if begins old.access page writes then 1 else 0)
  pub touches : OnOk result (new.touches ≡ old.touches ++ touch_of old.access page line writes ∷ [])

-- a read that succeeds changes no line and leaves the room
pub record Reads {A : Type 0} {T E : Type 0} (page line : ℕ) (old new : Standing A) (result : Result T E) : Type 0 where
  pub touch : IsTouch page line false old new result
  pub current : IsTrue old.told → OnOk result (new.current ≡ old.current)
  pub room : OnOk result (new.room ≡ old.room)

-- a write that succeeds changes that one line and lowers the room by one
pub record Writes {A : Type 0} {T E : Type 0} (page line : ℕ) (value : Line) (old new : Standing A) (result : Result T E) : Type 0 where
  pub touch : IsTouch page line true old new result
  pub current : IsTrue old.told → OnOk result (new.current ≡ with_line page line value old.current)
  pub room : OnOk result (new.room + 1 ≡ old.room)

-- Reads of lines of this page alone, in one access: it begins one, unless an access of that page and kind was open.
pub record ReadsPage {A : Type 0} (page : ℕ) (old new : Standing A) : Type 0 where
  pub told : new.told ≡ old.told
  pub current : IsTrue old.told → new.current ≡ old.current
  pub room : new.room ≡ old.room
  pub access : new.access ≡ Some (page, false)
  pub visits : new.visits ≡ old.visits + (if begins old.access page false then 1 else 0)
  pub added : List Touch
  pub touches : new.touches ≡ old.touches ++ added
  pub begun : accesses added ≡ (if begins old.access page false then (page, false) ∷ [] else [])
  pub alone : accesses_from (Some (page, false)) added ≡ []

-- Writes of lines of this page alone, in one access: no other page changes, and the room falls by one with each.
pub record WritesPage {A : Type 0} (page : ℕ) (old new : Standing A) : Type 0 where
  pub told : new.told ≡ old.told
  pub others : IsTrue old.told → (p l : ℕ) → p ≢ page → new.current p l ≡ old.current p l
  pub access : new.access ≡ Some (page, true)
  pub visits : new.visits ≡ old.visits + (if begins old.access page true then 1 else 0)
  pub added : List Touch
  pub touches : new.touches ≡ old.touches ++ added
  pub begun : accesses added ≡ (if begins old.access page true then (page, true) ∷ [] else [])
  pub alone : accesses_from (Some (page, true)) added ≡ []
  pub room : new.room + length added ≡ old.room

-- A fact that holds unless a fault stopped the call: after ok, and also where it answers damage.
abbrev pub UnlessStop : Stop → Type 0 → Type 0
UnlessStop Nvm Fact = Unit {0}
UnlessStop Ssd Fact = Unit {0}
UnlessStop (Damaged evidence) Fact = Fact

abbrev pub UnlessFault : {T : Type 0} → Result T Stop → Type 0 → Type 0
UnlessFault (Ok value) Fact = Fact
UnlessFault (Err stop) Fact = UnlessStop stop Fact

-- no line changes, and the room stays
pub record KeepsLines {A : Type 0} (old new : Standing A) : Type 0 where
  pub current : IsTrue old.told → new.current ≡ old.current
  pub room : new.room ≡ old.room

-- Reads alone, no access being ended between, with a fact about the pages that they read, in order: reads in a row of
-- one page count once, and the first of them may go on in an open access.
pub record AddsReads {A : Type 0} (Fact : List Access → Type 0) (old new : Standing A) : Type 0 where
  pub added : List Touch
  pub touches : new.touches ≡ old.touches ++ added
  pub visits : new.visits ≡ old.visits + length (accesses added)
  pub begun : accesses added ≡ accesses_from old.access added
  pub access : new.access ≡ access_after old.access added
  pub reads : filter writes_line added ≡ []
  pub fact : Fact (accesses_from None added)

-- the end of an access
pub record Rests {A : Type 0} (old new : Standing A) : Type 0 where
  pub current : IsTrue old.told → new.current ≡ old.current
  pub room : new.room ≡ old.room
  pub touches : new.touches ≡ old.touches
  pub access : new.access ≡ None
  pub visits : new.visits ≡ old.visits

-- A fault is answered only where its count rose. Damage is answered only where `Damage` holds of the evidence.
abbrev pub IsCause : {A : Type 0} → (Evidence → Type 0) → Standing A → Standing A → Stop → Type 0
IsCause Damage old new Nvm = Rose old.nvm_faults new.nvm_faults
IsCause Damage old new Ssd = Rose old.ssd_faults new.ssd_faults
IsCause Damage old new (Damaged evidence) = Damage evidence

-- the calls of the trait never answer damage
abbrev pub Never : Evidence → Type 0
Never evidence = ⊥

-- each stop has its cause, and no fault is passed over
pub record HasCause {A T : Type 0} (Damage : Evidence → Type 0) (old new : Standing A) (result : Result T Stop) : Type 0 where
  pub failed : IfErr result (IsCause Damage old new)
  pub kept : OnOk result ((new.nvm_faults ≡ old.nvm_faults) × (new.ssd_faults ≡ old.ssd_faults))
