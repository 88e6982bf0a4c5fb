-- The frame table of a store, as it is read and checked.
use Rattle.std.specs.Prelude.{◌≡◌, ◌≢◌, ◌⊎◌, ℕ, true, ◌+◌, ◌-◌, ◌<◌, ◌≤◌, List, slice_index, Option, Some, None, IsTrue, Result, Ok, Err, IfErr, OnOk}
use Rattle.devices.specs.State.{State, current}
use Rattle.devices.specs.World.{Standing, Rose, now}
use Rattle.line_pages.specs.Pairs.{Pairs}
use Rattle.device_calls.specs.Leads.{Looked}
use Rattle.line_pages.specs.declared.stop.Stop.{Stop}
use Rattle.line_pages.specs.declared.stop.Stop.TheVariants.{Nvm, Ssd, Damaged}
use Rattle.damage.specs.declared.evidence.Evidence.{Evidence}
use Rattle.damage.specs.declared.evidence.Evidence.TheVariants as evidence
use Rattle.store_model.specs.Recovered.{entry_at, table_check}

-- the first n of these words are the entries of the table
pub record AreEntries (n : ℕ) (words : List ℕ) (s : State) : Type 0 where
  pub each : (k : ℕ) → k < n → slice_index words k ≡ entry_at (current s) k

-- One entry that is above the number of pages, or two that are equal and not 0, kept as evidence of the check that fails.
pub record NamesTwice (n : ℕ) (entry : ℕ → ℕ) (kept : Evidence) : Type 0 where
  pub first : ℕ
  pub second : ℕ
  pub order : first < second
  pub less : second < n
  pub page : entry second ≢ 0
  pub same : entry first ≡ entry second
  pub keeps : kept ≡ evidence.Frames first second (entry second) 6

pub record IsAbove (p n : ℕ) (entry : ℕ → ℕ) (kept : Evidence) : Type 0 where
  pub frame : ℕ
  pub less : frame < n
  pub above : p < entry frame
  pub keeps : kept ≡ evidence.Frames frame frame (entry frame) 5

-- The evidence is of the first check that the table fails.
abbrev pub IsTableEvidence : ℕ → ℕ → (ℕ → ℕ) → Evidence → Type 0
IsTableEvidence p n entry kept =
    ((table_check p n entry ≡ Some 5) × IsAbove p n entry kept) ⊎ ((table_check p n entry ≡ Some 6) × NamesTwice n entry kept)

-- The answer on a table of these entries.
abbrev pub IsJudged : {T : Type 0} → ℕ → ℕ → (ℕ → ℕ) → Result T Evidence → Type 0
IsJudged p n entry (Ok v) = table_check p n entry ≡ None
IsJudged p n entry (Err kept) = IsTableEvidence p n entry kept

abbrev pub IsTableAnswer : {T : Type 0} → ℕ → ℕ → (ℕ → ℕ) → Result T Stop → Type 0
IsTableAnswer p n entry (Ok v) = table_check p n entry ≡ None
IsTableAnswer p n entry (Err Nvm) = Unit {0}
IsTableAnswer p n entry (Err Ssd) = ⊥
IsTableAnswer p n entry (Err (Damaged kept)) = IsTableEvidence p n entry kept

-- `Nvm` comes only where that count rose, `Ssd` never, and damage where no fault was counted.
abbrev pub IsTableStop : Standing → Standing → Stop → Type 0
IsTableStop a b Nvm = Rose a.nvm_faults b.nvm_faults
IsTableStop a b Ssd = ⊥
IsTableStop a b (Damaged kept) = (b.nvm_faults ≡ a.nvm_faults) × (b.ssd_faults ≡ a.ssd_faults)

pub record TableCause {T : Type 0} (a b : Standing) (result : Result T Stop) : Type 0 where
  pub failed : IfErr result (IsTableStop a b)
  pub nvm : OnOk result (b.nvm_faults ≡ a.nvm_faults)
  pub ssd : OnOk result (b.ssd_faults ≡ a.ssd_faults)

-- where all entries were loaded
abbrev pub OnLoaded : {T : Type 0} → Result T Stop → Type 0 → Type 0
OnLoaded (Ok v) P = P
OnLoaded (Err Nvm) P = Unit {0}
OnLoaded (Err Ssd) P = Unit {0}
OnLoaded (Err (Damaged kept)) P = P

-- no one of the first n entries is above the number of pages
pub record AreBelow (p n : ℕ) (entry : ℕ → ℕ) : Type 0 where
  pub each : (k : ℕ) → k < n → entry k ≤ p

-- one of the first n entries is this word
pub record HasWord (n : ℕ) (entry : ℕ → ℕ) (word : ℕ) : Type 0 where
  pub at : ℕ
  pub less : at < n
  pub is : entry at ≡ word

-- What was seen of the first n entries: their pages are noted, no other is, and none was named twice.
pub record SeenSo (n : ℕ) (entry : ℕ → ℕ) (pairs : Pairs) : Type 0 where
  pub noted : (p : ℕ) → pairs p 0 ≡ true → HasWord n entry (p + 1)
  pub all_noted : (k : ℕ) → k < n → entry k ≢ 0 → pairs (entry k - 1) 0 ≡ true
  pub once : (j k : ℕ) → j < k → k < n → entry k ≢ 0 → entry j ≢ entry k

-- No page is named twice; or this entry names a page that an earlier one names.
abbrev pub IsFirstTwice : ℕ → (ℕ → ℕ) → Option ℕ → Type 0
IsFirstTwice n entry None = (j k : ℕ) → j < k → k < n → entry k ≢ 0 → entry j ≢ entry k
IsFirstTwice n entry (Some k) = (k < n) × (entry k ≢ 0) × HasWord k entry (entry k)

-- No entry is above the number of pages; or this one is.
abbrev pub IsFirstAbove : ℕ → ℕ → (ℕ → ℕ) → Option ℕ → Type 0
IsFirstAbove p n entry None = AreBelow p n entry
IsFirstAbove p n entry (Some k) = (k < n) × (p < entry k)

-- What the loads of the first n entries left.
pub record EntriesSo (n : ℕ) (words : List ℕ) (old new : Standing) : Type 0 where
  pub looked : Looked {T = Unit {0}} old new (Ok tt)
  pub reads : new.block_reads ≡ old.block_reads
  pub held : IsTrue old.told → AreEntries n words (now old)
