-- When a state of the devices stands for tables, whatever a crash leaves of it.
use Rattle.std.specs.Prelude.{◌≡◌, ℕ, ◌<◌, ◌≤◌, false, IsTrue, Option, Some, None}
use Rattle.nvm_model.specs.declared.line.Line.{Line}
use Rattle.devices.specs.State.{State, Image, Leaves, current}
use Rattle.nvm_model.specs.Word.{IsSingle, IsSteady}
use Rattle.flat_store_meaning.specs.Layout.{Sizes, pages, nvm_lines, ssd_blocks, ring_line, frame_line, ring_block}
use Rattle.flat_store_meaning.specs.Log.{is_logged}
use Rattle.flat_store_meaning.specs.Format.{Format, magic}
use Rattle.flat_store_meaning.specs.Recovered.{Super, super_of, super_check, image_log_check, log_of, recovered_pages}

-- a word of the superblock that has a name: line 0 to word 5, and word 0 of the three lines behind
pub data IsNamed : ℕ → ℕ → Type 0 where
  magic_word : IsNamed 0 0
  tables : IsNamed 0 1
  rows : IsNamed 0 2
  writes : IsNamed 0 3
  frames : IsNamed 0 4
  log_blocks : IsNamed 0 5
  start : IsNamed 1 0
  drained : IsNamed 2 0
  tail : IsNamed 3 0

-- Each named word of the superblock has one version, they pass their checks, and the sizes fit the devices.
pub record GatesStand (format : Format) (lines blocks : ℕ) (s : State) : Type 0 where
  pub superblock : (l w : ℕ) → IsNamed l w → IsSingle (s.nvm l w)
  pub magic : (super_of (current s)).magic_word ≡ magic format
  pub super_checks : super_check (super_of (current s)) ≡ None
  pub nvm_fits : nvm_lines (super_of (current s)).sizes ≤ lines
  pub ssd_fits : ssd_blocks (super_of (current s)).sizes ≤ blocks

-- the log line at this offset is durable: one version in the NVM ring, or a settled block of the SSD ring
pub record LineStands (sup : Super) (s : State) (offset : ℕ) : Type 0 where
  pub in_nvm : sup.drained ≤ offset → (w : ℕ) → w < 8 → IsSingle (s.nvm (ring_line sup.sizes offset) w)
  pub in_ssd : offset < sup.drained → IsTrue (s.ssd (ring_block sup.sizes offset)).settled

-- each log line is durable, and they pass their checks
pub record LogStands (format : Format) (s : State) : Type 0 where
  pub lines : (offset : ℕ) → (super_of (current s)).start ≤ offset → offset < (super_of (current s)).tail → LineStands (super_of (current s)) s offset
  pub checks : image_log_check format (current s) ≡ None

-- a word has one home value: its versions are all equal
abbrev pub HomeStands : Sizes → State → ℕ → ℕ → ℕ → Type 0
HomeStands g s p l w = IsSteady (s.nvm (frame_line g p l) w)

-- each word that the log doesn't name has one home value
abbrev pub HomesStand : Format → State → Type 0
HomesStand format s = (p l w : ℕ) → p < pages (super_of (current s)).sizes → l < 64 → w < 8
    → is_logged (log_of format (current s)) p l w ≡ false
    → HomeStands (super_of (current s)).sizes s p l w

-- The devices hold a store, and a crash can choose nothing that recovery would see.
pub record Stands (format : Format) (lines blocks : ℕ) (s : State) : Type 0 where
  pub gates : GatesStand format lines blocks s
  pub log : LogStands format s
  pub homes : HomesStand format s

-- The devices hold a store, and every image recovers to these tables.
pub record IsInOrder {Tables : Type 0} (tables : (ℕ → ℕ → Line) → Option Tables) (format : Format) (lines blocks : ℕ) (s : State) (T : Tables) : Type 0 where
  pub stands : Stands format lines blocks s
  pub recovers : (i : Image) → Leaves s i → tables (recovered_pages format i) ≡ Some T
