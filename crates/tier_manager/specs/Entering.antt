-- The beginning of an access, by the fields.
use Rattle.std.specs.Prelude.{◌≡◌, ℕ, Bool, true, false, ◌==◌, Option, Some, None}
use Rattle.migration_policy.specs.declared.policy.Question.TheVariants.{NvmRead}
use Rattle.tier_map.specs.declared.place.Place.{Place}
use Rattle.tier_map.specs.declared.place.Place.TheVariants.{Absent, Full, Mini}
use Rattle.tier_rules.specs.Plans.{dram_question}
use Rattle.tier_rules.specs.Entering.{begins}
use Rattle.tier_rules.specs.Parts.{Parts}
use Rattle.tier_pool.specs.Hits.{full_hit, mini_hit, frame_hit}
use Rattle.tier_pool.specs.FullRoom.{PartsAnswer, plain_no, drawn, full_room}
use Rattle.tier_pool.specs.Bringing.{FetchedInto, Brought, brought_through, fetched_to_nvm}

-- the page came to DRAM, to some place
pub record BroughtUp (page : ℕ) (old new : Parts) : Type 0 where
  pub place : Place
  pub is : Brought page place old new

-- the page came to DRAM through NVM, to some place
pub record BroughtThrough (page : ℕ) (old new : Parts) : Type 0 where
  pub place : Place
  pub is : brought_through page old ≡ record { place = place; parts = new }

-- the page was read into a full place
abbrev pub BroughtPast : ℕ → Parts → Parts → Type 0
BroughtPast page old new = FetchedInto page (full_room old).place (full_room old).parts new

-- by whether the page is brought to DRAM
abbrev pub BroughtIf : Bool → ℕ → Parts → Parts → Type 0
BroughtIf true page old new = BroughtUp page old new
BroughtIf false page old new = new ≡ old

abbrev pub BroughtBy : PartsAnswer → ℕ → Parts → Type 0
BroughtBy answer page new = BroughtIf answer.yes page answer.parts new

abbrev pub ThroughIf : Bool → ℕ → Parts → Parts → Type 0
ThroughIf true page old new = BroughtThrough page old new
ThroughIf false page old new = new ≡ fetched_to_nvm page old

abbrev pub ThroughBy : PartsAnswer → ℕ → Parts → Type 0
ThroughBy answer page new = ThroughIf answer.yes page answer.parts new

-- whether a page on the SSD goes through NVM, where there is any
abbrev pub through_by : Bool → Parts → PartsAnswer
through_by true parts = plain_no parts
through_by false parts = drawn NvmRead parts

abbrev pub through_nvm : Parts → PartsAnswer
through_nvm parts = through_by (parts.frames == 0) parts

abbrev pub ReadInIf : Bool → ℕ → Bool → Parts → Parts → Type 0
ReadInIf false page writes old new = BroughtPast page old new
ReadInIf true page writes old new = ThroughBy (drawn (dram_question writes) old) page new

abbrev pub ReadInBy : PartsAnswer → ℕ → Bool → Parts → Type 0
ReadInBy answer page writes new = ReadInIf answer.yes page writes answer.parts new

-- by the page's frame
abbrev pub EnteredBelow : Option ℕ → ℕ → Bool → Parts → Parts → Type 0
EnteredBelow (Some k) page writes old new = BroughtBy (drawn (dram_question writes) (frame_hit k old)) page new
EnteredBelow None page writes old new = ReadInBy (through_nvm old) page writes new

-- by the page's copy
abbrev pub EnteredAt : Place → ℕ → Bool → Parts → Parts → Type 0
EnteredAt Absent page writes old new = EnteredBelow (old.map.nvm page) page writes old new
EnteredAt (Full i) page writes old new = new ≡ full_hit i old
EnteredAt (Mini j) page writes old new = new ≡ mini_hit j old

abbrev pub Entered : ℕ → Bool → Parts → Parts → Type 0
Entered page writes old new = EnteredAt (old.map.place page) page writes old new

-- the page was entered, and the access is open
pub record Begun (page : ℕ) (writes : Bool) (old new : Parts) : Type 0 where
  pub entered : Parts
  pub is : Entered page writes old entered
  pub opened : new ≡ record entered { access = Some (page, writes) }

abbrev pub BegunIf : Bool → ℕ → Bool → Parts → Parts → Type 0
BegunIf true page writes old new = Begun page writes old new
BegunIf false page writes old new = new ≡ old

-- the access stands open: it begins here, or goes on
abbrev pub Opened : ℕ → Bool → Parts → Parts → Type 0
Opened page writes old new = BegunIf (begins old.access page writes) page writes old new
