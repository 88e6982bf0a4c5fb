-- Laws of the definitions, each the contract of a function of `src/laws.rt`.
use Rattle.std.specs.Prelude.{◌≡◌, ℕ, ◌*◌, ◌<◌, ◌≤◌, pred, List, [], length, take, Some, None, IsTrue, true, false}
use Rattle.clock_sweep.specs.Clock.{Circle, any_stands, Swept, victim}
use Rattle.tier_rules.specs.Plans.{Plan}
use Rattle.tier_rules.specs.State.{TierState}
use Rattle.tier_rules.specs.Sound.{Sound}
use Rattle.tier_rules.specs.Step.{Touch, ready_step, tier_step}
use Rattle.migration_policy.specs.Draws.{says_yes}
use Rattle.tier_rules.specs.Fitting.{Fitting}
use Rattle.tier_rules.specs.Cleaning.{settled}
use Rattle.tier_rules.specs.Opening.{IsTable}
use Rattle.tier_rules.specs.Runs.{Printed, tier_run}
use Rattle.tier_rules.specs.Printing.{printed, IsRun}

-- where a place stands there is a victim, after at most two turns
abbrev pub HasVictim : Type 0
HasVictim = (circle : Circle) → IsTrue (any_stands circle) → (v : Swept) × (victim circle ≡ Some v) × (v.steps ≤ 2 * length circle)

-- what holds of the frame table's words: no frame names a page twice
abbrev pub IsTableOfWords : List ℕ → Type 0
IsTableOfWords words = IsTable (take (pred (length words)) words)

-- every state of a run is sound
abbrev pub RunsAreSound : Type 0
RunsAreSound =
    (plan : Plan) (words : List ℕ) (lines : List Printed) → 1 ≤ plan.dram_frames → IsTableOfWords words → IsRun None lines
    → Sound (tier_run plan words lines)

-- a touch that comes again at once changes nothing
abbrev pub TouchesSettle : Type 0
TouchesSettle = (touch : Touch) (s : TierState) → touch.line < 64 → Sound s → tier_step touch (tier_step touch s) ≡ tier_step touch s

-- to make a line ready and then to write it is one touch
abbrev pub WritesInTwo : Type 0
WritesInTwo = (touch : Touch) (s : TierState) → touch.line < 64 → Sound s → tier_step touch (ready_step touch s) ≡ tier_step touch s

-- the tally of a run is that of its printed touches, the first of each line in its access
abbrev pub PrintedTally : Type 0
PrintedTally =
    (plan : Plan) (words : List ℕ) (lines : List Printed) → 1 ≤ plan.dram_frames → IsTableOfWords words → IsRun None lines
    → (tier_run plan words lines).tally ≡ (tier_run plan words (printed None [] lines)).tally

-- after settling no copy is dirty, in each state that a run reaches
abbrev pub SettlingCleans : Type 0
SettlingCleans =
    (plan : Plan) (words : List ℕ) (lines : List Printed) → 1 ≤ plan.dram_frames → IsTableOfWords words → IsRun None lines
    → (page : ℕ) → (settled (tier_run plan words lines)).dirty page ≡ 0

-- in each state that a run reaches a dirty line is resident, and a page without a copy has no dirty line
abbrev pub RunsFit : Type 0
RunsFit =
    (plan : Plan) (words : List ℕ) (lines : List Printed) → 1 ≤ plan.dram_frames → IsTableOfWords words → IsRun None lines
    → Fitting (tier_run plan words lines)

-- with 1000 every word says yes, and with 0 none
abbrev pub FixedAnswers : Type 0
FixedAnswers = (w : ℕ) → (says_yes 1000 w ≡ true) × (says_yes 0 w ≡ false)
