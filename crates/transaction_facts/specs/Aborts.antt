-- An abort: the before images of the open group's records are written over the current words, from the last record to the first.
use Rattle.std.specs.Prelude.{◌≡◌, ℕ, ◌<◌, true, false, List, slice_index, Some}
use Rattle.nvm_model.specs.declared.line.Line.{Line}
use Rattle.devices.specs.State.{State}
use Rattle.store_model.specs.Log.{Change, names, named_in, changes, undone}
use Rattle.store_model.specs.Format.{word_in}
use Rattle.store_model.specs.StoreFacts.{IsWord}
use Rattle.tier_facts.specs.Data.{with_mark}
use Rattle.transaction_facts.specs.Records.{log_ahead}
use Rattle.transaction_facts.specs.Books.{BookData, Goal, Holds, HoldsTaking, aim_of}

-- the current words with these last records taken back
abbrev pub goal_back : List Change → Goal → Goal
goal_back taken goal = record goal { words = undone taken goal.words }

-- What holds while the records of the open group are taken back: they are these, of which the last ones were.
pub record HoldsBack (all taken : List Change) (b : BookData) (goal : Goal) (s : State) : Type 0 where
  pub holds : HoldsTaking b (goal_back taken goal) s
  pub open_are : changes (log_ahead (aim_of b (goal_back taken goal) holds.lines holds.behind holds.pending)).open_items ≡ all

-- with all of these taken back the current words are the committed ones
pub record IsBack (all : List Change) (goal : Goal) : Type 0 where
  pub words : (p l w : ℕ) → IsWord goal.sizes p l w → undone all goal.words p l w ≡ goal.kept p l w

-- the current words are the committed ones again
abbrev pub goal_aborted : Goal → Goal
goal_aborted goal = record goal { words = goal.kept }

abbrev pub HoldsAborted : BookData → Goal → State → Type 0
HoldsAborted b goal s = Holds b (goal_aborted goal) s

-- The line has the before value of each word that the record names, and else the words of the copy.
pub record GivesBack (b : BookData) (change : Change) (value : Line) : Type 0 where
  pub named : (w : ℕ) → w < 8 → names change change.page change.line w ≡ true → word_in value w ≡ slice_index change.before.words w
  pub rest : (w : ℕ) → w < 8 → names change change.page change.line w ≡ false → (old : Line) × (b.tiers.copy change.page change.line ≡ Some old) × (word_in value w ≡ word_in old w)

-- these records name each word of the line
abbrev pub AllNamed : List Change → ℕ → ℕ → Type 0
AllNamed all page line = (w : ℕ) → w < 8 → named_in all page line w ≡ true

-- the line is loose
abbrev pub marked_loose : ℕ → ℕ → BookData → BookData
marked_loose page line b = record b { loose = with_mark page line true b.loose }
