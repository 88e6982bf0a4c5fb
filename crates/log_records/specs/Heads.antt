-- Records of a log, by the offsets of their heads.
use Rattle.std.specs.Prelude.{◌≡◌, ℕ, ◌+◌, ◌<◌, List, [], ◌∷◌}
use Rattle.nvm_model.specs.declared.line.Line.{Line}
use Rattle.store_model.specs.Layout.{Sizes, pages}
use Rattle.store_model.specs.Log.{Change}
use Rattle.store_model.specs.Format.{Format, word_in, record_kind, lines_behind, change_of}
use Rattle.store_model.specs.Recovered.{from}

-- A record, and the offset of its head.
pub record Headed : Type 0 where
  pub head : ℕ
  pub change : Change

-- It stands there: the line at the offset is a record's head, and with the lines behind it gives this record.
pub record StandsAt (format : Format) (line_at : ℕ → Line) (it : Headed) : Type 0 where
  pub kind : word_in (line_at it.head) 0 ≡ record_kind format
  pub gives : change_of format (line_at it.head) (from line_at (it.head + 1) (lines_behind format (line_at it.head))) ≡ it.change

-- the offset behind the entry with this head
abbrev pub behind : Format → (ℕ → Line) → ℕ → ℕ
behind format line_at head = head + 1 + lines_behind format (line_at head)

-- These records stand one behind the other, from the first offset up to the second.
abbrev pub HeadsOf : Format → (ℕ → Line) → ℕ → List Headed → ℕ → Type 0
HeadsOf format line_at first [] end = first ≡ end
HeadsOf format line_at first (it ∷ later) end = (it.head ≡ first) × StandsAt format line_at it × HeadsOf format line_at (behind format line_at first) later end

-- the records without their offsets
abbrev pub changes_of : List Headed → List Change
changes_of [] = []
changes_of (it ∷ later) = it.change ∷ changes_of later

-- they are of lines of the store
abbrev pub AreOfStore : Sizes → List Headed → Type 0
AreOfStore g [] = Unit {0}
AreOfStore g (it ∷ later) = ((it.change.page < pages g) × (it.change.line < 64)) × AreOfStore g later
