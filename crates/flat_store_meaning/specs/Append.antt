-- What the images of a state recover to, and the lines of the entries of a log.
use Rattle.std.specs.Prelude.{◌≡◌, ℕ, ◌<◌, List, [], ◌∷◌}
use Rattle.nvm_model.specs.declared.line.Line.{Line}
use Rattle.devices.specs.State.{State, Image, Leaves}
use Rattle.flat_store_meaning.specs.Layout.{pages}
use Rattle.flat_store_meaning.specs.Log.{Words}
use Rattle.flat_store_meaning.specs.Format.{Format}
use Rattle.flat_store_meaning.specs.Recovered.{super_of, recovered}

-- every image that a crash leaves of the state recovers to these words
abbrev pub RecoversTo : Format → State → Words → Type 0
RecoversTo format s words = (i : Image) → Leaves s i → (p l w : ℕ) → p < pages (super_of i).sizes → l < 64 → w < 8 → recovered format i p l w ≡ words p l w

-- a line of a head
abbrev pub head_line : ℕ → ℕ → ℕ → ℕ → Line
head_line kind page line mask = record { words = kind ∷ page ∷ line ∷ mask ∷ 0 ∷ 0 ∷ 0 ∷ 0 ∷ [] }

-- the lines of a record of whole lines, of a commit and of an abort
abbrev pub record_of : ℕ → ℕ → Line → Line → List Line
record_of page line before after = head_line 1 page line 0 ∷ before ∷ after ∷ []

abbrev pub commit_lines : List Line
commit_lines = head_line 2 0 0 0 ∷ []

abbrev pub abort_lines : List Line
abort_lines = head_line 3 0 0 0 ∷ []
