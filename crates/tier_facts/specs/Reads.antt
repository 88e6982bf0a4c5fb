-- A line that is read of the tiers.
use Rattle.std.specs.Prelude.{◌≡◌, ℕ, ◌<◌, Result, IfOk}
use Rattle.nvm_model.specs.declared.line.Line.{Line}
use Rattle.line_pages.specs.declared.stop.Stop.{Stop}
use Rattle.store_model.specs.Format.{word_in}
use Rattle.tier_facts.specs.Facts.{Aim}

-- The line that was answered is the current one.
pub record IsCurrentLine (page line : ℕ) (result : Result Line Stop) (aim : Aim) : Type 0 where
  pub words : IfOk result (λ found. (w : ℕ) → w < 8 → word_in found w ≡ aim.words page line w)
