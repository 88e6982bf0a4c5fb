-- The statuses of a script's run, each with its cause.
use Rattle.std.specs.Prelude.{◌≡◌, ◌≢◌, ℕ, ◌<◌, ◌==◌, List, [], ◌∷◌, ◌++◌, length, IsTrue}
use Rattle.std.specs.List.{list_any}
use Rattle.devices.specs.World.{Standing, Rose, NoFault, sent}
use Rattle.damage.specs.declared.evidence.Evidence.{Evidence}
use Rattle.line_pages.specs.Lines.{Lines}
use Rattle.script.specs.Grammar.{commands}
use Rattle.script.specs.Machine.{State}
use Rattle.script.specs.Replies.{text}
use Rattle.script.specs.declared.command.Reply.{Reply}
use Rattle.engine.specs.declared.engine.Engine.{Engine}
use Rattle.engine.specs.Engine.{Shows}
use Rattle.engine.specs.Resting.{AreReads, Rests, IsPageOf}
use Rattle.damage.specs.DamageText.{damage_text}
use Rattle.runner.specs.Cause.{Shown}

abbrev pub IsOneOf : ℕ → List ℕ → Type 0
IsOneOf status codes = IsTrue (list_any (λ code. code == status) codes)

-- A status comes exactly where its condition holds and nothing earlier ended the call: it comes only there; and where the
-- condition holds, the status is this one, or one that may come before it.
pub record Exactly (status code : ℕ) (condition : Type 0) (earlier : List ℕ) : Type 0 where
  pub only : status ≡ code → condition
  pub comes : condition → IsOneOf status (code ∷ earlier)

-- Where no command was taken that writes, and the current and the committed lines were the same at first, a page of the evidence
-- is one of theirs.
abbrev pub IsFirstPage : Engine → Standing → List ℕ → Evidence → Standing → Type 0
IsFirstPage before old page kept new =
    IsTrue old.told → (lines : Lines) (taken : List ℕ) → Rests lines before old → old.outside.input ≡ taken ++ new.outside.input → AreReads (commands taken) → IsPageOf lines page kept

-- Damage was found. What was sent is what stood before, whole replies, and then the text of the damage.
pub record Told (before : Engine) (old : Standing) (engine : Engine) (new : Standing) : Type 0 where
  pub kept : Evidence
  pub page : List ℕ
  pub shown : Shown page kept engine old new
  pub first : IsFirstPage before old page kept new
  pub ends : IsTrue new.told → (replies : List Reply) × (sent new ≡ sent old ++ (text replies ++ damage_text kept page))

-- The statuses of a script's run with this limit.
pub record ScriptCauses (limit : ℕ) (before : Engine) (old : Standing) (after : Engine) (new : Standing) (status : ℕ) : Type 0 where
  pub known : IsOneOf status (0 ∷ 5 ∷ 6 ∷ 7 ∷ 8 ∷ 9 ∷ 12 ∷ [])
  pub done : status ≡ 0 → NoFault old new
  pub damage : status ≡ 5 → Told before old after new
  pub nvm : status ≡ 6 → Rose old.nvm_faults new.nvm_faults
  pub ssd : status ≡ 7 → Rose old.ssd_faults new.ssd_faults
  pub source : status ≡ 8 → Rose old.outside.source_faults new.outside.source_faults
  pub sink : status ≡ 9 → Rose old.outside.sink_faults new.outside.sink_faults
  pub long : IsTrue old.told → Exactly status 12 (limit < length old.outside.input) (5 ∷ 6 ∷ 7 ∷ 8 ∷ 9 ∷ [])
  -- over pages in order there is no damage
  pub sound : IsTrue old.told → (s : State) → Shows before old s → status ≢ 5
