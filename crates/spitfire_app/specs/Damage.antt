-- The damage that a run tells of.
use Rattle.std.specs.Prelude.{◌≡◌, ◌⊎◌, ℕ, List, ◌++◌, slice_index, IsTrue}
use Rattle.devices.specs.State.{current}
use Rattle.devices.specs.World.{Standing, Stays, now, sent}
use Rattle.damage.specs.declared.evidence.Evidence.{Evidence}
use Rattle.flat_nvm_layout.specs.Opening.{Finding, finding, super_from, sizes_from, words_of, IsEvidence}
use Rattle.flat_nvm_layout.specs.Opening.Finding.{sound}
use Rattle.flat_recovery.specs.Heads.{IsLogEvidence}
use Rattle.flat_recovery.specs.Opening.{IsSuper, IsFirstIn}
use Rattle.flat_transactions.specs.OpenStore.{committed_lines}
use Rattle.script.specs.Grammar.{commands}
use Rattle.script.specs.Replies.{text}
use Rattle.script.specs.declared.command.Reply.{Reply}
use Rattle.engine.specs.declared.engine.Engine.{Engine}
use Rattle.engine.specs.Resting.{AreReads, IsPageOf}
use Rattle.damage.specs.DamageText.{damage_text}
use Rattle.runner.specs.Cause.{Shown}

-- what the words of the superblock are found to be, on a device that holds these
abbrev pub found_in : Standing → Finding
found_in old = finding old.lines old.blocks (super_from ((current (now old)).nvm 0 0) (words_of (current (now old))))

-- The damage that an opening finds, by the words of the superblock that it loaded: they fail a check, or the head of a record
-- in the log does. A told device holds those words, that head is the first in its log that fails, and no device was changed.
pub record IsOpeningDamage (old new : Standing) (kept : Evidence) : Type 0 where
  pub name : ℕ
  pub words : List ℕ
  pub held_name : IsTrue old.told → name ≡ (current (now old)).nvm 0 0
  pub held : IsTrue old.told → words ≡ words_of (current (now old))
  pub fails : IsEvidence words (finding old.lines old.blocks (super_from name words)) kept
      ⊎ ((finding old.lines old.blocks (super_from name words) ≡ sound) × IsLogEvidence (sizes_from words) (slice_index words 7) kept)
  pub first : IsTrue old.told → IsSuper kept ⊎ IsFirstIn (current (now old)) kept
  pub stays : Stays old new

-- Damage was found by the opening, or by the engine. What was sent is what stood before, whole replies, and then the text of the
-- damage.
pub record IsDamaged (old new : Standing) : Type 0 where
  pub kept : Evidence
  pub page : List ℕ
  pub shows : IsOpeningDamage old new kept ⊎ ((engine : Engine) × Shown page kept engine old new)
  -- where no command was taken that writes, a page of the evidence is that of the pages that recovery gave
  pub first : IsTrue old.told → (taken : List ℕ) → old.outside.input ≡ taken ++ new.outside.input → AreReads (commands taken) → IsPageOf (committed_lines old) page kept
  pub ends : IsTrue new.told → (replies : List Reply) × (sent new ≡ sent old ++ (text replies ++ damage_text kept page))
