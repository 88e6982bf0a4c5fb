-- Laws of the text of damage, as statements that contracts name.
use Rattle.std.specs.Prelude.{◌≡◌, ℕ, true, List, ◌++◌}
use Rattle.std.specs.List.{list_all}
use Rattle.texts.specs.Output.{IsWhole, IsPrefix, pieces, is_aside, strip, acked}
use Rattle.damage.specs.declared.evidence.Evidence.{Evidence}
use Rattle.damage.specs.DamageText.{damage_text_lines, damage_text}

-- the text is cut into just its lines: each has a line feed at its end and none before it
abbrev pub LinesAreCut : Type 0
LinesAreCut = (evidence : Evidence) (page : List ℕ) → pieces (damage_text evidence page) ≡ damage_text_lines evidence page

-- each line stands aside
abbrev pub LinesStandAside : Type 0
LinesStandAside = (evidence : Evidence) (page : List ℕ) → list_all is_aside (damage_text_lines evidence page) ≡ true

-- the last line has its line feed
abbrev pub TextIsWhole : Type 0
TextIsWhole = (evidence : Evidence) (page : List ℕ) → IsWhole (damage_text evidence page)

-- Behind whole lines a text of damage, or a beginning of one, acknowledges nothing, and strip leaves nothing of it.
pub record IsSilentBehind (front sent : List ℕ) : Type 0 where
  pub acknowledged : acked (front ++ sent) ≡ acked front
  pub stripped : strip (front ++ sent) ≡ strip front

abbrev pub DamageIsSilent : Type 0
DamageIsSilent = (evidence : Evidence) (page front sent : List ℕ) → IsWhole front → IsPrefix sent (damage_text evidence page) → IsSilentBehind front sent
