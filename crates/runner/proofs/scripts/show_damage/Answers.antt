-- The text of what was shown is sent.
use Rattle.std.proofs.Common.{refl}
use Rattle.runner.proofs.StatusLaws.{told_by}
use Rattle.runner.proofs.scripts.show_damage.Goals as goal

pub returns-in-Ok-clause-told : goal.returns-in-Ok-clause-told
returns-in-Ok-clause-told g c = λ before begin shown first said five. told_by _ _ _ before _ begin _ _ c.evidence_page.ensures c.tell_damage.ensures.call (c.tell_damage.ensures.rest.input refl).0 c.in-Ok.ensures.writes shown first said
