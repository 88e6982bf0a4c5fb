use Rattle.damage.proofs.DamageLaws.{damage_text_pieces, damage_text_aside, damage_text_whole, damage_text_silent}
use Rattle.damage.proofs.laws.damage_stands_aside.Goals as goal

pub returns-clause-cut : goal.returns-clause-cut
returns-clause-cut c = damage_text_pieces

pub returns-clause-aside : goal.returns-clause-aside
returns-clause-aside c = damage_text_aside

pub returns-clause-whole : goal.returns-clause-whole
returns-clause-whole c = damage_text_whole

pub returns-clause-silent : goal.returns-clause-silent
returns-clause-silent c = damage_text_silent
