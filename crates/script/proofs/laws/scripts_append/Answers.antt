use Rattle.script.specs.Grammar.{forms}
use Rattle.texts.proofs.LinesLaws.{commands-append_ended}
use Rattle.script.proofs.laws.scripts_append.Goals as goal

pub returns : goal.returns
returns c = commands-append_ended forms
