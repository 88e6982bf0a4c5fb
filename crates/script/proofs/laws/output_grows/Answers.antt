use Rattle.script.proofs.ScriptLaws.{strip-replies, acked-replies}
use Rattle.texts.proofs.OutputLaws.{acked_prefix, strip_prefix, acked-strip}
use Rattle.script.proofs.laws.output_grows.Goals as goal

pub returns-clause-stay : goal.returns-clause-stay
returns-clause-stay c = strip-replies

pub returns-clause-all : goal.returns-clause-all
returns-clause-all c = acked-replies

pub returns-clause-grows : goal.returns-clause-grows
returns-clause-grows c = λ xs ys. (acked_prefix xs ys, strip_prefix xs ys)

pub returns-clause-aside : goal.returns-clause-aside
returns-clause-aside c = acked-strip
