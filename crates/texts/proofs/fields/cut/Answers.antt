use Rattle.std.proofs.lemmas.List.{take_rest}
use Rattle.std.proofs.Common.{sym, ◌+◌}
use Rattle.texts.proofs.FieldsLaws.{cut_at, cut_none}
use Rattle.texts.proofs.fields.cut.Goals as goal

pub returns-in-Some : goal.returns-in-Some
returns-in-Some c = rw (take_rest c.args.bytes.now (c.in-Some.at + 1)) (cut_at c.args.bytes.now c.in-Some.at (sym c.in-Some.ensures))

pub returns-in-None : goal.returns-in-None
returns-in-None c = cut_none c.args.bytes.now (sym c.in-None.ensures)
