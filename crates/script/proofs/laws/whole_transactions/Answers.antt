use Rattle.std.proofs.Common.{◌∙◌, sym, arith, add-one}
use Rattle.script.specs.Grammar.{commands}
use Rattle.script.proofs.ScriptLaws.{commits-script}
use Rattle.script.proofs.TransactionLaws.{IsTransaction-whole}
use Rattle.script.proofs.laws.whole_transactions.Goals as goal

pub returns-clause-number : goal.returns-clause-number
returns-clause-number c = λ bounds others tables more script. commits-script bounds tables script ∙ sym (commits-script others more script)

pub returns-clause-whole : goal.returns-clause-whole
returns-clause-whole c = λ bounds tables script k h. rw (add-one k) (IsTransaction-whole bounds tables (commands script) k (omega arith))
