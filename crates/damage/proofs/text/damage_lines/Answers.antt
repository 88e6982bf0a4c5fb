use Rattle.std.proofs.Common.{ℕ, List, arith}
use Rattle.std.proofs.lemmas.List.{length-map}
use Rattle.damage.specs.DamageText.{page_digits, marked}
use Rattle.damage.proofs.DamageLaws.{length-page_digits}
use Rattle.damage.proofs.text.damage_lines.Goals as goal

pub returns-in-Page-clause-count : goal.returns-in-Page-clause-count
returns-in-Page-clause-count c = λ (page : List ℕ). rw c.in-Page.is (omega (arith, length-map (page_digits page) marked, length-page_digits page))
