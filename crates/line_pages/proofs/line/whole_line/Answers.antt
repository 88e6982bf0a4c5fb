use Rattle.std.proofs.Common.{◌≡◌, ℕ, List, length, ap, rules}
use Rattle.line_pages.proofs.ByteLaws.{eight}
use Rattle.line_pages.proofs.line.whole_line.Goals as goal

pub returns-clause-value : goal.returns-clause-value
returns-clause-value c =
    let size : length c.args.line.now.words ≡ 8 = search rules in
    ap (λ (words : List ℕ). record { words = words }) (eight c.args.line.now.words size)
