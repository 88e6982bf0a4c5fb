-- Why the calls that change a tree stop, by the pages before and after and the buffer that keeps a damaged page.
use Rattle.std.specs.Prelude.{ℕ, List, Result}
use Rattle.line_pages.specs.declared.pages.Pages.{Ghosts}
use Rattle.line_pages.specs.declared.stop.Stop.{Stop}
use Rattle.line_pages.specs.Standing.{HasCause}
use Rattle.bplus_tree.specs.Damage.{IsTreeDamage}

-- damage only where a page of the tree or of the free list fails a check, as the lines are at the stop
abbrev pub TreeCause : {P T : Type 0} → Ghosts P → P → P → List ℕ → Result T Stop → Type 0
TreeCause g old new buffer result =
    HasCause (IsTreeDamage (g.standing old).told (g.standing old).count (g.standing new).current buffer) (g.standing old) (g.standing new) result
