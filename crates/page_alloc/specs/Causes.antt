-- Why the calls on the free list stop, by the pages before and after and the buffer that keeps a damaged page.
use Rattle.std.specs.Prelude.{ℕ, List, IsTrue, Result}
use Rattle.damage.specs.declared.evidence.Evidence.{Evidence}
use Rattle.line_pages.specs.declared.pages.Pages.{Ghosts}
use Rattle.line_pages.specs.declared.stop.Stop.{Stop}
use Rattle.line_pages.specs.Standing.{HasCause}
use Rattle.page_alloc.specs.Space.{header_checks, take_checks, IsSpaceDamage}

-- damage only where the header of page 0 fails a check
abbrev pub HeaderCause : {P T : Type 0} → Ghosts P → P → P → List ℕ → Result T Stop → Type 0
HeaderCause g old new buffer result =
    HasCause (λ (e : Evidence). IsTrue (g.standing old).told → IsSpaceDamage (header_checks (g.standing old).count (g.standing old).current) (g.standing old).current buffer e) (g.standing old) (g.standing new) result

-- damage only where one of the checks fails that are made before a page is taken
abbrev pub TakeCause : {P T : Type 0} → Ghosts P → P → P → List ℕ → Result T Stop → Type 0
TakeCause g old new buffer result =
    HasCause (λ (e : Evidence). IsTrue (g.standing old).told → IsSpaceDamage (take_checks (g.standing old).count (g.standing old).current) (g.standing old).current buffer e) (g.standing old) (g.standing new) result
