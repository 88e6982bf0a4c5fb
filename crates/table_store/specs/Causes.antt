-- Why the calls on tables stop, by the pages before and after and the buffer that keeps a damaged page.
use Rattle.std.specs.Prelude.{ℕ, List, IsTrue, Result}
use Rattle.damage.specs.declared.evidence.Evidence.{Evidence}
use Rattle.line_pages.specs.declared.pages.Pages.{Ghosts}
use Rattle.line_pages.specs.declared.stop.Stop.{Stop}
use Rattle.line_pages.specs.Standing.{HasCause}
use Rattle.rows.specs.declared.limits.Limits.{Limits}
use Rattle.table_store.specs.Getting.{IsLookupDamage}
use Rattle.table_store.specs.Created.{IsCreateDamage}
use Rattle.table_store.specs.Changed.{IsChangeDamage}

-- damage only where the catalog or a page on the way to a key fails a check
abbrev pub LookupCause : {P T : Type 0} → Ghosts P → P → P → Limits → List ℕ → Result T Stop → Type 0
LookupCause g old new limits buffer result =
    HasCause (λ (e : Evidence). IsTrue (g.standing old).told → IsLookupDamage limits (g.standing old).count (g.standing old).current buffer e) (g.standing old) (g.standing new) result

-- damage only where the catalog fails a check, or the free list one that is made before a page is taken
abbrev pub CreateCause : {P T : Type 0} → Ghosts P → P → P → Limits → List ℕ → Result T Stop → Type 0
CreateCause g old new limits buffer result =
    HasCause (λ (e : Evidence). IsTrue (g.standing old).told → IsCreateDamage limits (g.standing old).count (g.standing old).current buffer e) (g.standing old) (g.standing new) result

-- damage only where the catalog fails a check at the entry, or a page of the tree or of the free list at the stop
abbrev pub ChangeCause : {P T : Type 0} → Ghosts P → P → P → Limits → List ℕ → Result T Stop → Type 0
ChangeCause g old new limits buffer result =
    HasCause (IsChangeDamage (g.standing old).told limits (g.standing old).count (g.standing old).current (g.standing new).current buffer) (g.standing old) (g.standing new) result
