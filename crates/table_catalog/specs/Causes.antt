-- Why the calls on the catalog stop, by the pages before and after and the buffer that keeps page 0.
use Rattle.std.specs.Prelude.{ℕ, List, IsTrue, Result}
use Rattle.damage.specs.declared.evidence.Evidence.{Evidence}
use Rattle.line_pages.specs.declared.pages.Pages.{Ghosts}
use Rattle.line_pages.specs.declared.stop.Stop.{Stop}
use Rattle.line_pages.specs.Standing.{HasCause}
use Rattle.rows.specs.declared.limits.Limits.{Limits}
use Rattle.table_catalog.specs.Catalog.{IsCatalogDamage}

-- damage only where the catalog fails a check
abbrev pub CatalogCause : {P T : Type 0} → Ghosts P → P → P → Limits → List ℕ → Result T Stop → Type 0
CatalogCause g old new limits buffer result =
    HasCause (λ (e : Evidence). IsTrue (g.standing old).told → IsCatalogDamage limits (g.standing old).count (g.standing old).current buffer e) (g.standing old) (g.standing new) result
