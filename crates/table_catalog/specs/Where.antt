-- A fact that holds of pages that are told, where a store of tables stands in them.
use Rattle.std.specs.Prelude.{IsTrue}
use Rattle.line_pages.specs.declared.pages.Pages.{Ghosts}
use Rattle.rows.specs.declared.limits.Limits.{Limits}
use Rattle.table_catalog.specs.Stored.{IsStore}

-- where the store is in order
abbrev pub OnStore : {P : Type 0} → Ghosts P → P → Limits → Type 0 → Type 0
OnStore g s limits Fact = IsTrue (g.standing s).told → IsStore limits (g.standing s).count (g.standing s).current → Fact
