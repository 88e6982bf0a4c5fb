-- A look-up of a name by the lines of page 0.
use Rattle.std.specs.Prelude.{◌≡◌, ℕ, List, ◌++◌}
use Rattle.line_pages.specs.Touch.{Touch}
use Rattle.line_pages.specs.Standing.{Standing}
use Rattle.table_catalog.specs.Catalog.{lookup_touches}

-- the touches begin with those of a look-up of the name
pub record LooksUp {A : Type 0} (name : List ℕ) (old new : Standing A) : Type 0 where
  pub rest : List Touch
  pub touches : new.touches ≡ old.touches ++ (lookup_touches old.access old.current name ++ rest)
