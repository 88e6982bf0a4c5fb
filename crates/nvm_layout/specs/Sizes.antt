-- The numbers of a geometry.
use Rattle.store_model.specs.Layout.{Sizes}
use Rattle.nvm_layout.specs.declared.geometry.Geometry.{Geometry}

abbrev pub sizes_of : Geometry → Sizes
sizes_of g = record { tables = g.tables; rows = g.rows; writes = g.writes; frames = g.frames; log_blocks = g.log_blocks }
