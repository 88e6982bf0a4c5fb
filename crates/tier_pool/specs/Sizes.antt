-- The sizes of the map of a store.
use Rattle.store_model.specs.Layout.{pages}
use Rattle.nvm_layout.specs.Sizes.{sizes_of}
use Rattle.nvm_layout.specs.declared.geometry.Geometry.{Geometry}
use Rattle.migration_policy.specs.declared.policy.Policy.{Policy}
use Rattle.tier_map.specs.Contents.{Sizes}

-- how many pages, places and frames the map has
abbrev pub map_sizes : Geometry → Policy → Sizes
map_sizes geometry policy = record {
  pages = pages (sizes_of geometry);
  fulls = policy.dram_frames;
  minis = policy.minis;
  frames = geometry.frames;
}
