-- What contracts see of a map.
use Rattle.std.specs.Prelude.{ℕ, length}
use Rattle.tier_map.specs.declared.map.TierMap.{TierMap}
use Rattle.tier_map.specs.Placement.{Placement}
use Rattle.tier_map.specs.Tables.{shown}

-- how many pages, full places, mini places and NVM frames there are
pub record Sizes : Type 0 where
  pub pages : ℕ
  pub fulls : ℕ
  pub minis : ℕ
  pub frames : ℕ

-- which page lies where
abbrev pub placement_of : TierMap → Placement
placement_of map = shown map.pages.items map.fulls.items map.minis.items map.frames.items

abbrev pub sizes_of : TierMap → Sizes
sizes_of map = record {
  pages = length map.pages.items;
  fulls = length map.fulls.items;
  minis = length map.minis.items;
  frames = length map.frames.items;
}
