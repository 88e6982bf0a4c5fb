-- The fields of the tiers as plain data, and what their sizes are.
use Rattle.std.specs.Prelude.{◌≡◌}
use Rattle.tier_rules.specs.Parts.{Parts}
use Rattle.tier_facts.specs.Data.{Data}
use Rattle.tier_pool.specs.Fields.{parts_of as pool_parts}
use Rattle.tier_pool.specs.Storing.{data_of as pool_data}
use Rattle.tier_manager.specs.declared.tiers.Tiers.{Tiers}

-- the fields that the rules speak of
abbrev pub parts_of : Tiers → Parts
parts_of t = pool_parts t.pool

-- what the facts of the tiers speak of
abbrev pub data_of : Tiers → Data
data_of t = pool_data t.pool

-- what no call changes
pub record SameSizes (old new : Tiers) : Type 0 where
  pub geometry : new.pool.geometry ≡ old.pool.geometry
  pub policy : new.pool.policy ≡ old.pool.policy
