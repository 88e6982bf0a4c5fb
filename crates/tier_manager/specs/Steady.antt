-- What each call of the tiers asks of them, and keeps.
use Rattle.std.specs.Prelude.{◌≡◌, ℕ, ◌<◌, IfSome, IsSome}
use Rattle.store_model.specs.Layout.{pages}
use Rattle.nvm_layout.specs.Sizes.{sizes_of}
use Rattle.tier_map.specs.declared.place.Place.TheVariants.{Absent}
use Rattle.tier_map.specs.Placement.{Placement}
use Rattle.tier_pool.specs.declared.pool.Access.{Access}
use Rattle.tier_pool.specs.declared.pool.Spot.{Spot}
use Rattle.tier_pool.specs.Standing.{IsSteady as AreSteady}
use Rattle.tier_manager.specs.declared.tiers.Tiers.{Tiers}
use Rattle.tier_manager.specs.Fields.{parts_of}

-- the spot is where the page lies: in its copy, or, where it has none, in its frame
pub record LiesAt (page : ℕ) (spot : Spot) (m : Placement) : Type 0 where
  pub place : spot.place ≡ m.place page
  pub frame : spot.frame ≡ m.nvm page
  pub framed : spot.place ≡ Absent → IsSome spot.frame

-- the open access works where its page lies, a page of the store
pub record WorksThere (count : ℕ) (m : Placement) (access : Access) : Type 0 where
  pub in_store : access.page < count
  pub lies : LiesAt access.page access.spot m

pub record IsSteady (t : Tiers) : Type 0 where
  pub fields : AreSteady (parts_of t)
  pub access : IfSome t.pool.access (WorksThere (pages (sizes_of t.pool.geometry)) (parts_of t).map)
