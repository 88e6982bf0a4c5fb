-- Cleaning leaves what each call of the tiers asks of them.
use Rattle.std.proofs.Common.{◌≡◌, ℕ, ap, sym, ◌∙◌, subst}
use Rattle.std.specs.Prelude.{Option, IfSome, Result, Ok, Err, OnOk}
use Rattle.store_model.specs.Layout.{pages}
use Rattle.nvm_layout.specs.Sizes.{sizes_of}
use Rattle.nvm_layout.specs.declared.geometry.Geometry.{Geometry}
use Rattle.tier_map.specs.Placement.{Placement}
use Rattle.tier_rules.specs.Parts.{Parts}
use Rattle.tier_pool.specs.declared.pool.Access.{Access}
use Rattle.tier_pool.specs.Fields.{SameSizes}
use Rattle.tier_pool.specs.Standing.{IsSteady as AreSteady}
use Rattle.tier_manager.specs.declared.tiers.Tiers.{Tiers}
use Rattle.tier_manager.specs.Cleaning.{cleaned}
use Rattle.tier_manager.specs.Fields.{parts_of}
use Rattle.tier_manager.specs.Steady.{WorksThere, IsSteady}
use Rattle.tier_manager.proofs.SettledLaws.{cleaned_map}

-- the open access still works where its page lies
pub still_there : (old new : Tiers) → (parts_of new).map ≡ (parts_of old).map → SameSizes old.pool new.pool → IsSteady old
    → IfSome new.pool.access (WorksThere (pages (sizes_of new.pool.geometry)) (parts_of new).map)
still_there old new map same steady =
    subst (λ (a : Option Access). IfSome a (WorksThere (pages (sizes_of new.pool.geometry)) (parts_of new).map)) (sym same.access)
    (subst (λ (g : Geometry). IfSome old.pool.access (WorksThere (pages (sizes_of g)) (parts_of new).map)) (sym same.geometry)
    (subst (λ (m : Placement). IfSome old.pool.access (WorksThere (pages (sizes_of old.pool.geometry)) m)) (sym map) steady.access))

pub kept : (n : ℕ) (old new : Tiers) → parts_of new ≡ cleaned n (parts_of old) → AreSteady (parts_of new) → SameSizes old.pool new.pool → IsSteady old → IsSteady new
kept n old new is fields same steady = record {
  fields = fields;
  access = still_there old new (ap (λ (parts : Parts). parts.map) is ∙ cleaned_map n (parts_of old)) same steady;
}

pub steady_kept : {T E : Type 0} (r : Result T E) (n : ℕ) (old new : Tiers) → OnOk r (parts_of new ≡ cleaned n (parts_of old)) → OnOk r (AreSteady (parts_of new)) → SameSizes old.pool new.pool
    → IsSteady old → OnOk r (IsSteady new)
steady_kept (Ok v) n old new is fields same steady = kept n old new is fields same steady
steady_kept (Err e) n old new is fields same steady = tt
