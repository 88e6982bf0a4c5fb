-- The beginning of an access: what holds behind its steps.
use Rattle.std.proofs.Common.{◌≡◌, ℕ, ◌<◌, Bool, true, false, refl, sym, ap, ◌∙◌, subst, Ok, Err}
use Rattle.std.specs.Prelude.{Option, Some, None, IfSome, Result, OnOk}
use Rattle.migration_policy.specs.declared.policy.Question.TheVariants.{NvmRead}
use Rattle.store_model.specs.Layout.{Sizes}
use Rattle.tier_map.specs.Placement.{Placement}
use Rattle.tier_rules.specs.Parts.{Parts}
use Rattle.part_laws.specs.PartData.{data_of_parts}
use Rattle.tier_pool.specs.declared.pool.Access.{Access}
use Rattle.tier_pool.specs.declared.pool.Spot.{Spot}
use Rattle.tier_pool.specs.FullRoom.{PartsAnswer}
use Rattle.tier_pool.specs.Standing.{IsSteady}
use Rattle.tier_pool.proofs.SteadyLaws.{steady_drawn}
use Rattle.tier_manager.specs.Entering.{through_by}
use Rattle.tier_manager.specs.Steady.{LiesAt, WorksThere}

pub on_ok : {T E : Type 0} {P Q : Type 0} (r : Result T E) → (P → Q) → OnOk r P → OnOk r Q
on_ok (Ok v) f p = f p
on_ok (Err e) f p = tt

-- ---- whether a page goes through NVM

pub steady_through : (none said : Bool) (old after : Parts) → through_by none old ≡ record { yes = said; parts = after } → IsSteady old → IsSteady after
steady_through true said old after is s = subst IsSteady (ap (λ (a : PartsAnswer). a.parts) is) s
steady_through false said old after is s = steady_drawn NvmRead old after said is s

through_same : (none : Bool) (g : Sizes) (old : Parts) → data_of_parts g (through_by none old).parts ≡ data_of_parts g old
through_same true g old = refl
through_same false g old = refl

pub through_data : (none said : Bool) (g h : Sizes) (old after : Parts) → through_by none old ≡ record { yes = said; parts = after } → h ≡ g → data_of_parts h after ≡ data_of_parts g old
through_data none said g h old after is same =
    ap (λ (x : Sizes). data_of_parts x after) same ∙ sym (ap (λ (a : PartsAnswer). data_of_parts g a.parts) is) ∙ through_same none g old

-- ---- the open access works where the page lies

pub works_there : (o : Option Access) (page count : ℕ) (spot : Spot) (m : Placement) → IfSome o (λ (a : Access). a.page ≡ page) → IfSome o (λ (a : Access). a.spot ≡ spot)
    → page < count → LiesAt page spot m → IfSome o (WorksThere count m)
works_there None page count spot m of there low lies = tt
works_there (Some a) page count spot m of there low lies = record {
  in_store = subst (λ (n : ℕ). n < count) (sym of) low;
  lies = subst (λ (s : Spot). LiesAt a.page s m) (sym there) (subst (λ (p : ℕ). LiesAt p spot m) (sym of) lies);
}
