-- No access is open when the tiers are made.
use Rattle.std.proofs.Common.{◌≡◌, ℕ, zero, suc, refl, sym, ap, ◌∙◌, List}
use Rattle.std.specs.Prelude.{Option, Some, None, IfSome, slice_index}
use Rattle.tier_rules.specs.Plans.{Plan}
use Rattle.tier_rules.specs.Opening.{named_page}
use Rattle.tier_rules.specs.Parts.{Parts}
use Rattle.tier_pool.specs.declared.pool.Access.{Access}
use Rattle.tier_pool.specs.declared.pool.TierPool.{TierPool}
use Rattle.tier_pool.specs.Fields.{parts_of, access_of}
use Rattle.tier_pool.specs.Opening.{empty_parts, entry_placed, entries_placed}
use Rattle.tier_pool.proofs.SteadyHolds.{none_some}

entry_access : (o : Option ℕ) (k : ℕ) (parts : Parts) → (entry_placed o k parts).access ≡ parts.access
entry_access None k parts = refl
entry_access (Some page) k parts = refl

entries_access : (words : List ℕ) (parts : Parts) (k : ℕ) → (entries_placed k words parts).access ≡ parts.access
unfolding entries_placed
entries_access words parts zero = refl
entries_access words parts (suc k) = entry_access (named_page (slice_index words k)) k (entries_placed k words parts) ∙ entries_access words parts k

no_access : (o : Option Access) (P : Access → Type 0) → access_of o ≡ None → IfSome o P
no_access None P e = tt
no_access (Some a) P e = none_some (sym e)

pub made_rests : (made : TierPool) (plan : Plan) (n k : ℕ) (words : List ℕ) (P : Access → Type 0) → parts_of made ≡ entries_placed k words (empty_parts plan n) → IfSome made.access P
made_rests made plan n k words P is = no_access made.access P (ap (λ (p : Parts). p.access) is ∙ entries_access words (empty_parts plan n) k)
