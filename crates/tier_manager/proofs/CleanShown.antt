-- Cleaning: the fields do what the rules do.
use Rattle.std.proofs.Common.{◌≡◌, ℕ, List, [], ◌∷◌, take, refl, sym, ap, ◌∙◌, subst}
use Rattle.std.specs.Prelude.{Option, Some, None}
use Rattle.tier_map.specs.Placement.{changed}
use Rattle.page_frame.specs.LineSets.{no_lines}
use Rattle.migration_policy.specs.Draws.{generator_after}
use Rattle.tier_rules.specs.Plans.{Plan}
use Rattle.tier_rules.specs.Tallies.{one_pass, one_cleaned}
use Rattle.tier_rules.specs.State.{TierState, counting, is_dirty}
use Rattle.tier_rules.specs.Cleaning as rule
use Rattle.tier_rules.specs.Cleaning.{all_cleaned}
use Rattle.tier_rules.specs.Parts.{Parts}
use Rattle.pool_laws.specs.States.{IsAfter, state_of, IsState}
use Rattle.tier_pool.specs.Places.{copy_stored, copy_passed}
use Rattle.tier_pool.specs.Cleaning.{written_by, copy_written}
use Rattle.tier_manager.specs.Cleaning.{pages_in_fulls, pages_in_minis, dirty_pages, all_written, cleaned, settled}
use Rattle.tier_pool.specs.Standing.{IsSteady}
use Rattle.tier_pool.proofs.SteadyPieces.{steady_to}
use Rattle.tier_pool.proofs.SteadyRooms.{plan_cleaned, plan_stored}
use Rattle.tier_pool.proofs.SteadyLaws.{steady_written}
use Rattle.pool_laws.proofs.StateLaws.{shown_at}
use Rattle.pool_laws.proofs.StoreShown.{state_cleaned, state_stored}
use Rattle.pool_laws.proofs.DrawsKept.{draws_cleaned, draws_stored}
use Rattle.pool_laws.proofs.DramShown.{frame_low}
use Rattle.pool_laws.proofs.BringShown.{of_state}

-- by the page's frame, before it is counted
written : (n : ℕ) (o : Option ℕ) (page : ℕ) (parts : Parts) → parts.map.nvm page ≡ o → IsAfter n parts → IsSteady parts
    → IsState (written_by o (parts.map.place page) parts) (let s = state_of n parts in rule.written o (is_dirty page s) (record s { dirty = changed page no_lines s.dirty }))
written n (Some k) page parts e after s =
    shown_at n (copy_stored (parts.map.place page) k parts) _ (state_stored n page k (parts.map.place page) parts refl s.agrees (frame_low page k parts e (steady_to parts s)))
    (draws_stored (parts.map.place page) k parts ∙ after.draws ∙ ap (λ (plan : Plan). generator_after plan.seed n) (sym (plan_stored (parts.map.place page) k parts).plan))
written n None page parts e after s =
    let passed = record parts { tally = one_pass parts.tally } in
    shown_at n (copy_passed (parts.map.place page) parts) _ (state_cleaned n page passed s.agrees)
    (draws_cleaned (parts.map.place page) passed ∙ after.draws ∙ ap (λ (plan : Plan). generator_after plan.seed n) (sym (plan_cleaned (parts.map.place page) passed).plan))

-- one copy
pub shown_written : (n page : ℕ) (parts : Parts) → IsAfter n parts → IsSteady parts → IsState (copy_written page (parts.map.place page) parts) (rule.cleaned page (state_of n parts))
unfolding rule.cleaned
shown_written n page parts after s =
    let shown = written n (parts.map.nvm page) page parts refl after s in
    record { is = ap (counting one_cleaned) shown.is; draws = shown.draws }

-- some pages
pub shown_all_written : (pages : List ℕ) (parts : Parts) (s : TierState) → IsState parts s → IsSteady parts → IsState (all_written pages parts) (all_cleaned pages s)
unfolding all_written all_cleaned
shown_all_written [] parts s shown steady = shown
shown_all_written (page ∷ pages) parts s shown steady =
    shown_all_written pages (copy_written page (parts.map.place page) parts) (rule.cleaned page s)
    (of_state parts s (λ t. IsState (copy_written page (parts.map.place page) parts) (rule.cleaned page t)) shown (λ after. shown_written s.drawn page parts after steady))
    (steady_written page (parts.map.place page) parts steady)

same_pages : (n : ℕ) (parts : Parts) → dirty_pages parts ≡ rule.dirty_pages (state_of n parts)
unfolding dirty_pages pages_in_fulls pages_in_minis rule.dirty_pages rule.pages_in_dram
same_pages n parts = refl

dirty_shown : (parts : Parts) (s : TierState) → IsState parts s → dirty_pages parts ≡ rule.dirty_pages s
dirty_shown parts s shown = same_pages s.drawn parts ∙ ap rule.dirty_pages shown.is

-- the first so many dirty copies, and every one
pub shown_cleaned : (count : ℕ) (parts : Parts) (s : TierState) → IsState parts s → IsSteady parts → IsState (cleaned count parts) (rule.clean count s)
unfolding cleaned rule.clean
shown_cleaned count parts s shown steady =
    subst (λ (pages : List ℕ). IsState (all_written (take count (dirty_pages parts)) parts) (all_cleaned (take count pages) s)) (dirty_shown parts s shown)
    (shown_all_written (take count (dirty_pages parts)) parts s shown steady)

pub shown_settled : (parts : Parts) (s : TierState) → IsState parts s → IsSteady parts → IsState (settled parts) (rule.settled s)
unfolding settled rule.settled
shown_settled parts s shown steady =
    subst (λ (pages : List ℕ). IsState (all_written (dirty_pages parts) parts) (all_cleaned pages s)) (dirty_shown parts s shown)
    (shown_all_written (dirty_pages parts) parts s shown steady)
