-- What a draw and a touch of a frame leave: the clocks still know the places that have a page.
use Rattle.std.proofs.Common.{◌≡◌, ℕ, Bool, subst}
use Rattle.migration_policy.specs.declared.policy.Question.{Question}
use Rattle.tier_rules.specs.Parts.{Parts}
use Rattle.tier_laws.proofs.StandLaws.{clocked-touched}
use Rattle.tier_pool.specs.Standing.{IsStanding}
use Rattle.tier_pool.specs.FullRoom.{PartsAnswer, drawn}
use Rattle.tier_pool.specs.Hits.{frame_hit}

pub standing_drawn : (question : Question) (parts after : Parts) (answer : Bool) → drawn question parts ≡ record { yes = answer; parts = after } → IsStanding parts → IsStanding after
standing_drawn question parts after answer is s =
    subst (λ (a : PartsAnswer). IsStanding a.parts) is (record { fulls = s.fulls; minis = s.minis; frames = s.frames; over = s.over })

pub standing_hit : (k : ℕ) (parts : Parts) → IsStanding parts → IsStanding (frame_hit k parts)
standing_hit k parts s =
    record { fulls = s.fulls; minis = s.minis; frames = clocked-touched parts.nvm_clock parts.map.frame_page k s.frames; over = s.over }
