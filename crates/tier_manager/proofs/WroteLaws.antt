-- A line that is written behind its touch: what the tiers keep, and what the facts become.
use Rattle.std.proofs.Common.{◌≡◌, ℕ, ◌<◌, refl, sym, ap, ◌∙◌, subst}
use Rattle.std.specs.Prelude.{None}
use Rattle.std.proofs.lemmas.List.{get_or-replicate}
use Rattle.nvm_model.specs.declared.line.Line.{Line}
use Rattle.devices.specs.State.{State}
use Rattle.device_calls.specs.Leads.{Given}
use Rattle.tier_map.specs.declared.place.Place.{Place}
use Rattle.tier_map.specs.declared.place.Place.TheVariants.{Absent}
use Rattle.tier_facts.specs.Data.{SameData, put_in}
use Rattle.tier_facts.specs.Facts.{Aim, Facts, Hard, IsLoose, FactsWith}
use Rattle.page_frame.specs.Frames.{line_at}
use Rattle.tier_rules.specs.Parts.{Parts, copy_at, copy_line}
use Rattle.tier_pool.specs.declared.pool.TierPool.{TierPool}
use Rattle.tier_pool.specs.declared.pool.Spot.{Spot}
use Rattle.tier_pool.specs.Storing.{data_of}
use Rattle.tier_pool.specs.Standing.{IsSteady as AreSteady}
use Rattle.tier_pool.proofs.WritingLaws.{facts_written}
use Rattle.tier_manager.specs.declared.tiers.Tiers.{Tiers}
use Rattle.tier_manager.specs.Fields.{parts_of}
use Rattle.tier_manager.specs.Steady.{IsSteady, LiesAt}
use Rattle.tier_manager.specs.Touching.{IsThere, written_at}
use Rattle.tier_manager.proofs.SteadyTouch.{steady_line_written}
use Rattle.tier_manager.proofs.ReadyLaws.{steady_with}

-- the line is written where the access works, and all else stays
pub steady_wrote : (t u : Tiers) (page line : ℕ) (value : Line) (spot : Spot) (place : Place) → line < 64 → IsSteady t → LiesAt page spot (parts_of t).map → IsThere spot.place line (parts_of t) → spot.place ≡ place
    → parts_of u ≡ written_at place page line value (parts_of t) → (parts_of u).map ≡ (parts_of t).map → u.pool.access ≡ t.pool.access → u.pool.geometry ≡ t.pool.geometry → IsSteady u
steady_wrote t u page line value spot place low s lies there is made map access geometry =
    let parts = parts_of t in
    let here : parts.map.place page ≡ place = sym lies.place ∙ is in
    let at : IsThere (parts.map.place page) line parts = subst (λ (p : Place). IsThere p line parts) lies.place there in
    let all : AreSteady (written_at place page line value parts) =
    subst (λ (p : Place). AreSteady (written_at p page line value parts)) here (steady_line_written page line value parts low at s.fields) in
    steady_with t u s (subst AreSteady (sym made) all) map access geometry

-- no record waits, and so the same
pub facts_hard : (t u : TierPool) (page line : ℕ) (value : Line) → SameData (put_in page line value (data_of t)) (data_of u)
    → (aim : Aim) (s : State) → Given (IsLoose page line) (Hard (data_of t)) aim s → FactsWith page line value (data_of u) aim s
facts_hard t u page line value same aim s it = facts_written t u page line value same aim s (record { of_aim = it.of_aim; holds = it.holds.holds })

-- a page without a copy has no line in one
pub absent_line : (page line : ℕ) (spot : Spot) (parts : Parts) → line < 64 → LiesAt page spot parts.map → spot.place ≡ Absent → copy_line parts page line ≡ None
absent_line page line spot parts low lies is =
    ap (λ (p : Place). line_at (copy_at p parts.arena parts.minis) line) (sym lies.place ∙ is) ∙ get_or-replicate 64 line None None low
